-- A month taken apart: whatever the calls, its sheet is one on which the records of its polls were stored one after another, and a summary that is held is that of the
-- sheet's list. So the listing and the page are those that are expected.
use mathlib.Core.Path.{◌≡◌, refl, sym, ap, ap₂, subst, ◌∙◌}
use mathlib.Core.Bool.{true}
use mathlib.Core.List.{List, [], ◌∷◌, ◌++◌, map, append-nil, append_assoc, head-eq_of_cons-eq}
use Prim.Native.Nat.{ℕ, ◌+◌, ◌-◌, ◌≤◌, min}
use native.Mathlib.Omega.{arith}
use lib.Dec.{eqb}
use Rattle.frame.specs.Pick.{pick}
use Rattle.sheet.specs.Record.{Entry, length_of}
use Rattle.sheet.specs.Slots.{size_allowed, list_of}
use Rattle.sheet.specs.Stores.{after}
use Rattle.sheet.specs.Save.{save_fault, Saves}
use Rattle.listing.specs.Lines.{listing_of}
use Rattle.listing.specs.Calls.{WritesListing}
use Rattle.summary.specs.declared.Summary.{Summary}
use Rattle.summary.specs.declared.Kept.{Kept}
use Rattle.summary.specs.Worked.{summary_of}
use Rattle.summary.specs.Calls.{SavesWith}
use Rattle.round.specs.declared.Round.{Round}
use Rattle.round.specs.Replies.{entries_of}
use Rattle.round.specs.Saving.{Page, none, kept, Standing, standing, saved_all}
use Rattle.round.specs.Calls.{most_replies, round_of}
use Rattle.round.proofs.Turns.{not-many}
use Rattle.promises_card.specs.Summary.Chain.{Step}
use Rattle.promises_card.specs.Summary.Chain as chain
use Rattle.promises_card.specs.Listing.Calls.{Wrote}
use Rattle.promises_card.specs.Round.Tries.{Dated, none_dated, one_dated}
use Rattle.promises_card.specs.Round.Histories.{CalledWith, RoundsWith, none_called_with, called_with}
use Rattle.promises_card.proofs.Listing.Written.{wrote}
use Rattle.promises_card.proofs.Summary.Afresh.{afresh-made}
use Rattle.promises_card.proofs.Summary.AtAnyMoment.{at-any-moment}
use Rattle.promises_card.proofs.Round.AtAnyMoment.{rounds-at-any-moment}
use Rattle.promises_wire.specs.Polls.{Poll, poll_entry}
use Rattle.promises_wire.specs.Expected.{KnownSave, stores_for, records_for, listing_for, Morning, known_save, shared, known_in}
use Rattle.promises_wire.specs.Month.{Replies, morning, Month, begun, summed, one_saved, round_saved, one_kept, round_kept, unsaved, gone}
use Rattle.promises_wire.proofs.Stored.{Order, order, Stored, none_yet, stored, size_of}
use Rattle.promises_wire.proofs.Rounds.{orders_from, Paged, unpaged, paged, keep-is-save, no_stores, round-stored}
use Rattle.promises_wire.proofs.Listed.{known_order, stores_as, list-as, listed-as}
use Rattle.promises_wire.proofs.Polled.{replies-are, fit-poll, all_fit}
use Rattle.std.specs.Prelude.{Result, Ok, Err}
use Rattle.frame.specs.declared.faults.Fault.{Fault}
use Rattle.frame.specs.declared.Reading.{Reading}
use Rattle.frame.specs.Faults.{fault}

-- The records of mornings, as they are given their stores.
unfoldable pub orders_in : List Morning → List Order
orders_in [] = []
orders_in (m ∷ ms) = orders_from m.allowance (map poll_entry m.polls) ++ orders_in ms

orders-more : (ms : List Morning) (m : Morning) → orders_in (ms ++ m ∷ []) ≡ orders_in ms ++ orders_from m.allowance (map poll_entry m.polls)
unfolding orders_in
orders-more [] m = append-nil (orders_from m.allowance (map poll_entry m.polls))
orders-more (x ∷ ms) m =
    ap (λ (l : List Order). orders_from x.allowance (map poll_entry x.polls) ++ l) (orders-more ms m)
    ∙ sym (append_assoc (orders_from x.allowance (map poll_entry x.polls)) (orders_in ms) (orders_from m.allowance (map poll_entry m.polls)))

-- They are what is known of the polls.
known-poll : (given : ℕ) (p : Poll) → known_order (order (poll_entry p) given) ≡ known_save given p
known-poll given p = ap (λ (r : Result Reading Fault). record { entry = poll_entry p; says = r; given = given }) (sym p.read.reads.answers)

shared-are : (given : ℕ) (ps : List Poll) → map known_order (orders_from given (map poll_entry ps)) ≡ shared given ps
unfolding orders_from shared
shared-are given [] = refl
shared-are given (p ∷ ps) =
    let less : length_of (poll_entry p) + 2 ≡ stores_for (known_save given p) = stores_as (order (poll_entry p) given) in
    ap₂ (λ (a : KnownSave) (l : List KnownSave). a ∷ l) (known-poll given p)
    (shared-are (given - (length_of (poll_entry p) + 2)) ps ∙ ap (λ (k : ℕ). shared (given - k) ps) less)

map-append : {A B : Type 0} (f : A → B) (xs ys : List A) → map f (xs ++ ys) ≡ map f xs ++ map f ys
map-append f [] ys = refl
map-append f (x ∷ xs) ys = ap (λ l. f x ∷ l) (map-append f xs ys)

pub known-are : (ms : List Morning) → map known_order (orders_in ms) ≡ known_in ms
unfolding orders_in known_in
known-are [] = refl
known-are (m ∷ ms) =
    map-append known_order (orders_from m.allowance (map poll_entry m.polls)) (orders_in ms)
    ∙ ap₂ (λ (a b : List KnownSave). a ++ b) (shared-are m.allowance m.polls) (known-are ms)

dated : (ps : List Poll) → Dated (map poll_entry ps)
dated [] = none_dated
dated (p ∷ ps) = one_dated p.asked.minute_fits (dated ps)

-- What a month comes to.
pub record Came (n : ℕ) (ms : List Morning) (sheet : List ℕ) (page : Page) : Type 0 where
  pub stores : Stored n (orders_in ms) sheet
  pub pages : Paged sheet page

page-of : {s : List ℕ} {page : Summary} → Paged s (kept page) → page ≡ summary_of (list_of s)
page-of (paged is) = is

module _ (n : ℕ) (few : n ≤ 2048) where
  more-orders : (ms : List Morning) (ps : List Poll) (allowance : ℕ) (t : List ℕ) → Stored n (orders_in ms ++ orders_from allowance (map poll_entry ps)) t
      → Stored n (orders_in (ms ++ morning ps allowance ∷ [])) t
  more-orders ms ps allowance t st = subst (λ (l : List Order). Stored n l t) (sym (orders-more ms (morning ps allowance))) st

  module _ {ms : List Morning} {sheet : List ℕ} {page : Page} (c : Came n ms sheet page) where
    size : size_allowed sheet ≡ true
    size = size_of n few c.stores

    -- a round, with or without the summary
    round-more : (ps : List Poll) (r : Round) (allowance : ℕ) (held : Page) → Paged sheet held → Replies ps (entries_of r) → r.count ≤ most_replies → (t : List ℕ)
        → t ≡ (round_of sheet held r allowance).sheet → Stored n (orders_in (ms ++ morning ps allowance ∷ [])) t
    round-more ps r allowance held p replies small t leaves =
        let all : Stored n (orders_in ms ++ orders_from (allowance - 0) (map poll_entry ps)) (saved_all allowance (standing sheet held 0 0 0) (map poll_entry ps)).sheet
        = round-stored n few allowance (map poll_entry ps) (all_fit ps) sheet held 0 0 (orders_in ms) c.stores p in
        let is : (saved_all allowance (standing sheet held 0 0 0) (map poll_entry ps)).sheet ≡ t
        = sym (leaves ∙ ap (λ (x : Standing). x.sheet) (not-many sheet held r allowance small)
        ∙ ap (λ (es : List Entry). (saved_all allowance (standing sheet held 0 0 0) es).sheet) (replies-are replies)) in
        let whole : allowance - 0 ≡ allowance = omega arith in
        more-orders ms ps allowance t
        (subst (λ (u : List ℕ). Stored n (orders_in ms ++ orders_from allowance (map poll_entry ps)) u) is
        (subst (λ (k : ℕ). Stored n (orders_in ms ++ orders_from k (map poll_entry ps)) (saved_all allowance (standing sheet held 0 0 0) (map poll_entry ps)).sheet) whole all))

    -- one reply
    one_more : (p : Poll) (allowance : ℕ) (answer : Result ℕ Fault) (t : List ℕ) → Saves sheet (poll_entry p) allowance answer t
        → Stored n (orders_in (ms ++ morning (p ∷ []) allowance ∷ [])) t
    unfolding orders_from
    one_more p allowance answer t m = more-orders ms (p ∷ []) allowance t (stored (order (poll_entry p) allowance) answer t c.stores (fit-poll p) m)

  single : {p : Poll} {e : Entry} → Replies (p ∷ []) (e ∷ []) → e ≡ poll_entry p
  single {p} {e} r = head-eq_of_cons-eq (replies-are r)

  -- a save with its summary is that save on the sheet
  plain-save : (s : List ℕ) → size_allowed s ≡ true → (page : Summary) → page ≡ summary_of (list_of s) → (e : Entry) (allowance : ℕ) (answer : Kept) (t : List ℕ)
      → SavesWith s page e allowance answer t
      → Saves s e allowance (pick (eqb (save_fault s e) 0) (Ok (min allowance (length_of e + 2))) (Err (fault (save_fault s e)))) t
  plain-save s size page is e allowance answer t m =
      record {
        answers = refl;
        leaves = m.leaves ∙ ap (λ (k : ℕ). pick (eqb k 0) (after s e allowance) s) (keep-is-save s size page is e);
      }

  pub came : {ms : List Morning} {sheet : List ℕ} {page : Page} → Month n ms sheet page → Came n ms sheet page
  unfolding orders_in
  came begun = record { stores = none_yet; pages = unpaged }
  came (summed made m answers) =
      let c = came m in
      record { stores = c.stores; pages = paged (afresh-made.answers _ made answers (size c)).0 }
  came (one_saved {sheet = sheet} p e allowance answer t m replies call) =
      let c = came m in
      record { stores = one_more c p allowance answer t (subst (λ (x : Entry). Saves sheet x allowance answer t) (single replies) call); pages = unpaged }
  came (round_saved ps r allowance answer t m replies small call) =
      let c = came m in
      record { stores = round-more c ps r allowance none unpaged replies small t call.leaves; pages = unpaged }
  came (one_kept {sheet = sheet} {page = page} p e allowance answer t m replies call) =
      let c = came m in
      let is = page-of c.pages in
      let own : SavesWith sheet page (poll_entry p) allowance answer t = subst (λ (x : Entry). SavesWith sheet page x allowance answer t) (single replies) call in
      let x : Step = record { entry = poll_entry p; minute_fits = p.asked.minute_fits; allowance = allowance; answer = answer } in
      record {
        stores = one_more c p allowance _ t (plain-save sheet (size c) page is (poll_entry p) allowance answer t own);
        pages = paged (at-any-moment.equals sheet (size c) (x ∷ []) t answer.summary
            (subst (λ (b : Summary). chain.Chain sheet b (x ∷ []) t answer.summary) is (chain.kept x chain.begun own)));
      }
  came (round_kept {sheet = sheet} {page = page} ps r allowance answer t m replies small call) =
      let c = came m in
      let is = page-of c.pages in
      let w : CalledWith = record { polled = r; dated = subst Dated (sym (replies-are replies)) (dated ps); allowance = allowance; answer = answer } in
      record {
        stores = round-more c ps r allowance (kept page) c.pages replies small t call.leaves;
        pages = paged (rounds-at-any-moment.equals sheet (size c) (w ∷ []) t answer.summary
            (subst (λ (b : Summary). RoundsWith sheet b (w ∷ []) t answer.summary) is (called_with w none_called_with call)));
      }
  came (unsaved {ms = ms} {sheet = sheet} ps es m replies) =
      let c = came m in
      record { stores = more-orders ms ps 0 sheet (no_stores n few (map poll_entry ps) c.stores); pages = c.pages }
  came (gone m) = record { stores = (came m).stores; pages = unpaged }

  pub month-listed : (ms : List Morning) (sheet : List ℕ) (page : Page) → Month n ms sheet page → (listing : List ℕ) → Wrote (WritesListing sheet) listing
      → listing ≡ listing_for n (known_in ms)
  month-listed ms sheet page m listing w =
      wrote _ _ (listing_of sheet) listing w ∙ listed-as n few (orders_in ms) sheet (came m).stores ∙ ap (listing_for n) (known-are ms)

  pub month-page : (ms : List Morning) (sheet : List ℕ) (page : Summary) → Month n ms sheet (kept page) → page ≡ summary_of (records_for n (known_in ms))
  month-page ms sheet page m =
      let c = came m in
      page-of c.pages ∙ ap summary_of (list-as n few (orders_in ms) sheet c.stores ∙ ap (records_for n) (known-are ms))
