-- A round stores its records one after another, each with the stores that those before it left. One behind the stop takes no slot: no store is left for it, or no slot,
-- since a record that passes the checks is refused for that alone. A summary that is the one of the sheet's list refuses nothing.
use mathlib.Core.Path.{◌≡◌, refl, sym, ap, subst, ◌∙◌}
use mathlib.Core.Bool.{Bool, true, false, ◌&&◌}
use mathlib.Core.List.{List, [], ◌∷◌, ◌++◌, append-nil, append_assoc}
use Prim.Native.Nat.{ℕ, ◌+◌, ◌-◌, ◌≤◌, min}
use native.Mathlib.Omega.{arith}
use borrow.Author.Tests.{ne_eqb, eqb-true, eqb-false, le-ltb, ltb-false}
use lib.Dec.{eqb, ltb}
use lib.ListN.{length}
use Rattle.frame.specs.Pick.{pick}
use Rattle.sheet.specs.Record.{Entry, length_of}
use Rattle.sheet.specs.Slots.{size_allowed, slots, next, list_of}
use Rattle.sheet.specs.Stores.{after}
use Rattle.sheet.specs.Save.{save_fault, Saves}
use Rattle.sheet.proofs.FewRecords.{few-records}
use Rattle.summary.specs.declared.Summary.{Summary}
use Rattle.summary.specs.Worked.{summary_of}
use Rattle.summary.specs.Handed.{handed_fault}
use Rattle.summary.specs.Updated.{with_record}
use Rattle.summary.specs.Calls.{kept_of, keep_fault, closes_record, SavesWith}
use Rattle.sheet.proofs.Seen.{few-slots}
use Rattle.summary.proofs.Shaped.{handed-worked}
use Rattle.round.specs.Saving.{Page, none, kept, save_refusal, page_with, Standing, standing, with_stores, stopped_by, tried, saved_all}
use Rattle.promises_card.specs.Summary.Chain.{Step}
use Rattle.promises_card.specs.Summary.Chain as chain
use Rattle.promises_card.proofs.Summary.AtAnyMoment.{at-any-moment}
use Rattle.promises_wire.proofs.Stored.{Order, order, Fit, Stored, stored, skipped, size_of, no_slot}
use Rattle.std.specs.Prelude.{Ok, Err}
use Rattle.frame.specs.Faults.{fault}

-- The records of a round as they are given their stores.
unfoldable pub orders_from : ℕ → List Entry → List Order
orders_from given [] = []
orders_from given (e ∷ es) = order e given ∷ orders_from (given - (length_of e + 2)) es

pub data AllFit : List Entry → Type 0 where
  none_fit : AllFit []
  one_fit : {e : Entry} {es : List Entry} → Fit e → AllFit es → AllFit (e ∷ es)

-- No summary, or that of the sheet's list.
pub data Paged (s : List ℕ) : Page → Type 0 where
  unpaged : Paged s none
  paged : {page : Summary} → page ≡ summary_of (list_of s) → Paged s (kept page)

-- Such a summary is refused by nothing.
pub clean : (s : List ℕ) → size_allowed s ≡ true → (page : Summary) → page ≡ summary_of (list_of s) → handed_fault page ≡ 0
clean s size page is =
    let few : length (list_of s) ≤ 1_000_000 = omega (arith, few-records s (slots s), few-slots s size) in
    ap handed_fault is ∙ handed-worked (list_of s) few

pub keep-is-save : (s : List ℕ) → size_allowed s ≡ true → (page : Summary) → page ≡ summary_of (list_of s) → (e : Entry) → keep_fault s page e ≡ save_fault s e
unfolding keep_fault
keep-is-save s size page is e = ap (λ (k : ℕ). pick (eqb k 0) (save_fault s e) k) (clean s size page is)

fault-same : (s : List ℕ) → size_allowed s ≡ true → (page : Page) → Paged s page → (e : Entry) → save_refusal s page e ≡ save_fault s e
fault-same s size none p e = refl
fault-same s size (kept page) (paged is) e = keep-is-save s size page is e

-- One save leaves the summary of the list that it leaves.
module _ (s : List ℕ) (size : size_allowed s ≡ true) (e : Entry) (fit : Fit e) (left : ℕ) where
  kept-after : (page : Summary) → page ≡ summary_of (list_of s) → keep_fault s page e ≡ 0
      → pick (closes_record e left) (with_record e page) page ≡ summary_of (list_of (after s e left))
  kept-after page is clear =
      let answer = kept_of (pick (closes_record e left) (with_record e page) page) (min left (length_of e + 2)) 0 in
      let m : SavesWith s page e left answer (after s e left) =
      record {
        answers = sym (ap (λ (k : ℕ). pick (eqb k 0) answer (kept_of page 0 k)) clear);
        leaves = sym (ap (λ (k : ℕ). pick (eqb k 0) (after s e left) s) clear);
      } in
      let x : Step = record { entry = e; minute_fits = fit.minute_fits; allowance = left; answer = answer } in
      at-any-moment.equals s size (x ∷ []) (after s e left) answer.summary
      (subst (λ (p : Summary). chain.Chain s p (x ∷ []) (after s e left) answer.summary) is (chain.kept x chain.begun m))

  paged-after : (page : Page) → Paged s page → save_refusal s page e ≡ 0 → Paged (after s e left) (pick (closes_record e left) (page_with e page) page)
  paged-after none p clear = go (closes_record e left)
    where
      go : (b : Bool) → Paged (after s e left) (pick b (page_with e none) none)
      go true = unpaged
      go false = unpaged
  paged-after (kept page) (paged is) clear = go (closes_record e left) (kept-after page is clear)
    where
      go : (b : Bool) → pick b (with_record e page) page ≡ summary_of (list_of (after s e left)) → Paged (after s e left) (pick b (page_with e (kept page)) (kept page))
      go true q = paged q
      go false q = paged q

one_then : (os : List Order) (o : Order) (more : List Order) → (os ++ o ∷ []) ++ more ≡ os ++ o ∷ more
one_then os o more = append_assoc os (o ∷ []) more

module _ (n : ℕ) (few : n ≤ 2048) where
  -- with no store left
  pub no_stores : {os : List Order} {s : List ℕ} (es : List Entry) → Stored n os s → Stored n (os ++ orders_from 0 es) s
  unfolding orders_from
  no_stores {os} {s} [] st = subst (λ (l : List Order). Stored n l s) (sym (append-nil os)) st
  no_stores {os} {s} (e ∷ es) st =
      let nothing : 0 - (length_of e + 2) ≡ 0 = omega arith in
      subst (λ (l : List Order). Stored n l s)
      (one_then os (order e 0) (orders_from 0 es) ∙ ap (λ (k : ℕ). os ++ order e 0 ∷ orders_from k es) (sym nothing))
      (no_stores es (skipped (order e 0) st refl))

  -- with no slot left
  and_none : (b c : Bool) → c ≡ false → b && c ≡ false
  and_none true c q = q
  and_none false c q = refl

  no_room : {os : List Order} {s : List ℕ} (es : List Entry) (given : ℕ) → n ≤ next s → Stored n os s → Stored n (os ++ orders_from given es) s
  unfolding orders_from
  no_room {os} {s} [] given full st = subst (λ (l : List Order). Stored n l s) (sym (append-nil os)) st
  no_room {os} {s} (e ∷ es) given full st =
      subst (λ (l : List Order). Stored n l s) (one_then os (order e given) (orders_from (given - (length_of e + 2)) es))
      (no_room es (given - (length_of e + 2)) full (skipped (order e given) st (and_none (ltb 0 given) (ltb (next s) n) (le-ltb (next s) n full))))

  -- a round that was stopped tries no more
  stopped-stays : (allowance : ℕ) (x : Standing) (es : List Entry) → (x.number ≡ 0 → ⊥) → (saved_all allowance x es).sheet ≡ x.sheet
  unfolding saved_all
  stopped-stays allowance x [] some = refl
  stopped-stays allowance x (e ∷ es) some =
      ap (λ (b : Bool). (pick (b && ltb x.stores allowance) (saved_all allowance (tried allowance x e) es) x).sheet) (ne_eqb x.number 0 some)

  -- One record tried, where the rest of the round is stored whatever this one leaves.
  abbrev RestStored : ℕ → List Entry → Type 0
  RestStored allowance es =
      (s : List ℕ) (page : Page) (closed stores : ℕ) (os : List Order) → Stored n os s → Paged s page
      → Stored n (os ++ orders_from (allowance - stores) es) (saved_all allowance (standing s page closed stores 0) es).sheet

  module _ (allowance : ℕ) (e : Entry) (fit : Fit e) (es : List Entry) (rest : RestStored allowance es) (s : List ℕ) (page : Page) (closed stores : ℕ)
      (os : List Order) (st : Stored n os s) (p : Paged s page) where
    abbrev x : Standing
    x = standing s page closed stores 0

    abbrev left : ℕ
    left = allowance - stores

    abbrev end : Standing → List ℕ
    end y = (saved_all allowance y es).sheet

    abbrev Ends : List ℕ → Type 0
    Ends t = Stored n (os ++ order e left ∷ orders_from (left - (length_of e + 2)) es) t

    size : size_allowed s ≡ true
    size = size_of n few st

    same : save_refusal s page e ≡ save_fault s e
    same = fault-same s size page p e

    saves : save_fault s e ≡ 0 → Saves s e left (Ok (min left (length_of e + 2))) (after s e left)
    saves clear =
        record {
          answers = sym (ap (λ (k : ℕ). pick (eqb k 0) (Ok (min left (length_of e + 2))) (Err (fault k))) clear);
          leaves = sym (ap (λ (k : ℕ). pick (eqb k 0) (after s e left) s) clear);
        }

    by-fault : (b : Bool) → eqb (save_refusal s page e) 0 ≡ b → Ends (end (pick b (with_stores left x e) (stopped_by (save_refusal s page e) x)))
    unfolding orders_from
    by-fault true f =
        let clear : save_refusal s page e ≡ 0 = eqb-true (save_refusal s page e) 0 f in
        let given : allowance - (stores + min left (length_of e + 2)) ≡ left - (length_of e + 2) = omega arith in
        let now = stored (order e left) (Ok (min left (length_of e + 2))) (after s e left) st fit (saves (sym same ∙ clear)) in
        let all = rest (after s e left) (pick (closes_record e left) (page_with e page) page) (closed + pick (closes_record e left) 1 0)
        (stores + min left (length_of e + 2)) (os ++ order e left ∷ []) now (paged-after s size e fit left page p clear) in
        subst (λ (l : List Order). Stored n l (end (with_stores left x e)))
        (one_then os (order e left) (orders_from (allowance - (stores + min left (length_of e + 2))) es) ∙ ap (λ (k : ℕ). os ++ order e left ∷ orders_from k es) given) all
    by-fault false f =
        let some : save_refusal s page e ≡ 0 → ⊥ = eqb-false (save_refusal s page e) 0 f in
        let full : n ≤ next s = no_slot n few st e fit (λ z. some (same ∙ z)) in
        subst Ends (sym (stopped-stays allowance (stopped_by (save_refusal s page e) x) es some)) (no_room (e ∷ es) left full st)

    by-stores : (b : Bool) → ltb stores allowance ≡ b → Ends (pick b (saved_all allowance (tried allowance x e) es) x).sheet
    unfolding tried orders_from
    by-stores true l = by-fault (eqb (save_refusal s page e) 0) refl
    by-stores false l =
        let nothing : 0 ≡ allowance - stores = omega (arith, ltb-false stores allowance l) in
        subst (λ (k : ℕ). Stored n (os ++ orders_from k (e ∷ es)) s) nothing (no_stores (e ∷ es) st)

    one-tried : Stored n (os ++ orders_from left (e ∷ es)) (saved_all allowance x (e ∷ es)).sheet
    unfolding saved_all orders_from
    one-tried = by-stores (ltb stores allowance) refl

  pub round-stored : (allowance : ℕ) (es : List Entry) → AllFit es → RestStored allowance es
  unfolding saved_all orders_from
  round-stored allowance [] fits s page closed stores os st p = subst (λ (l : List Order). Stored n l s) (sym (append-nil os)) st
  round-stored allowance (e ∷ es) (one_fit fit fits) s page closed stores os st p =
      one-tried allowance e fit es (round-stored allowance es fits) s page closed stores os st p
