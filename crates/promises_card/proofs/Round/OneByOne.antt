-- One by one: the tries behind a round are saves of the sheet, or saves that keep a summary, as those calls' contracts allow them; the totals and the rules
-- are those of the tries. Assumes nothing.
use mathlib.Core.Path.{◌≡◌, refl, sym, ap, subst, ◌∙◌}
use mathlib.Core.Logic.{◌≢◌, ◌⊎◌, inl, inr}
use mathlib.Core.Bool.{Bool, true, false, not, ◌&&◌}
use mathlib.Core.List.{List, [], ◌∷◌, ◌++◌, map, append-nil}
use Prim.Native.Nat.{ℕ, ◌+◌, ◌-◌, ◌<◌, ◌≤◌, min}
use native.Mathlib.Omega.{arith}
use borrow.Author.Tests.{eqb-true, leb-true}
use lib.Dec.{eqb, leb, ltb}
use lib.ListN.{length, length-append, length-take}
use Rattle.frame.specs.Pick.{pick}
use Rattle.frame.specs.Line.{bytes_for, pad_clear, formed}
use Rattle.frame.specs.Faults.{◌gives◌, first_of, verdict}
use Rattle.sheet.specs.Record.{Entry, entry_of, length_of}
use Rattle.sheet.specs.Slots.{size_allowed, slots, next}
use Rattle.sheet.specs.Stores.{after}
use Rattle.sheet.specs.Save.{save_fault, stores_made}
use Rattle.sheet.proofs.SaveNumbers.{save-number}
use Rattle.summary.specs.declared.Summary.{Summary}
use Rattle.summary.specs.declared.Kept.{Kept}
use Rattle.summary.specs.Updated.{with_record}
use Rattle.summary.specs.Calls.{kept_of, keep_fault, closes_record}
use Rattle.round.specs.declared.Round.{Round}
use Rattle.round.specs.declared.Rounded.{Rounded}
use Rattle.round.specs.declared.RoundedPage.{RoundedPage}
use Rattle.round.specs.Replies.{lent_by, entries_of}
use Rattle.round.specs.Saving.{Page, none, kept, save_refusal, page_with, Standing, standing, tried, saved_all}
use Rattle.round.specs.Calls.{rounded_of, summary_in, rounded_page_of, SavesRound, SavesRoundWith}
use Rattle.round.proofs.Turns.{not-many}
use Rattle.promises_card.specs.Sheet.History.{Save, History}
use Rattle.promises_card.specs.Sheet.History as history
use Rattle.promises_card.specs.Summary.Chain.{Step, Chain}
use Rattle.promises_card.specs.Summary.Chain as chain
use Rattle.promises_card.specs.Round.Tries.{Try, try_save, try_step, replies_of, WentSo, Dated}
use Rattle.promises_card.specs.Round.OneByOne.{BySaves, BySteps, OneByOne}
use Rattle.promises_card.proofs.Round.Traces.{fault, try_of, Traced, untried, one_more, sheet-after, page-after, totals, rules, Ending, ending}
use Rattle.std.specs.Prelude.{Result, Ok, Err}
use Rattle.frame.specs.declared.faults.Fault.{Fault}

-- the answer of a save, by its refusal
module _ (n k : ℕ) where
  abbrev answer : Result ℕ Fault
  answer = verdict n k

  made-is : stores_made answer ≡ pick (eqb n 0) k 0
  made-is = go (eqb n 0) _
    where
      go : (b : Bool) (f : Fault) → stores_made (pick b (Ok k) (Err f)) ≡ pick b k 0
      go true f = refl
      go false f = refl

-- tries without a summary are saves
record AsSaves (allowance : ℕ) (from : Standing) (h : List Try) (x : Standing) : Type 0 where
  saves : List Save
  made : History from.sheet saves x.sheet
  same : map try_save saves ≡ h
  page : x.page ≡ none

saves-of : (allowance : ℕ) (from : Standing) (h : List Try) (x : Standing) → from.page ≡ none → Traced allowance from h x → AsSaves allowance from h x
saves-of allowance from h x p untried = record { saves = []; made = history.begun; same = refl; page = p }
saves-of allowance from h x p (one_more {h = g} {x = y} e m t n l) = more (saves-of allowance from g y p t)
  where
    more : AsSaves allowance from g y → AsSaves allowance from (try_of allowance y e ∷ g) (tried allowance y e)
    more before =
        let f = save_fault y.sheet e in
        let k = min (allowance - y.stores) (length_of e + 2) in
        let is : fault allowance y e ≡ f = ap (λ (q : Page). save_refusal y.sheet q e) before.page in
        let save : Save = record { entry = e; minute_fits = m; allowance = allowance - y.stores; answer = answer f k } in
        let tryings : try_save save ≡ try_of allowance y e =
        (λ i. record { entry = e; given = allowance - y.stores; stores = made-is f k i; number = save-number y.sheet e k i })
        ∙ ap (λ (j : ℕ). record { entry = e; given = allowance - y.stores; stores = pick (eqb j 0) k 0; number = j }) (sym is) in
        let pages : (b : Bool) → pick b (pick (closes_record e (allowance - y.stores)) none none) none ≡ none = none-picked (closes_record e (allowance - y.stores)) in
        record {
          saves = save ∷ before.saves;
          made = history.saved save before.made
              (record {
                answers = refl;
                leaves = sheet-after allowance y e ∙ ap (λ (j : ℕ). pick (eqb j 0) (after y.sheet e (allowance - y.stores)) y.sheet) is;
              });
          same = (λ i. tryings i ∷ before.same i);
          page = page-after allowance y e
              ∙ ap (λ (q : Page). pick (eqb (fault allowance y e) 0) (pick (closes_record e (allowance - y.stores)) (page_with e q) q) q) before.page
              ∙ pages (eqb (fault allowance y e) 0);
        }
      where
        none-picked : (c b : Bool) → pick b (pick c none none) none ≡ none
        none-picked true true = refl
        none-picked false true = refl
        none-picked c false = refl

-- tries with a summary are saves that keep it
record AsSteps (from : Standing) (begin : Summary) (h : List Try) (x : Standing) : Type 0 where
  steps : List Step
  page : Summary
  is : x.page ≡ kept page
  made : Chain from.sheet begin steps x.sheet page
  same : map try_step steps ≡ h

-- the answer of a save that keeps a summary, by its refusal
module _ (e : Entry) (page : Summary) (n k left : ℕ) where
  abbrev keeps : Kept
  keeps = pick (eqb n 0) (kept_of (pick (closes_record e left) (with_record e page) page) k 0) (kept_of page 0 n)

  kept-count : keeps.count ≡ pick (eqb n 0) k 0
  kept-count = go (eqb n 0)
    where
      go : (b : Bool) → (pick b (kept_of (pick (closes_record e left) (with_record e page) page) k 0) (kept_of page 0 n)).count ≡ pick b k 0
      go true = refl
      go false = refl

  kept-number : keeps.number ≡ n
  kept-number = go (eqb n 0) refl
    where
      go : (b : Bool) → eqb n 0 ≡ b → (pick b (kept_of (pick (closes_record e left) (with_record e page) page) k 0) (kept_of page 0 n)).number ≡ n
      go true h = sym (eqb-true n 0 h)
      go false h = refl

  kept-page : pick (eqb n 0) (pick (closes_record e left) (kept (with_record e page)) (kept page)) (kept page) ≡ kept keeps.summary
  kept-page = go (eqb n 0) (closes_record e left)
    where
      go : (b c : Bool)
          → pick b (pick c (kept (with_record e page)) (kept page)) (kept page)
          ≡ kept (pick b (kept_of (pick c (with_record e page) page) k 0) (kept_of page 0 n)).summary
      go true true = refl
      go true false = refl
      go false c = refl

steps_of : (allowance : ℕ) (from : Standing) (begin : Summary) (h : List Try) (x : Standing) → from.page ≡ kept begin → Traced allowance from h x
    → AsSteps from begin h x
steps_of allowance from begin h x p untried = record { steps = []; page = begin; is = p; made = chain.begun; same = refl }
steps_of allowance from begin h x p (one_more {h = g} {x = y} e m t n l) = more (steps_of allowance from begin g y p t)
  where
    more : AsSteps from begin g y → AsSteps from begin (try_of allowance y e ∷ g) (tried allowance y e)
    more before =
        let left = allowance - y.stores in
        let f = keep_fault y.sheet before.page e in
        let k = min (allowance - y.stores) (length_of e + 2) in
        let found : fault allowance y e ≡ f = ap (λ (q : Page). save_refusal y.sheet q e) before.is in
        let step : Step = record { entry = e; minute_fits = m; allowance = allowance - y.stores; answer = keeps e before.page f k (allowance - y.stores) } in
        let tryings : try_step step ≡ try_of allowance y e =
        (λ i. record {
          entry = e;
          given = allowance - y.stores;
          stores = kept-count e before.page f k (allowance - y.stores) i;
          number = kept-number e before.page f k (allowance - y.stores) i;
        })
        ∙ ap (λ (j : ℕ). record { entry = e; given = allowance - y.stores; stores = pick (eqb j 0) k 0; number = j }) (sym found) in
        record {
          steps = step ∷ before.steps;
          page = step.answer.summary;
          is = page-after allowance y e
              ∙ ap (λ (q : Page). pick (eqb (fault allowance y e) 0) (pick (closes_record e (allowance - y.stores)) (page_with e q) q) q) before.is
              ∙ ap (λ (j : ℕ). pick (eqb j 0) (pick (closes_record e (allowance - y.stores)) (kept (with_record e before.page)) (kept before.page)) (kept before.page)) found
              ∙ kept-page e before.page f k (allowance - y.stores);
          made = chain.kept step before.made
              (record {
                answers = refl;
                leaves = sheet-after allowance y e ∙ ap (λ (j : ℕ). pick (eqb j 0) (after y.sheet e (allowance - y.stores)) y.sheet) found;
              });
          same = (λ i. tryings i ∷ before.same i);
        }

-- how a round that ends so went
module _ (allowance : ℕ) (sheet : List ℕ) (page : Page) (es : List Entry) (y : Standing) (end : Ending allowance (standing sheet page 0 0 0) [] es y) where
  abbrev from : Standing
  from = standing sheet page 0 0 0

  begins-so : es ≡ replies_of end.tries ++ end.more
  begins-so =
      let opened : replies_of [] ++ es ≡ es = unfold replies_of in refl in
      sym opened ∙ end.begins

  went-so : (closed stores number : ℕ) → closed ≡ y.closed → stores ≡ y.stores → number ≡ y.number → WentSo allowance es end.tries closed stores number
  went-so closed stores number c s n =
      let sums = totals allowance sheet page end.tries y end.traced in
      record {
        begins = (end.more, begins-so);
        rules = rules allowance sheet page end.tries y end.traced;
        closed_are = c ∙ sums.closed;
        stores-are = s ∙ sums.stores;
        number_is = n ∙ sums.number;
        stops = by end.stops;
      }
    where
      by : (end.more ≡ []) ⊎ ((y.number ≢ 0) ⊎ (y.stores ≡ allowance)) → (replies_of end.tries ≡ es) ⊎ ((number ≢ 0) ⊎ (stores ≡ allowance))
      by (inl q) = inl (sym (begins-so ∙ ap (λ (l : List Entry). replies_of end.tries ++ l) q ∙ append-nil (replies_of end.tries)))
      by (inr (inl q)) = inr (inl (λ z. q (sym n ∙ z)))
      by (inr (inr q)) = inr (inr (s ∙ q))

start : (allowance : ℕ) (sheet : List ℕ) (page : Page) (es : List Entry) → Dated es
    → Ending allowance (standing sheet page 0 0 0) [] es (saved_all allowance (standing sheet page 0 0 0) es)
start allowance sheet page es d = ending allowance (standing sheet page 0 0 0) es d [] (standing sheet page 0 0 0) untried refl (omega arith)

pub by-saves : (s : List ℕ) (r : Round) (allowance : ℕ) (answer : Rounded) (t : List ℕ) → SavesRound s r allowance answer t
    → r.count ≤ 30 → Dated (entries_of r) → BySaves s r allowance answer t
by-saves s r allowance answer t c few d =
    let y = saved_all allowance (standing s none 0 0 0) (entries_of r) in
    let is = not-many s none r allowance few in
    let told : answer ≡ rounded_of y = c.answers ∙ ap rounded_of is in
    let left : t ≡ y.sheet = c.leaves ∙ ap (λ (x : Standing). x.sheet) is in
    let end = start allowance s none (entries_of r) d in
    let all = saves-of allowance (standing s none 0 0 0) end.tries y refl end.traced in
    record {
      saves = all.saves;
      history = subst (λ (u : List ℕ). History s all.saves u) (sym left) all.made;
      went = subst (λ (ts : List Try). WentSo allowance (entries_of r) ts answer.closed answer.stores answer.number) (sym all.same)
          (went-so allowance s none (entries_of r) y end answer.closed answer.stores answer.number
          (ap (λ (a : Rounded). a.closed) told) (ap (λ (a : Rounded). a.stores) told) (ap (λ (a : Rounded). a.number) told));
    }

pub by-steps : (s : List ℕ) (page : Summary) (r : Round) (allowance : ℕ) (answer : RoundedPage) (t : List ℕ) → SavesRoundWith s page r allowance answer t
    → r.count ≤ 30 → Dated (entries_of r) → BySteps s page r allowance answer t
by-steps s page r allowance answer t c few d =
    let y = saved_all allowance (standing s (kept page) 0 0 0) (entries_of r) in
    let is = not-many s (kept page) r allowance few in
    let told : answer ≡ rounded_page_of y = c.answers ∙ ap rounded_page_of is in
    let left : t ≡ y.sheet = c.leaves ∙ ap (λ (x : Standing). x.sheet) is in
    let end = start allowance s (kept page) (entries_of r) d in
    let all = steps_of allowance (standing s (kept page) 0 0 0) page end.tries y refl end.traced in
    let summary-is : answer.summary ≡ all.page = ap (λ (a : RoundedPage). a.summary) told ∙ ap summary_in all.is in
    record {
      steps = all.steps;
      chain = subst (λ (p : Summary). Chain s page all.steps t p) (sym summary-is) (subst (λ (u : List ℕ). Chain s page all.steps u all.page) (sym left) all.made);
      went = subst (λ (ts : List Try). WentSo allowance (entries_of r) ts answer.closed answer.stores answer.number) (sym all.same)
          (went-so allowance s (kept page) (entries_of r) y end answer.closed answer.stores answer.number
          (ap (λ (a : RoundedPage). a.closed) told) (ap (λ (a : RoundedPage). a.stores) told) (ap (λ (a : RoundedPage). a.number) told));
    }

-- more than 8 bytes have no form, so what they are does not matter
formless : (count : ℕ) (l : List ℕ) → 8 < length l → formed count l ≡ false
formless count l many = unfold formed in go (leb count 64) refl (eqb (length l) (bytes_for count)) refl
  where
    go : (a : Bool) → leb count 64 ≡ a → (b : Bool) → eqb (length l) (bytes_for count) ≡ b → (a && b && pad_clear count l) ≡ false
    go true p true q = absurd (omega (arith, leb-true count 64 p, eqb-true (length l) (bytes_for count) q))
    go true p false q = refl
    go false p b q = refl

by_form : List ℕ → ℕ → ℕ → Bool → ℕ
by_form s settings address form =
    first_of (not (size_allowed s) gives 12 ∷ ltb 15 settings gives 10 ∷ ltb 999 address gives 11 ∷ not form gives 14 ∷ leb (slots s) (next s) gives 13 ∷ [])

fault-by : (s : List ℕ) (settings minute address count : ℕ) (l : List ℕ)
    → save_fault s (entry_of settings minute address count l) ≡ by_form s settings address (formed count l)
unfolding save_fault by_form
fault-by s settings minute address count l = refl

same-fault : (s : List ℕ) (settings minute address count : ℕ) (l k : List ℕ) → 8 < length l → 8 < length k
    → save_fault s (entry_of settings minute address count l) ≡ save_fault s (entry_of settings minute address count k)
same-fault s settings minute address count l k m n =
    fault-by s settings minute address count l ∙ ap (by_form s settings address) (formless count l m ∙ sym (formless count k n))
    ∙ sym (fault-by s settings minute address count k)

pub one_by_one : OneByOne
one_by_one =
    record {
      plain = by-saves;
      with_summary = by-steps;
      more_than_eight = λ s p lent eight many all.
          let nine : length (p.reply ++ 0 ∷ []) ≡ 9 = length-append p.reply (0 ∷ []) ∙ ap (λ (k : ℕ). k + 1) eight in
          let own : 8 < length (lent_by p) = rw (length-take p.bytes (p.reply ++ 0 ∷ [])) (omega (arith, nine)) in
          same-fault s p.settings p.minute p.address p.count (lent_by p) lent own (omega arith);
    }
