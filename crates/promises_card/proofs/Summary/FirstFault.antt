-- First fault: each number is `first_of` of the call's own list of tests, in the promised order. Assumes nothing.
use mathlib.Core.Path.{◌≡◌, refl, sym, ap, ◌∙◌}
use mathlib.Core.Bool.{Bool, true, false, not}
use mathlib.Core.List.{List, [], ◌∷◌}
use Prim.Native.Nat.{ℕ}
use borrow.Author.Tests.{eqb-true}
use lib.Dec.{eqb}
use Rattle.frame.specs.Pick.{pick}
use Rattle.frame.specs.Faults.{◌gives◌, first_of}
use Rattle.sheet.specs.Record.{Entry}
use Rattle.sheet.specs.Slots.{size_allowed, list_of}
use Rattle.sheet.specs.Save.{save_fault}
use Rattle.summary.specs.declared.Summary.{Summary}
use Rattle.summary.specs.declared.Made.{Made}
use Rattle.summary.specs.declared.Kept.{Kept}
use Rattle.summary.specs.Line.{blank_summary}
use Rattle.summary.specs.Worked.{summary_of}
use Rattle.summary.specs.Handed.{misshapen, over, handed_fault}
use Rattle.summary.specs.Calls.{made_of, kept_of, afresh, keep_fault}
use Rattle.promises_card.specs.Sheet.FirstFault.{save_table, save_order}
use Rattle.promises_card.specs.Summary.FirstFault.{keep_table, keep_order, SummaryFault}
use Rattle.promises_card.proofs.Summary.Shape.{same_shape, same-counts}
use Rattle.promises_frame.proofs.FirstFault.{asked, given}

save-asks : (s : List ℕ) (e : Entry) → save_fault s e ≡ first_of (asked (save_table s e) save_order)
unfolding save_fault
save-asks s e = refl

keep-asks : (sheet : List ℕ) (s : Summary) (e : Entry) → keep_fault sheet s e ≡ first_of (asked (keep_table sheet s e) keep_order)
keep-asks sheet s e =
    opened ∙ go (misshapen s) (over s) refl refl
    ∙ (λ i. first_of (sym (same_shape s) i gives 37 ∷ sym (same-counts s) i gives 24 ∷ asked (save_table sheet e) save_order))
  where
    opened : keep_fault sheet s e ≡ pick (eqb (first_of (misshapen s gives 37 ∷ over s gives 24 ∷ [])) 0) (save_fault sheet e) (first_of (misshapen s gives 37 ∷ over s gives 24 ∷ []))
    opened = unfold keep_fault in unfold handed_fault in refl

    go : (m o : Bool) → misshapen s ≡ m → over s ≡ o
        → pick (eqb (first_of (misshapen s gives 37 ∷ over s gives 24 ∷ [])) 0) (save_fault sheet e) (first_of (misshapen s gives 37 ∷ over s gives 24 ∷ []))
        ≡ first_of (misshapen s gives 37 ∷ over s gives 24 ∷ asked (save_table sheet e) save_order)
    go true o p q = unfold first_of in simp p
    go false true p q = unfold first_of in simp (p, q)
    go false false p q =
        let own : pick (eqb (first_of (misshapen s gives 37 ∷ over s gives 24 ∷ [])) 0) (save_fault sheet e) (first_of (misshapen s gives 37 ∷ over s gives 24 ∷ [])) ≡ save_fault sheet e =
        unfold first_of in simp (p, q) in
        let listed : first_of (misshapen s gives 37 ∷ over s gives 24 ∷ asked (save_table sheet e) save_order) ≡ first_of (asked (save_table sheet e) save_order) =
        unfold first_of in simp (p, q) in
        own ∙ save-asks sheet e ∙ sym listed

-- the number of an answer
pub kept-number : (a : Kept) (s : Summary) (f : ℕ) → a.number ≡ 0 → (pick (eqb f 0) a (kept_of s 0 f)).number ≡ f
kept-number a s f z = go (eqb f 0) refl
  where
    go : (b : Bool) → eqb f 0 ≡ b → (pick b a (kept_of s 0 f)).number ≡ f
    go true e = z ∙ sym (eqb-true f 0 e)
    go false e = refl

made_asks : (sheet : List ℕ) → (afresh sheet).number ≡ first_of (asked (not (size_allowed sheet) gives 12 ∷ []) (12 ∷ []))
unfolding afresh first_of
made_asks sheet = go (size_allowed sheet)
  where
    go : (b : Bool) → (pick b (made_of (summary_of (list_of sheet)) 0) (made_of blank_summary 12)).number ≡ pick (not b) 12 0
    go true = refl
    go false = refl

pub summary-fault : SummaryFault
summary-fault =
    record {
      save = λ sheet s e allowance answer t h. given (keep_table sheet s e) keep_order answer.number
          (ap (λ (a : Kept). a.number) h.answers ∙ kept-number _ s (keep_fault sheet s e) refl ∙ keep-asks sheet s e);
      afresh = λ sheet answer h. given (not (size_allowed sheet) gives 12 ∷ []) (12 ∷ []) answer.number
          (ap (λ (a : Made). a.number) h.answers ∙ made_asks sheet);
    }
