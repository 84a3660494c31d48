-- First fault: both lists are asked in order. Of the planner, something is left over exactly where the plan of largest areas is not accepted.
use mathlib.Core.Path.{◌≡◌, refl, sym, ap, ◌∙◌}
use mathlib.Core.Bool.{Bool, true, false, not, ◌&&◌}
use mathlib.Core.List.{List, [], ◌∷◌}
use Prim.Native.Nat.{ℕ}
use borrow.Author.Tests.{le-leb}
use lib.Dec.{eqb, ltb}
use lib.ListN.{length}
use Rattle.frame.specs.Pick.{pick}
use Rattle.frame.specs.Faults.{first_of}
use Rattle.areas.specs.Check.{keeps, accepts, check_fault}
use Rattle.areas.specs.Plan.{greedy, rest, plan_fault}
use Rattle.promises_areas.specs.FirstFault.{check_table, plan_table, AreasFirstFault}
use Rattle.promises_frame.proofs.FirstFault.{asked, given}
use Rattle.promises_areas.proofs.Answers.{plan-number, empty}
use Rattle.promises_areas.proofs.Largest.{at_most, greedy-kept, none_over}

check-asks : (s p : List ℕ) → check_fault s p ≡ first_of (asked (check_table s p) (34 ∷ 36 ∷ []))
unfolding check_fault
check-asks s p = refl

fits : (s : List ℕ) → accepts s (greedy 8 s) ≡ keeps s (greedy 8 s)
unfolding accepts
fits s = ap (λ (b : Bool). b && keeps s (greedy 8 s)) (le-leb (length (greedy 8 s)) 8 (at_most 8 s))

same : (s : List ℕ) → eqb (length (rest 8 s)) 0 ≡ accepts s (greedy 8 s)
same s = go (eqb (length (rest 8 s)) 0) refl (keeps s (greedy 8 s)) refl ∙ sym (fits s)
  where
    go : (b : Bool) → eqb (length (rest 8 s)) 0 ≡ b → (k : Bool) → keeps s (greedy 8 s) ≡ k → b ≡ keeps s (greedy 8 s)
    go true e k q = sym (greedy-kept 8 s (empty (rest 8 s) e))
    go false e true q = sym e ∙ ap (λ (l : List ℕ). eqb (length l) 0) (none_over (greedy 8 s) s q (at_most 8 s)) ∙ sym q
    go false e false q = sym q

plan-asks : (s : List ℕ) → plan_fault s ≡ first_of (asked (plan_table s) (34 ∷ 35 ∷ []))
unfolding plan_fault first_of
plan-asks s = ap (λ (b : Bool). pick (ltb 120 (length s)) 34 (pick (not b) 35 0)) (same s)

pub areas-first-fault : AreasFirstFault
areas-first-fault =
    record {
      check = λ s p answer c. given (check_table s p) (34 ∷ 36 ∷ []) answer (c.answers ∙ check-asks s p);
      plan = λ s got r. given (plan_table s) (34 ∷ 35 ∷ []) got.number (plan-number s got r ∙ plan-asks s);
    }
