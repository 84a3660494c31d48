-- The planner: largest areas are kept where nothing is left over, and by `Largest` nothing is left over where any plan exists, with no more areas than it.
use mathlib.Core.Path.{◌≡◌, sym, ap, subst, ◌∙◌}
use mathlib.Core.Bool.{true}
use mathlib.Core.List.{List}
use Prim.Native.Nat.{ℕ, ◌-◌, ◌≤◌}
use native.Mathlib.Omega.{arith}
use lib.ListN.{length, replicate}
use lib.Seq.{take-append_seam}
use Rattle.areas.specs.declared.Plan.{Plan}
use Rattle.areas.specs.Check.{keeps}
use Rattle.areas.specs.Plan.{greedy}
use Rattle.promises_areas.specs.Planner.{plan_in, Planner}
use Rattle.promises_areas.proofs.Answers.{Planned, check-accepted, check-kept, plan-made, plan-refused, plan-found}
use Rattle.promises_areas.proofs.AcceptsExactly.{plan-kept}
use Rattle.promises_areas.proofs.Largest.{few, at_most, greedy-kept, none_over, ahead}

-- The plan that was told is the plan of largest areas.
plan-is : (s : List ℕ) (got : Plan) → Planned s got → plan_in got ≡ greedy 8 s
plan-is s got p = ap plan_in p.is ∙ take-append_seam (greedy 8 s) (replicate (8 - length (greedy 8 s)) 0)

pub planner : Planner
planner =
    record {
      planned_then_accepted = λ s got r e answer c.
          let p = plan-made s got r e in
          let is = plan-is s got p in
          check-kept s (plan_in got) answer c
          (record {
            sized = p.sized;
            few = subst (λ (l : List ℕ). length l ≤ 8) (sym is) (at_most 8 s);
            kept = subst (λ (l : List ℕ). keeps s l ≡ true) (sym is) (greedy-kept 8 s p.none_over);
          });
      refused_then_none = λ s got r e plan q.
          let k = plan-kept s plan q in
          plan-refused s got r e (none_over plan s k.0 k.1);
      one_exists_then_planned = λ s got r sized plan q.
          let k = plan-kept s plan q in
          plan-found s got r sized (none_over plan s k.0 k.1);
      fewest = λ s got r e plan answer c z.
          let p = plan-made s got r e in
          let a = check-accepted s plan answer c z in
          let many = ap (λ (x : Plan). x.areas) p.is in
          let least = few (length plan) 8 s (ahead plan s 0 a.kept) in
          omega arith;
    }
