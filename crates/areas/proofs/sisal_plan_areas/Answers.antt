-- `areas::sisal_plan_areas` meets its contract, by whether the site is too long and whether anything is left over. Assumes nothing.
use mathlib.Core.Path.{◌≡◌, refl, sym, ap, ◌∙◌}
use mathlib.Core.Bool.{Bool, true, false, not}
use mathlib.Core.List.{List}
use Prim.Native.Nat.{ℕ, ◌≤◌}
use borrow.Author.Tests.{lt-ltb, le-ltb}
use lib.Dec.{eqb}
use lib.ListN.{length}
use Rattle.std.proofs.Common.{Some, None}
use Rattle.std.specs.Option.{unwrap_or}
use Rattle.frame.specs.Pick.{pick}
use Rattle.areas.specs.declared.Plan.{Plan}
use Rattle.areas.specs.Plan.{greedy, rest, plan_fault, plan_told, refused}
use Rattle.areas.proofs.Cutting.{plan-by}
use Rattle.areas.proofs.sisal_plan_areas.Goals as goal

-- no plan is 35
or-refused : (b : Bool) (p : Plan) → unwrap_or (pick b (Some p) None) (refused 35) ≡ pick b p (refused 35)
or-refused true p = refl
or-refused false p = refl

-- the same answer by the list of refusals
same : (s : List ℕ) → length s ≤ 120 → (b : Bool) → eqb (length (rest 8 s)) 0 ≡ b
    → pick (eqb (length (rest 8 s)) 0) (plan_told (greedy 8 s)) (refused 35) ≡ pick (eqb (plan_fault s) 0) (plan_told (greedy 8 s)) (refused (plan_fault s))
same s few b e =
    let f = plan-by s false b (le-ltb 120 (length s) few) e in
    ap (λ (t : Bool). pick t (plan_told (greedy 8 s)) (refused 35)) e ∙ by b
    ∙ sym (ap (λ (n : ℕ). pick (eqb n 0) (plan_told (greedy 8 s)) (refused n)) f)
  where
    by : (t : Bool) → pick t (plan_told (greedy 8 s)) (refused 35)
        ≡ pick (eqb (pick (not t) 35 0) 0) (plan_told (greedy 8 s)) (refused (pick (not t) 35 0))
    by true = refl
    by false = refl

pub returns-then-site-gt120 : goal.returns-then-site-gt120
returns-then-site-gt120 c =
    let s = c.args.site.now in
    let f = plan-by s true _ (lt-ltb _ _ c.if-site-gt120.true) refl in
    record { answers = c.refusal.ensures ∙ sym (ap (λ (n : ℕ). pick (eqb n 0) (plan_told (greedy 8 s)) (refused n)) f) }

pub returns : goal.returns
returns c =
    let s = c.args.site.now in
    record {
      answers =
          c.unwrap_or.ensures ∙ (λ i. unwrap_or (c.propose.ensures i) (c.refusal-2.ensures i))
          ∙ or-refused (eqb (length (rest 8 s)) 0) (plan_told (greedy 8 s))
          ∙ same s c.if-site-gt120.false (eqb (length (rest 8 s)) 0) refl;
    }
