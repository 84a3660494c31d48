-- What the two contracts say by cases.
use mathlib.Core.Path.{◌≡◌, refl, sym, ap, ◌∙◌}
use mathlib.Core.Bool.{Bool, true, false, not, ◌&&◌}
use mathlib.Core.List.{List, [], ◌∷◌}
use Prim.Native.Nat.{ℕ, suc, ◌≤◌}
use native.Mathlib.Omega.{arith}
use borrow.Author.Tests.{ltb-false, leb-true, le-ltb, le-leb, eqb-true, eqb-false}
use lib.Dec.{eqb, ltb, leb}
use lib.ListN.{length}
use Rattle.frame.specs.Pick.{pick}
use Rattle.areas.specs.declared.Plan.{Plan}
use Rattle.areas.specs.Check.{keeps, ChecksAreas}
use Rattle.areas.specs.Plan.{greedy, rest, plan_fault, plan_told, refused, PlansAreas}
use Rattle.areas.proofs.Cutting.{check-by, plan-by}

accepted-so : (x y z : Bool) → ◌≡◌ {A = ℕ} (pick x 34 (pick (not (y && z)) 36 0)) 0 → (x ≡ false) × (y ≡ true) × (z ≡ true)
accepted-so false true true e = (refl, refl, refl)
accepted-so false true false e = absurd (omega arith)
accepted-so false false z e = absurd (omega arith)
accepted-so true y z e = absurd (omega arith)

pub record Accepted (s p : List ℕ) : Type 0 where
  pub sized : length s ≤ 120
  pub few : length p ≤ 8
  pub kept : keeps s p ≡ true

pub check-accepted : (s p : List ℕ) (answer : ℕ) → ChecksAreas s p answer → answer ≡ 0 → Accepted s p
check-accepted s p answer c e =
    let by = check-by s p (ltb 120 (length s)) (leb (length p) 8) (keeps s p) refl refl refl in
    let so = accepted-so (ltb 120 (length s)) (leb (length p) 8) (keeps s p) (sym by ∙ sym c.answers ∙ e) in
    record { sized = ltb-false 120 (length s) so.0; few = leb-true (length p) 8 so.1; kept = so.2 }

pub check-kept : (s p : List ℕ) (answer : ℕ) → ChecksAreas s p answer → Accepted s p → answer ≡ 0
check-kept s p answer c a =
    c.answers ∙ check-by s p false true true (le-ltb 120 (length s) a.sized) (le-leb (length p) 8 a.few) a.kept

-- The planner's number is its fault.
pub plan-number : (s : List ℕ) (got : Plan) → PlansAreas s got → got.number ≡ plan_fault s
plan-number s got r = ap (λ (p : Plan). p.number) r.answers ∙ go (eqb (plan_fault s) 0) refl
  where
    go : (b : Bool) → eqb (plan_fault s) 0 ≡ b → (pick b (plan_told (greedy 8 s)) (refused (plan_fault s))).number ≡ plan_fault s
    go true e = sym (eqb-true (plan_fault s) 0 e)
    go false e = refl

planned-so : (x y : Bool) → ◌≡◌ {A = ℕ} (pick x 34 (pick (not y) 35 0)) 0 → (x ≡ false) × (y ≡ true)
planned-so false true e = (refl, refl)
planned-so false false e = absurd (omega arith)
planned-so true y e = absurd (omega arith)

refused-so : (x y : Bool) → ◌≡◌ {A = ℕ} (pick x 34 (pick (not y) 35 0)) 35 → y ≡ false
refused-so false true e = absurd (omega arith)
refused-so false false e = refl
refused-so true y e = absurd (omega arith)

pub empty : (l : List ℕ) → eqb (length l) 0 ≡ true → l ≡ []
empty [] e = refl
empty (t ∷ l) e =
    let z : suc (length l) ≡ 0 = eqb-true (suc (length l)) 0 e in
    absurd (omega arith)

pub record Planned (s : List ℕ) (got : Plan) : Type 0 where
  pub sized : length s ≤ 120
  pub none_over : rest 8 s ≡ []
  pub is : got ≡ plan_told (greedy 8 s)

pub plan-made : (s : List ℕ) (got : Plan) → PlansAreas s got → got.number ≡ 0 → Planned s got
plan-made s got r e =
    let fault : plan_fault s ≡ 0 = sym (plan-number s got r) ∙ e in
    let by = plan-by s (ltb 120 (length s)) (eqb (length (rest 8 s)) 0) refl refl in
    let so = planned-so (ltb 120 (length s)) (eqb (length (rest 8 s)) 0) (sym by ∙ fault) in
    record {
      sized = ltb-false 120 (length s) so.0;
      none_over = empty (rest 8 s) so.1;
      is = r.answers ∙ ap (λ (n : ℕ). pick (eqb n 0) (plan_told (greedy 8 s)) (refused n)) fault;
    }

pub plan-refused : (s : List ℕ) (got : Plan) → PlansAreas s got → got.number ≡ 35 → ¬ (rest 8 s ≡ [])
plan-refused s got r e none =
    let by = plan-by s (ltb 120 (length s)) (eqb (length (rest 8 s)) 0) refl refl in
    let some = refused-so (ltb 120 (length s)) (eqb (length (rest 8 s)) 0) (sym by ∙ sym (plan-number s got r) ∙ e) in
    eqb-false (length (rest 8 s)) 0 some (ap length none)

pub plan-found : (s : List ℕ) (got : Plan) → PlansAreas s got → length s ≤ 120 → rest 8 s ≡ [] → got.number ≡ 0
plan-found s got r sized none =
    plan-number s got r ∙ plan-by s false true (le-ltb 120 (length s) sized) (ap (λ (l : List ℕ). eqb (length l) 0) none)
