-- Accepts exactly: the runs of an accepted plan, cut from the site, are its areas; and areas put end to end are kept by their sizes.
use mathlib.Core.Path.{◌≡◌, sym, ap, ◌∙◌}
use mathlib.Core.Bool.{true}
use mathlib.Core.List.{List}
use Prim.Native.Nat.{ℕ, ◌≤◌}
use native.Mathlib.Omega.{arith}
use lib.ListN.{length}
use Rattle.areas.specs.Check.{keeps}
use Rattle.promises_areas.specs.Plans.{PlanOf}
use Rattle.promises_areas.specs.AcceptsExactly.{AcceptsExactly}
use Rattle.promises_areas.proofs.Runs.{cut, cut-count, cut-sizes, cut-covers, cut-each, areas-kept, map-count}
use Rattle.promises_areas.proofs.Answers.{check-accepted, check-kept}

pub plan-cut : (s p : List ℕ) → keeps s p ≡ true → length p ≤ 8 → PlanOf s p
plan-cut s p h few =
    let n = cut-count s p in
    record { areas = cut s p; sizes = cut-sizes s p h; covers = cut-covers s p h; at_most_8 = omega arith; each = cut-each s p h }

pub plan-kept : (s p : List ℕ) → PlanOf s p → (keeps s p ≡ true) × (length p ≤ 8)
plan-kept s p q =
    let n = map-count q.areas in
    let m = ap length q.sizes in
    let small = q.at_most_8 in
    ((λ i. keeps (sym q.covers i) (sym q.sizes i)) ∙ areas-kept q.areas q.each, omega arith)

pub accepts-exactly : AcceptsExactly
accepts-exactly =
    record {
      accepted = λ s p answer c e. let a = check-accepted s p answer c e in plan-cut s p a.kept a.few;
      kept = λ s p answer c sized q.
          let k = plan-kept s p q in
          check-kept s p answer c (record { sized = sized; few = k.1; kept = k.0 });
    }
