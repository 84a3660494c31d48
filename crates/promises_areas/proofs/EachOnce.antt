-- Each once: a place is in the first area, or as far behind it in a later one; and the sizes of an accepted plan add up to the site.
use mathlib.Core.Path.{◌≡◌, refl, sym, ap}
use mathlib.Core.Bool.{true}
use mathlib.Core.List.{List, [], ◌∷◌}
use Prim.Native.Nat.{ℕ, zero, suc, ◌+◌, ◌-◌, ◌<◌, ◌≤◌}
use native.Mathlib.Omega.{arith}
use lib.ListN.{length, drop, length-drop}
use Rattle.areas.specs.Check.{keeps}
use Rattle.promises_areas.specs.EachOnce.{LiesIn, InOne, EachOnce}
use Rattle.promises_frame.proofs.Cases.{by-lt}
use Rattle.promises_areas.proofs.Runs.{first-kept, none_left}
use Rattle.promises_areas.proofs.Answers.{check-accepted}

abbrev amount : List ℕ → ℕ
amount [] = 0
amount (n ∷ p) = n + amount p

adds-up : (s p : List ℕ) → keeps s p ≡ true → amount p ≡ length s
adds-up s [] h = sym (ap length (none_left s h))
adds-up s (n ∷ p) h =
    let f = first-kept s n p h in
    let there = f.there in
    let r = adds-up (drop n s) p f.behind in
    let d = length-drop n s in
    omega arith

in-first : (n : ℕ) (p : List ℕ) (i : ℕ) → i < n → InOne (n ∷ p) i
in-first n p i h = record { area = 0; lies = record { there = omega arith; from = omega arith; before = omega arith }; only = only }
  where
    only : (k : ℕ) → LiesIn (n ∷ p) i k → k ≡ 0
    only zero l = refl
    only (suc k) l = absurd (omega (arith, l.from))

in-later : (n : ℕ) (p : List ℕ) (i : ℕ) → n ≤ i → InOne p (i - n) → InOne (n ∷ p) i
in-later n p i h r =
    let a = r.area in
    let x = r.lies.there in
    let y = r.lies.from in
    let z = r.lies.before in
    record { area = suc a; lies = record { there = omega arith; from = omega arith; before = omega arith }; only = only }
  where
    only : (k : ℕ) → LiesIn (n ∷ p) i k → k ≡ suc r.area
    only zero l = absurd (omega (arith, l.before))
    only (suc k) l =
        let x = l.there in
        let y = l.from in
        let z = l.before in
        ap suc (r.only k (record { there = omega arith; from = omega arith; before = omega arith }))

in_one : (p : List ℕ) (i : ℕ) → i < amount p → InOne p i
in_one [] i h = absurd (omega arith)
in_one (n ∷ p) i h = by-lt i n (in-first n p i) (λ le. in-later n p i le (in_one p (i - n) (omega arith)))

within : (p : List ℕ) (i k : ℕ) → LiesIn p i k → i < amount p
within [] i k l = absurd (omega (arith, l.there))
within (n ∷ p) i zero l =
    let z = l.before in
    omega arith
within (n ∷ p) i (suc k) l =
    let x = l.there in
    let y = l.from in
    let z = l.before in
    let r = within p (i - n) k (record { there = omega arith; from = omega arith; before = omega arith }) in
    omega arith

pub each-once : EachOnce
each-once =
    record {
      in_one = λ s p answer c e i h.
          let a = adds-up s p (check-accepted s p answer c e).kept in
          in_one p i (omega arith);
      within = λ s p answer c e i k l.
          let a = adds-up s p (check-accepted s p answer c e).kept in
          let w = within p i k l in
          omega arith;
    }
