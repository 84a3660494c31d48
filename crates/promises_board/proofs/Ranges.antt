-- The test of a temperature against its row's profile is what the two lines of the table say, either way: the profile's number names its bulb, and
-- every other case is not checked.
use mathlib.Core.Path.{◌≡◌, refl, sym, ◌∙◌, ap, subst}
use mathlib.Core.Bool.{Bool, true, false, not, ◌&&◌, ◌||◌}
use Prim.Native.Nat.{ℕ, ◌%◌}
use native.Mathlib.Omega.{arith}
use lib.Dec.{eqb}
use lib.IntN.{ℤ, pos, neg_ℤ}
use lib.Signed.{lt_z}
use borrow.Author.Tests.{eqb-true, not-true}
use Rattle.frame.specs.declared.Temperature.{Temperature}
use Rattle.frame.specs.declared.Temperature.TheVariants.{Degrees, Above, Below, Absent}
use Rattle.frame.specs.Pick.{pick}
use Rattle.frame.specs.Reply.{is1800}
use Rattle.frame.proofs.Both.{both_left, both_right}
use Rattle.board.specs.declared.Row.{Row}
use Rattle.board.specs.Gauge.{Profile, no_profile, profile_of, beyond_profile, outside, outside_by}
use Rattle.board.specs.Gauge as gauge
use Rattle.promises_board.specs.Profiles.{Bulb, copper, platinum, OutOfRange, Checked, out, not_out}

-- a profile by its number
abbrev by_number : ℕ → Profile
by_number n = pick (eqb n 1) gauge.copper (pick (eqb n 2) gauge.platinum no_profile)

in-bulb : (n : ℕ) (lowest highest d : ℤ) → Bulb n lowest highest → beyond_profile (by_number n) d ≡ (lt_z d lowest || lt_z highest d)
in-bulb n lowest highest d copper = refl
in-bulb n lowest highest d platinum = refl

pub is-out : (row : Row) (t : Temperature) → OutOfRange row t → outside_by row.settings row.gauge t ≡ true
is-out row t o =
    ap (outside_by row.settings row.gauge) o.told
    ∙ ap (λ (b : Bool). not b && beyond_profile (profile_of row.gauge) o.degrees) o.of_1900
    ∙ in-bulb (row.gauge % 4) o.lowest o.highest o.degrees o.bulb
    ∙ o.beyond

-- the bulb of a profile that a number of degrees is beyond
record BulbOf (n : ℕ) (d : ℤ) : Type 0 where
  lowest : ℤ
  highest : ℤ
  bulb : Bulb n lowest highest
  beyond : (lt_z d lowest || lt_z highest d) ≡ true

bulb-of : (n : ℕ) (d : ℤ) → beyond_profile (by_number n) d ≡ true → BulbOf n d
bulb-of n d e = go (eqb n 1) refl (eqb n 2) refl e
  where
    go : (s : Bool) → eqb n 1 ≡ s → (t : Bool) → eqb n 2 ≡ t → beyond_profile (pick s gauge.copper (pick t gauge.platinum no_profile)) d ≡ true → BulbOf n d
    go true s t f b = record { lowest = neg_ℤ (pos 1000); highest = pos 4000; bulb = subst (λ (k : ℕ). Bulb k (neg_ℤ (pos 1000)) (pos 4000)) (sym (eqb-true n 1 s)) copper; beyond = b }
    go false s true f b = record { lowest = neg_ℤ (pos 2340); highest = pos 5020; bulb = subst (λ (k : ℕ). Bulb k (neg_ℤ (pos 2340)) (pos 5020)) (sym (eqb-true n 2 f)) platinum; beyond = b }
    go false s false f b = absurd (let z : ◌≡◌ {A = ℕ} 0 1 = cc in omega arith)

out-by : (row : Row) (t : Temperature) → is1800 row.settings ≡ false → outside (profile_of row.gauge) t ≡ true → OutOfRange row t
out-by row (Degrees d) f e =
    let b = bulb-of (row.gauge % 4) d e in
    record { lowest = b.lowest; highest = b.highest; degrees = d; of_1900 = f; bulb = b.bulb; told = refl; beyond = b.beyond }
out-by row Above f e = absurd (let z : ◌≡◌ {A = ℕ} 0 1 = cc in omega arith)
out-by row Below f e = absurd (let z : ◌≡◌ {A = ℕ} 0 1 = cc in omega arith)
out-by row Absent f e = absurd (let z : ◌≡◌ {A = ℕ} 0 1 = cc in omega arith)

out_of : (row : Row) (t : Temperature) → outside_by row.settings row.gauge t ≡ true → OutOfRange row t
out_of row t e =
    out-by row t (not-true (is1800 row.settings) (both_left (not (is1800 row.settings)) (outside (profile_of row.gauge) t) e))
    (both_right (not (is1800 row.settings)) (outside (profile_of row.gauge) t) e)

pub is-in : (row : Row) (t : Temperature) → (OutOfRange row t → ⊥) → outside_by row.settings row.gauge t ≡ false
is-in row t none = go (outside_by row.settings row.gauge t) refl
  where
    go : (b : Bool) → outside_by row.settings row.gauge t ≡ b → outside_by row.settings row.gauge t ≡ false
    go true e = absurd (none (out_of row t e))
    go false e = e

pub checked : (row : Row) (t : Temperature) → Checked row t
checked row t = go (outside_by row.settings row.gauge t) refl
  where
    go : (b : Bool) → outside_by row.settings row.gauge t ≡ b → Checked row t
    go true e = out (out_of row t e)
    go false e = not_out (λ o. let z : ◌≡◌ {A = Bool} true false = sym (is-out row t o) ∙ e in let bad : ◌≡◌ {A = ℕ} 0 1 = cc in omega arith)
