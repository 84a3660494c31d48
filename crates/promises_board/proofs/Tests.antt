-- Tests: one that holds and does not, and two together of which one fails.
use mathlib.Core.Path.{◌≡◌, refl, sym, ◌∙◌}
use mathlib.Core.Bool.{Bool, true, false, ◌&&◌, ◌||◌, true≢false}

pub differs : {b : Bool} → b ≡ true → b ≡ false → ⊥
differs e f = true≢false (sym e ∙ f)

pub and-false : (b : Bool) → (b && false) ≡ false
and-false true = refl
and-false false = refl

pub neither-of : (a b : Bool) → (a || b) ≡ false → (a ≡ false) × (b ≡ false)
neither-of true b e = absurd (differs refl e)
neither-of false b e = (refl, e)
