-- The numbers: 20 exactly where the timing is bad, and then nothing is taken or changed; 22 for a spoiled message in which a byte above 3 came, 21 for any
-- other, and both with no bits.
use Rattle.std.specs.Prelude.{◌≡◌, Bool, true, false, ◌||◌, List, [], ◌∷◌, ℕ, eqb, ltb, take}
use Rattle.frame.specs.Pick.{pick}
use Rattle.lines.specs.declared.SoFar.{SoFar}
use Rattle.lines.specs.declared.LinesTold.{LinesTold}
use Rattle.lines.specs.Timing.{timing, bad_timing}
use Rattle.lines.specs.SoFar.{legal}
use Rattle.lines.specs.Calls.{HearsLines}
use Rattle.promises_lines.specs.History.{said}

unfoldable pub one_above_3 : List ℕ → Bool
one_above_3 [] = false
one_above_3 (b ∷ bs) = ltb 3 b || one_above_3 bs

pub record LineNumbers : Type 0 where
  pub bad : (s : SoFar) (least most gap : ℕ) (samples : List ℕ) (a : LinesTold) → HearsLines s least most gap samples a
      → bad_timing (timing least most gap) ≡ true → (a.number ≡ 20) × (a.taken ≡ 0) × (a.so_far ≡ s) × ((said a).bits ≡ [])
  pub good : (s : SoFar) (least most gap : ℕ) (samples : List ℕ) (a : LinesTold) → HearsLines s least most gap samples a
      → bad_timing (timing least most gap) ≡ false → a.number ≡ 20 → ⊥
  -- The byte above 3 may have come in a call before: then the state said so.
  pub spoiled : (s : SoFar) (least most gap : ℕ) (samples : List ℕ) (a : LinesTold) → bad_timing (timing least most gap) ≡ false
      → legal s ≡ true → HearsLines s least most gap samples a → (a.number ≡ 0 → ⊥)
      → (a.number ≡ pick (eqb s.fault 22 || one_above_3 (take a.taken samples)) 22 21) × ((said a).bits ≡ [])
