-- A run of equal samples taken at once: where it ends, and what so many samples more like the last one do. That this is what they do one by one is proved.
use Rattle.std.specs.Prelude.{◌≡◌, ◌&&◌, List, ℕ, ◌+◌, ◌-◌, ◌/◌, ◌%◌, ◌^◌, ◌<◌, ◌≤◌, min, eqb, length, get_or}
use Rattle.frame.specs.Pick.{pick}
use Rattle.lines.specs.declared.SoFar.{SoFar}
use Rattle.lines.specs.Timing.{too_long}
use Rattle.lines.specs.SoFar.{so_far, is_open}

-- The first i bytes of a row as one number: its digits to the base 256.
pub record Digits (row : List ℕ) (i n : ℕ) : Type 0 where
  pub below : n < 256 ^ i
  pub digit : (k : ℕ) → k < i → n / 256 ^ (i - (k + 1)) % 256 ≡ get_or row k 0

-- The samples from one place up to another are all the same.
abbrev pub Alike : List ℕ → ℕ → ℕ → ℕ → Type 0
Alike samples from to x = (k : ℕ) → from ≤ k → k < to → get_or samples k 0 ≡ x

pub record RunTo (samples : List ℕ) (from to x : ℕ) : Type 0 where
  pub forward : from ≤ to
  pub there : to ≤ length samples
  pub alike : Alike samples from to x

-- More samples than any batch has.
abbrev pub endless : ℕ
endless = 0xffff_ffff_ffff_ffff

-- How many samples more like the last one close what is open.
unfoldable pub wanted_of : (gap x : ℕ) → SoFar → ℕ
wanted_of gap x s = pick (eqb x 0 && is_open s) (gap - s.run) endless

-- What was heard after so many samples more like the last one, where they close nothing: idle after what is open, or a run of marks or of spaces,
-- is longer; all else stays.
unfoldable pub grown : (x k : ℕ) → SoFar → SoFar
grown x k s =
    pick (eqb x 0) (pick (is_open s) (so_far s.bits (min (s.run + k) 10000) s.count s.line s.fault) s)
    (pick (eqb s.line 0) s (so_far s.bits (min (s.run + k) too_long) s.count s.line s.fault))
