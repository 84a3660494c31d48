-- Document 01's levels, both ways, for its four modes: the bits of a line that hold the level's digits, and the level that they read as.
use Rattle.std.specs.Prelude.{◌≡◌, ℕ, ◌≤◌, ◌<◌}
use Rattle.frame.specs.Line.{field}
use Rattle.frame.specs.Level.{known, lost, mode_of, last_bit_of, level_of, digits_of, put_level}
use Rattle.promises_frame.specs.Rows.{SoundRow}

pub record LevelBothWays : Type 0 where
  -- Each mode is a row of sound charts, so that the laws of any row are laws of it.
  pub charts : (mode : ℕ) → SoundRow (mode_of mode).row
  -- A level up to the mode's largest, written, reads as that level.
  pub written-then-read : (mode v : ℕ) → v ≤ (mode_of mode).largest
      → level_of (mode_of mode) (put_level (mode_of mode) v) ≡ known v
  -- Any bits that read as such a level are the bits that it is written as.
  pub read-then-written : (mode n v : ℕ) → level_of (mode_of mode) n ≡ known v → v ≤ (mode_of mode).largest
      → digits_of (mode_of mode) v ≡ field n (mode_of mode).first (last_bit_of (mode_of mode))
  -- A level above the largest, written, reads as no level: the ones digit, the second from the top, is in no chart.
  pub outside : (mode v : ℕ) → (mode_of mode).largest < v
      → level_of (mode_of mode) (put_level (mode_of mode) v) ≡ lost 1
  -- Only mode 3 has codes for levels above its largest: elsewhere whatever reads as a level is in the mode.
  pub only-mode-3 : (mode n v : ℕ) → mode < 3 → level_of (mode_of mode) n ≡ known v → v ≤ (mode_of mode).largest
