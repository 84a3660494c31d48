-- Drawn, then heard: bits drawn as pulses of lengths between least and most, with idle shorter than the gap between them and a gap after the last, are
-- handed over bit for bit, at the last sample of the gap.
use Rattle.std.specs.Prelude.{◌≡◌, Bool, false, List, [], ◌∷◌, ◌++◌, map, ℕ, ◌+◌, ◌<◌, ◌≤◌, length, replicate}
use Rattle.frame.specs.Pick.{pick}
use Rattle.frame.specs.Line.{mark}
use Rattle.lines.specs.declared.LinesTold.{LinesTold}
use Rattle.lines.specs.Timing.{Timing, bad_timing}
use Rattle.lines.specs.SoFar.{rest_state}
use Rattle.lines.specs.Calls.{HearsLines}
use Rattle.promises_lines.specs.History.{said}

-- A bit drawn: the samples that its line is low, and the idle samples after it.
pub record Pulse : Type 0 where
  pub is_mark : Bool
  pub low : ℕ
  pub still : ℕ

unfoldable pub drawn : List Pulse → List ℕ
drawn [] = []
drawn (p ∷ ps) = replicate p.low (pick p.is_mark 1 2) ++ replicate p.still 0 ++ drawn ps

-- One bit or more, each within the timing.
abbrev pub WellDrawn : Timing → Pulse → List Pulse → Type 0
WellDrawn t p [] = (t.least ≤ p.low) × (p.low ≤ t.most) × (p.still ≡ t.gap)
WellDrawn t p (q ∷ ps) = (t.least ≤ p.low) × (p.low ≤ t.most) × (1 ≤ p.still) × (p.still < t.gap) × WellDrawn t q ps

pub record DrawnThenHeard : Type 0 where
  pub heard : (t : Timing) → bad_timing t ≡ false → (p : Pulse) (ps : List Pulse) → WellDrawn t p ps → length (p ∷ ps) ≤ 64
      → (quiet : ℕ) (more : List ℕ) (a : LinesTold)
      → HearsLines rest_state t.least t.most t.gap (replicate quiet 0 ++ drawn (p ∷ ps) ++ more) a
      → (a.number ≡ 0) × ((said a).bits ≡ map (λ q. mark q.is_mark) (p ∷ ps)) × (a.taken ≡ quiet + length (drawn (p ∷ ps)))
