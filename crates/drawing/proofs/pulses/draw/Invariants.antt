-- `drawing::pulses::draw` meets its contract: at each turn, the rest of the drawing put from the place reached makes it whole, and up to its end the
-- output is idle from there on. Assumes nothing.
use Rattle.std.proofs.Common.{◌≡◌, ◌+◌, ◌-◌, ◌<◌, length, take, drop, replicate}
use lib.Seq.{sets}
use Rattle.drawing.specs.Pulses.{drawing}
use Rattle.drawing.proofs.Idle.{Idle}
use Rattle.drawing.proofs.Rest.{rest_of}
use Rattle.drawing.proofs.pulses.draw.Given as goal

abbrev pub invariant-loop-bit : goal.invariant-loop-bit
invariant-loop-bit l =
    (length l.out ≡ length l.initial.out)
    × (sets l.out l.begin (take (l.end - l.begin) (rest_of l.low l.still l.message l.bit (l.count - l.bit) l.passed))
    ≡ sets l.initial.out 0 (take l.end (drop l.from (drawing l.low l.still l.count l.message))))
    × Idle l.out l.begin l.end
    × (l.passed < l.low + l.still)

-- the samples of a pulse so far
abbrev pub invariant-loop-sample : goal.invariant-loop-sample
invariant-loop-sample l =
    (length l.sample-items ≡ length l.initial.sample-items) × (take l.sample-index l.sample-items ≡ replicate l.sample-index l.line)
