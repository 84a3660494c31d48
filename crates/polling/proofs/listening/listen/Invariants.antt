-- `polling::listening::listen` meets its contract: at each turn the try is what its rest is from the lines as they are, i samples later; a turn hears one piece of
-- the samples, cut at the limit (`Pieces`). Assumes nothing.
use mathlib.Core.Path.{◌≡◌}
use Prim.Native.Nat.{◌+◌, ◌-◌, ◌^◌, ◌<◌, ◌≤◌}
use lib.ListN.{length, drop}
use Rattle.polling.specs.Listening.{later, listen}
use Rattle.polling.specs.Inside.Ears.{Ready}
use Rattle.polling.proofs.listening.listen.Given as goal

abbrev pub invariant-loop-i : goal.invariant-loop-i
invariant-loop-i l =
    (l.i ≤ length l.samples) × Ready l.s × (listen l.p l.initial.s l.before l.samples ≡ later l.i (listen l.p l.s (l.before + l.i) (drop l.i l.samples))) × (l.before + l.i < 2 ^ 32)

abbrev pub decreases-loop-i : goal.decreases-loop-i
decreases-loop-i l = length l.samples - l.i
