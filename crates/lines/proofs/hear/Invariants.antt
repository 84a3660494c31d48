-- `lines::hear` meets its contract: at each turn what the whole batch tells is what its rest tells from the state so far, i samples later. Assumes nothing.
use mathlib.Core.Path.{◌≡◌}
use Prim.Native.Nat.{◌-◌, ◌≤◌}
use lib.ListN.{length, drop}
use Rattle.lines.specs.Timing.{timing}
use Rattle.lines.specs.Hearing.{later, hear}
use Rattle.lines.specs.Inside.Safe.{Safe}
use Rattle.lines.proofs.hear.Given as goal

abbrev pub invariant-loop-i : goal.invariant-loop-i
invariant-loop-i l =
    (l.i ≤ length l.samples) × Safe l.s × (hear (timing l.least l.most l.gap) l.initial.s l.samples ≡ later l.i (hear (timing l.least l.most l.gap) l.s (drop l.i l.samples)))

abbrev pub decreases-loop-i : goal.decreases-loop-i
decreases-loop-i l = length l.samples - l.i
