-- `lines::runs::all_alike` meets its contract: after so many turns, if no bit differed, the samples passed are alike. Assumes nothing.
use Rattle.std.proofs.Common.{◌≡◌}
use Rattle.lines.specs.Inside.Runs.{Alike}
use Rattle.lines.proofs.runs.all_alike.Given as goal

abbrev pub invariant-loop-x : goal.invariant-loop-x
invariant-loop-x l = l.any ≡ 0 → Alike l.block 0 l.x-index l.sample
