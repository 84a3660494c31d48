-- `lines::runs::word` meets its contract: after so many turns the number has the bytes passed for digits, so that one more always fits. Assumes nothing.
use Rattle.lines.specs.Inside.Runs.{Digits}
use Rattle.lines.proofs.runs.word.Given as goal

abbrev pub invariant-loop-x : goal.invariant-loop-x
invariant-loop-x l = Digits l.eight l.x-index l.n
