-- Each letter leaves the place within the output, which stays the same.
use Rattle.std.proofs.Common.{◌≡◌}
use Rattle.putting.specs.Adds.{HasRoom}
use Rattle.show_picture.proofs.names.escape.Given as goal

abbrev pub invariant-loop-byte : goal.invariant-loop-byte
invariant-loop-byte l = (l.text.out.ghost_name ≡ l.initial.text.out.ghost_name) × HasRoom l.text 0
