-- `enraf::writing::put_data` meets its contract: after so many turns as many characters were added. Assumes nothing.
use Rattle.std.proofs.Common.{take}
use Rattle.putting.specs.Adds.{Adds}
use Rattle.enraf.proofs.writing.put_data.Given as goal

abbrev pub invariant-loop-character : goal.invariant-loop-character
invariant-loop-character l = Adds (take l.character-index l.characters) l.character-index l.initial.text l.text
