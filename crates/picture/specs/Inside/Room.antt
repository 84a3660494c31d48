-- The bytes that sections ask for.
use Rattle.std.specs.Prelude.{List, [], ◌∷◌, ℕ, ◌+◌, ◌*◌, length}
use Rattle.sheet.specs.Record.{Entry}
use Rattle.summary.specs.declared.Line.{Line}
use Rattle.summary.specs.Line.{pair_of}
use Rattle.summary.specs.Worked.{entries_of_pair}

unfoldable pub room_of : List Entry → List Line → ℕ
room_of l [] = 0
room_of l (x ∷ xs) = 4600 + 624 * length (entries_of_pair (pair_of x) l) + room_of l xs
