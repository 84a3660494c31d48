-- What a look told of each address of the board as it was: the view of rows so kept (`View`), with no order asked.
use mathlib.Core.Path.{◌≡◌}
use mathlib.Core.List.{List}
use Prim.Native.Nat.{ℕ}
use Rattle.board.specs.declared.Looked.{Looked}
use Rattle.board.specs.declared.Row.{Row}
use Rattle.board.specs.Rows.{board_of}
use Rattle.board.specs.Calls.{looked_at}

abbrev pub view : List Row → ℕ → Looked
view rows address = looked_at (board_of rows) address

abbrev pub SameView : List Row → List Row → Type 0
SameView rows others = (address : ℕ) → view rows address ≡ view others address
