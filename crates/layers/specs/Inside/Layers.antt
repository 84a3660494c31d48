-- Where a line stands after some records.
use Rattle.std.specs.Prelude.{Bool, List, [], ◌∷◌, ℕ}
use Rattle.sheet.specs.Record.{Entry}
use Rattle.layers.specs.Drawing.{line_goes_on}

unfoldable pub joined_after : ℕ → Bool → List Entry → Bool
unfolding line_goes_on
joined_after layer joined [] = joined
joined_after layer joined (e ∷ l) = joined_after layer (line_goes_on layer e) l
