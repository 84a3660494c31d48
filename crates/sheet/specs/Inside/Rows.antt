-- The rows of an answer that tells a save's stores: the places of a record's stores within its slot, and their bytes. That they are those of
-- `specs/StoresTold.antt` is proved.
use Rattle.std.specs.Prelude.{List, [], ◌∷◌, ◌++◌, ℕ, zero, suc, ◌+◌, length}
use Rattle.sheet.specs.Record.{Entry, after_length}

-- So many numbers, one after another from a first on.
abbrev pub up_from : ℕ → ℕ → List ℕ
up_from first zero = []
up_from first (suc n) = first ∷ up_from (first + 1) n

-- Where the stores go, where so many bytes follow the length: from byte 2 on, ascending; then byte 1, then byte 0.
abbrev pub places_row : ℕ → List ℕ
places_row size = up_from 2 size ++ 1 ∷ 0 ∷ []

-- What they put there: what follows the length; then the length's low byte, then the high, which is 0 in every record.
abbrev pub bytes_row : Entry → List ℕ
bytes_row e = after_length e ++ length (after_length e) ∷ 0 ∷ []
