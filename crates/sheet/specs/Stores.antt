-- Document 01, "The month sheet": the stores of a save, in order.
use Rattle.std.specs.Prelude.{List, [], ◌∷◌, ◌++◌, ℕ, ◌+◌, ◌*◌, get_or, take, set}
use Rattle.sheet.specs.Record.{Entry, after_length, length_bytes}
use Rattle.sheet.specs.Slots.{next}

-- A store changes one byte of a sheet.
pub record Store : Type 0 where
  pub place : ℕ
  pub byte : ℕ

infix 68 ◌puts◌
abbrev pub ◌puts◌ : ℕ → ℕ → Store
place puts byte = record { place = place; byte = byte }

-- The sheet after stores, made one after another.
unfoldable pub made : List ℕ → List Store → List ℕ
made s [] = s
made s (p ∷ ps) = made (set s p.place p.byte) ps

-- Bytes stored ascending from a place.
unfoldable pub ascending : ℕ → List ℕ → List Store
ascending p [] = []
ascending p (b ∷ bs) = p puts b ∷ ascending (p + 1) bs

-- The stores of a record's length into the slot that begins at a place: the low byte, then the high.
abbrev pub length_stores : ℕ → Entry → List Store
length_stores at e = (at + 1) puts get_or (length_bytes e) 1 0 ∷ at puts get_or (length_bytes e) 0 0 ∷ []

-- A record's stores, in order: version to the last reply byte, ascending; then the length.
unfoldable pub stores : ℕ → Entry → List Store
stores at e = ascending (at + 2) (after_length e) ++ length_stores at e

-- The sheet after a save into a slot that may make so many stores: the first of a record's; and after a save, into the slot that it goes to.
unfoldable pub after_into : List ℕ → ℕ → Entry → ℕ → List ℕ
after_into s slot e may = made s (take may (stores (32 * slot) e))

unfoldable pub after : List ℕ → Entry → ℕ → List ℕ
unfolding after_into
after s e may = after_into s (next s) e may
