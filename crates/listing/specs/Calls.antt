-- What each call of the listing answers, and the output after it.
use Rattle.std.specs.Prelude.{◌≡◌, Bool, true, not, ◌&&◌, List, [], ◌∷◌, ◌++◌, ℕ, ◌+◌, ◌*◌, eqb, ltb, length, drop}
use Rattle.frame.specs.Pick.{pick}
use Rattle.frame.specs.Faults.{◌gives◌, first_of, fault}
use Rattle.sheet.specs.Slots.{size_allowed, slots}
use Rattle.listing.specs.Lines.{head_line, slot_line, last_line, listing_of}
use Rattle.std.specs.Prelude.{Result, Ok, Err}
use Rattle.frame.specs.declared.faults.Fault.{Fault}

-- Writing a text: 12 where what was asked is not there, 15 where the output has fewer bytes than are needed.
unfoldable pub write_fault : Bool → ℕ → List ℕ → ℕ
unfolding first_of
write_fault there needed out = first_of (not there gives 12 ∷ ltb (length out) needed gives 15 ∷ [])

-- The text stands first in the output, and the answer is its length; the other bytes stay. A refusal answers its number alone and changes no byte.
pub record Writes (there : Bool) (needed : ℕ) (text out : List ℕ) (answer : Result ℕ Fault) (after : List ℕ) : Type 0 where
  pub answers : answer ≡ pick (eqb (write_fault there needed out) 0) (Ok (length text)) (Err (fault (write_fault there needed out)))
  pub leaves : after ≡ pick (eqb (write_fault there needed out) 0) (text ++ drop (length text) out) out

-- What `head_line`, `slot_line` and `last_line` do: each needs just the bytes of its line.
abbrev pub WritesHead : List ℕ → List ℕ → Result ℕ Fault → List ℕ → Type 0
WritesHead s = Writes (size_allowed s) (length (head_line s)) (head_line s)

abbrev pub WritesSlot : List ℕ → ℕ → List ℕ → Result ℕ Fault → List ℕ → Type 0
WritesSlot s k = Writes (size_allowed s && ltb k (slots s)) (length (slot_line s k)) (slot_line s k)

abbrev pub WritesLast : List ℕ → List ℕ → Result ℕ Fault → List ℕ → Type 0
WritesLast s = Writes (size_allowed s) (length (last_line s)) (last_line s)

-- The whole listing asks for 40 bytes for its first line, for each slot and for its last line, whatever the slots hold: no line is longer. Of a bad
-- size it asks for the 9 bytes of "fault 12" and the line's end.
abbrev pub room_for : List ℕ → ℕ
room_for s = pick (size_allowed s) (40 * (slots s + 2)) 9

-- What `whole_listing` does. It takes every sheet: of a bad size the listing is "fault 12".
abbrev pub WritesListing : List ℕ → List ℕ → Result ℕ Fault → List ℕ → Type 0
WritesListing s = Writes true (room_for s) (listing_of s)
