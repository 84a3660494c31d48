-- From what a look answers of a slot to the slot's line and its records. Assumes nothing.
use mathlib.Core.Path.{◌≡◌, refl, ap}
use mathlib.Core.Bool.{true}
use mathlib.Core.List.{List, [], ◌∷◌, ◌++◌}
use Prim.Native.Nat.{ℕ, ◌<◌}
use lib.ListN.{length, take}
use Rattle.frame.specs.Line.{bytes_for}
use Rattle.sheet.specs.declared.Found.{Found}
use Rattle.sheet.specs.declared.Found.TheVariants.{Blank, Spoiled, Foreign, Record, Refused}
use Rattle.sheet.specs.declared.Looked.{Looked}
use Rattle.sheet.specs.Record.{Entry}
use Rattle.sheet.specs.Slots.{Slot, blank, spoiled, foreign, holds, size_allowed, slots, slot_at, slot_of, record_in}
use Rattle.sheet.specs.Look.{Looks, look_told, entry_with, record_told}
use Rattle.sheet.proofs.Seen.{seen-slot, seen-record}
use Rattle.listing.specs.Text.{ascii, in_decimal}
use Rattle.listing.specs.Lines.{record_text, listed_line, slot_line}

-- the line and the records that an answer tells
abbrev line_with : ℕ → Entry → List ℕ
line_with k e = in_decimal k ++ ascii " " ++ record_text e ++ ascii "\n"

abbrev pub line_found : ℕ → Found → List ℕ → List ℕ
line_found k Blank reply = []
line_found k Spoiled reply = in_decimal k ++ ascii " spoiled\n"
line_found k Foreign reply = in_decimal k ++ ascii " foreign\n"
line_found k (Record h) reply = line_with k (entry_with h (take (bytes_for h.count) reply))
line_found k (Refused n) reply = []

abbrev pub records_found : Found → ℕ
records_found f = length (record_told f [])

-- of a slot that tells its own record
abbrev line_of : ℕ → List Entry → List ℕ
line_of k [] = []
line_of k (e ∷ l) = line_with k e

its-line : (k : ℕ) (t : Slot) → record_told (look_told t).found (look_told t).reply ≡ record_in t → line_found k (look_told t).found (look_told t).reply ≡ listed_line k t
its-line k blank e = refl
its-line k spoiled e = refl
its-line k foreign e = refl
its-line k (holds x) e = ap (line_of k) e

its-records : (t : Slot) → records_found (look_told t).found ≡ length (record_in t)
its-records blank = refl
its-records spoiled = refl
its-records foreign = refl
its-records (holds x) = refl

module _ (s : List ℕ) (k : ℕ) (looked : Looked) (size : size_allowed s ≡ true) (near : k < slots s) (looks : Looks s k looked) where
  pub seen-line : line_found k looked.found looked.reply ≡ slot_line s k
  seen-line =
      let is = seen-slot s k looked size near looks in
      rw is (its-line k (slot_of (slot_at s k)) (rw is at (seen-record s k looked size near looks)))

  pub seen-records : records_found looked.found ≡ length (record_in (slot_of (slot_at s k)))
  seen-records = rw (seen-slot s k looked size near looks) (its-records (slot_of (slot_at s k)))
