-- The last line counts the records: its number is the length of demand 3's list, faulty replies included.
use Rattle.std.specs.Prelude.{◌≡◌, List, [], ◌∷◌, ◌++◌, ℕ, ◌+◌, ◌-◌, ◌*◌, length}
use Rattle.sheet.specs.Slots.{list_of}
use Rattle.listing.specs.Text.{ascii}
use Rattle.listing.specs.Calls.{WritesLast}
use Rattle.promises_card.specs.Listing.Calls.{Wrote}

-- The number that decimal digits write, after a number already read; "0" is 48.
abbrev pub read_after : ℕ → List ℕ → ℕ
read_after n [] = n
read_after n (b ∷ bs) = read_after (n * 10 + (b - 48)) bs

-- A line that counts: its word, a number's digits, and the line's end.
pub record CountsTo (word : List ℕ) (n : ℕ) (line : List ℕ) : Type 0 where
  pub digits : List ℕ
  pub text : line ≡ word ++ digits ++ ascii "\n"
  pub number : read_after 0 digits ≡ n

pub record ListingRecords : Type 0 where
  pub counted : (s last : List ℕ) → Wrote (WritesLast s) last → CountsTo (ascii "records ") (length (list_of s)) last
