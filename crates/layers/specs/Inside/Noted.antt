-- The slots noted of a pair: what they hold of it, one after another, is what the sheet lists of it.
use Rattle.std.specs.Prelude.{◌≡◌, List, [], ◌∷◌, ◌++◌, ℕ, zero, suc, ◌<◌, length, get_or}
use Rattle.sheet.specs.Record.{Entry}
use Rattle.sheet.specs.Slots.{slots, slot_at, slot_of, record_in, list_of}
use Rattle.summary.specs.Worked.{reply_in, entries_of_pair}
use Rattle.std.specs.Prelude.{Result}
use Rattle.frame.specs.declared.faults.Fault.{Fault}
use Rattle.frame.specs.declared.Reading.{Reading}

-- The records of a pair in one slot, and in the first n of some slots.
abbrev pub own_in : List ℕ → ℕ → ℕ → List Entry
own_in s pair k = entries_of_pair pair (record_in (slot_of (slot_at s k)))

unfoldable pub own_up_to : List ℕ → ℕ → List ℕ → ℕ → List Entry
own_up_to s pair own zero = []
own_up_to s pair own (suc n) = own_up_to s pair own n ++ own_in s pair (get_or own n 0)

pub record IsNoted (s : List ℕ) (pair : ℕ) (own : List ℕ) : Type 0 where
  pub within : (i : ℕ) → i < length own → get_or own i 0 < slots s
  pub records : own_up_to s pair own (length own) ≡ entries_of_pair pair (list_of s)

-- One record, by the minute that it has and what its reply reads as.
pub record IsOne (l : List Entry) (minute : ℕ) (reply : Result Reading Fault) : Type 0 where
  pub entry : Entry
  pub is : l ≡ entry ∷ []
  pub minute-is : minute ≡ entry.minute
  pub reply-is : reply ≡ reply_in entry
