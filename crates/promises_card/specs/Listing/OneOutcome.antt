-- One outcome, of the listing's calls: what a contract's record allows for given inputs, answer and output, is one thing and no other.
use Rattle.std.specs.Prelude.{List, ℕ}
use Rattle.listing.specs.Calls.{WritesHead, WritesSlot, WritesLast, WritesListing}
use Rattle.promises_frame.specs.One.{One}
use Rattle.std.specs.Prelude.{Result}
use Rattle.frame.specs.declared.faults.Fault.{Fault}

-- The outcome is the answer and the output after it.
pub record ListingOutcome : Type 0 where
  pub head-line : (s out : List ℕ) → One ((Result ℕ Fault) × List ℕ) (λ o. WritesHead s out o.0 o.1)
  pub slot-line : (s : List ℕ) (slot : ℕ) (out : List ℕ) → One ((Result ℕ Fault) × List ℕ) (λ o. WritesSlot s slot out o.0 o.1)
  pub last_line : (s out : List ℕ) → One ((Result ℕ Fault) × List ℕ) (λ o. WritesLast s out o.0 o.1)
  pub whole-listing : (s out : List ℕ) → One ((Result ℕ Fault) × List ℕ) (λ o. WritesListing s out o.0 o.1)
