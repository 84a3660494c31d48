-- Each record says what its outcome equals: that outcome is allowed, and any two that are equal it. Assumes nothing.
use mathlib.Core.Path.{refl, sym, ◌∙◌}
use mathlib.Core.Bool.{Bool}
use mathlib.Core.List.{List}
use Prim.Native.Nat.{ℕ}
use Rattle.listing.specs.Calls.{Writes}
use Rattle.promises_frame.specs.One.{One}
use Rattle.promises_card.specs.Listing.OneOutcome.{ListingOutcome}
use Rattle.promises_frame.proofs.OneOutcome.{pair}
use Rattle.std.specs.Prelude.{Result}
use Rattle.frame.specs.declared.faults.Fault.{Fault}

one-write : (there : Bool) (needed : ℕ) (text out : List ℕ) → One ((Result ℕ Fault) × List ℕ) (λ o. Writes there needed text out o.0 o.1)
one-write there needed text out =
    record {
      same = λ a b p q. pair a b (p.answers ∙ sym q.answers) (p.leaves ∙ sym q.leaves);
      some = _;
      allowed = record { answers = refl; leaves = refl };
    }

pub listing-outcome : ListingOutcome
listing-outcome =
    record {
      head-line = λ s out. one-write _ _ _ out;
      slot-line = λ s slot out. one-write _ _ _ out;
      last_line = λ s out. one-write _ _ _ out;
      whole-listing = λ s out. one-write _ _ _ out;
    }
