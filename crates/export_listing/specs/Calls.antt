-- The contract of each call: it tells what the call of `listing` below it answers, by that call's own contract, which also says what is left of the
-- output. `proofs/Kept.antt` has the laws that nothing is lost on the way and that only one outcome is allowed.
use Rattle.std.specs.Prelude.{List, ℕ}
use Rattle.listing.specs.Calls.{WritesHead, WritesSlot, WritesLast, WritesListing}
use Rattle.export_told.specs.declared.Done.{Done}
use Rattle.export.specs.Calls.{Tells}
use Rattle.export_told.specs.Told.{written_told}

abbrev pub SisalHeadLine : (sheet out : List ℕ) (answer : Done) (after : List ℕ) → Type 0
SisalHeadLine sheet out answer after = Tells written_told (λ below. WritesHead sheet out below after) answer

abbrev pub SisalSlotLine : (sheet : List ℕ) (slot : ℕ) (out : List ℕ) (answer : Done) (after : List ℕ) → Type 0
SisalSlotLine sheet slot out answer after = Tells written_told (λ below. WritesSlot sheet slot out below after) answer

abbrev pub SisalLastLine : (sheet out : List ℕ) (answer : Done) (after : List ℕ) → Type 0
SisalLastLine sheet out answer after = Tells written_told (λ below. WritesLast sheet out below after) answer

abbrev pub SisalListing : (sheet out : List ℕ) (answer : Done) (after : List ℕ) → Type 0
SisalListing sheet out answer after = Tells written_told (λ below. WritesListing sheet out below after) answer
