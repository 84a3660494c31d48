-- Nothing is lost on the way to the host, and only one outcome is allowed: what an answer stands for is an answer of the call below, by that call's own
-- contract, the number in it is the paper's number of that answer, and two outcomes that one contract allows are equal. All follow from the laws of `export`.
use mathlib.Core.Path.{◌≡◌, sym, ◌∙◌}
use mathlib.Core.Bool.{Bool, true, ◌&&◌}
use mathlib.Core.List.{List}
use Prim.Native.Nat.{ℕ}
use lib.Dec.{ltb}
use lib.ListN.{length}
use Rattle.sheet.specs.Slots.{size_allowed, slots}
use Rattle.listing.specs.Lines.{head_line, slot_line, last_line, listing_of}
use Rattle.listing.specs.Calls.{Writes, WritesHead, WritesSlot, WritesLast, WritesListing, write_fault, room_for}
use Rattle.frame.specs.Poll.{written_number}
use Rattle.export_told.specs.declared.Done.{Done}
use Rattle.export.specs.Calls.{Tells}
use Rattle.export_told.specs.Told.{written_told, written_meant}
use Rattle.export.proofs.Back.{written_back}
use Rattle.export.proofs.Kept.{from, kept}
use Rattle.export.proofs.ToldNumbers.{written-told, meant-number}
use Rattle.export.proofs.OneOutcome.{one}
use Rattle.export_listing.specs.Calls.{SisalHeadLine, SisalSlotLine, SisalLastLine, SisalListing}

-- All calls of the listing write a text.
text-kept : (there : Bool) (needed : ℕ) (text out : List ℕ) (answer : Done) (after : List ℕ) → Tells written_told (λ b. Writes there needed text out b after) answer → Writes there needed text out (written_meant answer) after
text-kept there needed text out answer after =
    kept written_told written_meant (λ b. Writes there needed text out b after) (λ b r. from written_told written_meant r.answers (written_back (length text) (write_fault there needed out)))

pub head-line-kept : (sheet out : List ℕ) (answer : Done) (after : List ℕ) → SisalHeadLine sheet out answer after → WritesHead sheet out (written_meant answer) after
head-line-kept sheet out answer after = text-kept (size_allowed sheet) (length (head_line sheet)) (head_line sheet) out answer after

pub slot-line-kept : (sheet : List ℕ) (slot : ℕ) (out : List ℕ) (answer : Done) (after : List ℕ) → SisalSlotLine sheet slot out answer after → WritesSlot sheet slot out (written_meant answer) after
slot-line-kept sheet slot out answer after =
    text-kept (size_allowed sheet && ltb slot (slots sheet)) (length (slot_line sheet slot)) (slot_line sheet slot) out answer after

pub last-line-kept : (sheet out : List ℕ) (answer : Done) (after : List ℕ) → SisalLastLine sheet out answer after → WritesLast sheet out (written_meant answer) after
last-line-kept sheet out answer after = text-kept (size_allowed sheet) (length (last_line sheet)) (last_line sheet) out answer after

pub listing-kept : (sheet out : List ℕ) (answer : Done) (after : List ℕ) → SisalListing sheet out answer after → WritesListing sheet out (written_meant answer) after
listing-kept sheet out answer after = text-kept true (room_for sheet) (listing_of sheet) out answer after

-- The number among the integers is that of the answer that they stand for, whatever a call tells.
text-number : (there : Bool) (needed : ℕ) (text out : List ℕ) (answer : Done) (after : List ℕ) → Tells written_told (λ b. Writes there needed text out b after) answer → written_number (written_meant answer) ≡ answer.number
text-number there needed text out answer after =
    meant-number written_told written_meant written_number (λ d. d.number) written-told (λ b. Writes there needed text out b after)
    (λ b r. from written_told written_meant r.answers (written_back (length text) (write_fault there needed out)))

pub head-line-number : (sheet out : List ℕ) (answer : Done) (after : List ℕ) → SisalHeadLine sheet out answer after → written_number (written_meant answer) ≡ answer.number
head-line-number sheet out answer after = text-number (size_allowed sheet) (length (head_line sheet)) (head_line sheet) out answer after

pub slot-line-number : (sheet : List ℕ) (slot : ℕ) (out : List ℕ) (answer : Done) (after : List ℕ) → SisalSlotLine sheet slot out answer after → written_number (written_meant answer) ≡ answer.number
slot-line-number sheet slot out answer after =
    text-number (size_allowed sheet && ltb slot (slots sheet)) (length (slot_line sheet slot)) (slot_line sheet slot) out answer after

pub last-line-number : (sheet out : List ℕ) (answer : Done) (after : List ℕ) → SisalLastLine sheet out answer after → written_number (written_meant answer) ≡ answer.number
last-line-number sheet out answer after = text-number (size_allowed sheet) (length (last_line sheet)) (last_line sheet) out answer after

pub listing-number : (sheet out : List ℕ) (answer : Done) (after : List ℕ) → SisalListing sheet out answer after → written_number (written_meant answer) ≡ answer.number
listing-number sheet out answer after = text-number true (room_for sheet) (listing_of sheet) out answer after

pub head-line-one : (sheet out : List ℕ) (a b : Done) (s t : List ℕ) → SisalHeadLine sheet out a s → SisalHeadLine sheet out b t → (a ≡ b) × (s ≡ t)
head-line-one sheet out a b s t x y =
    (one written_told (λ w. WritesHead sheet out w s) (λ w. WritesHead sheet out w t) (λ v w p q. p.answers ∙ sym q.answers) x y, x.allows.leaves ∙ sym y.allows.leaves)

pub slot-line-one : (sheet : List ℕ) (slot : ℕ) (out : List ℕ) (a b : Done) (s t : List ℕ) → SisalSlotLine sheet slot out a s → SisalSlotLine sheet slot out b t → (a ≡ b) × (s ≡ t)
slot-line-one sheet slot out a b s t x y =
    (one written_told (λ w. WritesSlot sheet slot out w s) (λ w. WritesSlot sheet slot out w t) (λ v w p q. p.answers ∙ sym q.answers) x y, x.allows.leaves ∙ sym y.allows.leaves)

pub last-line-one : (sheet out : List ℕ) (a b : Done) (s t : List ℕ) → SisalLastLine sheet out a s → SisalLastLine sheet out b t → (a ≡ b) × (s ≡ t)
last-line-one sheet out a b s t x y =
    (one written_told (λ w. WritesLast sheet out w s) (λ w. WritesLast sheet out w t) (λ v w p q. p.answers ∙ sym q.answers) x y, x.allows.leaves ∙ sym y.allows.leaves)

pub listing-one : (sheet out : List ℕ) (a b : Done) (s t : List ℕ) → SisalListing sheet out a s → SisalListing sheet out b t → (a ≡ b) × (s ≡ t)
listing-one sheet out a b s t x y =
    (one written_told (λ w. WritesListing sheet out w s) (λ w. WritesListing sheet out w t) (λ v w p q. p.answers ∙ sym q.answers) x y, x.allows.leaves ∙ sym y.allows.leaves)
