-- Document 02, request 02: in the listing the place of the unreadable digit stands after the number of fault 7, and after no other.
use Rattle.std.specs.Prelude.{◌≡◌, ◌++◌, ℕ}
use Rattle.frame.specs.Reply.{ReadsReply}
use Rattle.sheet.specs.Record.{Entry}
use Rattle.listing.specs.Text.{ascii, in_decimal}
use Rattle.listing.specs.Lines.{record_text}
use Rattle.std.specs.Prelude.{Err}
use Rattle.frame.specs.declared.faults.Fault.TheVariants.{InNoChart}
use Rattle.frame.specs.Faults.{number_of, fault}
use Rattle.frame.specs.declared.faults.Fault.{Fault}

pub record ListingFaults : Type 0 where
  pub unreadable : (e : Entry) (place : ℕ) → ReadsReply e.settings e.address e.count e.reply (Err (InNoChart place))
      → record_text e ≡ in_decimal e.minute ++ ascii " " ++ in_decimal e.address ++ ascii " " ++ (ascii "fault 7 " ++ in_decimal place)
  -- A refusal by the number alone, whatever number is asked of the table, is none by 7, and the record is listed by that number.
  pub others : (e : Entry) (number : ℕ) → ReadsReply e.settings e.address e.count e.reply (Err (fault number))
      → (number ≡ 7 → ⊥) × (record_text e ≡ in_decimal e.minute ++ ascii " " ++ in_decimal e.address ++ ascii " " ++ (ascii "fault " ++ in_decimal number))
  -- So is every fault whose number is not 7, by its own.
  pub numbered : (e : Entry) (f : Fault) → ReadsReply e.settings e.address e.count e.reply (Err f) → (number_of f ≡ 7 → ⊥)
      → record_text e ≡ in_decimal e.minute ++ ascii " " ++ in_decimal e.address ++ ascii " " ++ (ascii "fault " ++ in_decimal (number_of f))
