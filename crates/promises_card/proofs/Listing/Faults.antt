-- The text of a faulty reply: what the reply reads as is put into the record's text. A fault of the table that is read has the number by which it was taken from
-- it, and that is not 7, since no place is 0; both are laws of the frame's promises.
use mathlib.Core.Path.{◌≡◌, sym, ap, ◌∙◌}
use mathlib.Core.Bool.{Bool}
use mathlib.Core.List.{List, ◌++◌}
use Prim.Native.Nat.{ℕ}
use borrow.Author.Tests.{ne_eqb}
use Rattle.frame.specs.Pick.{pick}
use Rattle.frame.specs.Faults.{number_of, place_named, fault}
use Rattle.frame.specs.Reply.{ReadsReply}
use Rattle.sheet.specs.Record.{Entry}
use Rattle.listing.specs.Text.{ascii, in_decimal}
use Rattle.listing.specs.Lines.{reply_text, record_text}
use Rattle.promises_card.specs.Listing.Faults.{ListingFaults}
use Rattle.promises_frame.proofs.Unreadable.{unreadable-digit, told-number}
use Rattle.std.specs.Prelude.{Result, Err}
use Rattle.frame.specs.declared.faults.Fault.{Fault}
use Rattle.frame.specs.declared.Reading.{Reading}

abbrev by : Entry → Result Reading Fault → List ℕ
by e got = in_decimal e.minute ++ ascii " " ++ in_decimal e.address ++ ascii " " ++ reply_text got

-- the text of a fault by its number alone
abbrev by-number : Entry → ℕ → List ℕ
by-number e n = in_decimal e.minute ++ ascii " " ++ in_decimal e.address ++ ascii " " ++ (ascii "fault " ++ in_decimal n)

by-own : (e : Entry) (f : Fault) → ReadsReply e.settings e.address e.count e.reply (Err f) → (number_of f ≡ 7 → ⊥) → record_text e ≡ by-number e (number_of f)
unfolding record_text
by-own e f r other =
    ap (by e) (sym r.answers)
    ∙ ap
    (λ (t : Bool).
    in_decimal e.minute ++ ascii " " ++ in_decimal e.address ++ ascii " "
    ++ pick t (ascii "fault 7 " ++ in_decimal (place_named f)) (ascii "fault " ++ in_decimal (number_of f)))
    (ne_eqb (number_of f) 7 other)

by-table : (e : Entry) (n : ℕ) → ReadsReply e.settings e.address e.count e.reply (Err (fault n)) → (n ≡ 7 → ⊥) × (record_text e ≡ by-number e n)
by-table e n r =
    let other : n ≡ 7 → ⊥ = unreadable-digit.others e.settings e.address e.count e.reply n r in
    let told : number_of (fault n) ≡ n = told-number e.settings e.address e.count e.reply n r in
    (other, by-own e (fault n) r (λ seven. other (sym told ∙ seven)) ∙ ap (by-number e) told)

pub listing-faults : ListingFaults
unfolding record_text
listing-faults = record { unreadable = λ e place r. ap (by e) (sym r.answers); others = by-table; numbered = by-own }
