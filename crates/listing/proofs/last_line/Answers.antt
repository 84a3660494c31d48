-- `listing::last_line` meets its contract: the records are counted, and the line is put into an array of its own and handed over; or the size is
-- refused. Assumes nothing.
use mathlib.Core.Path.{◌≡◌, ap, ◌∙◌}
use mathlib.Core.Bool.{true}
use mathlib.Core.List.{◌++◌}
use Prim.Native.Nat.{ℕ}
use native.Mathlib.Omega.{arith}
use borrow.Author.Rules.{rules}
use Rattle.std.proofs.lemmas.Result.{err_from_is_err_and}
use Rattle.sheet.specs.Slots.{size_allowed, slots}
use Rattle.sheet.proofs.FewRecords.{few-records}
use Rattle.sheet.proofs.Seen.{told-slots, told-refused, few-slots}
use Rattle.putting.proofs.Added.{left-behind, put_first}
use Rattle.listing.specs.Text.{ascii, in_decimal}
use Rattle.listing.specs.Lines.{count_line}
use Rattle.listing.proofs.Answers.{refused-12, handed}
use Rattle.listing.proofs.last_line.Goals.{In_ok-slots}
use Rattle.listing.proofs.last_line.Goals as goal

-- the slots that were counted are the sheet's, which is of an allowed size
told : (c : In_ok-slots) → (size_allowed c.args.sheet.now ≡ true) × (c.in_ok-slots.slots ≡ slots c.args.sheet.now)
told c = told-slots c.args.sheet.now _ c.in_ok-slots.slots c.count_slots.ensures c.in_ok-slots.was

pub count_records-records-requires : goal.count_records-records-requires
count_records-records-requires c =
    let all = told (goal.at.count_records-records-requires c).In_ok-slots in record { sheet_value = all.0; many_value = all.1 }

pub overflow_cast-records : goal.overflow_cast-records
overflow_cast-records c =
    let s = c.args.sheet.now in
    omega (arith, c.count_records-records.ensures, few-records s (slots s), few-slots s (told (goal.at.overflow_cast-records c).In_ok-slots).0)

pub returns-in_err-slots : goal.returns-in_err-slots
returns-in_err-slots c =
    let p = err_from_is_err_and c.from_residual.result c.from_residual.ensures.1 in
    let size = told-refused c.args.sheet.now _ _ c.count_slots.ensures c.in_err-slots.was in
    rw (p.1, p.2, size.1) (refused-12 _ _ c.args.out.now _ size.0)

pub returns : goal.returns
unfolding count_line
returns c =
    let text = ap (λ (n : ℕ). ascii "records " ++ in_decimal n ++ ascii "\n") c.count_records-records.ensures in
    handed _ _ _ _ _ _ (told (goal.at.returns c).In_ok-slots).0 (put_first _ _ _ _ _ (omega (arith, c.put_count.ensures.within)) (left-behind c.put_count.ensures (search rules)) ∙ text) c.hand_over.ensures
