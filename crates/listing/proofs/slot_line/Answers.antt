-- `listing::slot_line` meets its contract: the line is put into an array of its own and handed over, or the size or the slot is refused. Assumes
-- nothing.
use mathlib.Core.Path.{◌≡◌}
use mathlib.Core.Bool.{true}
use native.Mathlib.Omega.{arith}
use borrow.Author.Rules.{rules}
use borrow.Author.Tests.{lt-ltb, le-ltb}
use Rattle.std.proofs.lemmas.Result.{err_from_is_err_and}
use Rattle.sheet.specs.Slots.{size_allowed, slots}
use Rattle.sheet.proofs.Seen.{told-slots, told-refused}
use Rattle.putting.proofs.Added.{left-behind, put_first}
use Rattle.listing.proofs.Answers.{refused-12, handed}
use Rattle.listing.proofs.slot_line.Goals.{In_ok-slots}
use Rattle.listing.proofs.slot_line.Goals as goal

-- the slots that were counted are the sheet's, which is of an allowed size
told : (c : In_ok-slots) → (size_allowed c.args.sheet.now ≡ true) × (c.in_ok-slots.slots ≡ slots c.args.sheet.now)
told c = told-slots c.args.sheet.now _ c.in_ok-slots.slots c.count_slots.ensures c.in_ok-slots.was

pub returns-in_err-slots : goal.returns-in_err-slots
returns-in_err-slots c =
    let p = err_from_is_err_and c.from_residual.result c.from_residual.ensures.1 in
    let size = told-refused c.args.sheet.now _ _ c.count_slots.ensures c.in_err-slots.was in
    rw (p.1, p.2, size.1) (refused-12 _ _ c.args.out.now _ (simp size.0))

pub returns-then-slots-slot : goal.returns-then-slots-slot
returns-then-slots-slot c =
    let a = c.args in
    let size = told (goal.at.returns-then-slots-slot c).In_ok-slots in
    refused-12 _ _ a.out.now _ (simp (size.0, le-ltb a.slot (slots a.sheet.now) (omega (arith, c.if-slots-slot.true))))

pub put_slot-requires : goal.put_slot-requires
put_slot-requires c =
    let size = told (goal.at.put_slot-requires c).In_ok-slots in
    record { room = omega arith; sheet_value = size.0; slot_bound = omega (arith, c.if-slots-slot.false) }

pub returns : goal.returns
returns c =
    let a = c.args in
    let size = told (goal.at.returns c).In_ok-slots in
    handed _ _ _ _ _ _ (simp (size.0, lt-ltb a.slot (slots a.sheet.now) (omega (arith, c.if-slots-slot.false))))
    (put_first _ _ _ _ _ (omega (arith, c.put_slot.ensures.puts.within)) (left-behind c.put_slot.ensures.puts (search rules))) c.hand_over.ensures
