-- `listing::whole_listing` meets its contract: the whole listing is put straight into an output that is long enough whatever the slots hold; of a bad
-- size "fault 12" is handed over. Assumes nothing.
use mathlib.Core.Path.{◌≡◌, refl}
use mathlib.Core.Bool.{true, false}
use mathlib.Core.List.{List, ◌++◌}
use Prim.Native.Nat.{ℕ, ◌+◌, ◌*◌, ◌≤◌}
use native.Mathlib.Omega.{arith}
use Rattle.sheet.specs.Slots.{size_allowed, slots}
use Rattle.listing.specs.Text.{ascii}
use Rattle.listing.specs.Lines.{head_line, lines_up_to, last_line, listing_of}
use Rattle.listing.specs.Calls.{room_for}
use Rattle.listing.proofs.Answers.{refused-15, written}
use Rattle.sheet.proofs.Seen.{told-slots, told-refused, few-slots}
use borrow.Author.Rules.{rules}
use Rattle.putting.proofs.Putting.{text-is}
use Rattle.putting.proofs.Added.{left-behind}
use Rattle.listing.proofs.whole_listing.Goals.{In-Ok}
use Rattle.listing.proofs.whole_listing.Goals as goal

-- the listing and the room that it needs, of an allowed size and of another
allowed : (s : List ℕ) (n : ℕ) → size_allowed s ≡ true → n ≡ slots s → (40 * (n + 2) ≡ room_for s) × (head_line s ++ lines_up_to s n ++ last_line s ≡ listing_of s)
unfolding listing_of
allowed s n size e = (simp (size, e), simp (size, e))

not-allowed : (s : List ℕ) → size_allowed s ≡ false → (9 ≡ room_for s) × (ascii "fault 12\n" ≡ listing_of s)
unfolding listing_of
not-allowed s size = (simp size, simp size)

-- the slots that were counted are the sheet's, which is of an allowed size
told : (c : In-Ok) → (size_allowed c.args.sheet.now ≡ true) × (c.in-Ok.slots ≡ slots c.args.sheet.now)
told c = told-slots c.args.sheet.now _ c.in-Ok.slots c.count_slots.ensures c.in-Ok.is

small : (c : In-Ok) → c.in-Ok.slots ≤ 2048
small c =
    let size = told c in
    omega (arith, few-slots c.args.sheet.now size.0)

pub overflow_add-slots : goal.overflow_add-slots
overflow_add-slots c = omega (arith, small (goal.at.overflow_add-slots c).In-Ok)

pub overflow_mul-slots : goal.overflow_mul-slots
overflow_mul-slots c = omega (arith, small (goal.at.overflow_mul-slots c).In-Ok)

pub returns-then-out-slots : goal.returns-then-out-slots
returns-then-out-slots c =
    let a = c.args in
    let size = told (goal.at.returns-then-out-slots c).In-Ok in
    let whole = allowed a.sheet.now _ size.0 size.1 in
    refused-15 _ _ a.out.now true refl (omega (arith, whole.0, c.if-out-slots.true))

pub put_listing-requires : goal.put_listing-requires
put_listing-requires c =
    let size = told (goal.at.put_listing-requires c).In-Ok in
    record { sheet_value = size.0; many_value = size.1; room = omega (arith, c.if-out-slots.false) }

pub returns : goal.returns
returns c =
    let a = c.args in
    let size = told (goal.at.returns c).In-Ok in
    let whole = allowed a.sheet.now _ size.0 size.1 in
    let text = text-is whole.1 (left-behind c.put_listing.ensures (search rules)) in
    written _ _ _ a.out.now _ _ true refl (omega (arith, whole.0, c.if-out-slots.false)) (omega (arith, text.within, c.if-out-slots.false)) text

pub returns-in_default : goal.returns-in_default
returns-in_default c =
    let size = told-refused c.args.sheet.now _ c.in_default.field-0 c.count_slots.ensures c.in_default.is in
    let text = not-allowed c.args.sheet.now size.0 in
    rw (← text.0, ← text.1) c.hand_over.ensures
