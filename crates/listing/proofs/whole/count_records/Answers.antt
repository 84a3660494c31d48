-- `listing::whole::count_records` meets its contract: after k turns the records of the first k slots are counted. Assumes nothing.
use mathlib.Core.Path.{◌≡◌, refl, ap, ◌∙◌}
use mathlib.Core.List.{List}
use Prim.Native.Nat.{ℕ, ◌<◌, ◌+◌}
use native.Mathlib.Omega.{arith}
use lib.ListN.{length}
use Rattle.sheet.proofs.FewRecords.{few-records}
use Rattle.sheet.specs.Slots.{slots, slot_at, slot_of, record_in, list_up_to}
use Rattle.listing.proofs.Seen.{seen-records}
use Rattle.listing.proofs.Slotwise.{records-more}
use Rattle.listing.proofs.whole.count_records.Goals.{After-records_in-records}
use Rattle.listing.proofs.whole.count_records.Goals as goal

-- the sheet, and one slot more
abbrev sheet-of : After-records_in-records → List ℕ
sheet-of c = c.args.sheet.now

counted : (c : After-records_in-records) → c.loop-k.records + c.records_in-records.result ≡ length (list_up_to (sheet-of c) (c.loop-k.k + 1))
counted c =
    let l = c.loop-k in
    let look = c.look in
    let near : l.k < slots (sheet-of c) = omega (arith, c.requires.many_value) in
    let one : c.records_in-records.result ≡ length (record_in (slot_of (slot_at (sheet-of c) l.k))) = c.records_in-records.ensures ∙ seen-records (sheet-of c) l.k look.result c.requires.sheet_value near look.ensures in
    let before : l.records ≡ length (list_up_to (sheet-of c) l.k) = l.invariant in
    omega (arith, records-more (sheet-of c) l.k)

pub loop-k-init : goal.loop-k-init
unfolding list_up_to
loop-k-init c = refl

pub overflow_add-records : goal.overflow_add-records
overflow_add-records c =
    omega (arith, counted (goal.at.overflow_add-records c).After-records_in-records, few-records c.args.sheet.now (c.loop-k.k + 1))

pub loop-k-preserved : goal.loop-k-preserved
loop-k-preserved c = counted (goal.at.loop-k-preserved c).After-records_in-records

pub returns : goal.returns
returns c =
    let l = c.loop-k in
    let all : l.k ≡ slots c.args.sheet.now = omega (arith, c.requires.many_value) in
    l.invariant ∙ ap (λ (n : ℕ). length (list_up_to c.args.sheet.now n)) all
