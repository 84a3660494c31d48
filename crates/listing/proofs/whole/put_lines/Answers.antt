-- `listing::whole::put_lines` meets its contract: after k turns the lines of the first k slots stand in the output, and their records are counted.
-- Assumes nothing.
use mathlib.Core.Path.{◌≡◌, refl, sym, ap, ◌∙◌}
use Prim.Native.Nat.{ℕ, ◌+◌}
use native.Mathlib.Omega.{arith}
use lib.ListN.{length}
use Rattle.sheet.proofs.FewRecords.{few-records}
use Rattle.sheet.specs.Slots.{list_up_to}
use Rattle.listing.specs.Lines.{lines_up_to}
use Rattle.putting.proofs.Added.{then, text-is, at_most, nothing_added}
use Rattle.listing.proofs.Slotwise.{lines_more, records-more}
use Rattle.listing.proofs.whole.put_lines.Goals.{After-put_slot-records}
use Rattle.listing.proofs.whole.put_lines.Goals as goal

counted : (c : After-put_slot-records) → c.loop-k.records + c.put_slot-records.result ≡ length (list_up_to c.args.sheet.now (c.loop-k.k + 1))
counted c =
    let l = c.loop-k in
    let before : l.records ≡ length (list_up_to c.args.sheet.now l.k) = l.invariant.1 in
    omega (arith, records-more c.args.sheet.now l.k, c.put_slot-records.ensures.records_value)

pub loop-k-init : goal.loop-k-init
unfolding lines_up_to list_up_to
loop-k-init c = (nothing_added refl, refl)

pub overflow_add-records : goal.overflow_add-records
overflow_add-records c = omega (arith, counted (goal.at.overflow_add-records c).After-put_slot-records, few-records c.args.sheet.now (c.loop-k.k + 1))

pub loop-k-preserved : goal.loop-k-preserved
loop-k-preserved c =
    (at_most (omega arith) (text-is (sym (lines_more c.args.sheet.now c.loop-k.k)) (then c.loop-k.invariant.0 c.put_slot-records.ensures.puts)), counted (goal.at.loop-k-preserved c).After-put_slot-records)

pub returns : goal.returns
returns c =
    let l = c.loop-k in
    let s = c.args.sheet.now in
    let all : l.k ≡ c.args.many = omega arith in
    record { puts = text-is (ap (lines_up_to s) all) (at_most (omega arith) l.invariant.0); records_value = l.invariant.1 ∙ ap (λ (n : ℕ). length (list_up_to s n)) (all ∙ c.requires.many_value) }
