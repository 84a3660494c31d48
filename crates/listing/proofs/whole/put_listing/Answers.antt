-- `listing::whole::put_listing` meets its contract: the three parts are put one after another. Assumes nothing.
use mathlib.Core.Path.{ap}
use mathlib.Core.List.{◌++◌}
use Prim.Native.Nat.{ℕ}
use native.Mathlib.Omega.{arith}
use Rattle.sheet.specs.Slots.{slots}
use Rattle.listing.specs.Text.{ascii, in_decimal}
use Rattle.listing.specs.Lines.{head_line, count_line}
use Rattle.sheet.proofs.Seen.{few-slots}
use Rattle.putting.proofs.Added.{then, text-is, at_most}
use Rattle.sheet.proofs.FewRecords.{few-records}
use Rattle.listing.proofs.whole.put_listing.Goals as goal

pub overflow_cast-many : goal.overflow_cast-many
overflow_cast-many c =
    omega (arith, c.requires.many_value, few-slots c.args.sheet.now c.requires.sheet_value)

pub overflow_cast-records : goal.overflow_cast-records
overflow_cast-records c =
    let s = c.args.sheet.now in
    omega (arith, c.put_lines-records.ensures.records_value, few-records s (slots s), few-slots s c.requires.sheet_value)

pub returns : goal.returns
unfolding head_line count_line
returns c =
    let first = ap (λ (n : ℕ). ascii "sheet " ++ in_decimal n ++ ascii "\n") c.requires.many_value in
    let count = ap (λ (n : ℕ). ascii "records " ++ in_decimal n ++ ascii "\n") c.put_lines-records.ensures.records_value in
    at_most (omega arith) (then (then (text-is first c.put_count.ensures) c.put_lines-records.ensures.puts) (text-is count c.put_count-2.ensures))
