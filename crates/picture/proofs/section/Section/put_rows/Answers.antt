-- `picture::section::Section::put_rows` meets its contract: its parts are put one after another. Assumes nothing.
use Rattle.std.proofs.Common.{arith}
use Rattle.putting.proofs.Added.{then, at_most}
use Rattle.picture.specs.Page.{rows_text}
use Rattle.picture.proofs.section.Section.put_rows.Goals as goal

pub returns : goal.returns
unfolding rows_text
returns c = at_most (omega arith) (then (then (then (then (then c.put_level_row.ensures c.put_heat_row.ensures) c.put_mark_row.ensures) c.put_mark_row-2.ensures) c.put_mark_row-3.ensures) c.put_days.ensures)
