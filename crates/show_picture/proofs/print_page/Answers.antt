-- `show_picture::print_page` is safe: the page fits the output. The output's length is told by a law, since counting it out would take too many steps.
-- Assumes nothing.
use mathlib.Core.Path.{sym}
use Prim.Native.Nat.{ℕ}
use lib.ListN.{length-replicate}
use lib.Seq.{length-take-le}
use Rattle.show_picture.proofs.print_page.Goals as goal

pub slice_bounds-put_page-end : goal.slice_bounds-put_page-end
slice_bounds-put_page-end g c = sym (length-replicate {0} {A = ℕ} 1432000 0)

pub slice_bounds-out-end : goal.slice_bounds-out-end
slice_bounds-out-end g c = c.put_page-size.ensures

pub slice_bounds-write_all-end : goal.slice_bounds-write_all-end
slice_bounds-write_all-end g c =
    let call = c.put_page-size in
    sym (length-take-le call.result call.new.out call.ensures)
