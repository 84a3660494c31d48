-- `polling::drawing_out::draw_try` meets its contract: the rest of the delay is put down, and then the poll into the rest of the output. Assumes nothing.
use Prim.Native.Nat.{◌-◌, ◌≤◌}
use lib.ListN.{length, take, drop, length-take}
use native.Mathlib.Omega.{arith}
use Rattle.polling.proofs.Putting.{fits_in, two-parts}
use Rattle.polling.proofs.drawing_out.draw_try.Goals as goal

pub slice_bounds-poll-count : goal.slice_bounds-poll-count
slice_bounds-poll-count c =
    let f = fits_in c.idle-end.ensures in
    omega (arith, f.0, f.2)

pub slice_bounds-poll-start : goal.slice_bounds-poll-start
slice_bounds-poll-start c =
    let f = fits_in c.idle-end.ensures in
    let in-it = f.0 in
    let same = f.2 in
    omega (arith, in-it, same)

pub overflow_add-result : goal.overflow_add-result
overflow_add-result c =
    let i = c.idle-end in
    let mid = i.new.out in
    let first = fits_in i.ensures in
    let next : c.poll-more.result ≤ length (take (length mid - i.result) (drop i.result mid)) = (fits_in c.poll-more.ensures).0 in
    omega (arith, first.0, first.2, next, length-take (length mid - i.result) (drop i.result mid))

pub returns : goal.returns
returns c =
    let a = c.args in
    let i = c.idle-end in
    let poll = c.poll-more in
    let still = c.saturating_sub in
    let before = c.saturating_sub-2 in
    two-parts a.p a.address a.from a.out.now i.new.out poll.new.out i.result poll.result still.result before.result still.ensures before.ensures i.ensures poll.ensures
