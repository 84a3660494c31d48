-- `picture::axis::put_tick` meets its contract, by its test. Assumes nothing.
use mathlib.Core.Path.{◌≡◌}
use mathlib.Core.List.{[], ◌++◌}
use Prim.Native.Nat.{ℕ, ◌<◌, ◌≤◌}
use native.Mathlib.Omega.{arith}
use lib.ListN.{get_or}
use Rattle.putting.proofs.Added.{then, text-is, at_most, nothing_added}
use borrow.Author.Tests.{lt-ltb, le-ltb}
use Rattle.listing.specs.Text.{ascii}
use Rattle.std.specs.Prelude.{Option}
use Rattle.calendar.specs.declared.counting.Day.{Day}
use Rattle.picture.specs.Page.{day_on_axis, tick_text}
use Rattle.picture.proofs.axis.put_tick.Goals as goal

a-tick : (begin : Option Day) (i shown day : ℕ) → i < shown → ascii "<span>" ++ day_on_axis begin day ++ ascii "</span>" ≡ tick_text begin i shown day
unfolding tick_text
a-tick begin i shown day h = simp (lt-ltb i shown h)

no-tick : (begin : Option Day) (i shown day : ℕ) → shown ≤ i → [] ≡ tick_text begin i shown day
unfolding tick_text
no-tick begin i shown day h = simp (le-ltb i shown h)

pub returns-then-i-a : goal.returns-then-i-a
returns-then-i-a c =
    let a = c.args in
    at_most (omega arith) (text-is (a-tick a.a.begin a.i a.a.shown (get_or a.a.ticks a.i 0) c.if-i-a.true) (then (then c.word.ensures c.put_axis_day.ensures) c.word-then-i-a.ensures))

pub returns-else-i-a : goal.returns-else-i-a
returns-else-i-a c =
    let a = c.args in
    nothing_added (no-tick a.a.begin a.i a.a.shown (get_or a.a.ticks a.i 0) c.if-i-a.false)
