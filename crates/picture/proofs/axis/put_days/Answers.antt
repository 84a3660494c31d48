-- `picture::axis::put_days` meets its contract: the ticks are put one after another. Assumes nothing.
use mathlib.Core.Path.{◌≡◌, sym, ap}
use mathlib.Core.List.{◌++◌}
use Prim.Native.Nat.{ℕ, ◌+◌}
use native.Mathlib.Numerals.{add-one}
use native.Mathlib.Omega.{arith}
use Rattle.listing.specs.Text.{ascii}
use Rattle.putting.proofs.Added.{then, text-is, at_most}
use Rattle.picture.specs.declared.axis.Axis.{Axis}
use Rattle.picture.specs.Page.{tick_of, days_text}
use Rattle.picture.proofs.axis.put_days.Invariants.{up_to}
use Rattle.picture.proofs.axis.put_days.Goals as goal

more : (a : Axis) (i : ℕ) → up_to a i ++ tick_of a i ≡ up_to a (i + 1)
more a i = unfold up_to in ap (up_to a) (sym (add-one i))

all : (a : Axis) (i : ℕ) → i ≡ 5 → up_to a i ++ ascii "</div></div>\n" ≡ days_text a
unfolding up_to days_text
all a i e = ap (λ (k : ℕ). up_to a k ++ ascii "</div></div>\n") e

pub loop-i-init : goal.loop-i-init
unfolding up_to
loop-i-init c = at_most (omega arith) c.word.ensures

pub loop-i-preserved : goal.loop-i-preserved
loop-i-preserved c = at_most (omega arith) (text-is (more c.args.a c.loop-i.i) (then c.loop-i.invariant c.put_tick.ensures))

pub returns : goal.returns
returns c =
    let five : c.loop-i.i ≡ 5 = omega arith in
    at_most (omega arith) (text-is (all c.args.a c.loop-i.i five) (then c.loop-i.invariant c.word-2.ensures))
