-- `lines::step::with_bit` meets its contract: the bits after the count are 0, so there is room for one more. Assumes nothing.
use mathlib.Core.Path.{◌≡◌}
use mathlib.Core.Bool.{Bool, true, false}
use Prim.Native.Nat.{ℕ, ◌+◌, ◌-◌, ◌*◌, ◌%◌, ◌^◌, ◌<◌}
use native.Mathlib.Omega.{arith}
use borrow.Author.Rules.{rules}
use lib.Dec.{eqb}
use Rattle.std.specs.Int.{from_bool}
use Rattle.frame.specs.Line.{mark}
use Rattle.frame.proofs.Marks.{mark-small}
use Rattle.lines.specs.Step.{with_bit}
use Rattle.lines.proofs.Places.{place, room, next-less}
use Rattle.lines.proofs.step.with_bit.Goals as goal

-- a shift by the places left is the power of the definition
shifted : (b : Bool) (n count : ℕ) → n ≡ from_bool b → count < 64 → n * 2 ^ (63 - count) % 2 ^ 64 ≡ mark b * 2 ^ (64 - (count + 1))
shifted true n count e h = rw e (place count h)
shifted false n count e h = rw e (omega arith)

pub overflow_add-result : goal.overflow_add-result
overflow_add-result c =
    let s = c.args.s in
    let safe = c.requires.safe in
    let fits : s.bits < 2 ^ 64 = search rules in
    let less = next-less (mark (eqb s.line 1)) s.count (mark-small (eqb s.line 1)) c.requires.count_bound in
    record {
      fits = rw (shifted (eqb s.line 1) c.from.result s.count c.from.ensures c.requires.count_bound) (room s.bits s.count _ fits safe.count safe.pads less);
    }

pub returns : goal.returns
unfolding with_bit
returns c =
    let s = c.args.s in
    rw (shifted (eqb s.line 1) c.from.result s.count c.from.ensures c.requires.count_bound)
