-- `frame::line::formed` meets its contract: each return rewrites the definition with the tests that led there. Where the count fills its
-- last byte, no byte stands after it, so the definition reads 0 there. Assumes nothing.
use Rattle.std.proofs.Common.{◌≡◌, sym, ◌∙◌, ℕ, ◌-◌, ◌/◌, ◌%◌, ◌<◌, length, get_or, arith}
use Rattle.std.specs.Int.{div_ceil}
use borrow.Author.Tests.{lt-leb, le-leb, eq-eqb, ne_eqb}
use lib.ListN.{get_or-eq_default}
use Rattle.frame.specs.Line.{formed, bytes_for}
use Rattle.frame.proofs.Shifts.{one_shl}
use Rattle.frame.proofs.line.formed.Goals.{then-count-gt64-via-then-count-gt64, then-count-gt64-via-else-count-gt64+then-reply-div_ceil}
use Rattle.frame.proofs.line.formed.Goals as goal

size-is : (n : ℕ) → div_ceil n 8 ≡ bytes_for n
size-is n = omega arith

pub returns-then-count-gt64 : goal.returns-then-count-gt64
unfolding formed
returns-then-count-gt64 c =
    let a = c.args in
    elim c.then-count-gt64.branch [
      | then-count-gt64-via-then-count-gt64 w ↦ simp (lt-leb _ _ w.if-count-gt64.true)
      | then-count-gt64-via-else-count-gt64+then-reply-div_ceil w ↦
          simp (le-leb _ _ w.if-count-gt64.false, ne_eqb (length a.reply.now) (bytes_for a.count) (λ e. w.if-reply-div_ceil.true (e ∙ sym (size-is a.count) ∙ sym w.div_ceil.ensures)))
    ]

pub returns-then-over-eq0 : goal.returns-then-over-eq0
unfolding formed
returns-then-over-eq0 c =
    let a = c.args in
    let size : length a.reply.now ≡ bytes_for a.count = c.if-reply-div_ceil.false ∙ c.div_ceil.ensures ∙ size-is a.count in
    let none : get_or a.reply.now (a.count / 8) 0 ≡ 0 = get_or-eq_default a.reply.now 0 (omega (arith, size)) in
    simp (le-leb _ _ c.if-count-gt64.false, eq-eqb _ _ size, c.if-over-eq0.true, none)

pub returns-else-over-eq0 : goal.returns-else-over-eq0
unfolding formed
returns-else-over-eq0 c =
    let a = c.args in
    let k = 8 - a.count % 8 in
    let small : k < 8 = omega (arith, c.if-over-eq0.false) in
    let size : length a.reply.now ≡ bytes_for a.count = c.if-reply-div_ceil.false ∙ c.div_ceil.ensures ∙ size-is a.count in
    simp (one_shl 8 k small, le-leb _ _ c.if-count-gt64.false, eq-eqb _ _ size)
