-- `listing::head_line` meets its contract: the line is put into an array of its own and handed over, or the size is refused. Assumes nothing.
use mathlib.Core.Path.{ap, ◌∙◌}
use mathlib.Core.List.{◌++◌}
use Prim.Native.Nat.{ℕ}
use native.Mathlib.Omega.{arith}
use borrow.Author.Rules.{rules}
use Rattle.std.proofs.lemmas.Result.{err_from_is_err_and}
use Rattle.sheet.proofs.Seen.{told-slots, told-refused, few-slots}
use Rattle.putting.proofs.Added.{left-behind, put_first}
use Rattle.listing.specs.Text.{ascii, in_decimal}
use Rattle.listing.specs.Lines.{head_line}
use Rattle.listing.proofs.Answers.{refused-12, handed}
use Rattle.listing.proofs.head_line.Goals as goal

pub overflow_cast-slots : goal.overflow_cast-slots
overflow_cast-slots c =
    let told = told-slots c.args.sheet.now _ c.in_ok-slots.slots c.count_slots.ensures c.in_ok-slots.was in
    omega (arith, few-slots c.args.sheet.now told.0)

pub returns-in_err-slots : goal.returns-in_err-slots
returns-in_err-slots c =
    let p = err_from_is_err_and c.from_residual.result c.from_residual.ensures.1 in
    let told = told-refused c.args.sheet.now _ _ c.count_slots.ensures c.in_err-slots.was in
    rw (p.1, p.2, told.1) (refused-12 _ _ c.args.out.now _ told.0)

pub returns : goal.returns
unfolding head_line
returns c =
    let told = told-slots c.args.sheet.now _ c.in_ok-slots.slots c.count_slots.ensures c.in_ok-slots.was in
    let text = ap (λ (n : ℕ). ascii "sheet " ++ in_decimal n ++ ascii "\n") told.1 in
    handed _ _ _ _ _ _ told.0 (put_first _ _ _ _ _ (omega (arith, c.put_count.ensures.within)) (left-behind c.put_count.ensures (search rules)) ∙ text) c.hand_over.ensures
