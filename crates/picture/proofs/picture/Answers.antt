-- `picture::picture` meets its contract: the page is put straight into an output that is long enough for every sheet. Assumes nothing.
use mathlib.Core.Path.{sym, ◌∙◌}
use borrow.Author.Rules.{rules}
use Prim.Native.Nat.{◌+◌, ◌*◌, ◌<◌, ◌≤◌}
use native.Mathlib.Omega.{arith}
use borrow.Author.Tests.{ltb-true, ltb-false}
use lib.ListN.{length}
use Rattle.listing.proofs.Answers.{refused-12, refused-15, written}
use Rattle.std.proofs.lemmas.Result.{err_from_is_err_and}
use Rattle.putting.proofs.Added.{left-behind}
use Rattle.sheet.proofs.Seen.{told-slots, told-refused, few-slots}
use Rattle.picture.proofs.picture.Goals as goal

pub returns-in_err-slots : goal.returns-in_err-slots
returns-in_err-slots c =
    let p = err_from_is_err_and c.from_residual.result c.from_residual.ensures.1 in
    let told = told-refused c.args.sheet.now _ _ c.count_slots.ensures c.in_err-slots.was in
    rw (p.1, p.2, told.1) (refused-12 _ _ c.args.out.now _ told.0)

pub is_short-requires : goal.is_short-requires
is_short-requires c =
    let size = told-slots c.args.sheet.now _ c.in_ok-slots.slots c.count_slots.ensures c.in_ok-slots.was in
    omega (arith, size.1, few-slots c.args.sheet.now size.0)

pub returns-then-is_short : goal.returns-then-is_short
returns-then-is_short c =
    let n = c.in_ok-slots.slots in
    let size = told-slots c.args.sheet.now _ n c.count_slots.ensures c.in_ok-slots.was in
    let short : length c.args.out.now < 624 * n + 145000 + 2 * length c.args.name.now = ltb-true _ _ (sym c.is_short.ensures ∙ c.if-is_short.true) in
    refused-15 _ _ c.args.out.now _ size.0 (omega (arith, size.1, short))

pub put_page-requires : goal.put_page-requires
put_page-requires c =
    let size = told-slots c.args.sheet.now _ c.in_ok-slots.slots c.count_slots.ensures c.in_ok-slots.was in
    let enough = ltb-false _ _ (sym c.is_short.ensures ∙ c.if-is_short.false) in
    record { sheet_value = size.0; many_value = size.1; room = omega (arith, enough) }

pub returns : goal.returns
returns c =
    let n = c.in_ok-slots.slots in
    let size = told-slots c.args.sheet.now _ n c.count_slots.ensures c.in_ok-slots.was in
    let enough : 624 * n + 145000 + 2 * length c.args.name.now ≤ length c.args.out.now = ltb-false _ _ (sym c.is_short.ensures ∙ c.if-is_short.false) in
    let text = left-behind c.put_page.ensures (search rules) in
    written _ _ _ c.args.out.now _ _ _ size.0 (omega (arith, size.1, enough)) (omega (arith, text.within, enough)) text
