-- `board::value::remove` meets its contract: at each return the tests that led there give the number, and the change is of no row or carries a free one
-- back over the places from the last in use to that of the row found.
use Rattle.std.proofs.Common.{refl, arith, rules}
use Rattle.board.proofs.OneRow.{no-other, changes-none, changes-some, refuses, alters}
use Rattle.board.proofs.Searched.{found-none, found-some, moves_out}
use Rattle.board.proofs.Numbers.{find-11, find-17, find-0}
use Rattle.board.specs.Calls.{remove_rows}
use Rattle.board.proofs.value.remove.Goals as goal

pub returns-in_default : goal.returns-in_default
returns-in_default c = changes-none _ _ _ _ _ _ (no-other c.args.found c.in_default.not-Some) refl refl

pub returns-then-address-gt999 : goal.returns-then-address-gt999
unfolding remove_rows
returns-then-address-gt999 c =
    changes-some _ _ _ _ _ _ _ c.in-Some.is (λ board sees. refuses board 11 _ _ refl (find-11 board _ c.if-address-gt999.true))

pub returns-then-is_none : goal.returns-then-is_none
unfolding remove_rows
returns-then-is_none c =
    changes-some _ _ _ _ _ _ _ c.in-Some.is
    (λ board sees.
    refuses board 17 _ _ refl (find-17 board _ c.if-address-gt999.false (found-none board c.args.address c.in-Some.f.spot c.in-Some.f.row (search rules) sees.row)))

pub returns : goal.returns
unfolding remove_rows
returns c =
    changes-some _ _ _ _ _ _ _ c.in-Some.is
    (λ board sees.
    let at = found-some board c.args.address c.in-Some.f.spot c.in-Some.f.row (search rules) sees.row in
    let made = moves_out c.args.address board c.in-Some.f sees _ c.free.ensures at.0 at.1 in
    alters board _ _ _ (find-0 board _ c.if-address-gt999.false (omega (arith, at.0, at.1))) made.0 made.1)
