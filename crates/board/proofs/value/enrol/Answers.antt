-- `board::value::enrol` meets its contract: at each return the tests that led there give the number, and the change is of no row or carries the new
-- one over the places from its own to the first free one.
use Rattle.std.proofs.Common.{◌∙◌, ◌<◌, ◌≤◌, length, refl, sym, arith, rules}
use Rattle.board.proofs.OneRow.{no-other, changes-none, changes-some, refuses, alters}
use Rattle.board.proofs.Searched.{found-none, found-some, moves-in}
use Rattle.board.proofs.Numbers.{enrol-10, enrol-11, enrol-27, enrol-18, enrol-19, enrol-0}
use Rattle.board.specs.Calls.{enrol_rows}
use Rattle.board.specs.Rows.{place_of, place_free}
use Rattle.board.proofs.value.enrol.Goals as goal

pub returns-in_default : goal.returns-in_default
returns-in_default c = changes-none _ _ _ _ _ _ (no-other c.args.found c.in_default.not-Some) refl refl

pub returns-then-settings-gt15 : goal.returns-then-settings-gt15
unfolding enrol_rows
returns-then-settings-gt15 c =
    changes-some _ _ _ _ _ _ _ c.in-Some.is (λ board sees. refuses board 10 _ _ refl (enrol-10 board _ _ _ c.if-settings-gt15.true))

pub returns-then-address-gt999 : goal.returns-then-address-gt999
unfolding enrol_rows
returns-then-address-gt999 c =
    changes-some _ _ _ _ _ _ _ c.in-Some.is (λ board sees. refuses board 11 _ _ refl (enrol-11 board _ _ _ c.if-settings-gt15.false c.if-address-gt999.true))

pub returns-then-misplaced : goal.returns-then-misplaced
unfolding enrol_rows
returns-then-misplaced c =
    changes-some _ _ _ _ _ _ _ c.in-Some.is
    (λ board sees. refuses board 27 _ _ refl (enrol-27 board _ _ _ c.if-settings-gt15.false c.if-address-gt999.false (sym c.misplaced.ensures ∙ c.if-misplaced.true)))

pub returns-then-is_some : goal.returns-then-is_some
unfolding enrol_rows
returns-then-is_some c =
    changes-some _ _ _ _ _ _ _ c.in-Some.is
    (λ board sees.
    let at = found-some board c.args.address c.in-Some.f.spot c.in-Some.f.row (search rules) sees.row in
    refuses board 18 _ _ refl (enrol-18 board _ _ _ c.if-settings-gt15.false c.if-address-gt999.false (sym c.misplaced.ensures ∙ c.if-misplaced.false) (omega (arith, at.0, at.1))))

pub returns-then-f : goal.returns-then-f
unfolding enrol_rows
returns-then-f c =
    changes-some _ _ _ _ _ _ _ c.in-Some.is
    (λ board sees.
    let off : length board ≤ place_of c.args.address board = found-none board c.args.address c.in-Some.f.spot c.in-Some.f.row (search rules) sees.row in
    refuses board 19 _ _ refl
    (enrol-19 board _ _ _ c.if-settings-gt15.false c.if-address-gt999.false (sym c.misplaced.ensures ∙ c.if-misplaced.false) off (omega (arith, sees.count, sees.vacant, c.if-f.true))))

pub returns : goal.returns
unfolding enrol_rows
returns c =
    changes-some _ _ _ _ _ _ _ c.in-Some.is
    (λ board sees.
    let off : length board ≤ place_of c.args.address board = found-none board c.args.address c.in-Some.f.spot c.in-Some.f.row (search rules) sees.row in
    let room : place_free board < length board = omega (arith, sees.count, sees.vacant, c.if-f.false) in
    let made = moves-in c.args.address board c.in-Some.f sees _ _ c.new.ensures refl room off in
    alters board _ _ _ (enrol-0 board _ _ _ c.if-settings-gt15.false c.if-address-gt999.false (sym c.misplaced.ensures ∙ c.if-misplaced.false) off room) made.0 made.1)
