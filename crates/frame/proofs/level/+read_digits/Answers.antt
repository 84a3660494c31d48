-- `frame::level::read_digits` meets its contract. Each return is one step of the definition: none left, the top digit in no chart, or the rest
-- read on from the top digit.
use Rattle.std.proofs.Common.{◌≡◌, sym, ◌∙◌, ◌-◌, ◌*◌, ◌/◌, ◌%◌, ◌^◌, ◌<◌, arith, add-one}
use Rattle.frame.specs.Charts.{size_of}
use Rattle.frame.specs.Level.{read_row}
use Rattle.frame.specs.Inside.Packed.{chart_of, digit_of, digit_row}
use Rattle.frame.proofs.Tables.{size-high}
use Rattle.frame.proofs.Digits.{left-lost, left-read, digit_lt, room, room-now}
use Rattle.frame.proofs.level.+read_digits.Goals as goal

pub returns-then-left-eq0 : goal.returns-then-left-eq0
unfolding read_row digit_row
returns-then-left-eq0 t c = rw c.if-left-eq0.true

pub returns-then-d-eq16 : goal.returns-then-d-eq16
returns-then-d-eq16 t c =
    let a = c.args in
    let some : 0 < a.left = omega (arith, c.if-left-eq0.false) in
    rw (left-lost a.row a.left a.bits a.odd a.sofar a.place some (sym c.top_digit-d.ensures ∙ c.if-d-eq16.true))

pub with_digit-next-requires-clause-sofar_bound : goal.with_digit-next-requires-clause-sofar_bound
with_digit-next-requires-clause-sofar_bound t c = room-now c.args.sofar c.args.left c.requires.left_bound

pub with_digit-next-requires-clause-d_bound : goal.with_digit-next-requires-clause-d_bound
with_digit-next-requires-clause-d_bound t c =
    let a = c.args in
    let below = digit_lt (chart_of (a.row % 16)) (a.bits / 2 ^ (4 * (a.left - 1)) % 16) a.odd (λ e. c.if-d-eq16.false (c.top_digit-d.ensures ∙ e)) in
    rw c.top_digit-d.ensures (omega (arith, size-high (a.row % 16), below))

pub read_digits-requires : goal.read_digits-requires
read_digits-requires t c =
    let a = c.args in
    let some : 0 < a.left = omega (arith, c.if-left-eq0.false) in
    let d = c.top_digit-d in
    let below : d.result < size_of (chart_of (a.row % 16)) =
    rw d.ensures (digit_lt (chart_of (a.row % 16)) (a.bits / 2 ^ (4 * (a.left - 1)) % 16) a.odd (λ e. c.if-d-eq16.false (d.ensures ∙ e))) in
    let fits = room (2 ^ 32) a.sofar (size_of (chart_of (a.row % 16))) d.result below (size-high (a.row % 16)) a.left some c.requires.left_bound in
    (omega (arith, c.decreases, some), (rw c.with_digit-next.ensures fits, omega (arith, c.requires.left_bound_2, some)))

pub returns : goal.returns
returns t c =
    let a = c.args in
    let some : 0 < a.left = omega (arith, c.if-left-eq0.false) in
    let d = c.top_digit-d in
    let read : digit_of (chart_of (a.row % 16)) (a.bits / 2 ^ (4 * (a.left - 1)) % 16) a.odd ≡ 16 → ⊥ = λ e. c.if-d-eq16.false (d.ensures ∙ e) in
    c.read_digits.ensures
    ∙ rw (left-read a.row a.left a.bits a.odd a.sofar a.place some read, c.with_digit-next.ensures, d.ensures, add-one a.place)
