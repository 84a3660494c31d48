-- `frame::pairs::read_pairs` meets its contract. Each return is one step of the definition: none left, the top pair marked, or the rest read on
-- from the top pair.
use Rattle.std.proofs.Common.{◌≡◌, sym, ◌∙◌, ℕ, suc, ◌+◌, ◌-◌, ◌^◌, ◌<◌, arith}
use Rattle.frame.specs.Pairs.{read_pairs}
use Rattle.frame.proofs.PairSteps.{top_pair, top_lt, left-marked, left-number, pair-room, pair-room-now}
use Rattle.frame.proofs.pairs.+read_pairs.Goals as goal

two-on : (n : ℕ) → n + 2 ≡ suc (suc n)
two-on n = omega arith

pub returns-then-left-eq0 : goal.returns-then-left-eq0
unfolding read_pairs
returns-then-left-eq0 t c = rw c.if-left-eq0.true

pub returns-then-pair-eq-NO_PAIR : goal.returns-then-pair-eq-NO_PAIR
returns-then-pair-eq-NO_PAIR t c =
    let a = c.args in
    let some : 0 < a.left = omega (arith, c.if-left-eq0.false) in
    let marked : top_pair (a.left - 1) a.bits a.odd ≡ 255 = sym c.top_pair-pair.ensures ∙ c.if-pair-eq-NO_PAIR.true in
    rw (c.lost_place.ensures.0, left-marked a.bits a.odd a.sofar a.place a.left some marked)

pub with_pair-next-requires-clause-sofar_bound : goal.with_pair-next-requires-clause-sofar_bound
with_pair-next-requires-clause-sofar_bound t c = pair-room-now c.args.sofar c.args.left c.requires.left_bound

pub with_pair-next-requires-clause-pair_bound : goal.with_pair-next-requires-clause-pair_bound
with_pair-next-requires-clause-pair_bound t c =
    let a = c.args in
    let below = top_lt (a.left - 1) a.bits a.odd (λ e. c.if-pair-eq-NO_PAIR.false (c.top_pair-pair.ensures ∙ e)) in
    rw c.top_pair-pair.ensures (omega (arith, below))

pub read_pairs-requires : goal.read_pairs-requires
read_pairs-requires t c =
    let a = c.args in
    let some : 0 < a.left = omega (arith, c.if-left-eq0.false) in
    let p = c.top_pair-pair in
    let below : p.result < 100 = rw p.ensures (top_lt (a.left - 1) a.bits a.odd (λ e. c.if-pair-eq-NO_PAIR.false (p.ensures ∙ e))) in
    let fits = pair-room (2 ^ 32) a.sofar p.result below a.left some c.requires.left_bound in
    (omega (arith, c.decreases, some), (rw c.with_pair-next.ensures fits, omega (arith, c.requires.left_bound_2, some)))

pub returns : goal.returns
returns t c =
    let a = c.args in
    let some : 0 < a.left = omega (arith, c.if-left-eq0.false) in
    let p = c.top_pair-pair in
    let number : top_pair (a.left - 1) a.bits a.odd ≡ 255 → ⊥ = λ e. c.if-pair-eq-NO_PAIR.false (p.ensures ∙ e) in
    c.read_pairs.ensures
    ∙ rw (left-number a.bits a.odd a.sofar a.place a.left some number, c.with_pair-next.ensures, p.ensures, two-on a.place)
