-- `frame::replies::read_with` meets its contract: a refusal before the level is the answer; else the answer is that of the level's number. Assumes
-- nothing.
use Rattle.std.proofs.Common.{◌≡◌, ap, ◌∙◌, ◌<◌, arith}
use Rattle.std.proofs.lemmas.Result.{err_from_is_err_and}
use Rattle.std.specs.Prelude.{Err}
use Rattle.frame.specs.declared.faults.Fault.{Fault}
use Rattle.frame.specs.Reply.{mode_in}
use Rattle.frame.specs.Inside.Packed.{level_code}
use Rattle.frame.proofs.Walks.{early-answer, lent-unfit, lent-fit, level-bounds, level-answer, heat-answer}
use Rattle.frame.proofs.replies.read_with.Goals as goal

pub returns-in_err-lent : goal.returns-in_err-lent
returns-in_err-lent g c =
    let a = c.args in
    let p = err_from_is_err_and c.from_residual.result c.from_residual.ensures.1 in
    rw (p.1, p.2) (early-answer a.settings a.address a.count a.reply.now c.in_err-lent.ensures.0 c.in_err-lent.ensures.1)

pub returns-in_err-unfit : goal.returns-in_err-unfit
returns-in_err-unfit g c =
    let p = err_from_is_err_and c.from_residual-in_err-unfit.result c.from_residual-in_err-unfit.ensures.1 in
    rw (p.1, p.2) (lent-unfit c.in_ok-lent.ensures c.word-n.ensures c.in_err-unfit.ensures.0 c.in_err-unfit.ensures.1)

pub by_level-requires : goal.by_level-requires
by_level-requires g c =
    let level : c.level-v.result ≡ level_code (mode_in c.args.settings) c.word-n.result = c.requires.reads c.word-n.result c.level-v.result c.level-v.ensures in
    let all = level-bounds (lent-fit c.in_ok-lent.ensures c.word-n.ensures c.in_ok-unfit.ensures) level c.if-v-ge-FAULT.true in
    record { code_bound = all.0; code_bound_2 = all.1.0; code_bound_3 = all.1.1 }

pub returns-then-v-ge-FAULT : goal.returns-then-v-ge-FAULT
returns-then-v-ge-FAULT g c =
    let level : c.level-v.result ≡ level_code (mode_in c.args.settings) c.word-n.result = c.requires.reads c.word-n.result c.level-v.result c.level-v.ensures in
    ap (λ (f : Fault). Err f) c.by_level.ensures ∙ level-answer (lent-fit c.in_ok-lent.ensures c.word-n.ensures c.in_ok-unfit.ensures) level c.if-v-ge-FAULT.true

pub returns : goal.returns
returns g c =
    let a = c.args in
    let level : c.level-v.result ≡ level_code (mode_in c.args.settings) c.word-n.result = c.requires.reads c.word-n.result c.level-v.result c.level-v.ensures in
    let low : c.level-v.result < 65536 = omega (arith, c.if-v-ge-FAULT.false) in
    c.with_level.ensures a.settings a.count c.read_heat.ensures ∙ heat-answer (lent-fit c.in_ok-lent.ensures c.word-n.ensures c.in_ok-unfit.ensures) level low
