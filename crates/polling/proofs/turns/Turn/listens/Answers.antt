-- `polling::turns::Turn::listens` meets its contract: the turn is as it was, with its lines as they are meant.
use mathlib.Core.Path.{sym, ap, subst, ◌∙◌}
use Rattle.lines.specs.declared.SoFar.{SoFar}
use Rattle.lines.specs.Inside.Safe.{Safe}
use Rattle.polling.specs.declared.turns.Turn.{Turn}
use Rattle.polling.specs.Inside.Ears.{Ready}
use Rattle.polling.specs.Inside.Turns.{turn_as}
use Rattle.polling.proofs.Resting.{meant-ready}
use Rattle.polling.proofs.turns.Turn.listens.Goals as goal

pub returns : goal.returns
returns c =
    let t = c.args.self in
    let m = c.meant.ensures in
    let e = c.so_far.ensures ∙ ap (λ (s : SoFar). turn_as t s t.passed t.tried 1) m.0 in
    (e, subst (λ (s : Turn). Ready s.lines) (sym e) (meant-ready t.lines (subst Safe m.0 m.1)))
