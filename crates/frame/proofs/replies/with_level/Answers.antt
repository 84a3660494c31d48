-- `frame::replies::with_level` meets its contract: the two cases of the temperature are those of the definition. Assumes nothing.
use Rattle.std.proofs.Common.{◌≡◌, sym, ap, ◌∙◌}
use Rattle.frame.specs.Temperature.{told, bad}
use Rattle.frame.specs.Reply.{heat_in}
use Rattle.frame.specs.Inside.Packed.{heat_for, heat_reply}
use Rattle.frame.proofs.replies.with_level.Goals as goal

pub returns-in_default : goal.returns-in_default
unfolding heat_reply
returns-in_default c settings count same =
    let is : heat_in settings count c.args.n ≡ bad = sym same ∙ ap heat_for c.in_default.is in
    rw is

pub returns : goal.returns
unfolding heat_reply
returns c settings count same =
    let is : heat_in settings count c.args.n ≡ told c.in-Some.temperature = sym same ∙ ap heat_for c.in-Some.is in
    rw is
