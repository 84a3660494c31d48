-- `board::value::poll` meets its contract: what may not be polled is refused, and else it is what `write_poll` answers.
use Rattle.std.proofs.lemmas.Result.{err_from_is_err_and}
use Rattle.board.proofs.Polling.{poll-refused, poll-written}
use Rattle.board.proofs.value.poll.Goals as goal

pub returns-in_err-may_poll : goal.returns-in_err-may_poll
returns-in_err-may_poll c =
    let p = err_from_is_err_and c.from_residual.result c.from_residual.ensures.1 in
    rw (p.1, p.2) (poll-refused _ _ _ _ _ _ c.may_poll.ensures _ c.in_err-may_poll.was)

pub returns : goal.returns
returns c = poll-written _ _ _ _ _ _ c.may_poll.ensures _ c.in_ok-may_poll.was _ _ c.write_poll.ensures
