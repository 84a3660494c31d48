-- `polling::beginning::replies_of`: the rows passed have their replies, and no reply stands behind them.
use Rattle.std.proofs.Common.{◌≡◌, ◌++◌, ◌-◌, map, take, replicate}
use Rattle.polling.specs.Beginning.{no_reply, reply_for}
use Rattle.polling.proofs.beginning.replies_of.Given as goal

abbrev pub invariant-loop-i : goal.invariant-loop-i
invariant-loop-i l = l.replies ≡ map (reply_for l.minute) (take l.i l.fn.held) ++ replicate (30 - l.i) no_reply
