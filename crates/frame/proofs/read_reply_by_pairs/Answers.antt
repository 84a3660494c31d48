-- `frame::read_reply_by_pairs` meets its contract: both readers give one answer. Assumes nothing.
use Rattle.std.proofs.Common.{sym, ◌∙◌}
use Rattle.frame.proofs.SecondReader.{same-reply}
use Rattle.frame.proofs.read_reply_by_pairs.Goals as goal

pub returns-clause-paired : goal.returns-clause-paired
returns-clause-paired c = let a = c.args in record { answers = c.read_by_pairs.ensures ∙ sym (same-reply a.settings a.address a.count a.reply.now) }
