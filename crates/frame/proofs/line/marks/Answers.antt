-- `frame::line::marks` meets its contract: the sum is that of the definition, and a byte has at most 8 ones. Assumes nothing.
use Rattle.std.proofs.Common.{rules, ◌≡◌, ◌∙◌}
use Rattle.std.specs.Int.Count.{ones}
use Rattle.std.specs.List.{sum_by}
use Rattle.frame.proofs.Counted.{marks-sum}
use Rattle.frame.proofs.line.marks.Goals as goal

pub returns : goal.returns
returns c = let sum : c.sum.result ≡ sum_by ones c.args.reply.now = search rules in sum ∙ marks-sum c.args.reply.now
