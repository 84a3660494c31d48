-- `frame::writing::marks` meets its contract: the bytes counted are the first ones of the definition. Assumes nothing.
use Rattle.std.proofs.Common.{◌∙◌}
use Rattle.frame.specs.Line.{first_bytes}
use Rattle.frame.proofs.writing.marks.Goals as goal

pub returns-then-short : goal.returns-then-short
unfolding first_bytes
returns-then-short c = c.marks.ensures ∙ rw (c.to_be_bytes-bytes.ensures, c.if-short.true)

pub returns : goal.returns
unfolding first_bytes
returns c = c.marks-2.ensures ∙ rw (c.to_be_bytes-bytes.ensures, c.if-short.false)
