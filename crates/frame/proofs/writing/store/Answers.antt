-- `frame::writing::store` meets its contract: the 5 or 7 bytes put are the first ones of the definition. Assumes nothing.
use Rattle.frame.specs.Line.{first_bytes}
use Rattle.frame.proofs.writing.store.Goals as goal

pub returns-then-short : goal.returns-then-short
unfolding first_bytes
returns-then-short c = rw (c.copy_from_slice.ensures.after, c.to_be_bytes-bytes.ensures, c.if-short.true)

pub returns-else-short : goal.returns-else-short
unfolding first_bytes
returns-else-short c = rw (c.copy_from_slice-else-short.ensures.after, c.to_be_bytes-bytes.ensures, c.if-short.false)
