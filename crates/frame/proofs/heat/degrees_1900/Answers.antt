-- `frame::heat::degrees_1900` meets its contract: the hundreds and the degrees are the two parts of the definition. Assumes nothing.
use Rattle.frame.specs.Temperature.{put_degrees_1900}
use Rattle.frame.proofs.heat.degrees_1900.Goals as goal

pub returns : goal.returns
unfolding put_degrees_1900
returns c = rw (c.hundreds_1900.ensures, c.put_degrees.ensures, c.min-within.ensures)
