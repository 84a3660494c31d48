-- `frame::modes::read_level_by_pairs` meets its contract: of the fractional mode the plain reader, of any other its pairs by the constants that were
-- handed over. Assumes nothing.
use Rattle.std.proofs.Common.{◌∙◌}
use Rattle.frame.proofs.SecondReader.{second_is, second-0, second-else}
use Rattle.frame.proofs.modes.read_level_by_pairs.Goals as goal

pub returns-then-mode-eq0 : goal.returns-then-mode-eq0
returns-then-mode-eq0 c = let a = c.args in c.read.ensures ∙ second-0 a.mode a.n c.if-mode-eq0.true ∙ second_is a.mode a.n

pub returns : goal.returns
returns c = let a = c.args in c.read_by.ensures ∙ second-else a.mode a.n a.k c.requires c.if-mode-eq0.false ∙ second_is a.mode a.n
