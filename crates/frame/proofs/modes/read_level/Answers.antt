-- `frame::modes::read_level` meets its contract: each return is by the mode of its number. Assumes nothing.
use Rattle.std.proofs.Common.{sym, ap, ◌∙◌, arith}
use Rattle.frame.specs.Level.{Mode}
use Rattle.frame.specs.Inside.Packed.{level_code}
use Rattle.frame.proofs.Fitting.{fractional-at, decimal-at, metres20-at, metres30-at}
use Rattle.frame.proofs.modes.read_level.Goals as goal

pub returns-then-mode-eq0 : goal.returns-then-mode-eq0
returns-then-mode-eq0 c = let a = c.args in c.read.ensures ∙ ap (λ (m : Mode). level_code m a.n) (sym (fractional-at a.mode c.if-mode-eq0.true))

pub returns-then-mode-lt2 : goal.returns-then-mode-lt2
returns-then-mode-lt2 c = let a = c.args in c.read-then-mode-lt2.ensures ∙ ap (λ (m : Mode). level_code m a.n) (sym (decimal-at a.mode c.if-mode-lt2.true c.if-mode-eq0.false))

pub returns-then-mode-eq2 : goal.returns-then-mode-eq2
returns-then-mode-eq2 c = let a = c.args in c.read-then-mode-eq2.ensures ∙ ap (λ (m : Mode). level_code m a.n) (sym (metres20-at a.mode c.if-mode-eq2.true))

pub returns : goal.returns
returns c = let a = c.args in c.read-2.ensures ∙ ap (λ (m : Mode). level_code m a.n) (sym (metres30-at a.mode (omega (arith, c.if-mode-lt2.false)) c.if-mode-eq2.false))
