-- `frame::modes::constants_of` meets its contract: each arm is its mode's constants. Assumes nothing.
use borrow.Author.Tests.{ne_eqb}
use Rattle.frame.specs.Level.{mode_of}
use Rattle.frame.specs.Inside.Fitting.{fractional_fits, decimal_fits, metres20_fits, metres30_fits}
use Rattle.frame.proofs.modes.constants_of.Goals.{in-0, in-1, in-2, in_default}
use Rattle.frame.proofs.modes.constants_of.Goals as goal

pub returns : goal.returns
unfolding mode_of
returns c =
    elim c.match-mode.branch [
      | in-0 w ↦ rw (w.result-is, w.in-0.is) fractional_fits
      | in-1 w ↦ rw (w.result-is, w.in-1.is) decimal_fits
      | in-2 w ↦ rw (w.result-is, w.in-2.is) metres20_fits
      | in_default w ↦
          let r = w.in_default.in_default-own.rest in
          simp (w.result-is, ne_eqb _ _ r.0.0.1, ne_eqb _ _ r.0.1, ne_eqb _ _ r.1) metres30_fits
    ]
