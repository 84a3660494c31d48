-- `frame::modes::write` meets its contract: the codes are those of its constants, and constants that fit a mode write it. Assumes nothing.
use Rattle.std.proofs.Common.{ap, ◌∙◌, ℕ}
use Rattle.frame.specs.declared.constants.Constants.{Constants}
use Rattle.frame.specs.Inside.Constants.{placed_at}
use Rattle.frame.proofs.Fitting.{write-is}
use Rattle.frame.proofs.modes.write.Goals as goal

pub returns : goal.returns
returns g c =
    let k = g.M.Mode.CONSTANTS in
    let v = c.args.v in
    c.placed.ensures ∙ ap (λ (h : Constants). placed_at v c.codes.result h.first h.after h.largest) c.CONSTANTS.ensures
    ∙ ap (λ (codes : ℕ). placed_at v codes k.first k.after k.largest) c.codes.ensures.0
    ∙ write-is g.M.Mode.paper k g.met.M.Mode.fits v
