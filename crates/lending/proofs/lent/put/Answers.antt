-- `lending::lent::put` meets its contract: the run that is cut out is carried over, and stands where it stood.
use Rattle.std.proofs.Common.{◌∙◌, sym, ap, subst, length}
use Rattle.board.specs.declared.value.Way.{Way}
use Rattle.board.specs.Inside.ByValue.{up_by, down_by, carry, Within}
use Rattle.lending.proofs.Runs.{on-within, back-within, put-on, put-back}
use Rattle.lending.proofs.lent.put.Goals as goal

pub returns-in-Onward : goal.returns-in-Onward
returns-in-Onward c =
    let k = c.args.c in
    let rows = c.args.rows.now in
    let fits = on-within (subst (λ (w : Way). Within (length rows) (up_by w) (down_by w) k.count k.at) c.in-Onward.is c.requires) in
    put-on k.at k.count k.row rows c.carry_on.new.run c.carry_on.ensures fits ∙ sym (ap (λ (w : Way). carry (up_by w) (down_by w) k.count k.at k.row rows) c.in-Onward.is)

pub returns-in-Back : goal.returns-in-Back
returns-in-Back c =
    let k = c.args.c in
    let rows = c.args.rows.now in
    let fits = back-within (subst (λ (w : Way). Within (length rows) (up_by w) (down_by w) k.count k.at) c.in-Back.is c.requires) in
    put-back k.at k.count k.row rows c.carry_back.new.run c.carry_back.ensures fits.0 fits.1 ∙ sym (ap (λ (w : Way). carry (up_by w) (down_by w) k.count k.at k.row rows) c.in-Back.is)
