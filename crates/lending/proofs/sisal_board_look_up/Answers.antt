-- `lending::sisal_board_look_up` meets its contract: a look at what was found is a look at the board, as it is told.
use Rattle.std.proofs.Common.{◌∙◌, sym, ap}
use Rattle.board.specs.Rows.{board_of}
use Rattle.board.specs.Inside.ByValue.{told_look}
use Rattle.lending.proofs.sisal_board_look_up.Goals as goal

pub returns-in-Ok : goal.returns-in-Ok
returns-in-Ok c = record { answers = sym (ap told_look c.in-Ok.is) ∙ c.look.ensures.on (board_of c.args.rows.now) c.find-f.ensures }

pub returns-in-Err : goal.returns-in-Err
returns-in-Err c =
    record { answers = c.refused.ensures ∙ sym (ap told_look c.in-Err.is) ∙ c.look.ensures.on (board_of c.args.rows.now) c.find-f.ensures }
