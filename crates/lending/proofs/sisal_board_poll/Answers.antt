-- `lending::sisal_board_poll` meets its contract: the poll of what was found is the poll of the board's row.
use Rattle.std.proofs.Common.{◌∙◌, sym, ap}
use Rattle.board.specs.Rows.{board_of}
use Rattle.board.specs.Inside.ByValue.{number_in}
use Rattle.lending.proofs.sisal_board_poll.Goals as goal

pub returns-in-Ok : goal.returns-in-Ok
returns-in-Ok c =
    let p = c.poll.ensures.on (board_of c.args.rows.now) c.find-f.ensures in
    record { answers = sym (ap number_in c.in-Ok.is) ∙ p.0; leaves = p.1 }

pub returns-in-Err : goal.returns-in-Err
returns-in-Err c =
    let p = c.poll.ensures.on (board_of c.args.rows.now) c.find-f.ensures in
    record { answers = c.number.ensures ∙ sym (ap number_in c.in-Err.is) ∙ p.0; leaves = p.1 }
