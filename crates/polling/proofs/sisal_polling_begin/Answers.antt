-- `polling::sisal_polling_begin` meets its contract: the array that is loaded holds the rows that count, and the call by value begins from every such board, so from this one. Assumes nothing.
use Rattle.board.specs.Rows.{board_of}
use Rattle.board.proofs.LentRows.{length-counted}
use Rattle.polling.proofs.sisal_polling_begin.Goals as goal

pub begin-requires : goal.begin-requires
begin-requires c =
    let rows = c.args.rows.now in
    record { board = board_of rows; count = length-counted rows; is = c.load-held.ensures }

pub returns : goal.returns
returns c =
    let rows = c.args.rows.now in
    record { answers = c.begin.ensures.on (board_of rows) (length-counted rows) c.load-held.ensures }
