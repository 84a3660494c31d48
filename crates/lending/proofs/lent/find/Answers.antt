-- `lending::lent::find` meets its contract: what is found on the array by value is found on the board that it was loaded from.
use Rattle.board.specs.Rows.{board_of}
use Rattle.board.proofs.LentRows.{length-counted}
use Rattle.lending.proofs.lent.find.Goals as goal

pub returns : goal.returns
returns c =
    let ys = c.args.rows.now in
    c.find.ensures.on (board_of ys) (length-counted ys) c.load-held.ensures
