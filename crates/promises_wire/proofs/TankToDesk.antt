-- From the tank to the desk: the parts put together. Two months of which the same is noted are known alike, so what is made of that is the same.
use mathlib.Core.Path.{refl, sym, ap, ◌∙◌}
use Rattle.board.specs.Calls.{LooksUp}
use Rattle.promises_order.specs.Places.{row_at}
use Rattle.promises_board.specs.View.{view}
use Rattle.summary.specs.Worked.{summary_of}
use Rattle.promises_wire.specs.Board.{shows_in}
use Rattle.promises_wire.specs.Expected.{records_for, listing_for}
use Rattle.promises_wire.specs.TankToDesk.{TankToDesk}
use Rattle.promises_wire.proofs.Months.{month-listed, month-page}
use Rattle.promises_wire.proofs.SaidSo.{said-so, silent-is, one-bit-fault}
use Rattle.promises_wire.proofs.Fixed.{same_known, same-shown}
use Rattle.promises_wire.proofs.Board.{board-shows, any-board}
use Rattle.promises_wire.proofs.Happens.{any-samples, any-mornings, any-reading, a-listing}

pub tank-to-desk : TankToDesk
tank-to-desk =
    record {
      listed = month-listed;
      page = month-page;
      board = board-shows;
      said-so = said-so;
      silent = silent-is;
      one_bit = one-bit-fault;
      any-samples = any-samples;
      any-mornings = any-mornings;
      any-reading = any-reading;
      any-board = any-board;
      a-listing = a-listing;
      nothing_else = λ n few ms qs sheet other page back m k e one two w v.
          month-listed n few ms sheet page m one w ∙ ap (listing_for n) (same_known ms qs e) ∙ sym (month-listed n few qs other back k two v);
      nothing_else_page = λ n few ms qs sheet other page back m k e.
          month-page n few ms sheet page m ∙ ap (λ l. summary_of (records_for n l)) (same_known ms qs e) ∙ sym (month-page n few qs other back k);
      nothing_else_board = λ start kept ps qs rows others b c e address i small r one two look again.
          let before = view start address in
          let first : LooksUp start address before = record { answers = refl } in
          (board-shows start kept ps rows b address i small r before one first look).1
          ∙ same-shown (row_at start i).settings (row_at start i).gauge address (shows_in before) ps qs e
          ∙ sym (board-shows start kept qs others c address i small r before two first again).1;
    }
