-- `lending::sisal_board_remove` meets its contract: what was found, and what removing by value changed, settle the call, or the refusal does.
use Rattle.std.proofs.Common.{◌∙◌, Result, sym, ap}
use Rattle.frame.specs.declared.faults.Fault.{Fault}
use Rattle.board.specs.declared.value.Change.{Change}
use Rattle.board.specs.Inside.ByValue.{made, change_in, number_in}
use Rattle.lending.proofs.Settled.{within, settles}
use Rattle.lending.proofs.sisal_board_remove.Goals as goal

pub put-requires : goal.put-requires
put-requires c =
    within c.args.rows.now c.args.address c.find-f.result c.find-f.ensures _ _ _ _ c.remove.ensures _ (ap change_in c.in-Ok.is)

pub returns-in-Ok : goal.returns-in-Ok
returns-in-Ok c =
    let rows = c.args.rows.now in
    let s = settles rows c.args.address c.find-f.result c.find-f.ensures _ _ _ _ c.remove.ensures _ (c.put.ensures ∙ sym (ap (λ (r : Result Change Fault). made (change_in r) rows) c.in-Ok.is)) in
    record { answers = sym (ap number_in c.in-Ok.is) ∙ s.0; leaves = s.1 }

pub returns-in-Err : goal.returns-in-Err
returns-in-Err c =
    let rows = c.args.rows.now in
    let s = settles rows c.args.address c.find-f.result c.find-f.ensures _ _ _ _ c.remove.ensures rows (sym (ap (λ (r : Result Change Fault). made (change_in r) rows) c.in-Err.is)) in
    record { answers = c.number.ensures ∙ sym (ap number_in c.in-Err.is) ∙ s.0; leaves = s.1 }
