-- `lending::lent::load` meets its contract: thirty rows are the board, and no free one stands behind them; fewer rows are the whole board, with free ones
-- behind them.
use Rattle.std.proofs.Common.{◌≡◌, ◌∙◌, ℕ, ◌-◌, ◌++◌, ◌<◌, List, sym, ap, append-nil, length, take, drop, replicate, arith, rules}
use Rattle.std.proofs.lemmas.List.{drop-replicate}
use lib.Seq.{take_all}
use Rattle.board.specs.declared.Row.{Row}
use Rattle.board.specs.Row.{free_row}
use Rattle.board.specs.Inside.ByValue.{filled}
use Rattle.board.proofs.LentRows.{length-counted}
use Rattle.lending.proofs.lent.load.Goals as goal

pub returns : goal.returns
returns c =
    let ys = c.args.rows.now in
    let few : length ys < 30 = search rules in
    ap (λ (zs : List Row). zs ++ drop (length ys) c.free_rows-held.result) c.copy_from_slice.ensures.after
    ∙ ap (λ (zs : List Row). ys ++ drop (length ys) zs) c.free_rows-held.ensures
    ∙ ap (λ (zs : List Row). ys ++ zs) (drop-replicate (length ys) 30 free_row)
    ∙ ap filled (sym (take_all 30 ys (omega arith)))

pub returns-in-Some : goal.returns-in-Some
returns-in-Some c =
    let ys = c.args.rows.now in
    let none : 30 - length (take 30 ys) ≡ 0 = omega (arith, length-counted ys, c.in-Some.ensures.cases.enough) in
    c.in-Some.ensures.cases.same ∙ sym (append-nil (take 30 ys)) ∙ ap (λ (n : ℕ). take 30 ys ++ replicate n free_row) (sym none)
