-- `polling::beginning::begin` meets its contract: the board's search tells whether it is kept in order, and how many rows are in use (`UsedRows`).
use Rattle.std.proofs.Common.{◌∙◌, ℕ, List, ap, subst}
use mathlib.Core.Path.{ap₂}
use Rattle.round.specs.declared.Polled.{Polled}
use Rattle.board.proofs.OneRow.{no-other}
use Rattle.board.specs.Inside.ByValue.{Finds}
use Rattle.polling.specs.Inside.Boards.{begun_by}
use Rattle.polling.proofs.UsedRows.{none_kept, all-kept}
use Rattle.polling.proofs.beginning.begin.Goals as goal

pub returns-in_default : goal.returns-in_default
returns-in_default c =
    let a = c.args in
    record {
      on = λ board n e. c.begun_with.ensures ∙ ap₂ (λ (l : List Polled) (k : ℕ). begun_by l 0 k) c.no_replies.ensures c.number.ensures
          ∙ none_kept board a.minute (subst (Finds board 0) (no-other c.find.result c.in_default.not-Some) (c.find.ensures.on board n e));
    }

pub replies_of-replies-requires : goal.replies_of-replies-requires
replies_of-replies-requires c =
    let h = c.requires in
    (c.in-Some.ensures.on h.board h.count h.is).bounds.free_few

pub returns : goal.returns
returns c =
    let a = c.args in
    record {
      on = λ board n e.
          let sees = c.in-Some.ensures.on board n e in
          c.begun_with-2.ensures ∙ ap (λ (l : List Polled). begun_by l c.in-Some.found.free 0) c.replies_of-replies.ensures
          ∙ all-kept board a.minute a.held c.in-Some.found.free sees.order e sees.vacant;
    }
