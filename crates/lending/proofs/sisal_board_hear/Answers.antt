-- `lending::sisal_board_hear` meets its contract: what was found, and what hearing by value changed, settle the call, or the refusal does; and the answer
-- is told by what is wrong.
use Rattle.std.proofs.Common.{◌≡◌, ◌∙◌, ℕ, Bool, true, false, Result, ap, refl, sym}
use Rattle.frame.specs.declared.faults.Fault.{Fault}
use Rattle.frame.specs.Pick.{pick}
use Rattle.board.specs.declared.Heard.{Heard}
use Rattle.board.specs.declared.value.Hearing.{Hearing}
use Rattle.board.specs.Rows.{board_of}
use Rattle.board.specs.Order.{in_address_order}
use Rattle.board.specs.Calls.{heard_as}
use Rattle.board.specs.Inside.ByValue.{made, heard_change, wrong_by, said_of}
use Rattle.lending.proofs.Settled.{within, settles}
use Rattle.lending.proofs.sisal_board_hear.Goals as goal

said-by : (t : Bool) (n p : ℕ) → heard_as (pick t n 38) (pick t p 0) ≡ pick t (heard_as n p) (heard_as 38 0)
said-by true n p = refl
said-by false n p = refl

-- what is told of a hearing
tells : (t : Bool) (n p : ℕ) (a : Heard) (r : Result Hearing Fault) → a ≡ said_of (wrong_by r) → (said_of (wrong_by r)).number ≡ pick t n 38 → (said_of (wrong_by r)).place ≡ pick t p 0 → a ≡ pick t (heard_as n p) (heard_as 38 0)
tells t n p a r is number place =
    is ∙ ap (λ (k : ℕ). heard_as k (said_of (wrong_by r)).place) number ∙ ap (heard_as (pick t n 38)) place ∙ said-by t n p

pub put-requires : goal.put-requires
put-requires c =
    within c.args.rows.now c.args.address c.find-f.result c.find-f.ensures _ _ _ _ c.hear.ensures.changes _ (ap heard_change c.in-Ok.is)

pub returns-in-Ok : goal.returns-in-Ok
returns-in-Ok c =
    let rows = c.args.rows.now in
    let s = settles rows c.args.address c.find-f.result c.find-f.ensures _ _ _ _ c.hear.ensures.changes _ (c.put.ensures ∙ sym (ap (λ (r : Result Hearing Fault). made (heard_change r) rows) c.in-Ok.is)) in
    record {
      answers = tells (in_address_order (board_of rows)) _ _ _ c.hear.result (c.said.ensures ∙ sym (ap (λ (r : Result Hearing Fault). said_of (wrong_by r)) c.in-Ok.is)) s.0 (c.hear.ensures.names (board_of rows) c.find-f.ensures);
      leaves = s.1;
    }

pub returns-in-Err : goal.returns-in-Err
returns-in-Err c =
    let rows = c.args.rows.now in
    let s = settles rows c.args.address c.find-f.result c.find-f.ensures _ _ _ _ c.hear.ensures.changes rows (sym (ap (λ (r : Result Hearing Fault). made (heard_change r) rows) c.in-Err.is)) in
    record {
      answers = tells (in_address_order (board_of rows)) _ _ _ c.hear.result (c.said-in-Err.ensures ∙ sym (ap (λ (r : Result Hearing Fault). said_of (wrong_by r)) c.in-Err.is)) s.0 (c.hear.ensures.names (board_of rows) c.find-f.ensures);
      leaves = s.1;
    }
