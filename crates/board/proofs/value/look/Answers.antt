-- `board::value::look` meets its contract: at each return the tests that led there give the number, and the row told of is the one found. The answer
-- whole says what is told of it (`looks`).
use Rattle.std.proofs.Common.{◌≡◌, ◌∙◌, ℕ, Bool, true, false, List, Option, None, Some, eqb, refl, sym, ap, subst, arith}
use Rattle.std.proofs.lemmas.Result.{err_from_is_err_and}
use Rattle.std.specs.Prelude.{Result, Ok, Err, ok_or}
use borrow.Author.Tests.{eqb-false}
use Rattle.frame.specs.declared.faults.Fault.{Fault}
use Rattle.frame.specs.declared.faults.Fault.TheVariants.{BadAddress, Unknown, OutOfOrder}
use Rattle.frame.specs.Faults.{fault, verdict}
use Rattle.frame.specs.Pick.{pick}
use Rattle.frame.proofs.Numbers.{own_number}
use Rattle.board.proofs.OneRow.{no-other, answers-none, answers-some}
use Rattle.board.proofs.Numbers.{find-11, find-17, find-0, find-small}
use Rattle.board.specs.declared.Row.{Row}
use Rattle.board.specs.declared.Looked.{Looked}
use Rattle.board.specs.declared.value.Found.{Found}
use Rattle.board.specs.Calls.{find_number, looked_at, row_told, refused_look}
use Rattle.board.specs.Order.{in_address_order, if_in_order}
use Rattle.board.specs.Rows.{row_of}
use Rattle.board.specs.Inside.ByValue.{Finds, RowAt, told_look, LooksOn}
use Rattle.board.proofs.value.look.Goals as goal

-- what is answered by a number
abbrev by : List Row → ℕ → ℕ → Result Looked Fault
by board address n = verdict n (row_told (row_of address board))

-- as it is told
told-by : (board : List Row) (address : ℕ) → told_look (by board address (find_number board address)) ≡ looked_at board address
unfolding looked_at
told-by board address = go (eqb n 0) refl
  where
    n : ℕ
    n = find_number board address

    told : Looked
    told = row_told (row_of address board)

    go : (t : Bool) → eqb n 0 ≡ t → told_look (pick t (Ok told) (Err (fault n))) ≡ pick t told (refused_look n)
    go true e = refl
    go false e = ap refused_look (own_number n (eqb-false n 0 e) (find-small board address))

looks : (found : Option Found) (address : ℕ) (answer : Result Looked Fault)
    → ((board : List Row) → Finds board address found → answer ≡ if_in_order board (by board address (find_number board address)) (Err OutOfOrder)) → LooksOn found address answer
looks found address answer whole = record {
  whole = whole;
  on = λ board finds. ap told_look (whole board finds) ∙ tells board (in_address_order board);
}
  where
    tells : (board : List Row) (t : Bool) → told_look (pick t (by board address (find_number board address)) (Err OutOfOrder)) ≡ pick t (looked_at board address) (refused_look 38)
    tells board true = told-by board address
    tells board false = refl

-- which way the `?` went
nothing : (found : Option Found) (e : Fault) (r : Result Found Fault) (f : Fault) → r ≡ ok_or found e → r ≡ Err f → (found ≡ None) × (f ≡ e)
nothing None e r f is was = (refl, cc)
nothing (Some x) e r f is was = cc

something : (found : Option Found) (e : Fault) (r : Result Found Fault) (f : Found) → r ≡ ok_or found e → r ≡ Ok f → found ≡ Some f
something None e r f is was = cc
something (Some x) e r f is was = cc

pub returns-in_err-f : goal.returns-in_err-f
returns-in_err-f c =
    let p = err_from_is_err_and c.from_residual.result c.from_residual.ensures.1 in
    let none = nothing _ _ _ _ c.ok_or.ensures.value c.in_err-f.was in
    looks _ _ _ (answers-none c.args.found c.args.address _ (Err OutOfOrder) _ none.0 (p.1 ∙ ap (λ (f : Fault). Err f) (p.2 ∙ none.1)))

pub returns-then-address-gt999 : goal.returns-then-address-gt999
returns-then-address-gt999 c =
    looks _ _ _
    (answers-some _ c.in_ok-f.f _ (Err BadAddress) (Err OutOfOrder) _ (something _ _ _ _ c.ok_or.ensures.value c.in_ok-f.was)
    (λ board sees. sym (ap (by board c.args.address) (find-11 board _ c.if-address-gt999.true))))

pub returns-in_default : goal.returns-in_default
returns-in_default c =
    looks _ _ _
    (answers-some _ c.in_ok-f.f _ (Err Unknown) (Err OutOfOrder) _ (something _ _ _ _ c.ok_or.ensures.value c.in_ok-f.was)
    (λ board sees.
    let off = subst (RowAt board c.args.address c.in_ok-f.f.spot) (no-other c.in_ok-f.f.row c.in_default.not-Some) sees.row in
    sym (ap (by board c.args.address) (find-17 board _ c.if-address-gt999.false off))))

pub returns : goal.returns
returns c =
    looks _ _ _
    (answers-some _ c.in_ok-f.f _ _ (Err OutOfOrder) _ (something _ _ _ _ c.ok_or.ensures.value c.in_ok-f.was)
    (λ board sees.
    let stands = subst (RowAt board c.args.address c.in_ok-f.f.spot) c.in-Some.is sees.row in
    ap (λ (x : Looked). Ok x) (c.tell.ensures ∙ ap row_told stands.there)
    ∙ sym (ap (by board c.args.address) (find-0 board _ c.if-address-gt999.false (omega (arith, stands.place, stands.on))))))
