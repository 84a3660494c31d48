-- `board::value::may_poll` meets its contract: at each return the tests that led there give the number, and the mark asked is that of the row found.
use Rattle.std.proofs.Common.{◌≡◌, ◌∙◌, ℕ, Bool, true, false, List, Some, sym, ap, subst, arith}
use Rattle.std.specs.Prelude.{Result, Ok, Err, ⊤}
use Rattle.frame.specs.declared.faults.Fault.{Fault}
use Rattle.frame.specs.declared.faults.Fault.TheVariants.{BadAddress, Unknown, RaiseOrReset, OutOfOrder}
use Rattle.frame.specs.Faults.{verdict}
use Rattle.board.proofs.OneRow.{no-other, answers-some}
use Rattle.board.proofs.Numbers.{may-11, may-17, may-28, may-both, may-0, denied}
use Rattle.board.specs.declared.Row.{Row}
use Rattle.board.specs.declared.value.Found.{Found}
use Rattle.board.specs.Gauge.{unmarked}
use Rattle.board.specs.Inside.ByValue.{Sees, Stands, RowAt}
use Rattle.board.proofs.value.may_poll.Goals as goal
use Rattle.board.proofs.value.may_poll.Goals.{then-unmarked-via-then-unmarked, then-unmarked-via-else-unmarked+then-at_once}

-- what is answered by a number
abbrev told : ℕ → Result ⊤ Fault
told n = verdict n tt

-- the row that was found
at : (board : List Row) (f : Found) (address : ℕ) (row : Row) → f.row ≡ Some row → Sees board address f → Stands board address f.spot row
at board f address row is sees = subst (RowAt board address f.spot) is sees.row

-- the test of it is the test of the address's row
asked : (board : List Row) (address spot raise reset : ℕ) (row : Row) (b : Bool) → Stands board address spot row → unmarked row.gauge raise reset ≡ b → denied board address raise reset ≡ b
asked board address spot raise reset row b stands e = sym (ap (λ (y : Row). unmarked y.gauge raise reset) stands.there) ∙ e

pub returns-then-address-gt999 : goal.returns-then-address-gt999
returns-then-address-gt999 c =
    record { on = answers-some _ c.in-Some.f _ (Err BadAddress) (Err OutOfOrder) _ c.in-Some.is (λ board sees. sym (ap told (may-11 board _ _ _ c.if-address-gt999.true))) }

pub returns-in_default-row : goal.returns-in_default-row
returns-in_default-row c =
    record {
      on = answers-some _ c.in-Some.f _ (Err Unknown) (Err OutOfOrder) _ c.in-Some.is
          (λ board sees. sym (ap told (may-17 board _ _ _ c.if-address-gt999.false (subst (RowAt board c.args.address c.in-Some.f.spot) (no-other c.in-Some.f.row c.in_default-row.not-Some) sees.row))));
    }

pub returns-then-unmarked : goal.returns-then-unmarked
returns-then-unmarked c =
    let a = c.args in
    record {
      on = answers-some _ c.in-Some.f _ (Err RaiseOrReset) (Err OutOfOrder) _ c.in-Some.is
          (λ board sees.
          let stands = at board c.in-Some.f a.address c.in-Some-row.row c.in-Some-row.is sees in
          elim c.then-unmarked.branch [
            | then-unmarked-via-then-unmarked w ↦ sym (ap told (may-28 board _ _ _ c.if-address-gt999.false (omega (arith, stands.place, stands.on)) (asked board a.address _ a.raise a.reset _ true stands (sym c.unmarked.ensures ∙ w.if-unmarked.true))))
            | then-unmarked-via-else-unmarked+then-at_once w ↦ sym (ap told (may-both board _ _ _ c.if-address-gt999.false (omega (arith, stands.place, stands.on)) (asked board a.address _ a.raise a.reset _ false stands (sym c.unmarked.ensures ∙ w.if-unmarked.false)) (sym w.at_once.ensures ∙ w.if-at_once.true)))
          ]);
    }

pub returns : goal.returns
returns c =
    let a = c.args in
    record {
      on = answers-some _ c.in-Some.f _ (Ok tt) (Err OutOfOrder) _ c.in-Some.is
          (λ board sees.
          let stands = at board c.in-Some.f a.address c.in-Some-row.row c.in-Some-row.is sees in
          sym (ap told (may-0 board _ _ _ c.if-address-gt999.false (omega (arith, stands.place, stands.on)) (asked board a.address _ a.raise a.reset _ false stands (sym c.unmarked.ensures ∙ c.if-unmarked.false)) (sym c.at_once.ensures ∙ c.if-at_once.false))));
    }
