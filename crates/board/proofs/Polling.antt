-- A row's poll: a refusal of what was found, or what the writer of polls answers, is the outcome of the call.
use mathlib.Core.Path.{◌≡◌, refl, sym, ◌∙◌, ap}
use mathlib.Core.Bool.{Bool, true, false}
use mathlib.Core.List.{List, ◌++◌}
use Prim.Native.Nat.{ℕ}
use Rattle.std.specs.Prelude.{Option, Result, Ok, Err, ⊤}
use lib.Dec.{eqb}
use lib.ListN.{drop}
use borrow.Author.Tests.{ne_eqb}
use Rattle.frame.specs.declared.faults.Fault.{Fault}
use Rattle.frame.specs.declared.faults.Fault.TheVariants.{OutOfOrder}
use Rattle.frame.specs.Faults.{number_of, verdict}
use Rattle.frame.specs.Kinds.{is_set}
use Rattle.frame.specs.Line.{first_bytes}
use Rattle.frame.specs.Pick.{pick}
use Rattle.frame.specs.Poll.{WritesPoll, write_poll_fault, poll_line}
use Rattle.frame.proofs.Verdicts.{is-refused, was-passed, was-refused}
use Rattle.frame.proofs.Numbers.{own_number, verdict_number, write-poll-small}
use Rattle.board.specs.declared.Row.{Row}
use Rattle.board.specs.declared.value.Found.{Found}
use Rattle.board.specs.Order.{in_address_order}
use Rattle.board.specs.Calls.{row_poll_number, row_poll_bytes}
use Rattle.board.specs.Inside.ByValue.{Finds, number_in, may_poll, MayPollOn, PollsOn}
use Rattle.board.proofs.Numbers.{or_poll, may-small, polled}

module _ (found : Option Found) (address raise reset : ℕ) (out : List ℕ) (may : Result ⊤ Fault) (asked : MayPollOn found address raise reset may) where
  -- the output by the number
  abbrev left : ℕ → List ℕ
  left n = pick (eqb n 0) (first_bytes 2 (poll_line address (is_set raise) (is_set reset)) ++ drop 2 out) out

  -- what is answered and left, where the board is kept in order, and where it is not
  abbrev Ends : List Row → Bool → Result ℕ Fault → List ℕ → Type 0
  Ends board t answer after = (number_in answer ≡ pick t (row_poll_number board address raise reset out) 38) × (after ≡ pick t (row_poll_bytes board address raise reset out) out)

  -- and the answer whole
  abbrev Whole : List Row → Bool → Result ℕ Fault → Type 0
  Whole board t answer = answer ≡ pick t (verdict (row_poll_number board address raise reset out) 2) (Err OutOfOrder)

  abbrev Asked : List Row → Bool → Result ⊤ Fault → Type 0
  Asked board t answer = answer ≡ pick t (verdict (may_poll board address raise reset) tt) (Err OutOfOrder)

  -- a refusal is the call's
  ends-refused : (board : List Row) (t : Bool) (f : Fault) → Asked board t (Err f) → Whole board t (Err f) × Ends board t (Err f) out
  unfolding row_poll_bytes
  ends-refused board true f is =
      let n = may_poll board address raise reset in
      let w = was-refused n tt f (sym is) in
      let same : n ≡ row_poll_number board address raise reset out =
      sym (ap (λ (t : Bool). pick t (write_poll_fault address out) n) (ne_eqb n 0 w.0)) ∙ polled board address raise reset out in
      let unchanged : left n ≡ out = ap (λ (t : Bool). pick t (left 0) out) (ne_eqb n 0 w.0) in
      let refused : Err f ≡ verdict n 2 = ap (λ (g : Fault). Err g) w.1 ∙ sym (is-refused n 2 w.0) in
      (refused ∙ ap (λ (k : ℕ). verdict k 2) same, (ap number_of w.1 ∙ own_number n w.0 (may-small board address raise reset) ∙ same, sym unchanged ∙ ap left same))
  ends-refused board false f is = let last : f ≡ OutOfOrder = cc in (ap (λ (g : Fault). Err g) last, (ap number_of last, refl))

  pub poll-refused : (f : Fault) → may ≡ Err f → PollsOn found address raise reset out (Err f) out
  poll-refused f is =
      let ends = λ (board : List Row) (finds : Finds board address found). ends-refused board (in_address_order board) f (sym is ∙ asked.on board finds) in
      record { whole = λ board finds. (ends board finds).0; on = λ board finds. (ends board finds).1 }

  -- where nothing is refused it is what the writer answers
  ends-written : (board : List Row) (t : Bool) (u : ⊤) → Asked board t (Ok u) → (w : Result ℕ Fault) (after : List ℕ) → WritesPoll address (is_set raise) (is_set reset) out w after → Whole board t w × Ends board t w after
  unfolding row_poll_bytes
  ends-written board true u is w after writes =
      let n = may_poll board address raise reset in
      let none : n ≡ 0 = was-passed n tt u (sym is) in
      let same : write_poll_fault address out ≡ row_poll_number board address raise reset out =
      sym (ap (λ (k : ℕ). or_poll k address out) none) ∙ polled board address raise reset out in (
        writes.answers ∙ ap (λ (k : ℕ). verdict k 2) same,
        (ap number_in writes.answers ∙ verdict_number number_in (λ k. refl) (λ f. refl) (write_poll_fault address out) 2 (write-poll-small address out) ∙ same, writes.leaves ∙ ap left same),
      )
  ends-written board false u is w after writes = cc

  pub poll-written : (u : ⊤) → may ≡ Ok u → (w : Result ℕ Fault) (after : List ℕ) → WritesPoll address (is_set raise) (is_set reset) out w after → PollsOn found address raise reset out w after
  poll-written u is w after writes =
      let ends = λ (board : List Row) (finds : Finds board address found). ends-written board (in_address_order board) u (sym is ∙ asked.on board finds) w after writes in
      record { whole = λ board finds. (ends board finds).0; on = λ board finds. (ends board finds).1 }
