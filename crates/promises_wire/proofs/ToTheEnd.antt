-- A round begun from the board is run to its end by `Ending`; saving it has an outcome whatever it is.
use mathlib.Core.Path.{◌≡◌, refl, sym, ap}
use mathlib.Core.Bool.{Bool, true, false}
use mathlib.Core.List.{List, [], map}
use native.Mathlib.Omega.{arith}
use Rattle.frame.specs.Pick.{pick}
use Rattle.board.specs.declared.Row.{Row}
use Rattle.board.specs.Rows.{board_of}
use Rattle.board.specs.Order.{in_address_order}
use Rattle.round.specs.declared.Round.{Round}
use Rattle.polling.specs.declared.Begun.{Begun}
use Rattle.polling.specs.declared.Pace.{Pace}
use Rattle.polling.specs.declared.Polling.{Polling}
use Rattle.polling.specs.Pace.{bad_pace}
use Rattle.polling.specs.Beginning.{used_rows, reply_for, begun_with, beginning, nothing_begun}
use Rattle.polling.specs.Meant.{is_over}
use Rattle.polling.specs.Calls.{begun, BeginsPolling}
use Rattle.promises_card.proofs.Round.OneOutcome.{round-outcome}
use Rattle.promises_polling.proofs.Paces.{fine-pace}
use Rattle.promises_wire.specs.Running.{Stood, Running, just_begun, Enrolled}
use Rattle.promises_wire.specs.ToTheEnd.{Comes, Enough, StandsFrom, Over, ToTheEnd}
use Rattle.promises_wire.proofs.Running.{run-by-the-recorder, beginning-is}
use Rattle.promises_wire.proofs.Ending.{round-ends}

-- From a board in order.
module _ (p : Pace) (fine : bad_pace p ≡ false) (rows : List Row) (ordered : in_address_order (board_of rows) ≡ true) (ok : Enrolled (used_rows (board_of rows))) where
  abbrev b : Begun
  b = begun (beginning 0 (board_of rows)) 0

  begins : BeginsPolling rows 0 b
  begins = record { answers = sym (ap (λ (c : Bool). pick c (begun (beginning 0 (board_of rows)) 0) (begun nothing_begun 38)) ordered) }

  is-over : (stood : List Stood) (end : Polling) → Running p b.polling stood [] end → is_over end ≡ true → Over p rows stood
  is-over stood end run over =
      record {
        end = end;
        way = record { enrolled = ok; minute = 0; begun = b; begins = begins; accepted = refl; paced = fine; calls = run };
        over = over;
        ran = run-by-the-recorder.ran rows 0 b begins refl ok p fine stood [] end run;
      }

  to_the_end : (comes : Comes) → Enough p comes → (stood : List Stood) × StandsFrom p comes stood × Over p rows stood
  to_the_end comes enough =
      let from : beginning 0 (board_of rows) ≡ begun_with (map (reply_for 0) (used_rows (board_of rows))) = beginning-is 0 (board_of rows) in
      let drawing : b.polling.listening ≡ 0 = ap (λ (w : Polling). w.listening) from in
      let tried : b.polling.tried ≡ 0 = ap (λ (w : Polling). w.tried) from in
      let some = (fine-pace p fine).tries in
      let e = round-ends p fine b.polling b.polling.round.count [] b.polling just_begun drawing (omega (arith, tried, some)) (omega arith) comes enough in
      (e.stood, e.from-these, is-over e.stood e.end e.run e.over)

pub run-to-the-end : ToTheEnd
run-to-the-end =
    record {
      whatever = to_the_end;
      saved = λ n ms sheet page month p rows stood w ran allowance.
          let r : Round = record { replies = w.round.replies; count = w.at } in
          let s = round-outcome.plain sheet r allowance in
          (s.some.1, run-by-the-recorder.saved n ms sheet page month p rows stood w ran r (refl, refl) allowance s.some.0 s.some.1 s.allowed);
    }
