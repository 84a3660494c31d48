-- What is drawn for one try is its delay, and then what the calls of request 15 put down of its poll: one call with room for all of it does.
use mathlib.Core.Path.{◌≡◌, refl, sym, ap, ap₂, subst, ◌∙◌}
use mathlib.Core.Bool.{Bool, true, false, not}
use mathlib.Core.List.{List, [], ◌∷◌, ◌++◌, append-nil}
use Prim.Native.Nat.{ℕ, ◌≤◌}
use native.Mathlib.Omega.{arith}
use lib.Dec.{eqb}
use lib.ListN.{length, take, drop, replicate}
use lib.Seq.{take_all, drop-length, take-append_seam}
use borrow.Author.Tests.{le-ltb}
use Rattle.frame.specs.declared.Poll.{Poll}
use Rattle.frame.specs.Pick.{pick}
use Rattle.frame.specs.Line.{first_bytes, formed}
use Rattle.frame.specs.Faults.{first_of, fault}
use Rattle.frame.specs.Poll.{WritesPoll, write_poll_fault, poll_line}
use Rattle.drawing.specs.Pulses.{drawing}
use Rattle.drawing.specs.Calls.{draw_fault, done, portion, Draws}
use Rattle.polling.specs.declared.Pace.{Pace}
use Rattle.polling.specs.Pace.{bad_pace}
use Rattle.polling.specs.Meant.{poll_drawn, try_drawn}
use Rattle.promises_frame.specs.Calls.{PollLeft}
use Rattle.promises_frame.proofs.Lines.{length-first_bytes}
use Rattle.promises_drawing.specs.Sending.{Sending, begun, called}
use Rattle.promises_drawing.proofs.Places.{drawing-long}
use Rattle.promises_polling.specs.Turns.{PollSamples}
use Rattle.promises_polling.proofs.Paces.{fine-pace}
use Rattle.std.specs.Prelude.{Ok, Err}

module _ (address : ℕ) (small : address ≤ 999) where
  abbrev pub poll : Poll
  poll = record { address = address; raise = false; reset = false }

  abbrev pub poll_bytes : List ℕ
  poll_bytes = first_bytes 2 (poll_line address false false)

  write-fine : write_poll_fault address (0 ∷ 0 ∷ []) ≡ 0
  unfolding write_poll_fault first_of
  write-fine = ap (λ (b : Bool). pick b 11 0) (le-ltb 999 address small)

  -- The writer of polls leaves these bytes in an output of two.
  writes : WritesPoll address false false (0 ∷ 0 ∷ []) (Ok 2) (poll_bytes ++ [])
  writes =
      record {
        answers = sym (ap (λ (n : ℕ). pick (eqb n 0) (Ok 2) (Err (fault n))) write-fine);
        leaves = sym (ap (λ (n : ℕ). pick (eqb n 0) (poll_bytes ++ []) (0 ∷ 0 ∷ [])) write-fine);
      }

  two-long : length poll_bytes ≡ 2
  two-long = length-first_bytes 2 (poll_line address false false) (omega arith)

  left-first : PollLeft poll poll_bytes
  left-first =
      record {
        out = 0 ∷ 0 ∷ [];
        after = poll_bytes ++ [];
        said = Ok 2;
        long_enough = omega arith;
        call = writes;
        first = sym (ap (λ (n : ℕ). take n (poll_bytes ++ [])) (sym two-long) ∙ take-append_seam poll_bytes []);
      }

  pub is-formed : formed 16 poll_bytes ≡ true
  unfolding formed first_bytes
  is-formed = refl

  module _ (p : Pace) (fine : bad_pace p ≡ false) where
    abbrev pub sent : List ℕ
    sent = drawing p.low p.still 16 poll_bytes

    draw-fine : draw_fault p.low p.still 16 poll_bytes ≡ 0
    unfolding draw_fault first_of
    draw-fine = ap₂ (λ (x y : Bool). pick x 20 (pick (not y) 14 0)) (fine-pace p fine).pulse is-formed

    whole-portion : portion p.low p.still 16 poll_bytes 0 (length sent) ≡ sent
    unfolding portion
    whole-portion = take_all (length sent) sent (omega arith)

    -- One call with room for all of it.
    one-call : Draws p.low p.still 16 poll_bytes 0 sent (done (length sent) 0) sent
    one-call =
        let put : List ℕ = portion p.low p.still 16 poll_bytes 0 (length sent) in
        record {
          answers = sym (ap (λ (n : ℕ). pick (eqb n 0) (done (length put) 0) (done 0 n)) draw-fine ∙ ap (λ (l : List ℕ). done (length l) 0) whole-portion);
          leaves = sym (ap (λ (n : ℕ). pick (eqb n 0) (put ++ drop (length put) sent) sent) draw-fine ∙ ap (λ (l : List ℕ). l ++ drop (length l) sent) whole-portion
              ∙ ap (λ (l : List ℕ). sent ++ l) (drop-length sent) ∙ append-nil sent);
        }

    sending : Sending p.low p.still 16 poll_bytes sent
    sending =
        subst (Sending p.low p.still 16 poll_bytes) (take_all (length sent) sent (omega arith))
        (called sent (done (length sent) 0) sent begun one-call)

    pub poll-samples : PollSamples p address sent
    poll-samples =
        record { bytes = poll_bytes; up_to_999 = small; poll = left-first; drawn = sending; to_the_end = drawing-long p.low p.still 16 poll_bytes }

    pub try-is : try_drawn p address ≡ replicate p.delay 0 ++ sent
    unfolding try_drawn poll_drawn
    try-is = ap (λ (b : Bool). replicate p.delay 0 ++ pick b [] sent) (le-ltb 999 address small)
