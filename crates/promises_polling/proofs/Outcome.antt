-- One outcome: each record is one equation, that of drawing two. First fault: each range is two tests, and of a pace that passes them a hearing tells 0, 21 or 22.
use mathlib.Core.Path.{◌≡◌, refl, sym, ap, ap₂, subst, ◌∙◌}
use mathlib.Core.Bool.{Bool, true, false, not, ◌||◌}
use mathlib.Core.List.{List, [], ◌∷◌, ◌++◌}
use Prim.Native.Nat.{ℕ}
use native.Mathlib.Omega.{arith}
use borrow.Author.Tests.{eqb-true}
use lib.Dec.{eqb, ltb}
use lib.ListN.{length, drop}
use Rattle.frame.specs.Pick.{pick, within}
use Rattle.frame.specs.Line.{mark}
use Rattle.frame.specs.Faults.{first_of}
use Rattle.board.specs.declared.Row.{Row}
use Rattle.board.specs.Rows.{board_of}
use Rattle.board.specs.Order.{in_address_order}
use Rattle.lines.specs.declared.SoFar.{SoFar}
use Rattle.lines.specs.SoFar as lines
use Rattle.lines.specs.SoFar.{rest_state}
use Rattle.lines.specs.Timing.{bad_timing}
use Rattle.lines.specs.Hearing.{MessageTold, nothing, message, spoiled, number_told}
use Rattle.lines.proofs.Cases.{of-pick}
use Rattle.drawing.specs.Pulses.{bad_pulse}
use Rattle.polling.specs.declared.Begun.{Begun}
use Rattle.polling.specs.Drawing.{LeftByDrawing}
use Rattle.polling.specs.declared.Pace.{Pace}
use Rattle.polling.specs.declared.Polling.{Polling}
use Rattle.polling.specs.Settling.{LeftByHearing}
use Rattle.polling.specs.Pace.{timing_of, bad_pace, pace_fault}
use Rattle.polling.specs.Beginning.{beginning, nothing_begun}
use Rattle.polling.specs.Meant.{is_over, listens, meant}
use Rattle.polling.specs.Drawing.{drawn_by, after_drawn}
use Rattle.polling.specs.Drawing as polling
use Rattle.polling.specs.Listening.{Listened, still_going, settled_by, listen}
use Rattle.polling.specs.Settling.{is_answered, asked_again, answered_with, settled_of, settled_at}
use Rattle.polling.specs.Calls.{begun, BeginsPolling, DrawsPolling, heard_by, HearsPolling}
use Rattle.promises_polling.specs.Outcome.{PollingOutcome, begin_table, out_of_pace, pace_table, PollingFirstFault}
use Rattle.promises_frame.proofs.FirstFault.{asked, given}
use Rattle.promises_frame.proofs.Outside.{outside}
use Rattle.promises_lines.proofs.Legal.{Legal, rest}
use Rattle.promises_lines.proofs.Ends.{meant-legal}
use Rattle.promises_polling.proofs.Meaning.{Mode, over, drawing, drawn, listening, mode}
use Rattle.promises_polling.proofs.Heard.{heard-so, heard-over, heard-drawing, heard-listening}
use Rattle.promises_polling.proofs.Sound.{Sound, Soundly, listen-sound}

pair : (a b : LeftByDrawing × List ℕ) → a.0 ≡ b.0 → a.1 ≡ b.1 → a ≡ b
pair a b e f = λ i. (e i, f i)

pub polling-outcome : PollingOutcome
polling-outcome =
    record {
      begin = λ rows minute. record { same = λ a b x y. x.answers ∙ sym y.answers; some = _; allowed = record { answers = refl } };
      draw = λ w p out.
          record { same = λ a b x y. pair a b (x.answers ∙ sym y.answers) (x.leaves ∙ sym y.leaves); some = _; allowed = record { answers = refl; leaves = refl } };
      hear = λ w p minute samples. record { same = λ a b x y. x.answers ∙ sym y.answers; some = _; allowed = record { answers = refl } };
    }

-- The same tests in a row.
regroup : (a b c d e : Bool) → (((a || b) || (c || d)) || e) ≡ (a || b || c || d || e)
regroup true b c d e = refl
regroup false true c d e = refl
regroup false false c d e = refl

timing-row : (a b c d e f g : Bool) → (((a || (b || c)) || (d || e)) || (f || g)) ≡ (a || b || c || d || e || f || g)
timing-row true b c d e f g = refl
timing-row false true c d e f g = refl
timing-row false false true d e f g = refl
timing-row false false false true e f g = refl
timing-row false false false false true f g = refl
timing-row false false false false false f g = refl

pub out-of-pace : (p : Pace) → bad_pace p ≡ out_of_pace p
out-of-pace p =
    let pulse : (bad_pulse p.low p.still || ltb 1000000 p.delay) ≡ (ltb p.low 1 || ltb 1000 p.low || ltb p.still 1 || ltb 10000 p.still || ltb 1000000 p.delay)
    = ap₂ (λ (x y : Bool). (x || y) || ltb 1000000 p.delay) (outside 1 1000 p.low) (outside 1 10000 p.still)
    ∙ regroup (ltb p.low 1) (ltb 1000 p.low) (ltb p.still 1) (ltb 10000 p.still) (ltb 1000000 p.delay) in
    let ear : bad_timing (timing_of p)
    ≡ (ltb p.most p.least || ltb p.least 1 || ltb 1000 p.least || ltb p.most 1 || ltb 1000 p.most || ltb p.gap 1 || ltb 10000 p.gap)
    = ap₂ (λ (x y : Bool). ltb p.most p.least || x || y || not (within 1 10000 p.gap)) (outside 1 1000 p.least) (outside 1 1000 p.most)
    ∙ ap (λ (x : Bool). ltb p.most p.least || (ltb p.least 1 || ltb 1000 p.least) || (ltb p.most 1 || ltb 1000 p.most) || x) (outside 1 10000 p.gap)
    ∙ timing-row (ltb p.most p.least) (ltb p.least 1) (ltb 1000 p.least) (ltb p.most 1) (ltb 1000 p.most) (ltb p.gap 1) (ltb 10000 p.gap) in
    ap₂ (λ (x y : Bool). x || y || not (within 1 1000000 p.wait) || not (within p.wait 10000000 p.longest) || not (within 1 9 p.tries)) pulse ear
    ∙ ap₂ (λ (x y : Bool). ltb p.low 1 || ltb 1000 p.low || ltb p.still 1 || ltb 10000 p.still || ltb 1000000 p.delay
    || (ltb p.most p.least || ltb p.least 1 || ltb 1000 p.least || ltb p.most 1 || ltb 1000 p.most || ltb p.gap 1 || ltb 10000 p.gap)
    || x || y || not (within 1 9 p.tries)) (outside 1 1000000 p.wait) (outside p.wait 10000000 p.longest)
    ∙ ap (λ (x : Bool). ltb p.low 1 || ltb 1000 p.low || ltb p.still 1 || ltb 10000 p.still || ltb 1000000 p.delay
    || (ltb p.most p.least || ltb p.least 1 || ltb 1000 p.least || ltb p.most 1 || ltb 1000 p.most || ltb p.gap 1 || ltb 10000 p.gap)
    || (ltb p.wait 1 || ltb 1000000 p.wait) || (ltb p.longest p.wait || ltb 10000000 p.longest) || x) (outside 1 9 p.tries)

-- The number of a pace.
fault-is : (p : Pace) → pace_fault p ≡ first_of (asked (pace_table p) (20 ∷ []))
unfolding pace_fault first_of
fault-is p = ap (λ (b : Bool). pick b 20 0) (out-of-pace p)

bad-fault : (p : Pace) → out_of_pace p ≡ true → pace_fault p ≡ 20
unfolding pace_fault first_of
bad-fault p e = ap (λ (b : Bool). pick b 20 0) (out-of-pace p ∙ e)

begin-number : (rows : List Row) (minute : ℕ) (a : Begun) → BeginsPolling rows minute a → a.number ≡ first_of (asked (begin_table rows) (38 ∷ []))
unfolding first_of
begin-number rows minute a b =
    ap (λ (x : Begun). x.number) b.answers ∙ go (in_address_order (board_of rows))
  where
    go : (t : Bool) → (pick t (begun (beginning minute (board_of rows)) 0) (begun nothing_begun 38)).number ≡ pick (not t) 38 0
    go true = refl
    go false = refl

draw-number : (w : Polling) (p : Pace) (out after : List ℕ) (a : LeftByDrawing) → DrawsPolling w p out a after → a.number ≡ pace_fault p
draw-number w p out after a d = ap (λ (x : LeftByDrawing). x.number) d.answers ∙ go (pace_fault p) (eqb (pace_fault p) 0) refl
  where
    go : (n : ℕ) (t : Bool) → eqb n 0 ≡ t → (pick t (polling.drew (after_drawn p w (length (drawn_by p w (length out)))) (length (drawn_by p w (length out))) (mark (is_over w)) 0) (polling.drew w 0 0 n)).number ≡ n
    go n true e = sym (eqb-true n 0 e)
    go n false e = refl

draw-refused : (w : Polling) (p : Pace) (out after : List ℕ) (a : LeftByDrawing) → DrawsPolling w p out a after → out_of_pace p ≡ true
    → (a.polling ≡ w) × (a.count ≡ 0) × (a.over ≡ 0) × (after ≡ out)
draw-refused w p out after a d e =
    let put : List ℕ = drawn_by p w (length out) in
    let is : a ≡ polling.drew w 0 0 20
    = d.answers ∙ ap (λ (n : ℕ). pick (eqb n 0) (polling.drew (after_drawn p w (length put)) (length put) (mark (is_over w)) 0) (polling.drew w 0 0 n)) (bad-fault p e) in (
      ap (λ (x : LeftByDrawing). x.polling) is,
      ap (λ (x : LeftByDrawing). x.count) is,
      ap (λ (x : LeftByDrawing). x.over) is,
      d.leaves ∙ ap (λ (n : ℕ). pick (eqb n 0) (put ++ drop (length put) out) out) (bad-fault p e),
    )

-- What is told is 0, 21 or 22.
sound-number : (told : MessageTold) → Sound told → number_told told ≡ 20 → ⊥
sound-number nothing s e = omega arith
sound-number (message count bits) s e = omega arith
sound-number (spoiled number) s e = omega (arith, s.0)

settled-number : (p : Pace) (minute : ℕ) (w : Polling) (h : Listened) → Soundly h → (settled_at p minute w h).number ≡ 20 → ⊥
unfolding settled_at
settled-number p minute w (still_going left k) s = λ e. omega arith
settled-number p minute w (settled_by told k) s =
    of-pick (λ (a : LeftByHearing). a.number ≡ 20 → ⊥) (is_answered p w told) (settled_of (answered_with minute told w) k w.at 1 (mark (is_over (answered_with minute told w))) (number_told told))
    (settled_of (asked_again w) k w.at 0 0 (number_told told)) (λ e. sound-number told s) (λ e. sound-number told s)

hear-number : (w : Polling) (p : Pace) (minute : ℕ) (xs : List ℕ) (a : LeftByHearing) → HearsPolling w p minute xs a → bad_pace p ≡ false → (a.number ≡ 20 → ⊥)
hear-number w p minute xs a h fine = go (mode p w)
  where
    by : (b : LeftByHearing) → a ≡ b → (b.number ≡ 20 → ⊥) → a.number ≡ 20 → ⊥
    by b e q = subst (λ (x : LeftByHearing). x.number ≡ 20 → ⊥) (sym e) q

    listened : (s : SoFar) (q : ℕ) → is_over w ≡ false → Legal s → meant p w ≡ listens w s q → a.number ≡ 20 → ⊥
    listened s q e l m =
        by (settled_at p minute (listens w s q) (listen p s q xs))
        (heard-so p fine w minute xs a h ∙ ap (λ (v : Polling). heard_by p minute v xs) m ∙ heard-listening p minute w s q xs e) (settled-number p minute (listens w s q) (listen p s q xs) (listen-sound p fine s q l xs))

    go : Mode p w → a.number ≡ 20 → ⊥
    go (over e m) = by (settled_of (meant p w) 0 0 0 1 0) (heard-so p fine w minute xs a h ∙ heard-over p minute (meant p w) xs (ap is_over m ∙ e)) (λ z. omega arith)
    go (drawing e z l m) =
        by (settled_of (meant p w) 0 0 0 0 0)
        (heard-so p fine w minute xs a h ∙ heard-drawing p minute (meant p w) 0 xs (ap is_over m ∙ e) (ap (λ (v : Polling). v.listening) m)) (λ z. omega arith)
    go (drawn e z l m) = listened rest_state 0 e rest m
    go (listening e z m) = listened (lines.meant w.lines) w.passed e (meant-legal w.lines) m

pub polling-first-fault : PollingFirstFault
polling-first-fault =
    record {
      begin = λ rows minute a b. given (begin_table rows) (38 ∷ []) a.number (begin-number rows minute a b);
      draw = λ w p out after a d. given (pace_table p) (20 ∷ []) a.number (draw-number w p out after a d ∙ fault-is p);
      draw_20 = λ w p out after a d e. draw-refused w p out after a d e;
      hear_20 = λ w p minute xs a h e.
          h.answers ∙ ap (λ (n : ℕ). pick (eqb n 0) (heard_by p minute (meant p w) xs) (settled_of w 0 0 0 0 n)) (bad-fault p e);
      hear_fine = λ w p minute xs a h e. hear-number w p minute xs a h (out-of-pace p ∙ e);
    }
