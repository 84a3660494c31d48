-- What the calls answer and leave, by what their tests gave. Assumes nothing.
use mathlib.Core.Path.{◌≡◌, refl, sym, ap, ap₂, ◌∙◌}
use mathlib.Core.Bool.{Bool, true, false, not, ◌||◌}
use mathlib.Core.List.{List, [], ◌++◌}
use Prim.Native.Nat.{ℕ, ◌+◌}
use lib.Dec.{eqb}
use lib.ListN.{length, take, drop}
use lib.Seq.{take-nil}
use borrow.Author.Tests.{eq-eqb, ne_eqb}
use Rattle.frame.specs.Pick.{pick}
use Rattle.frame.specs.Line.{mark}
use Rattle.frame.specs.Faults.{first_of}
use Rattle.lines.specs.SoFar as lines
use Rattle.lines.proofs.Cases.{of-pick}
use Rattle.polling.specs.declared.Pace.{Pace}
use Rattle.polling.specs.declared.Polling.{Polling}
use Rattle.polling.specs.Pace.{bad_pace, pace_fault}
use Rattle.polling.specs.Meant.{is_over, turn_of, try_drawn, draws, listens, meant}
use Rattle.polling.specs.Drawing.{to_draw, drawn_by, after_drawn, LeftByDrawing, drew}
use Rattle.polling.specs.Listening.{listen}
use Rattle.polling.specs.Settling.{LeftByHearing, settled_of, settled_at}
use Rattle.polling.specs.Calls.{DrawsPolling, heard_by, HearsPolling}
use Rattle.polling.specs.Inside.Puts.{Puts}
use Rattle.polling.proofs.Meaning.{drawn, while-over}

pub fault-by : (p : Pace) (b : Bool) → bad_pace p ≡ b → pace_fault p ≡ pick b 20 0
unfolding pace_fault first_of
fault-by p b e = ap (λ (x : Bool). pick x 20 0) e

-- meaning does not end a round, nor begin one
pub over-meant : (p : Pace) (w : Polling) → is_over (meant p w) ≡ is_over w
unfolding meant
over-meant p w =
    of-pick (λ (x : Polling). is_over x ≡ is_over w) (is_over w) w
    (pick (not (eqb w.listening 0)) (listens w (lines.meant w.lines) w.passed)
    (pick (drawn p w) (listens w lines.rest_state 0) (draws w w.passed)))
    (λ e. refl)
    (λ e. of-pick (λ (x : Polling). is_over x ≡ is_over w) (not (eqb w.listening 0)) (listens w (lines.meant w.lines) w.passed)
    (pick (drawn p w) (listens w lines.rest_state 0) (draws w w.passed))
    (λ e. refl)
    (λ e. of-pick (λ (x : Polling). is_over x ≡ is_over w) (drawn p w) (listens w lines.rest_state 0) (draws w w.passed) (λ e. refl) (λ e. refl)))

module _ (w : Polling) (p : Pace) (minute : ℕ) (samples : List ℕ) (answer : LeftByHearing) where
  pub hears-bad : bad_pace p ≡ true → answer ≡ settled_of w 0 0 0 0 20 → HearsPolling w p minute samples answer
  hears-bad b e =
      record { answers = e ∙ sym (ap (λ (n : ℕ). pick (eqb n 0) (heard_by p minute (meant p w) samples) (settled_of w 0 0 0 0 n)) (fault-by p true b)) }

  pub hears-good : bad_pace p ≡ false → answer ≡ heard_by p minute (meant p w) samples → HearsPolling w p minute samples answer
  hears-good b e =
      record { answers = e ∙ sym (ap (λ (n : ℕ). pick (eqb n 0) (heard_by p minute (meant p w) samples) (settled_of w 0 0 0 0 n)) (fault-by p false b)) }

module _ (p : Pace) (minute : ℕ) (w : Polling) (samples : List ℕ) where
  by_tests : (o d : Bool) → is_over w ≡ o → eqb w.listening 0 ≡ d
      → heard_by p minute w samples ≡ pick o (settled_of w 0 0 0 1 0) (pick d (settled_of w 0 0 0 0 0) (settled_at p minute w (listen p w.lines w.passed samples)))
  unfolding heard_by
  by_tests o d over drawing =
      λ i. pick (over i) (settled_of w 0 0 0 1 0) (pick (drawing i) (settled_of w 0 0 0 0 0) (settled_at p minute w (listen p w.lines w.passed samples)))

  pub heard-over : is_over w ≡ true → settled_of w 0 0 0 1 0 ≡ heard_by p minute (meant p w) samples
  heard-over o = sym (ap (λ (x : Polling). heard_by p minute x samples) (while-over p w o) ∙ by_tests true (eqb w.listening 0) o refl)

  pub heard-drawing : is_over w ≡ false → w.listening ≡ 0 → settled_of w 0 0 0 0 0 ≡ heard_by p minute w samples
  heard-drawing o d = sym (by_tests false true o (eq-eqb w.listening 0 d))

  pub heard-listening : is_over w ≡ false → (w.listening ≡ 0 → ⊥) → settled_at p minute w (listen p w.lines w.passed samples) ≡ heard_by p minute w samples
  heard-listening o d = sym (by_tests false false o (ne_eqb w.listening 0 d))

module _ (w : Polling) (p : Pace) (out : List ℕ) (answer : LeftByDrawing) where
  abbrev part : List ℕ
  part = drawn_by p w (length out)

  abbrev good-answer : LeftByDrawing
  good-answer = drew (after_drawn p w (length part)) (length part) (mark (is_over w)) 0

  pub draws-bad : bad_pace p ≡ true → answer ≡ drew w 0 0 20 → DrawsPolling w p out answer out
  draws-bad b e =
      record {
        answers = e ∙ sym (ap (λ (n : ℕ). pick (eqb n 0) good-answer (drew w 0 0 n)) (fault-by p true b));
        leaves = sym (ap (λ (n : ℕ). pick (eqb n 0) (part ++ drop (length part) out) out) (fault-by p true b));
      }

  draws-good : bad_pace p ≡ false → (after : List ℕ) → answer ≡ good-answer → after ≡ part ++ drop (length part) out → DrawsPolling w p out answer after
  draws-good b after e f =
      record {
        answers = e ∙ sym (ap (λ (n : ℕ). pick (eqb n 0) good-answer (drew w 0 0 n)) (fault-by p false b));
        leaves = f ∙ sym (ap (λ (n : ℕ). pick (eqb n 0) (part ++ drop (length part) out) out) (fault-by p false b));
      }

  -- over, or listening: nothing is drawn
  pub draws-none : bad_pace p ≡ false → (is_over w || not (eqb w.listening 0)) ≡ true → answer ≡ drew (meant p w) 0 (mark (is_over w)) 0 → DrawsPolling w p out answer out
  unfolding drawn_by to_draw after_drawn
  draws-none b o e =
      let none : part ≡ [] = ap (λ (x : Bool). take (length out) (pick x [] (drop w.passed (try_drawn p (turn_of w).address)))) o ∙ take-nil (length out) in
      draws-good b out
      (e ∙ sym (ap (λ (l : List ℕ). drew (after_drawn p w (length l)) (length l) (mark (is_over w)) 0) none
      ∙ ap (λ (x : Bool). drew (pick x (meant p w) (meant p (draws w (w.passed + 0)))) 0 (mark (is_over w)) 0) o))
      (sym (ap (λ (l : List ℕ). l ++ drop (length l) out) none))

  -- else what is left of the try, as much as fits
  pub draws-on : bad_pace p ≡ false → is_over w ≡ false → w.listening ≡ 0 → (many : ℕ) (after : List ℕ) → Puts (drop w.passed (try_drawn p (turn_of w).address)) out many after
      → answer ≡ drew (meant p (draws w (w.passed + many))) many 0 0 → DrawsPolling w p out answer after
  unfolding drawn_by to_draw after_drawn
  draws-on b o l many after put e =
      let test : (is_over w || not (eqb w.listening 0)) ≡ false = ap₂ (λ (x y : Bool). x || not y) o (eq-eqb w.listening 0 l) in
      let is : part ≡ take (length out) (drop w.passed (try_drawn p (turn_of w).address))
      = ap (λ (x : Bool). take (length out) (pick x [] (drop w.passed (try_drawn p (turn_of w).address)))) test in
      let count : many ≡ length part = put.count ∙ ap length (sym is) in
      draws-good b after
      (e ∙ ap (λ (n : ℕ). drew (meant p (draws w (w.passed + n))) n 0 0) count
      ∙ sym (ap (λ (x : Bool). drew (pick x (meant p w) (meant p (draws w (w.passed + length part)))) (length part) (mark (is_over w)) 0) test
      ∙ ap (λ (x : Bool). drew (meant p (draws w (w.passed + length part))) (length part) (mark x) 0) o))
      (put.leaves ∙ ap₂ (λ (x : List ℕ) (n : ℕ). x ++ drop n out) (sym is) count)
