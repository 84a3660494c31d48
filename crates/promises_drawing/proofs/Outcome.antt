-- One outcome: the record is two equations. First fault: the list of tests is asked in this order, and the pulse is out of range where one of four tests
-- holds. Only its bytes: what is left of the output stands behind the samples put.
use mathlib.Core.Path.{◌≡◌, refl, sym, ap, ap₂, ◌∙◌}
use mathlib.Core.Bool.{Bool, true, false, not, ◌||◌}
use mathlib.Core.List.{List}
use Prim.Native.Nat.{ℕ, ◌+◌, ◌-◌, ◌≤◌}
use native.Mathlib.Omega.{arith}
use lib.Dec.{ltb}
use lib.ListN.{length, get_or, drop, length-append, length-take, length-drop}
use lib.Seq.{get_or-append-add, get_or-drop}
use Rattle.frame.specs.Pick.{pick}
use Rattle.frame.specs.Line.{formed}
use Rattle.frame.specs.Faults.{first_of}
use Rattle.drawing.specs.declared.Done.{Done}
use Rattle.drawing.specs.Pulses.{bad_pulse, drawing}
use Rattle.drawing.specs.Calls.{draw_fault, portion}
use Rattle.promises_frame.proofs.FirstFault.{asked, given}
use Rattle.promises_frame.proofs.Outside.{outside}
use Rattle.promises_drawing.specs.Outcome.{DrawOutcome, draw_table, draw_order, DrawFirstFault, DrawOnlyItsBytes}
use Rattle.promises_drawing.proofs.Answered.{Answer, refused, drew, answered, number_is}

pair : (a b : Done × List ℕ) → a.0 ≡ b.0 → a.1 ≡ b.1 → a ≡ b
pair a b e f = λ i. (e i, f i)

pub draw-outcome : DrawOutcome
draw-outcome =
    record {
      draw = λ low still count message from out.
          record { same = λ a b p q. pair a b (p.answers ∙ sym q.answers) (p.leaves ∙ sym q.leaves); some = _; allowed = record { answers = refl; leaves = refl } };
    }

four : (a b c d : Bool) → ((a || b) || (c || d)) ≡ (a || b || c || d)
four true b c d = refl
four false true c d = refl
four false false c d = refl

out_of_range : (low still : ℕ) → bad_pulse low still ≡ (ltb low 1 || ltb 1000 low || ltb still 1 || ltb 10000 still)
out_of_range low still =
    ap₂ (λ (x y : Bool). x || y) (outside 1 1000 low) (outside 1 10000 still) ∙ four (ltb low 1) (ltb 1000 low) (ltb still 1) (ltb 10000 still)

asks : (low still count : ℕ) (message : List ℕ) → draw_fault low still count message ≡ first_of (asked (draw_table low still count message) draw_order)
unfolding draw_fault first_of
asks low still count message = ap (λ (t : Bool). pick t 20 (pick (not (formed count message)) 14 0)) (out_of_range low still)

pub draw-first-fault : DrawFirstFault
draw-first-fault =
    record {
      draw = λ low still count message from out after answer d.
          given (draw_table low still count message) draw_order answer.number
          (number_is low still count message from out after answer d ∙ asks low still count message);
    }

module _ (low still count : ℕ) (message : List ℕ) (from : ℕ) (out after : List ℕ) (answer : Done) where
  abbrev p : List ℕ
  p = portion low still count message from (length out)

  none-changed : Answer low still count message from out after answer → ¬ (answer.number ≡ 0) → (after ≡ out) × (answer.count ≡ 0)
  none-changed (refused n a l) e = (l, ap (λ (x : Done). x.count) a)
  none-changed (drew z a l) e = absurd (e (ap (λ (x : Done). x.number) a))

  few : length p ≤ length out
  unfolding portion
  few = omega (arith, length-take (length out) (drop from (drawing low still count message)))

  as_long : Answer low still count message from out after answer → length after ≡ length out
  as_long (refused n a l) = ap length l
  as_long (drew z a l) = ap length l ∙ length-append p (drop (length p) out) ∙ omega (arith, length-drop (length p) out, few)

  behind : Answer low still count message from out after answer → (k : ℕ) → answer.count ≤ k → get_or after k 0 ≡ get_or out k 0
  behind (refused n a l) k h = ap (λ (s : List ℕ). get_or s k 0) l
  behind (drew z a l) k h =
      let many : answer.count ≡ length p = ap (λ (x : Done). x.count) a in
      let place : k ≡ length p + (k - length p) = omega arith in
      ap₂ (λ (s : List ℕ) (i : ℕ). get_or s i 0) l place ∙ get_or-append-add p (drop (length p) out) (k - length p) 0
      ∙ get_or-drop (length p) out (k - length p) 0 ∙ ap (λ (i : ℕ). get_or out i 0) (sym place)

pub draw-only-its-bytes : DrawOnlyItsBytes
draw-only-its-bytes =
    record {
      refused = λ low still count message from out after answer d.
          none-changed low still count message from out after answer (answered low still count message from out after answer d);
      same_length = λ low still count message from out after answer d.
          as_long low still count message from out after answer (answered low still count message from out after answer d);
      others = λ low still count message from out after answer d.
          behind low still count message from out after answer (answered low still count message from out after answer d);
    }
