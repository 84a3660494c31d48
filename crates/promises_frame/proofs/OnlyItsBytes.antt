-- Only its bytes: a write leaves the output as it was, or its own bytes and then the rest of the output.
use mathlib.Core.Path.{◌≡◌, refl, sym, ap, ◌∙◌}
use mathlib.Core.Bool.{Bool, true, false}
use mathlib.Core.List.{List, [], ◌∷◌, ◌++◌}
use Prim.Native.Nat.{ℕ, ◌+◌, ◌-◌, ◌≤◌}
use native.Mathlib.Omega.{arith}
use lib.Dec.{eqb}
use lib.ListN.{length, get_or, drop, length-append, length-drop}
use lib.Seq.{get_or-append-add, get_or-drop}
use borrow.Author.Tests.{eqb-true, ltb-false}
use Rattle.frame.specs.Pick.{pick}
use Rattle.frame.specs.Line.{first_bytes}
use Rattle.frame.specs.Temperature.{is_absent}
use Rattle.frame.specs.Poll.{written_number, write_poll_fault, poll_line}
use Rattle.frame.specs.Reply.{size_for, write_reply_fault, reply_line}
use Rattle.promises_frame.specs.FirstFault.{write_table}
use Rattle.promises_frame.specs.OnlyItsBytes.{OnlyFirst, OnlyItsBytes}
use Rattle.promises_frame.proofs.Lines.{length-first_bytes}
use Rattle.promises_frame.proofs.FirstFault.{all-clear, write-asks, write-poll-asks}
use Rattle.promises_frame.proofs.ReplyHeard.{size_small}
use Rattle.std.specs.Prelude.{Result, Ok, Err}
use Rattle.frame.specs.declared.faults.Fault.{Fault}
use Rattle.frame.specs.Faults.{fault}

-- The rest of a list behind a new beginning of the same size.
length-first : (size : ℕ) (a out : List ℕ) → length a ≡ size → size ≤ length out → length (a ++ drop size out) ≡ length out
length-first size a out e h = simp (length-append, length-drop) (omega arith)

behind-first : (size : ℕ) (a out : List ℕ) → length a ≡ size → (i : ℕ) → size ≤ i → get_or (a ++ drop size out) i 0 ≡ get_or out i 0
behind-first size a out e i h =
    let far : length a + (i - size) ≡ i = omega arith in
    let back : size + (i - size) ≡ i = omega arith in
    ap (λ (k : ℕ). get_or (a ++ drop size out) k 0) (sym far) ∙ get_or-append-add a (drop size out) (i - size) 0
    ∙ get_or-drop size out (i - size) 0 ∙ ap (λ (k : ℕ). get_or out k 0) back

-- Any write of the first bytes of a line n that answers a fault f, or 0 only where there is room.
only-first : (size n f : ℕ) (out : List ℕ) → size ≤ 8 → (f ≡ 0 → size ≤ length out)
    → (said : Result ℕ Fault) → said ≡ pick (eqb f 0) (Ok size) (Err (fault f))
    → (after : List ℕ) → after ≡ pick (eqb f 0) (first_bytes size n ++ drop size out) out
    → OnlyFirst size said out after
only-first size n f out small room said = go (eqb f 0) refl
  where
    go : (b : Bool) → eqb f 0 ≡ b → said ≡ pick b (Ok size) (Err (fault f))
        → (after : List ℕ) → after ≡ pick b (first_bytes size n ++ drop size out) out → OnlyFirst size said out after
    go true e answer after is =
        let l : length (first_bytes size n) ≡ size = length-first_bytes size n small in
        record {
          refused = λ h. absurd (h (ap written_number answer));
          same_length = ap length is ∙ length-first size (first_bytes size n) out l (room (eqb-true f 0 e));
          others = λ i h. ap (λ (x : List ℕ). get_or x i 0) is ∙ behind-first size (first_bytes size n) out l i h;
        }
    go false e answer after is = record { refused = λ h. is; same_length = ap length is; others = λ i h. ap (λ (x : List ℕ). get_or x i 0) is }

pub only-its-bytes : OnlyItsBytes
only-its-bytes =
    record {
      write-reply = λ settings address r out after said w.
          only-first (size_for r) (reply_line settings address r) (write_reply_fault settings address r out) out (size_small (is_absent r.temperature))
          (λ e. ltb-false (length out) (size_for r)
          (all-clear (write_table settings address (size_for r) out) (10 ∷ 11 ∷ 15 ∷ []) (omega arith) (sym (write-asks settings address r out) ∙ e)).1.1.0)
          said w.answers after w.leaves;
      write-poll = λ address raise reset out after said w.
          only-first 2 (poll_line address raise reset) (write_poll_fault address out) out (omega arith)
          (λ e. ltb-false (length out) 2 (all-clear (write_table 0 address 2 out) (11 ∷ 15 ∷ []) (omega arith) (sym (write-poll-asks address out) ∙ e)).1.0)
          said w.answers after w.leaves;
    }
