-- What the call answers and leaves, by what its tests gave. Assumes nothing.
use mathlib.Core.Path.{◌≡◌, refl, sym, ap, ◌∙◌}
use mathlib.Core.Bool.{Bool, true, false, ◌&&◌, ◌||◌, not}
use mathlib.Core.List.{List, ◌++◌}
use Prim.Native.Nat.{ℕ, ◌-◌, ◌≤◌}
use native.Mathlib.Omega.{arith}
use native.Mathlib.Nat.{zero-add}
use borrow.Author.Tests.{leb-true, eqb-true, not-false}
use lib.Dec.{eqb, leb}
use lib.ListN.{length, take, drop, length-take}
use lib.Seq.{sets, sets-eq}
use Rattle.frame.specs.Pick.{pick, within}
use Rattle.frame.specs.Line.{bytes_for, pad_clear, formed}
use Rattle.frame.specs.Faults.{first_of}
use Rattle.frame.proofs.Both.{both}
use Rattle.drawing.specs.declared.Done.{Done}
use Rattle.drawing.specs.Pulses.{bad_pulse, drawing}
use Rattle.drawing.specs.Calls.{draw_fault, done, portion, Draws}
use Rattle.drawing.specs.Inside.Fills.{Fills}

pub fault-by : (low still count : ℕ) (message : List ℕ) (b g : Bool) → bad_pulse low still ≡ b → formed count message ≡ g
    → draw_fault low still count message ≡ pick b 20 (pick (not g) 14 0)
unfolding draw_fault first_of
fault-by low still count message b g p q = λ i. pick (p i) 20 (pick (not (q i)) 14 0)

-- good pulses
within-so : (low high n : ℕ) → within low high n ≡ true → (low ≤ n) × (n ≤ high)
within-so low high n e =
    let t = both (leb low n) (leb n high) e in
    (leb-true low n t.0, leb-true n high t.1)

neither : (a b : Bool) → (a || b) ≡ false → (a ≡ false) × (b ≡ false)
neither true b e = let z : ◌≡◌ {A = ℕ} 0 1 = cc in absurd (omega arith)
neither false b e = (refl, e)

pub good-pulse : (low still : ℕ) → bad_pulse low still ≡ false → (1 ≤ low) × (low ≤ 1000) × (1 ≤ still) × (still ≤ 10000)
good-pulse low still e =
    let t = neither (not (within 1 1000 low)) (not (within 1 10000 still)) e in
    let a = within-so 1 1000 low (not-false (within 1 1000 low) t.0) in
    let b = within-so 1 10000 still (not-false (within 1 10000 still) t.1) in
    (a.0, a.1, b.0, b.1)

-- a message in form
pub good-form : (count : ℕ) (s : List ℕ) → formed count s ≡ true → (count ≤ 64) × (length s ≡ bytes_for count)
unfolding formed
good-form count s e =
    let t = both (leb count 64 && eqb (length s) (bytes_for count)) (pad_clear count s) e in
    let u = both (leb count 64) (eqb (length s) (bytes_for count)) t.0 in
    (leb-true count 64 u.0, eqb-true (length s) (bytes_for count) u.1)

module _ (low still count : ℕ) (message : List ℕ) (from : ℕ) (out : List ℕ) where
  abbrev p : List ℕ
  p = portion low still count message from (length out)

  pub refuses : (n : ℕ) (answer : Done) → draw_fault low still count message ≡ n → eqb n 0 ≡ false → answer ≡ done 0 n → Draws low still count message from out answer out
  refuses n answer e z is =
      record {
        answers = is ∙ sym (ap (λ (m : ℕ). pick (eqb m 0) (done (length p) 0) (done 0 m)) e ∙ ap (λ (b : Bool). pick b (done (length p) 0) (done 0 n)) z);
        leaves = sym (ap (λ (m : ℕ). pick (eqb m 0) (p ++ drop (length p) out) out) e ∙ ap (λ (b : Bool). pick b (p ++ drop (length p) out) out) z);
      }

  pub draws : (end : ℕ) (after : List ℕ) → draw_fault low still count message ≡ 0 → Fills (drop from (drawing low still count message)) out 0 end after
      → Draws low still count message from out (done end 0) after
  unfolding portion
  draws end after e f =
      let all : length out - 0 ≡ length out = omega arith in
      let size : end ≡ length p = f.ends ∙ zero-add (length (take (length out - 0) (drop from (drawing low still count message)))) ∙ ap (λ (n : ℕ). length (take n (drop from (drawing low still count message)))) all in
      let few = length-take (length out) (drop from (drawing low still count message)) in
      let left : after ≡ p ++ drop (length p) out
      = f.leaves ∙ ap (λ (n : ℕ). sets out 0 (take n (drop from (drawing low still count message)))) all ∙ sets-eq p out 0 (omega arith)
      ∙ ap (λ (n : ℕ). p ++ drop n out) (zero-add (length p)) in
      record {
        answers = ap (λ (n : ℕ). done n 0) size ∙ sym (ap (λ (m : ℕ). pick (eqb m 0) (done (length p) 0) (done 0 m)) e);
        leaves = left ∙ sym (ap (λ (m : ℕ). pick (eqb m 0) (p ++ drop (length p) out) out) e);
      }
