-- Only its bytes: a write leaves the output as it was, or its own bytes and then the rest of the output.
use mathlib.Core.Path.{◌≡◌, refl, sym, ap, ◌∙◌}
use mathlib.Core.Bool.{Bool, true, false}
use mathlib.Core.List.{List, ◌++◌}
use Prim.Native.Nat.{ℕ, ◌+◌, ◌-◌, ◌≤◌}
use native.Mathlib.Omega.{arith}
use lib.Dec.{eqb}
use lib.ListN.{length, get_or, drop, length-append, length-drop}
use lib.Seq.{get_or-append-add, get_or-drop}
use borrow.Author.Tests.{eqb-true}
use Rattle.frame.specs.Pick.{pick}
use Rattle.enraf.specs.declared.Done.{Done}
use Rattle.enraf.specs.Item.{Item}
use Rattle.enraf.specs.Record.{item_record}
use Rattle.enraf.specs.Writing.{write_fault, done, WritesItem}
use Rattle.promises_enraf.specs.OnlyItsBytes.{ItemOnlyItsBytes}
use Rattle.promises_enraf.proofs.Outcomes.{Accepted, write-made, write-number, room}

-- The two ends of a write.
module _ (i : Item) (out after : List ℕ) (said : Done) (w : WritesItem i out said after) where
  unmade : eqb (write_fault i out) 0 ≡ false → (after ≡ out) × (said.count ≡ 0)
  unmade e =
      let r = item_record i in (
        w.leaves ∙ ap (λ (b : Bool). pick b (r ++ drop (length r) out) out) e,
        ap (λ (d : Done). d.count) (w.answers ∙ ap (λ (b : Bool). pick b (done (length r) 0) (done 0 (write_fault i out))) e),
      )

  cases : {P : Type 0} → (Accepted i out after said → P) → ((after ≡ out) × (said.count ≡ 0) → P) → P
  cases {P} f g = go (eqb (write_fault i out) 0) refl
    where
      go : (b : Bool) → eqb (write_fault i out) 0 ≡ b → P
      go true e = f (write-made i out after said w (eqb-true (write_fault i out) 0 e))
      go false e = g (unmade e)

behind : (a out : List ℕ) (k : ℕ) → length a ≤ k → get_or (a ++ drop (length a) out) k 0 ≡ get_or out k 0
behind a out k h =
    let far : length a + (k - length a) ≡ k = omega arith in
    ap (λ (n : ℕ). get_or (a ++ drop (length a) out) n 0) (sym far) ∙ get_or-append-add a (drop (length a) out) (k - length a) 0
    ∙ get_or-drop (length a) out (k - length a) 0 ∙ ap (λ (n : ℕ). get_or out n 0) far

whole : (a out : List ℕ) → length a ≤ length out → length (a ++ drop (length a) out) ≡ length out
whole a out h = simp (length-append, length-drop) (omega arith)

pub item-only-its-bytes : ItemOnlyItsBytes
item-only-its-bytes =
    record {
      refused = λ i out after said w no. cases i out after said w (λ a. absurd (no (write-number i out after said w ∙ a.fault))) (λ u. u);
      same_length = λ i out after said w.
          cases i out after said w (λ a. ap length a.left ∙ whole (item_record i) out (room i out a.fault)) (λ u. ap length u.0);
      others = λ i out after said w k h.
          cases i out after said w
          (λ a. ap (λ (x : List ℕ). get_or x k 0) a.left ∙ behind (item_record i) out k (rw (← a.count) h))
          (λ u. ap (λ (x : List ℕ). get_or x k 0) u.0);
    }
