-- What one call answers and leaves: its number is its fault, and where that is 0 it has put its portion first into the output.
use mathlib.Core.Path.{◌≡◌, refl, sym, ap, ◌∙◌}
use mathlib.Core.Bool.{Bool, true, false}
use mathlib.Core.List.{List, ◌++◌}
use Prim.Native.Nat.{ℕ, ◌≤◌}
use native.Mathlib.Omega.{arith}
use borrow.Author.Tests.{eqb-true, eqb-false}
use lib.Dec.{eqb}
use lib.ListN.{length, take, drop}
use lib.Seq.{take-append_seam}
use Rattle.frame.specs.Pick.{pick}
use Rattle.drawing.specs.declared.Done.{Done}
use Rattle.drawing.specs.Calls.{draw_fault, done, portion, Draws}

-- A call that was refused, or one that drew.
pub data Answer (low still count : ℕ) (message : List ℕ) (from : ℕ) (out after : List ℕ) (answer : Done) : Type 0 where
  refused : ¬ (draw_fault low still count message ≡ 0) → answer ≡ done 0 (draw_fault low still count message) → after ≡ out
      → Answer low still count message from out after answer
  drew : draw_fault low still count message ≡ 0 → answer ≡ done (length (portion low still count message from (length out))) 0
      → after ≡ portion low still count message from (length out) ++ drop (length (portion low still count message from (length out))) out
      → Answer low still count message from out after answer

module _ (low still count : ℕ) (message : List ℕ) (from : ℕ) (out after : List ℕ) (answer : Done) (d : Draws low still count message from out answer after) where
  abbrev fault : ℕ
  fault = draw_fault low still count message

  abbrev p : List ℕ
  p = portion low still count message from (length out)

  pub answered : Answer low still count message from out after answer
  answered = go (eqb fault 0) refl
    where
      go : (b : Bool) → eqb fault 0 ≡ b → Answer low still count message from out after answer
      go true e =
          drew (eqb-true fault 0 e) (d.answers ∙ ap (λ (b : Bool). pick b (done (length p) 0) (done 0 fault)) e)
          (d.leaves ∙ ap (λ (b : Bool). pick b (p ++ drop (length p) out) out) e)
      go false e =
          refused (eqb-false fault 0 e) (d.answers ∙ ap (λ (b : Bool). pick b (done (length p) 0) (done 0 fault)) e)
          (d.leaves ∙ ap (λ (b : Bool). pick b (p ++ drop (length p) out) out) e)

  number_of : Answer low still count message from out after answer → answer.number ≡ fault
  number_of (refused n a l) = ap (λ (x : Done). x.number) a
  number_of (drew z a l) = ap (λ (x : Done). x.number) a ∙ sym z

  pub number_is : answer.number ≡ fault
  number_is = number_of answered

  -- The samples put down.
  put-by : Answer low still count message from out after answer → answer.number ≡ 0 → (answer.count ≡ length p) × (take answer.count after ≡ p)
  put-by (refused n a l) e = absurd (n (sym (ap (λ (x : Done). x.number) a) ∙ e))
  put-by (drew z a l) e =
      let many : answer.count ≡ length p = ap (λ (x : Done). x.count) a in
      (many, ap (λ (n : ℕ). take n after) many ∙ ap (take (length p)) l ∙ take-append_seam p (drop (length p) out))

  pub put : answer.number ≡ 0 → (answer.count ≡ length p) × (take answer.count after ≡ p)
  put = put-by answered

  -- A call that counts a sample was not refused.
  pub counted : 1 ≤ answer.count → answer.number ≡ 0
  counted some = go answered
    where
      go : Answer low still count message from out after answer → answer.number ≡ 0
      go (refused n a l) = absurd (omega (arith, some, ap (λ (x : Done). x.count) a))
      go (drew z a l) = ap (λ (x : Done). x.number) a
