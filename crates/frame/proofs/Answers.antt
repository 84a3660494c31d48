-- An answer by its fault, whatever the enum: the good case where the fault is 0, else the refusal by that number. Assumes nothing.
use mathlib.Core.Path.{◌≡◌, refl, sym, ◌∙◌}
use mathlib.Core.Bool.{Bool, true, false}
use Prim.Native.Nat.{ℕ}
use borrow.Author.Tests.{eqb-true, ne_eqb}
use lib.Dec.{eqb}
use Rattle.frame.specs.Pick.{pick}

module _ {A : Type 0} (good : A) (refused : ℕ → A) where
  -- where there is a fault, the answer is its refusal
  pub refused-by : (fault f : ℕ) → fault ≡ f → (f ≡ 0 → ⊥) → pick (eqb fault 0) good (refused fault) ≡ refused f
  refused-by fault f e some = rw e (simp (ne_eqb _ _ some))

  -- the answer's number is its fault
  pub number_is : (number : A → ℕ) → number good ≡ 0 → ((f : ℕ) → number (refused f) ≡ f)
      → (fault : ℕ) → number (pick (eqb fault 0) good (refused fault)) ≡ fault
  number_is number none some fault = go (eqb fault 0) refl
    where
      go : (b : Bool) → eqb fault 0 ≡ b → number (pick b good (refused fault)) ≡ fault
      go true e = none ∙ sym (eqb-true fault 0 e)
      go false e = some fault
