-- The number and the place that a fault of the frame's reader names: its own number, and the place of the unreadable digit beside 7 alone, which is
-- one test computed over the whole table. Assumes nothing.
use mathlib.Core.Path.{◌≡◌, refl, sym}
use mathlib.Core.Bool.{Bool, true, false}
use Prim.Native.Nat.{ℕ, ◌≤◌}
use native.Mathlib.Omega.{arith}
use lib.Dec.{eqb, eqb→eq}
use borrow.Author.Tests.{eqb-true}
use Rattle.frame.specs.Faults.{number_of, place_named, fault}
use Rattle.frame.specs.Level.{Level, place_lost}
use Rattle.frame.specs.Pick.{pick}
use Rattle.frame.specs.Reply.{refused_by}
use Rattle.frame.proofs.Numbers.{own_number}
use Rattle.frame.proofs.Tables.{at-below}

-- a fault that is told by its number alone names no place
bare : ℕ → Bool
bare n = eqb (place_named (fault n)) 0

no-place : (n : ℕ) → n ≤ 38 → place_named (fault n) ≡ 0
unfolding bare
no-place n h = eqb→eq _ _ (at-below bare 39 tt n (omega arith))

module _ (level : Level) (n : ℕ) where
  pub named-number : (n ≡ 0 → ⊥) → n ≤ 38 → number_of (refused_by level n) ≡ n
  named-number some h = go (eqb n 7) refl
    where
      go : (b : Bool) → eqb n 7 ≡ b → number_of (refused_by level n) ≡ n
      go true e = rw e (sym (eqb-true n 7 e))
      go false e = rw e (own_number n some h)

  pub named-place : n ≤ 38 → place_named (refused_by level n) ≡ pick (eqb n 7) (place_lost level) 0
  named-place h = go (eqb n 7) refl
    where
      go : (b : Bool) → eqb n 7 ≡ b → place_named (refused_by level n) ≡ pick (eqb n 7) (place_lost level) 0
      go true e = rw e refl
      go false e = rw e (no-place n h)
