-- Which numbers a row's fault is set to: 1 to 9, and 26. All that is known of that test stands here.
use mathlib.Core.Path.{◌≡◌, refl}
use mathlib.Core.Bool.{Bool, true, false, ◌&&◌, ◌||◌}
use Prim.Native.Nat.{ℕ, ◌≤◌}
use native.Mathlib.Omega.{arith}
use lib.Dec.{eqb, leb}
use borrow.Author.Tests.{le-leb, leb-true, ne_eqb, eqb-true}
use Rattle.frame.proofs.Both.{both_left, both_right}
use Rattle.board.specs.Row.{sets_fault}

pub sets-by : (n : ℕ) → 1 ≤ n → n ≤ 9 → sets_fault n ≡ true
unfolding sets_fault
sets-by n a b = simp (ne_eqb n 26 (λ e. omega (arith, b, e)), le-leb 1 n a, le-leb n 9 b)

-- a number that sets a fault is 1 to 9, or 26
pub data Sets (n : ℕ) : Type 0 where
  of_frame : 1 ≤ n → n ≤ 9 → Sets n
  of_profile : n ≡ 26 → Sets n

sets_of : (n : ℕ) (b a : Bool) → eqb n 26 ≡ b → (leb 1 n && leb n 9) ≡ a → (b || a) ≡ true → Sets n
sets_of n true a f e g = of_profile (eqb-true n 26 f)
sets_of n false true f e g = of_frame (leb-true 1 n (both_left (leb 1 n) (leb n 9) e)) (leb-true n 9 (both_right (leb 1 n) (leb n 9) e))
sets_of n false false f e g = absurd (let z : ◌≡◌ {A = ℕ} 0 1 = cc in omega arith)

pub sets-is : (n : ℕ) → sets_fault n ≡ true → Sets n
unfolding sets_fault
sets-is n e = sets_of n (eqb n 26) (leb 1 n && leb n 9) refl refl e

some_of : (n : ℕ) → Sets n → 1 ≤ n
some_of n (of_frame a b) = a
some_of n (of_profile e) = omega (arith, e)

-- so it is not 0
pub sets-some : (n : ℕ) → sets_fault n ≡ true → 1 ≤ n
sets-some n e = some_of n (sets-is n e)

pub sets-9 : sets_fault 9 ≡ true
unfolding sets_fault
sets-9 = refl

pub sets-26 : sets_fault 26 ≡ true
unfolding sets_fault
sets-26 = refl

pub sets-7 : sets_fault 7 ≡ true
unfolding sets_fault
sets-7 = refl

-- no fault is set by a good reply, nor by the refusals of a hearing
pub not-0 : sets_fault 0 ≡ false
unfolding sets_fault
not-0 = refl

pub not-10 : sets_fault 10 ≡ false
unfolding sets_fault
not-10 = refl

pub not-11 : sets_fault 11 ≡ false
unfolding sets_fault
not-11 = refl

pub not-14 : sets_fault 14 ≡ false
unfolding sets_fault
not-14 = refl

pub not-17 : sets_fault 17 ≡ false
unfolding sets_fault
not-17 = refl
