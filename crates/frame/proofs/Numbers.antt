-- The numbers of the faults: each number of the table is that of its fault, which is one test computed over the whole table; so an answer by the number of
-- what refuses it has that number. Assumes nothing.
use mathlib.Core.Path.{◌≡◌, refl, sym, ap, ◌∙◌}
use mathlib.Core.Bool.{Bool, true, false, not, ◌&&◌, ◌||◌}
use mathlib.Core.List.{List, [], ◌∷◌}
use Prim.Native.Nat.{ℕ, ◌≤◌, ◌<◌}
use native.Mathlib.Omega.{arith}
use borrow.Author.Tests.{eqb-true, eqb-false, ltb-true, ltb-false}
use lib.ListN.{length, get_or-eq_default}
use lib.Dec.{T, eqb, eqb→eq, ltb, leb, leb→le}
use Rattle.std.specs.Prelude.{Result, Ok, Err}
use Rattle.frame.specs.declared.faults.Fault.{Fault}
use Rattle.frame.specs.declared.faults.Fault.TheVariants.{InNoChart, OutOfOrder}
use Rattle.frame.specs.Pick.{pick}
use Rattle.frame.specs.Faults.{Test, ◌gives◌, first_of, number_of, table, fault, verdict}
use Rattle.frame.specs.declared.Reading.{Reading}
use Rattle.frame.specs.Line.{line, bit, three_decimal}
use Rattle.frame.specs.Poll.{poll_fault, write_poll_fault}
use Rattle.frame.specs.Reply.{reply_tests, reply_fault, size_for, write_reply_fault}
use Rattle.frame.proofs.Both.{and_left, and_right}
use Rattle.frame.proofs.Tables.{at-below, pick-case}

-- the table's own numbers
right : ℕ → Bool
right n = eqb n 0 || eqb (number_of (fault n)) n

pub own_number : (n : ℕ) → (n ≡ 0 → ⊥) → n ≤ 38 → number_of (fault n) ≡ n
unfolding right
own_number n some h = go (eqb n 0) refl (at-below right 39 tt n (omega arith))
  where
    go : (b : Bool) → eqb n 0 ≡ b → T (b || eqb (number_of (fault n)) n) → number_of (fault n) ≡ n
    go true e t = absurd (some (eqb-true n 0 e))
    go false e t = eqb→eq _ _ t

-- a number that the table does not have falls to the last fault
past_table : (n : ℕ) → 39 ≤ n → fault n ≡ OutOfOrder
past_table n h = get_or-eq_default table OutOfOrder {n = n} h

-- number 7 alone names a place
pub names-seven : (n p : ℕ) → fault n ≡ InNoChart p → n ≡ 7
names-seven n p is = go (ltb n 39) (eqb n 0) refl refl
  where
    seven : number_of (fault n) ≡ 7
    seven = ap number_of is

    go : (a b : Bool) → ltb n 39 ≡ a → eqb n 0 ≡ b → n ≡ 7
    go true true e z = let last : number_of (fault 0) ≡ 7 = rw (eqb-true n 0 z) at seven in absurd (omega (arith, last))
    go true false e z =
        let within : n < 39 = ltb-true n 39 e in
        sym (own_number n (λ none. eqb-false n 0 z none) (omega arith)) ∙ seven
    go false b e z =
        let last : ◌≡◌ {A = ℕ} 38 7 = sym (ap number_of (past_table n (ltb-false n 39 e))) ∙ seven in
        absurd (omega (arith, last))

-- the numbers of some tests are all in the table
abbrev pub all_in_table : List Test → Bool
all_in_table [] = true
all_in_table (t ∷ ts) = leb t.number 38 && all_in_table ts

pub first_small : (ts : List Test) → T (all_in_table ts) → first_of ts ≤ 38
unfolding first_of
first_small [] h = omega arith
first_small (t ∷ ts) h =
    pick-case (λ (n : ℕ). n ≤ 38) t.applies (leb→le t.number 38 (and_left (leb t.number 38) (all_in_table ts) h))
    (first_small ts (and_right (leb t.number 38) (all_in_table ts) h))

-- the number of an answer is the number of what refuses it
module _ {A : Type 0} (number : Result A Fault → ℕ) (none : (a : A) → number (Ok a) ≡ 0) (some : (f : Fault) → number (Err f) ≡ number_of f) where
  pub verdict_number : (n : ℕ) (a : A) → n ≤ 38 → number (verdict n a) ≡ n
  verdict_number n a h = go (eqb n 0) refl
    where
      go : (b : Bool) → eqb n 0 ≡ b → number (pick b (Ok a) (Err (fault n))) ≡ n
      go true e = none a ∙ sym (eqb-true n 0 e)
      go false e = some (fault n) ∙ own_number n (eqb-false n 0 e) h

-- the numbers of each call's tests are in the table
pub reply-small : (settings address count : ℕ) (s : List ℕ) → reply_fault settings address count s ≤ 38
unfolding reply_fault
reply-small settings address count s = first_small (reply_tests settings address count s) tt

pub write-small : (settings address : ℕ) (r : Reading) (out : List ℕ) → write_reply_fault settings address r out ≤ 38
unfolding write_reply_fault
write-small settings address r out =
    first_small (ltb 15 settings gives 10 ∷ ltb 999 address gives 11 ∷ ltb (length out) (size_for r) gives 15 ∷ []) tt

pub poll-small : (s : List ℕ) → poll_fault s ≤ 38
unfolding poll_fault
poll-small s =
    first_small (not (eqb (length s) 2) gives 16 ∷ eqb (bit (line s) 1) 0 gives 16 ∷ not (three_decimal (line s) 5) gives 16 ∷ []) tt

pub write-poll-small : (address : ℕ) (out : List ℕ) → write_poll_fault address out ≤ 38
unfolding write_poll_fault
write-poll-small address out = first_small (ltb 999 address gives 11 ∷ ltb (length out) 2 gives 15 ∷ []) tt
