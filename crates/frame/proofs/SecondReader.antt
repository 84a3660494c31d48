-- The second reader gives what the plain one gives: of decimal and both metric modes because pairs are digits, of the fractional one because it
-- is the plain one. Assumes nothing.
use mathlib.Core.Path.{◌≡◌, refl, sym, ap, ◌∙◌}
use mathlib.Core.Bool.{Bool, true, false}
use mathlib.Core.List.{List}
use mathlib.Core.Logic.{inl, inr}
use Prim.Native.Nat.{ℕ, ◌*◌, ◌%◌, ◌^◌}
use borrow.Author.Tests.{ne_eqb}
use lib.Dec.{eqb, lit≤}
use Rattle.frame.specs.Pick.{pick}
use Rattle.frame.specs.Line.{line}
use Rattle.frame.specs.Faults.{first_of}
use Rattle.frame.specs.Reply.{reply_tests_with, reading_with, reply_fault, reply_of, refused_by}
use Rattle.frame.specs.Charts.{decimal, one_bit, two_bits, feet_tens, place_in}
use Rattle.frame.specs.Level.{Level, Mode, mode_of, width_of, level_of, fill_clear, fractional_mode, decimal_mode, twenty_metre_mode, thirty_metre_mode}
use Rattle.frame.specs.Pairs.{decimals, level_by_pairs, second_level, second_reply}
use Rattle.frame.specs.Inside.Packed.{level_number, level_code, second_code}
use Rattle.frame.specs.declared.constants.Constants.{Constants}
use Rattle.frame.specs.Inside.Constants.{Fits, read_pairs_by}
use Rattle.frame.proofs.Fitting.{fractional-at}
use Rattle.frame.proofs.PairsAreDigits.{Paired, front_right, same-level}
use Rattle.frame.proofs.Tables.{pick-case}
use Rattle.std.specs.Prelude.{Ok, Err}

-- the three modes that pairs can read
decimal-paired : Paired decimal_mode
unfolding decimal_mode width_of decimals feet_tens decimal front_right place_in
decimal-paired =
    record { top = feet_tens; below = 3; row = refl; front = record { narrow = lit≤ tt; right = tt }; wide = refl; pairs = 2; count = refl; zeros = 0; odd_one = refl; all = inl (refl, refl) }

twenty-paired : Paired twenty_metre_mode
unfolding twenty_metre_mode width_of decimals one_bit decimal front_right place_in
twenty-paired =
    record { top = one_bit; below = 4; row = refl; front = record { narrow = lit≤ tt; right = tt }; wide = refl; pairs = 3; count = refl; zeros = 1; odd_one = refl; all = inr (refl, refl) }

thirty-paired : Paired thirty_metre_mode
unfolding thirty_metre_mode width_of decimals two_bits decimal front_right place_in
thirty-paired =
    record { top = two_bits; below = 4; row = refl; front = record { narrow = lit≤ tt; right = tt }; wide = refl; pairs = 3; count = refl; zeros = 1; odd_one = refl; all = inr (refl, refl) }

paired : (k : ℕ) → eqb k 0 ≡ false → Paired (mode_of k)
unfolding mode_of
paired k e = rw e (pick-case Paired (eqb k 1) decimal-paired (pick-case Paired (eqb k 2) twenty-paired thirty-paired))

-- every mode, by either reader
pub same_second : (k n : ℕ) → second_level k n ≡ level_of (mode_of k) n
same_second k n = go (eqb k 0) refl
  where
    go : (b : Bool) → eqb k 0 ≡ b → pick b (level_of (mode_of k) n) (level_by_pairs (mode_of k) n) ≡ level_of (mode_of k) n
    go true e = refl
    go false e = same-level (mode_of k) (paired k e) n

-- so any reply has one answer by either
pub same-reply : (settings address count : ℕ) (s : List ℕ) → second_reply settings address count s ≡ reply_of settings address count s
unfolding second_reply reply_of reply_fault
same-reply settings address count s =
    ap (λ (level : Level). let fault = first_of (reply_tests_with level settings address count s) in pick (eqb fault 0) (Ok (reading_with level settings count (line s))) (Err (refused_by level fault)))
    (same_second (settings % 4) (line s))

pub second_is : (k n : ℕ) → second_code k n ≡ level_code (mode_of k) n
unfolding second_code level_code
second_is k n = ap (λ (l : Level). pick (fill_clear n (mode_of k).fill) (level_number (mode_of k).largest l) (6 * 2 ^ 16)) (same_second k n)

-- constants that fit a mode read its pairs
pairs-by : (m : Mode) (k : Constants) → Fits m k → (n : ℕ)
    → read_pairs_by k n ≡ pick (fill_clear n m.fill) (level_number m.largest (level_by_pairs m n)) (6 * 2 ^ 16)
pairs-by m k f n = rw (f.fill n, f.count, f.straight, f.largest, f.cut, f.last)

-- the mode of each number, as the second reader takes it
module _ (k n : ℕ) where
  pub second-0 : k ≡ 0 → level_code fractional_mode n ≡ second_code k n
  second-0 e = sym (second_is k n ∙ ap (λ (m : Mode). level_code m n) (fractional-at k e))

  pub second-else : (c : Constants) → Fits (mode_of k) c → (k ≡ 0 → ⊥) → read_pairs_by c n ≡ second_code k n
  unfolding second_code
  second-else c fit some =
      pairs-by (mode_of k) c fit n
      ∙ ap (λ (b : Bool). pick (fill_clear n (mode_of k).fill) (level_number (mode_of k).largest (pick b (level_of (mode_of k) n) (level_by_pairs (mode_of k) n))) (6 * 2 ^ 16)) (sym (ne_eqb k 0 some))
