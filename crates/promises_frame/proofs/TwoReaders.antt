-- The two readers. The table against the chart is two tests, computed over all numbers and over all entries of either half; the rest is the law
-- that pairs are digits, and what it says of the modes.
use mathlib.Core.Path.{◌≡◌, refl, sym, ◌∙◌}
use mathlib.Core.List.{List}
use mathlib.Core.Bool.{Bool, true, false, ◌&&◌, ◌||◌}
use Prim.Native.Nat.{ℕ, ◌+◌, ◌*◌, ◌/◌, ◌%◌, ◌<◌, ◌≤◌}
use native.Mathlib.Omega.{arith}
use lib.Dec.{T, eqb, eqb→eq, leb, leb→le}
use borrow.Author.Tests.{eqb-true}
use Rattle.frame.specs.Reply.{ReadsReply}
use Rattle.frame.specs.Charts.{decimal, is_odd, turned, place_in, code_of}
use Rattle.frame.specs.Pairs.{no_pair, pair_number, table_entry, index_of, ReadsReplyByPairs}
use Rattle.frame.proofs.Both.{and_left, and_right}
use Rattle.frame.proofs.Tables.{at-below}
use Rattle.frame.proofs.PairsAreDigits.{entry-is, pairs-are-digits}
use Rattle.frame.proofs.SecondReader.{same_second, same-reply}
use Rattle.promises_frame.specs.TwoReaders.{TwoReaders}
use Rattle.std.specs.Prelude.{Result}
use Rattle.frame.specs.declared.faults.Fault.{Fault}
use Rattle.frame.specs.declared.Reading.{Reading}

-- The codes of the two digits of a number, and their entry.
abbrev first_code : Bool → ℕ → ℕ
first_code odd p = code_of odd decimal (p / 10)

abbrev second_code : ℕ → ℕ
second_code p = code_of (is_odd (p / 10)) decimal (p % 10)

number_right : Bool → ℕ → Bool
number_right odd p = eqb (table_entry (index_of odd (first_code odd p) (second_code p))) p

number-right : (odd : Bool) (p : ℕ) → p < 100 → table_entry (index_of odd (first_code odd p) (second_code p)) ≡ p
unfolding number_right pair_number decimal place_in turned
number-right true p h = eqb→eq _ _ (at-below (number_right true) 100 tt p h)
number-right false p h = eqb→eq _ _ (at-below (number_right false) 100 tt p h)

table-reads : (odd : Bool) (x y : ℕ) → x ≤ 9 → y ≤ 9 → table_entry (index_of odd (code_of odd decimal x) (code_of (is_odd x) decimal y)) ≡ 10 * x + y
table-reads odd x y hx hy =
    let tens : (10 * x + y) / 10 ≡ x = omega arith in
    let ones : (10 * x + y) % 10 ≡ y = omega arith in
    rw (tens, ones) at (number-right odd (10 * x + y) (omega arith))

-- The entry of a pair of codes: marked, or the number whose digits have those codes.
abbrev digits_right : Bool → ℕ → ℕ → Bool
digits_right odd p j = leb p 99 && (eqb (first_code odd p) (j / 16) && eqb (second_code p) (j % 16))

entry_right : Bool → ℕ → Bool
entry_right odd j = eqb (pair_number odd (j / 16) (j % 16)) no_pair || digits_right odd (pair_number odd (j / 16) (j % 16)) j

entry-right : (odd : Bool) (j : ℕ) → j < 256 → T (entry_right odd j)
unfolding entry_right pair_number decimal place_in turned
entry-right true j h = at-below (entry_right true) 256 tt j h
entry-right false j h = at-below (entry_right false) 256 tt j h

or_else : (a b : Bool) → T (a || b) → ¬ (a ≡ true) → T b
or_else true b t h = absurd (h refl)
or_else false b t h = t

digits-right : (odd : Bool) (p j : ℕ) → T (digits_right odd p j) → (p ≤ 99) × ((first_code odd p ≡ j / 16) × (second_code p ≡ j % 16))
digits-right odd p j t =
    let both = eqb (first_code odd p) (j / 16) && eqb (second_code p) (j % 16) in
    let rest = and_right (leb p 99) both t in (
      leb→le p 99 (and_left (leb p 99) both t),
      (eqb→eq (first_code odd p) (j / 16) (and_left (eqb (first_code odd p) (j / 16)) (eqb (second_code p) (j % 16)) rest), eqb→eq (second_code p) (j % 16) (and_right (eqb (first_code odd p) (j / 16)) (eqb (second_code p) (j % 16)) rest)),
    )

unmarked : (odd : Bool) (j : ℕ) → j < 256 → ¬ (pair_number odd (j / 16) (j % 16) ≡ no_pair)
    → (pair_number odd (j / 16) (j % 16) ≤ 99) × ((first_code odd (pair_number odd (j / 16) (j % 16)) ≡ j / 16) × (second_code (pair_number odd (j / 16) (j % 16)) ≡ j % 16))
unfolding entry_right
unmarked odd j h none =
    let p = pair_number odd (j / 16) (j % 16) in
    digits-right odd p j (or_else (eqb p no_pair) (digits_right odd p j) (entry-right odd j h) (λ e. none (eqb-true p no_pair e)))

table-marks : (odd : Bool) (a b : ℕ) → a < 16 → b < 16 → ¬ (table_entry (index_of odd a b) ≡ no_pair)
    → (table_entry (index_of odd a b) ≤ 99)
    × ((first_code odd (table_entry (index_of odd a b)) ≡ a) × (second_code (table_entry (index_of odd a b)) ≡ b))
table-marks odd a b ha hb none =
    let first : (a * 16 + b) / 16 ≡ a = omega arith in
    let second : (a * 16 + b) % 16 ≡ b = omega arith in
    let found : ¬ (pair_number odd a b ≡ no_pair) → (pair_number odd a b ≤ 99) × ((first_code odd (pair_number odd a b) ≡ a) × (second_code (pair_number odd a b) ≡ b)) =
    rw (first, second) at (unmarked odd (a * 16 + b) (omega arith)) in
    rw (entry-is odd a b ha hb) (found (λ e. none (entry-is odd a b ha hb ∙ e)))

calls : (settings address count : ℕ) (s : List ℕ) (plain second : Result Reading Fault)
    → ReadsReply settings address count s plain → ReadsReplyByPairs settings address count s second → plain ≡ second
calls settings address count s plain second p q = p.answers ∙ sym (q.answers ∙ same-reply settings address count s)

pub two-readers : TwoReaders
two-readers = record { table-reads = table-reads; table-marks = table-marks; pairs = pairs-are-digits; levels = same_second; calls = calls }
