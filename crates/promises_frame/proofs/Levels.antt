-- The four modes: each is a row of sound charts with a value for every level up to its largest, so that its laws are those of any row.
use mathlib.Core.Path.{◌≡◌, refl, ap, subst, ◌∙◌}
use mathlib.Core.Bool.{Bool, true, false}
use Prim.Native.Nat.{ℕ, zero, suc, ◌+◌, ◌-◌, ◌^◌, ◌<◌, ◌≤◌}
use native.Mathlib.Omega.{arith}
use native.Mathlib.Nat.{lt_of_le_of_lt}
use lib.Dec.{leb, lit<}
use lib.Pow.{ones_lt}
use borrow.Author.Tests.{leb-true, leb-false, le-leb, lt-leb}
use Rattle.frame.specs.Line.{field}
use Rattle.frame.specs.Charts.{one_bit, two_bits, feet_tens, decimal, inches, sixteenths, turned, place_in}
use Rattle.frame.specs.Level.{Mode, known, lost, width_of, values_of, read_row, write_row, mode_of, fractional_mode, decimal_mode, twenty_metre_mode, thirty_metre_mode, last_bit_of, level_of, digits_of, put_level}
use Rattle.frame.proofs.EachMode.{every-mode}
use Rattle.promises_frame.specs.Rows.{SoundRow}
use Rattle.promises_frame.specs.Levels.{LevelBothWays}
use Rattle.promises_frame.proofs.Fields.{put-field, field_lt}
use Rattle.promises_frame.proofs.Rows.{row-both-ways}
use Rattle.promises_frame.proofs.Charts.{one_bit-sound, two_bits-sound, feet_tens-sound, decimal-sound, inches-sound, sixteenths-sound}

-- A mode is fit: its charts are sound, it begins at a bit, and it has a value for every level up to its largest.
pub record Fit (m : Mode) : Type 0 where
  pub charts : SoundRow m.row
  pub begins : 0 < m.first
  pub room : m.largest < values_of m.row

pub fit : (k : ℕ) → Fit (mode_of k)
unfolding fractional_mode decimal_mode twenty_metre_mode thirty_metre_mode values_of one_bit two_bits feet_tens decimal inches sixteenths
fit =
    every-mode Fit
    (record { charts = (feet_tens-sound, (decimal-sound, (inches-sound, (sixteenths-sound, tt)))); begins = lit< tt; room = lit< tt })
    (record { charts = (feet_tens-sound, (decimal-sound, (decimal-sound, (decimal-sound, tt)))); begins = lit< tt; room = lit< tt })
    (record { charts = (one_bit-sound, (decimal-sound, (decimal-sound, (decimal-sound, (decimal-sound, tt))))); begins = lit< tt; room = lit< tt })
    (record { charts = (two_bits-sound, (decimal-sound, (decimal-sound, (decimal-sound, (decimal-sound, tt))))); begins = lit< tt; room = lit< tt })

-- The digits' bits are as many as the row is wide.
width_is : (m : Mode) → Fit m → last_bit_of m + 1 - m.first ≡ width_of m.row
width_is m ok = omega (arith, ok.begins)

-- The digits' bits of a level within its mode, and of one outside it; both fit.
pub digits_in : (m : Mode) (v : ℕ) → v ≤ m.largest → digits_of m v ≡ write_row m.row false v
digits_in m v h = rw (le-leb v m.largest h)

digits-out : (m : Mode) (v : ℕ) → m.largest < v → digits_of m v ≡ 2 ^ width_of m.row - 1
digits-out m v h = rw (lt-leb v m.largest h)

pub digits-fit : (m : Mode) → Fit m → (v : ℕ) → digits_of m v < 2 ^ width_of m.row
digits-fit m ok v = go (leb v m.largest) refl
  where
    go : (b : Bool) → leb v m.largest ≡ b → digits_of m v < 2 ^ width_of m.row
    go true e =
        rw (digits_in m v (leb-true v m.largest e))
        (row-both-ways.fits m.row ok.charts false v (lt_of_le_of_lt (leb-true v m.largest e) ok.room))
    go false e = rw (digits-out m v (leb-false v m.largest e)) (ones_lt (width_of m.row))

-- A line whose digits' bits are those of a level reads as that level.
pub level-known : (m : Mode) → Fit m → (n v : ℕ) → field n m.first (last_bit_of m) ≡ digits_of m v → v ≤ m.largest → level_of m n ≡ known v
level-known m ok n v e h =
    ap (λ (x : ℕ). read_row m.row x false 0 0) (e ∙ digits_in m v h)
    ∙ row-both-ways.written-then-read m.row ok.charts false 0 0 v (lt_of_le_of_lt h ok.room)
    ∙ ap known (omega arith)

-- Bits that read as a level: it is a value of the row, and is written as those bits.
read_back : (m : Mode) → Fit m → (n v : ℕ) → level_of m n ≡ known v
    → (v < values_of m.row) × (write_row m.row false v ≡ field n m.first (last_bit_of m))
read_back m ok n v e =
    let bits : ℕ = field n m.first (last_bit_of m) in
    let short : bits < 2 ^ width_of m.row = subst (λ (x : ℕ). bits < 2 ^ x) (width_is m ok) (field_lt n m.first (last_bit_of m)) in
    let back = row-both-ways.read-then-written m.row ok.charts bits short false 0 0 v e in
    let same : v ≡ back.0 = omega (arith, back.2) in
    (rw same back.1, ap (write_row m.row false) same ∙ back.3)

pub level-digits : (m : Mode) → Fit m → (n v : ℕ) → level_of m n ≡ known v → v ≤ m.largest → digits_of m v ≡ field n m.first (last_bit_of m)
level-digits m ok n v e h = digits_in m v h ∙ (read_back m ok n v e).1

-- Below mode 3 the values of a row are just the levels up to the largest.
all-levels : (k : ℕ) → k < 3 → values_of (mode_of k).row ≡ suc (mode_of k).largest
unfolding mode_of fractional_mode decimal_mode twenty_metre_mode values_of one_bit feet_tens decimal inches sixteenths
all-levels zero h = refl
all-levels (suc zero) h = refl
all-levels (suc (suc zero)) h = refl
all-levels (suc (suc (suc k))) h = absurd (omega arith)

only-mode-3 : (k n v : ℕ) → k < 3 → level_of (mode_of k) n ≡ known v → v ≤ (mode_of k).largest
only-mode-3 k n v h e = let all = all-levels k h in let in_row = (read_back (mode_of k) (fit k) n v e).0 in omega arith

-- Every digit bit 1: the second digit from the top is in no chart.
abbrev Ones : Mode → Type 0
Ones m = read_row m.row (2 ^ width_of m.row - 1) false 0 0 ≡ lost 1

ones-lost : (k : ℕ) → Ones (mode_of k)
unfolding fractional_mode decimal_mode twenty_metre_mode thirty_metre_mode width_of read_row turned place_in one_bit two_bits feet_tens decimal inches sixteenths
ones-lost = every-mode Ones refl refl refl refl

pub level-lost : (k n v : ℕ) → field n (mode_of k).first (last_bit_of (mode_of k)) ≡ digits_of (mode_of k) v → (mode_of k).largest < v
    → level_of (mode_of k) n ≡ lost 1
level-lost k n v e h = ap (λ (x : ℕ). read_row (mode_of k).row x false 0 0) (e ∙ digits-out (mode_of k) v h) ∙ ones-lost k

-- The digits' bits of a line that holds nothing else.
alone : (m : Mode) → Fit m → (v : ℕ) → field (put_level m v) m.first (last_bit_of m) ≡ digits_of m v
alone m ok v = put-field (digits_of m v) m.first (last_bit_of m) (rw (width_is m ok) (digits-fit m ok v))

pub level-both-ways : LevelBothWays
level-both-ways =
    record {
      charts = λ k. (fit k).charts;
      written-then-read = λ k v h. level-known (mode_of k) (fit k) (put_level (mode_of k) v) v (alone (mode_of k) (fit k) v) h;
      read-then-written = λ k. level-digits (mode_of k) (fit k);
      only-mode-3 = only-mode-3;
      outside = λ k v h. level-lost k (put_level (mode_of k) v) v (alone (mode_of k) (fit k) v) h;
    }
