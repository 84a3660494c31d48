-- What it is to be accepted: no test of a reading applies, so each says what the bytes hold, and the reading is what stands at the line.
use mathlib.Core.Path.{◌≡◌, refl, sym, ap, ◌∙◌}
use mathlib.Core.Bool.{Bool, true, false, not, ◌&&◌, true≢false}
use mathlib.Core.List.{List}
use Prim.Native.Nat.{ℕ, ◌%◌, ◌≤◌}
use native.Mathlib.Omega.{arith}
use lib.Dec.{eqb, leb}
use lib.ListN.{length}
use borrow.Author.Tests.{ltb-false, eqb-true, not-false}
use Rattle.frame.specs.declared.Reading.{Reading}
use Rattle.frame.specs.declared.Temperature.{Temperature}
use Rattle.frame.specs.declared.Temperature.TheVariants.{Absent}
use Rattle.frame.specs.Pick.{pick}
use Rattle.frame.specs.Line.{line, bit, marks, formed, bytes_for, pad_clear, three_decimal, three_digits}
use Rattle.frame.specs.Level.{Level, Mode, known, lost, level_of, fill_clear, no_chart, value_of, above_largest}
use Rattle.frame.specs.Temperature.{Heat, told, bad, is_bad, temperature_of, heat_of}
use Rattle.frame.specs.Reply.{mode_in, is1800, odd_parity, heat_in, parity_right, reply_fault, refused_by}
use Rattle.frame.proofs.Both.{both}
use Rattle.promises_frame.specs.FirstFault.{reply_table, reply_order}
use Rattle.promises_frame.proofs.Cases.{not-0}
use Rattle.promises_frame.proofs.Digits.{bit-lt}
use Rattle.promises_frame.proofs.FirstFault.{all-clear, reply-asks}
use Rattle.std.specs.Prelude.{Ok, Err}

-- The facts that an accepted reply of 40 bits (`short`) or 56 has, at its line n.
pub record Accepted (settings address : ℕ) (s : List ℕ) (n : ℕ) (short : Bool) (v : ℕ) (t : Temperature) : Type 0 where
  pub settings_in : settings ≤ 15
  pub address_in : address ≤ 999
  pub size : length s ≡ pick short 5 7
  pub start : bit n 1 ≡ 1
  pub decimal : three_decimal n 4 ≡ true
  pub address_is : three_digits n 4 ≡ address
  pub parity : marks s % 2 ≡ odd_parity settings
  pub fill : fill_clear n (mode_in settings).fill ≡ true
  pub level : level_of (mode_in settings) n ≡ known v
  pub level_in : v ≤ (mode_in settings).largest
  pub warmth : pick short (told Absent) (heat_of (is1800 settings) n) ≡ told t

known-if : (l : Level) → no_chart l ≡ false → l ≡ known (value_of l)
known-if (known v) e = refl
known-if (lost k) e = absurd (true≢false e)

told-if : (h : Heat) → is_bad h ≡ false → h ≡ told (temperature_of h)
told-if (told t) e = refl
told-if bad e = absurd (true≢false e)

count-of : (count : ℕ) → not (eqb count 40) && not (eqb count 56) ≡ false → count ≡ pick (eqb count 40) 40 56
count-of count = go (eqb count 40) refl
  where
    go : (b : Bool) → eqb count 40 ≡ b → not b && not (eqb count 56) ≡ false → count ≡ pick b 40 56
    go true k e = eqb-true count 40 k
    go false k e = eqb-true count 56 (not-false (eqb count 56) e)

bytes_of : (b : Bool) → bytes_for (pick b 40 56) ≡ pick b 5 7
bytes_of true = refl
bytes_of false = refl

size_of : (count : ℕ) (s : List ℕ) → formed count s ≡ true → length s ≡ bytes_for count
unfolding formed
size_of count s e =
    let first = (both (leb count 64 && eqb (length s) (bytes_for count)) (pad_clear count s) e).0 in
    eqb-true (length s) (bytes_for count) (both (leb count 64) (eqb (length s) (bytes_for count)) first).1

largest-if : (m : Mode) (l : Level) (v : ℕ) → l ≡ known v → above_largest m l ≡ false → v ≤ m.largest
largest-if m l v e h = ltb-false m.largest v (ap (above_largest m) (sym e) ∙ h)

pub accepted : (settings address count : ℕ) (s : List ℕ) → reply_fault settings address count s ≡ 0
    → (count ≡ pick (eqb count 40) 40 56)
    × Accepted settings address s (line s) (eqb count 40) (value_of (level_of (mode_in settings) (line s))) (temperature_of (heat_in settings count (line s)))
accepted settings address count s e =
    let n : ℕ = line s in
    let l : Level = level_of (mode_in settings) n in
    let c = all-clear (reply_table settings address count s) reply_order (omega arith) (sym (reply-asks settings address count s) ∙ e) in
    let c1 = c.1.1.1 in
    let c6 = c1.1.1.1.1.1 in
    let many = count-of count c1.1.0 in
    let four = both (three_decimal n 4) (eqb (three_digits n 4) address) (not-false (three_decimal n 4 && eqb (three_digits n 4) address) c1.1.1.1.0) in (
      many,
      record {
        settings_in = ltb-false 15 settings c.0;
        address_in = ltb-false 999 address c.1.0;
        size = size_of count s (not-false (formed count s) c.1.1.0) ∙ ap bytes_for many ∙ bytes_of (eqb count 40);
        start = not-0 (bit n 1) (bit-lt n 1) c1.1.1.0;
        decimal = four.0;
        address_is = eqb-true (three_digits n 4) address four.1;
        parity = eqb-true (marks s % 2) (odd_parity settings) (not-false (parity_right settings s) c1.1.1.1.1.0);
        fill = not-false (fill_clear n (mode_in settings).fill) c6.0;
        level = known-if l c6.1.0;
        level_in = largest-if (mode_in settings) l (value_of l) (known-if l c6.1.0) c6.1.1.0;
        warmth = told-if (heat_in settings count n) c6.1.1.1.0;
      },
    )

-- An answer that is a reading: no fault, and the reading at the line.
pub read-if : (l : Level) (f : ℕ) (q r : Reading) → Ok r ≡ pick (eqb f 0) (Ok q) (Err (refused_by l f)) → (f ≡ 0) × (q ≡ r)
read-if l f q r = go (eqb f 0) refl
  where
    go : (b : Bool) → eqb f 0 ≡ b → Ok r ≡ pick b (Ok q) (Err (refused_by l f)) → (f ≡ 0) × (q ≡ r)
    go true k e = (eqb-true f 0 k, cc)
    go false k e = let z : ◌≡◌ {A = ℕ} 0 1 = cc in absurd (omega arith)
