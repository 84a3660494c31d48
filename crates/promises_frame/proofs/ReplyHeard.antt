-- A written reply passes the first ten tests of a reading, and the level and the temperature are read from the parts that were written.
use mathlib.Core.Path.{◌≡◌, refl, ap, ap₂, ◌∙◌}
use mathlib.Core.Bool.{Bool, true, false, not, ◌&&◌, false≢true}
use mathlib.Core.List.{List, [], ◌∷◌}
use Prim.Native.Nat.{ℕ, ◌%◌, ◌≤◌}
use native.Mathlib.Omega.{arith}
use lib.Dec.{eqb, ltb}
use borrow.Author.Tests.{le-ltb, eq-eqb}
use Rattle.frame.specs.declared.Reading.{Reading}
use Rattle.frame.specs.declared.Temperature.{Temperature}
use Rattle.frame.specs.declared.Temperature.TheVariants.{Degrees, Above, Below, Absent}
use Rattle.frame.specs.Pick.{pick}
use Rattle.frame.specs.Line.{line, field, bit, marks, first_bytes, formed, three_decimal, three_digits}
use Rattle.frame.specs.Faults.{◌gives◌, first_of}
use Rattle.frame.specs.Level.{digits_of, level_of, last_bit_of, fill_clear, no_chart, above_largest}
use Rattle.frame.specs.Temperature.{told, is_absent, is_bad, heat_of, heat1900, heat1800, put_heat}
use Rattle.frame.specs.Reply.{mode_in, is1800, odd_parity, heat_in, parity_right, size_for, count_for, reply_fault}
use Rattle.promises_frame.specs.Temperatures.{read_back}
use Rattle.promises_frame.proofs.Fields.{same-within}
use Rattle.promises_frame.proofs.Digits.{reads_three}
use Rattle.promises_frame.proofs.Lines.{line-first_bytes}
use Rattle.promises_frame.proofs.Levels.{fit, digits-fit}
use Rattle.promises_frame.proofs.LevelPlace.{placed}
use Rattle.promises_frame.proofs.TemperaturesBack.{reads-back}
use Rattle.promises_frame.proofs.ReplySent.{Sent}

-- The tests before the level's, none of which applies to the bytes s of the line n.
pub record Heard (settings address count : ℕ) (s : List ℕ) (n : ℕ) : Type 0 where
  pub line-is : line s ≡ n
  pub fault_10 : ltb 15 settings ≡ false
  pub fault_11 : ltb 999 address ≡ false
  pub fault_14 : formed count s ≡ true
  pub fault_1 : eqb count 0 ≡ false
  pub fault_2 : not (eqb count 40) && not (eqb count 56) ≡ false
  pub fault_3 : eqb (bit n 1) 0 ≡ false
  pub fault_4 : three_decimal n 4 && eqb (three_digits n 4) address ≡ true
  pub fault_5 : parity_right settings s ≡ true
  pub fault_6 : fill_clear n (mode_in settings).fill ≡ true

-- What is left to ask then.
pub left-to-ask : (settings address count : ℕ) (s : List ℕ) (n : ℕ) → Heard settings address count s n
    → reply_fault settings address count s ≡ first_of
    (no_chart (level_of (mode_in settings) n) gives 7
    ∷ above_largest (mode_in settings) (level_of (mode_in settings) n) gives 8
    ∷ is_bad (heat_in settings count n) gives 9 ∷ [])
unfolding reply_fault first_of
left-to-ask settings address count s n h =
    rw (h.line-is, h.fault_10, h.fault_11, h.fault_14, h.fault_1, h.fault_2, h.fault_3, h.fault_4, h.fault_5, h.fault_6)

-- The form of 5 or 7 bytes.
form : (absent : Bool) (n : ℕ) → formed (pick absent 40 56) (first_bytes (pick absent 5 7) n) ≡ true
unfolding formed first_bytes
form true n = refl
form false n = refl

count-there : (absent : Bool) → eqb (pick absent 40 56) 0 ≡ false
count-there true = refl
count-there false = refl

count-known : (absent : Bool) → not (eqb (pick absent 40 56) 40) && not (eqb (pick absent 40 56) 56) ≡ false
count-known true = refl
count-known false = refl

pub size_small : (absent : Bool) → pick absent 5 7 ≤ 8
size_small true = omega arith
size_small false = omega arith

-- The level's bits and its fill, as they were written.
module _ (settings address : ℕ) (r : Reading) (n : ℕ) (of : Sent settings address r n) where
  pub level-bits : (field n (mode_in settings).first (last_bit_of (mode_in settings)) ≡ digits_of (mode_in settings) r.level) × (fill_clear n (mode_in settings).fill ≡ true)
  level-bits =
      (placed (settings % 4)).holds n (digits_of (mode_in settings) r.level) (digits-fit (mode_in settings) (fit (settings % 4)) r.level) of.top.level

  pub line-sent : line (first_bytes (size_for r) n) ≡ n
  line-sent = line-first_bytes (size_for r) n (size_small (is_absent r.temperature)) of.top.short of.clear

  pub heard : settings ≤ 15 → address ≤ 999 → Heard settings address (count_for r) (first_bytes (size_for r) n) n
  heard hs ha =
      let d = reads_three n 4 address ha of.top.hundreds of.top.tens of.top.ones in
      record {
        line-is = line-sent;
        fault_10 = le-ltb 15 settings hs;
        fault_11 = le-ltb 999 address ha;
        fault_14 = form (is_absent r.temperature) n;
        fault_1 = count-there (is_absent r.temperature);
        fault_2 = count-known (is_absent r.temperature);
        fault_3 = ap (λ (x : ℕ). eqb x 0) of.top.start;
        fault_4 = ap₂ (λ (x y : Bool). x && y) d.0 (eq-eqb (three_digits n 4) address d.1);
        fault_5 = eq-eqb (marks (first_bytes (size_for r) n) % 2) (odd_parity settings) of.parity;
        fault_6 = level-bits.1;
      }

-- A temperature is read from bits 40 to 55 alone.
heat-same : (ty : Bool) (n m : ℕ) → field n 40 55 ≡ field m 40 55 → heat_of ty n ≡ heat_of ty m
unfolding heat1900 heat1800
heat-same ty n m e =
    let a : bit n 40 ≡ bit m 40 = same-within n m 40 55 40 40 (omega arith) (omega arith) (omega arith) (omega arith) e in
    let b : bit n 41 ≡ bit m 41 = same-within n m 40 55 41 41 (omega arith) (omega arith) (omega arith) (omega arith) e in
    let c : bit n 42 ≡ bit m 42 = same-within n m 40 55 42 42 (omega arith) (omega arith) (omega arith) (omega arith) e in
    let d : bit n 43 ≡ bit m 43 = same-within n m 40 55 43 43 (omega arith) (omega arith) (omega arith) (omega arith) e in
    let x : field n 44 47 ≡ field m 44 47 = same-within n m 40 55 44 47 (omega arith) (omega arith) (omega arith) (omega arith) e in
    let y : field n 48 51 ≡ field m 48 51 = same-within n m 40 55 48 51 (omega arith) (omega arith) (omega arith) (omega arith) e in
    let z : field n 52 55 ≡ field m 52 55 = same-within n m 40 55 52 55 (omega arith) (omega arith) (omega arith) (omega arith) e in
    rw (a, b, c, d, x, y, z)

absent-back : (ty : Bool) (t : Temperature) → is_absent t ≡ true → Absent ≡ read_back ty t
absent-back ty (Degrees d) e = absurd (false≢true e)
absent-back ty Above e = absurd (false≢true e)
absent-back ty Below e = absurd (false≢true e)
absent-back true Absent e = refl
absent-back false Absent e = refl

pub heat-sent : (settings address : ℕ) (r : Reading) (n : ℕ) → Sent settings address r n
    → heat_in settings (count_for r) n ≡ told (read_back (is1800 settings) r.temperature)
heat-sent settings address r n of = go (is_absent r.temperature) refl
  where
    go : (b : Bool) → is_absent r.temperature ≡ b
        → pick (eqb (pick b 40 56) 40) (told Absent) (heat_of (is1800 settings) n) ≡ told (read_back (is1800 settings) r.temperature)
    go true e = ap told (absent-back (is1800 settings) r.temperature e)
    go false e =
        heat-same (is1800 settings) n (put_heat (is1800 settings) r.temperature) (of.warmth e)
        ∙ reads-back (is1800 settings) r.temperature e
