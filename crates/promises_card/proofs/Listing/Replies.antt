-- How long the text of a reply gets. A fault has at most two digits, because the numbers of the tests do; the level of an accepted reply is at most
-- its mode's largest, because fault 8 does not apply; a temperature has four digits of four bits at most. Assumes nothing.
use mathlib.Core.Path.{◌≡◌, refl, sym, subst}
use mathlib.Core.Bool.{Bool, true, false, ◌&&◌}
use mathlib.Core.List.{List, [], ◌∷◌, ◌++◌}
use Prim.Native.Nat.{ℕ, zero, suc, ◌+◌, ◌*◌, ◌%◌, ◌<◌, ◌≤◌}
use native.Mathlib.Omega.{arith}
use borrow.Author.Tests.{eqb-true, eqb-false, ltb-false}
use lib.Dec.{T, eqb, ltb, ltb→lt}
use lib.ListN.{length, get_or, length-append}
use Rattle.frame.specs.declared.Reading.{Reading}
use Rattle.frame.specs.declared.Temperature.TheVariants.{Degrees}
use Rattle.frame.specs.Pick.{pick}
use Rattle.frame.specs.Line.{line, bit, three_digits, three_decimal}
use Rattle.frame.specs.Faults.{Test, first_of, place_named, fault}
use Rattle.frame.specs.Level.{Mode, Level, known, lost, level_of, value_of, place_lost, above_largest}
use Rattle.frame.specs.Temperature.{Heat, is_plus, signed, magnitude, degrees_at, hundreds1900, heat1900, heat1800, temperature_of}
use Rattle.frame.specs.Reply.{reply_tests, reply_fault, refused_by, reply_of, reading_at, mode_in, heat_in, is1800}
use Rattle.frame.proofs.Tables.{pick-case}
use Rattle.frame.proofs.Numbers.{own_number, reply-small}
use Rattle.frame.proofs.EachMode.{small-levels}
use Rattle.frame.proofs.Verdict.{place-small}
use Rattle.listing.specs.Text.{ascii, in_decimal, digits_up_to}
use Rattle.listing.specs.Lines.{temperature_text, alarm_text, reading_text, reply_text}
use Rattle.listing.proofs.Numbers.{few-digits}
use Rattle.promises_frame.proofs.Temperatures.{magnitude-signed}
use Rattle.std.specs.Prelude.{Ok, Err}
use Rattle.frame.specs.declared.faults.Fault.TheVariants.{InNoChart}

-- tests whose numbers are not 0
abbrev numbered : List Test → Bool
numbered [] = true
numbered (t ∷ ts) = ltb 0 t.number && numbered ts

both : (a b : Bool) → T (a && b) → T a × T b
both true b h = (tt, h)
both false b h = absurd h

-- where no fault is given, no test applies
none-applies : (ts : List Test) (d : Test) → T (numbered ts) → first_of ts ≡ 0 → (i : ℕ) → i < length ts → (get_or ts i d).applies ≡ false
unfolding first_of
none-applies [] d h e i near = absurd (omega arith)
none-applies (t ∷ ts) d h e i near =
    let each = both (ltb 0 t.number) (numbered ts) h in
    go t.applies refl i near e (ltb→lt 0 t.number each.0) (none-applies ts d each.1)
  where
    go : (a : Bool) → t.applies ≡ a → (i : ℕ) → i < length (t ∷ ts) → pick a t.number (first_of ts) ≡ 0 → 0 < t.number
        → (first_of ts ≡ 0 → (j : ℕ) → j < length ts → (get_or ts j d).applies ≡ false) → (get_or (t ∷ ts) i d).applies ≡ false
    go true p i near e some ih = absurd (omega arith)
    go false p zero near e some ih = p
    go false p (suc j) near e some ih = ih e j (omega arith)

-- the level of an accepted reply
small-level : (m : Mode) (l : Level) → m.largest < 65536 → above_largest m l ≡ false → value_of l < 65536
small-level m (known v) small below = omega (arith, ltb-false m.largest v below)
small-level m (lost k) small below = omega arith

level-lt : (settings address count : ℕ) (s : List ℕ) → reply_fault settings address count s ≡ 0 → value_of (level_of (mode_in settings) (line s)) < 65536
unfolding reply_fault
level-lt settings address count s e =
    small-level (mode_in settings) (level_of (mode_in settings) (line s)) (small-levels (settings % 4))
    (none-applies (reply_tests settings address count s) (record { applies = false; number = 1 }) tt e 10 (omega arith))

-- a temperature: at most a sign and four digits of four bits
degrees-few : (plus : Bool) (m : ℕ) → m < 100000 → length (temperature_text (Degrees (signed plus m))) ≤ 6
degrees-few plus m small =
    let d = signed plus m in
    let sign : length (pick (is_plus d) [] (ascii "-")) ≤ 1 = pick-case (λ (t : List ℕ). length t ≤ 1) (is_plus d) (omega arith) (omega arith) in
    let digits : length (in_decimal (magnitude d)) ≤ 5 = rw (magnitude-signed plus m) (few-digits 4 m small) in
    simp length-append (omega arith)

abbrev Short : Heat → Type 0
Short h = length (temperature_text (temperature_of h)) ≤ 6

degrees-at-few : (n hundreds : ℕ) → hundreds ≤ 7 → Short (degrees_at n hundreds)
degrees-at-few n hundreds h =
    pick-case Short (three_decimal n 44) (degrees-few (eqb (bit n 41) 1) (hundreds * 1000 + three_digits n 44) (omega arith)) (omega arith)

heat-few : (settings count n : ℕ) → Short (heat_in settings count n)
unfolding heat1800 heat1900
heat-few settings count n =
    pick-case Short (eqb count 40) (omega arith)
    (pick-case Short (is1800 settings)
    (pick-case Short (eqb (bit n 43) 1) (pick-case Short (eqb (bit n 40) 1) (omega arith) (omega arith))
    (pick-case Short (eqb (bit n 40) 1) (omega arith) (degrees-at-few n (bit n 42) (omega arith))))
    (degrees-at-few n (hundreds1900 n) (omega arith)))

-- a reading, and a reply
alarm-few : (on : Bool) → length (alarm_text on) ≤ 1
unfolding digits_up_to
alarm-few true = omega arith
alarm-few false = omega arith

reading-few : (r : Reading) → r.level < 65536 → length (temperature_text r.temperature) ≤ 6 → length (reading_text r) ≤ 16
unfolding reading_text
reading-few r level heat =
    let digits = few-digits 4 r.level (omega arith) in
    let one = alarm-few r.alarm1 in
    let zero = alarm-few r.alarm0 in
    simp length-append (omega arith)

fault-few : (n : ℕ) → (n ≡ 0 → ⊥) → n ≤ 38 → eqb n 7 ≡ false → length (reply_text (Err (fault n))) ≤ 16
fault-few n some few other =
    let digits = few-digits 1 n (omega arith) in
    let text : length (ascii "fault " ++ in_decimal n) ≤ 16 = simp length-append (omega arith) in
    subst
    (λ (k : ℕ). length (pick (eqb k 7) (ascii "fault 7 " ++ in_decimal (place_named (fault n))) (ascii "fault " ++ in_decimal k)) ≤ 16)
    (sym (own_number n some few))
    (subst (λ (t : Bool). length (pick t (ascii "fault 7 " ++ in_decimal (place_named (fault n))) (ascii "fault " ++ in_decimal n)) ≤ 16) (sym other) text)

place-few : (p : ℕ) → p < 5 → length (reply_text (Err (InNoChart p))) ≤ 16
place-few p few =
    let digits = few-digits 0 p (omega arith) in
    simp length-append (omega arith)

pub reply-few : (settings address count : ℕ) (s : List ℕ) → length (reply_text (reply_of settings address count s)) ≤ 16
unfolding reply_of
reply-few settings address count s = go (eqb (reply_fault settings address count s) 0) refl
  where
    refused : (reply_fault settings address count s ≡ 0 → ⊥) → (t : Bool) → eqb (reply_fault settings address count s) 7 ≡ t
        → length (reply_text (Err (pick t (InNoChart (place_lost (level_of (mode_in settings) (line s)))) (fault (reply_fault settings address count s))))) ≤ 16
    refused some true e = place-few (place_lost (level_of (mode_in settings) (line s))) (place-small settings (line s))
    refused some false e = fault-few (reply_fault settings address count s) some (reply-small settings address count s) e

    go : (t : Bool) → eqb (reply_fault settings address count s) 0 ≡ t
        → length (reply_text (pick t (Ok (reading_at settings count (line s))) (Err (refused_by (level_of (mode_in settings) (line s)) (reply_fault settings address count s))))) ≤ 16
    go true e =
        reading-few (reading_at settings count (line s)) (level-lt settings address count s (eqb-true (reply_fault settings address count s) 0 e))
        (heat-few settings count (line s))
    go false e = refused (eqb-false (reply_fault settings address count s) 0 e) (eqb (reply_fault settings address count s) 7) refl
