-- Each definition that is a chain of tests, by what the tests give. `read` and `sisal_write_item` cite the law of their refusals at each return, and
-- `characters_in` and `error_in` that of what they take out; those of the frame, of the addresses and of the kind are for the promises. And back:
-- what the tests gave, by the kind that was found or the record that was accepted. Assumes nothing.
use mathlib.Core.Path.{◌≡◌, refl, ap}
use mathlib.Core.Bool.{Bool, true, false, not, ◌&&◌, ◌||◌}
use mathlib.Core.List.{List, [], ◌∷◌}
use Prim.Native.Nat.{ℕ, ◌+◌, ◌-◌, ◌*◌, ◌≤◌, ◌<◌}
use native.Mathlib.Omega.{arith}
use borrow.Author.Tests.{eqb-true, eqb-false, leb-true, lt-leb}
use lib.Dec.{eqb, leb, ltb}
use lib.ListN.{length, get_or, take, drop}
use Rattle.frame.specs.Pick.{pick}
use Rattle.frame.specs.Faults.{first_of}
use Rattle.frame.proofs.Both.{both}
use Rattle.enraf.specs.Item.{Item, alone, setting, setting_taken, value, failed, equals, ampersand, exclamation, is_digit, digit_at, is_letter, is_data, has_data, kind_fits, text_fits, begins, ends, is_taken, is_error, kind_in, characters_in, error_in}
use Rattle.enraf.specs.Record.{STX, ETX, B, Z, item_record}
use Rattle.enraf.specs.Reading.{framed, check_right, addressed, item_in, read_fault}
use Rattle.enraf.specs.Writing.{write_fault}

pub error-by : (t : List ℕ) (x y z w v : Bool) → eqb (length t) 4 ≡ x → eqb (begins t) exclamation ≡ y → is_digit (get_or t 1 0) ≡ z
    → is_digit (get_or t 2 0) ≡ w → is_digit (get_or t 3 0) ≡ v → is_error t ≡ (x && y && z && w && v)
error-by t x y z w v a b c d e = λ i. (a i && b i && c i && d i && e i)

pub kind-by : (t : List ℕ) (x y z w v : Bool) → eqb (length t) 0 ≡ x → eqb (begins t) equals ≡ y → eqb (ends t) ampersand ≡ z → is_taken t ≡ w
    → is_error t ≡ v → kind_in t ≡ pick x 1 (pick y (pick z 4 2) (pick w 3 (pick v 6 5)))
unfolding kind_in
kind-by t x y z w v a b c d e = λ i. pick (a i) 1 (pick (b i) (pick (c i) 4 2) (pick (d i) 3 (pick (e i) 6 5)))

pub characters-by : (t : List ℕ) (x y z : Bool) → eqb (kind_in t) setting ≡ x → eqb (kind_in t) setting_taken ≡ y → eqb (kind_in t) value ≡ z
    → characters_in t ≡ pick x (drop 1 t) (pick y (take (length t - 2) (drop 1 t)) (pick z t []))
unfolding characters_in
characters-by t x y z a b c = λ i. pick (a i) (drop 1 t) (pick (b i) (take (length t - 2) (drop 1 t)) (pick (c i) t []))

pub number_by : (t : List ℕ) (x : Bool) → eqb (kind_in t) failed ≡ x → error_in t ≡ pick x (digit_at t 1 * 100 + digit_at t 2 * 10 + digit_at t 3) 0
unfolding error_in
number_by t x a = λ i. pick (a i) (digit_at t 1 * 100 + digit_at t 2 * 10 + digit_at t 3) 0

pub kind-fits-by : (kind error : ℕ) (d : List ℕ) (x y z w : Bool) → leb alone kind ≡ x → leb kind failed ≡ y
    → pick (has_data kind) (is_data d) (eqb (length d) 0) ≡ z → pick (eqb kind failed) (leb error 999) (eqb error 0) ≡ w
    → kind_fits kind error d ≡ (x && y && z && w)
unfolding kind_fits
kind-fits-by kind error d x y z w a b c e = λ i. (a i && b i && c i && e i)

pub text-by : (t : Item) (x y z : Bool) → is_letter t.first ≡ x → is_letter t.second ≡ y → kind_fits t.kind t.error t.characters ≡ z
    → text_fits t ≡ (x && y && z)
unfolding text_fits
text-by t x y z a b c = λ i. (a i && b i && c i)

pub framed-by : (s : List ℕ) (x y z w v : Bool) → leb 10 (length s) ≡ x → eqb (get_or s 0 0) STX ≡ y → eqb (get_or s 4 0) B ≡ z → eqb (get_or s 5 0) Z ≡ w
    → eqb (get_or s (length s - 2) 0) ETX ≡ v → framed s ≡ (x && y && z && w && v)
unfolding framed
framed-by s x y z w v a b c d e = λ i. (a i && b i && c i && d i && e i)

pub addressed-by : (s : List ℕ) (x y z : Bool) → is_digit (get_or s 1 0) ≡ x → is_digit (get_or s 2 0) ≡ y → is_digit (get_or s 3 0) ≡ z
    → addressed s ≡ (x && y && z)
unfolding addressed
addressed-by s x y z a b c = λ i. (a i && b i && c i)

pub read-fault-by : (s : List ℕ) (x y z w : Bool) → framed s ≡ x → check_right s ≡ y → addressed s ≡ z → text_fits (item_in s) ≡ w
    → read_fault s ≡ pick (not x) 29 (pick (not y) 30 (pick (not z) 31 (pick (not w) 32 0)))
unfolding read_fault first_of
read-fault-by s x y z w a b c d = λ i. pick (not (a i)) 29 (pick (not (b i)) 30 (pick (not (c i)) 31 (pick (not (d i)) 32 0)))

pub write-fault-by : (t : Item) (out : List ℕ) (x y z w : Bool) → ltb 9 t.ciu ≡ x → ltb 99 t.gauge ≡ y → text_fits t ≡ z
    → ltb (length out) (length (item_record t)) ≡ w
    → write_fault t out ≡ pick (x || y) 31 (pick (not z) 32 (pick w 33 0))
unfolding write_fault first_of
write-fault-by t out x y z w a b c d = λ i. pick (a i || b i) 31 (pick (not (c i)) 32 (pick (d i) 33 0))

-- What the tests gave where a kind was found. The five are: nothing follows, "=" first, "&" last, "&" alone, "!" and three digits.
abbrev kind_of : (x y z w v : Bool) → ℕ
kind_of x y z w v = pick x 1 (pick y (pick z 4 2) (pick w 3 (pick v 6 5)))

two : (x y z w v : Bool) → kind_of x y z w v ≡ 2 → (x ≡ false) × (y ≡ true) × (z ≡ false)
two true y z w v e = absurd (omega arith)
two false true true w v e = absurd (omega arith)
two false true false w v e = (refl, refl, refl)
two false false z true v e = absurd (omega arith)
two false false z false true e = absurd (omega arith)
two false false z false false e = absurd (omega arith)

three : (x y z w v : Bool) → kind_of x y z w v ≡ 3 → w ≡ true
three true y z w v e = absurd (omega arith)
three false true true w v e = absurd (omega arith)
three false true false w v e = absurd (omega arith)
three false false z true v e = refl
three false false z false true e = absurd (omega arith)
three false false z false false e = absurd (omega arith)

four : (x y z w v : Bool) → kind_of x y z w v ≡ 4 → (x ≡ false) × (y ≡ true) × (z ≡ true)
four true y z w v e = absurd (omega arith)
four false true true w v e = (refl, refl, refl)
four false true false w v e = absurd (omega arith)
four false false z true v e = absurd (omega arith)
four false false z false true e = absurd (omega arith)
four false false z false false e = absurd (omega arith)

six : (x y z w v : Bool) → kind_of x y z w v ≡ 6 → v ≡ true
six true y z w v e = absurd (omega arith)
six false true true w v e = absurd (omega arith)
six false true false w v e = absurd (omega arith)
six false false z true v e = absurd (omega arith)
six false false z false true e = refl
six false false z false false e = absurd (omega arith)

one : (x y z w v : Bool) → kind_of x y z w v ≡ 1 → x ≡ true
one true y z w v e = refl
one false true true w v e = absurd (omega arith)
one false true false w v e = absurd (omega arith)
one false false z true v e = absurd (omega arith)
one false false z false true e = absurd (omega arith)
one false false z false false e = absurd (omega arith)

module _ (t : List ℕ) where
  pub is-alone : kind_in t ≡ 1 → length t ≡ 0
  unfolding kind_in
  is-alone h =
      eqb-true (length t) 0 (one (eqb (length t) 0) (eqb (begins t) equals) (eqb (ends t) ampersand) (is_taken t) (is_error t) h)

  pub is-setting : kind_in t ≡ 2 → (eqb (length t) 0 ≡ false) × (eqb (begins t) equals ≡ true) × (eqb (ends t) ampersand ≡ false)
  unfolding kind_in
  is-setting h = two (eqb (length t) 0) (eqb (begins t) equals) (eqb (ends t) ampersand) (is_taken t) (is_error t) h

  pub is-taken : kind_in t ≡ 3 → is_taken t ≡ true
  unfolding kind_in
  is-taken h = three (eqb (length t) 0) (eqb (begins t) equals) (eqb (ends t) ampersand) (is_taken t) (is_error t) h

  pub is-setting-taken : kind_in t ≡ 4 → (eqb (length t) 0 ≡ false) × (eqb (begins t) equals ≡ true) × (eqb (ends t) ampersand ≡ true)
  unfolding kind_in
  is-setting-taken h = four (eqb (length t) 0) (eqb (begins t) equals) (eqb (ends t) ampersand) (is_taken t) (is_error t) h

  pub is-error : kind_in t ≡ 6 → is_error t ≡ true
  unfolding kind_in
  is-error h = six (eqb (length t) 0) (eqb (begins t) equals) (eqb (ends t) ampersand) (is_taken t) (is_error t) h

-- A setting has its "=", and a setting taken its "&" besides.
pub setting-long : (t : List ℕ) → kind_in t ≡ 2 → 1 ≤ length t
setting-long t h =
    let some : length t ≡ 0 → ⊥ = eqb-false (length t) 0 (is-setting t h).0 in
    omega arith

pub setting-taken-long : (t : List ℕ) → kind_in t ≡ 4 → 2 ≤ length t
setting-taken-long [] h =
    let some : ◌≡◌ {A = ℕ} 0 0 → ⊥ = eqb-false 0 0 (is-setting-taken [] h).0 in
    absurd (some refl)
setting-taken-long (b ∷ []) h =
    let first : b ≡ equals = eqb-true b equals (is-setting-taken (b ∷ []) h).1 in
    let last : b ≡ ampersand = eqb-true b ampersand (is-setting-taken (b ∷ []) h).2 in
    absurd (omega arith)
setting-taken-long (b ∷ d ∷ t) h = omega arith

-- An error has four bytes, three of them digits.
module _ (t : List ℕ) (h : is_error t ≡ true) where
  four-tests : (eqb (length t) 4 && eqb (begins t) exclamation && is_digit (get_or t 1 0) && is_digit (get_or t 2 0)) ≡ true
  four-tests = (both (eqb (length t) 4 && eqb (begins t) exclamation && is_digit (get_or t 1 0) && is_digit (get_or t 2 0)) (is_digit (get_or t 3 0)) h).0

  three-tests : (eqb (length t) 4 && eqb (begins t) exclamation && is_digit (get_or t 1 0)) ≡ true
  three-tests = (both (eqb (length t) 4 && eqb (begins t) exclamation && is_digit (get_or t 1 0)) (is_digit (get_or t 2 0)) four-tests).0

  two-tests : (eqb (length t) 4 && eqb (begins t) exclamation) ≡ true
  two-tests = (both (eqb (length t) 4 && eqb (begins t) exclamation) (is_digit (get_or t 1 0)) three-tests).0

  pub error-long : length t ≡ 4
  error-long = eqb-true (length t) 4 (both (eqb (length t) 4) (eqb (begins t) exclamation) two-tests).0

  pub error-begins : begins t ≡ exclamation
  error-begins = eqb-true (begins t) exclamation (both (eqb (length t) 4) (eqb (begins t) exclamation) two-tests).1

  pub error-digits : (is_digit (get_or t 1 0) ≡ true) × (is_digit (get_or t 2 0) ≡ true) × (is_digit (get_or t 3 0) ≡ true)
  error-digits = (
    (both (eqb (length t) 4 && eqb (begins t) exclamation) (is_digit (get_or t 1 0)) three-tests).1,
    (both (eqb (length t) 4 && eqb (begins t) exclamation && is_digit (get_or t 1 0)) (is_digit (get_or t 2 0)) four-tests).1,
    (both (eqb (length t) 4 && eqb (begins t) exclamation && is_digit (get_or t 1 0) && is_digit (get_or t 2 0)) (is_digit (get_or t 3 0)) h).1,
  )

-- What holds of an accepted record.
none : (x y z w : Bool) → ◌≡◌ {A = ℕ} (pick (not x) 29 (pick (not y) 30 (pick (not z) 31 (pick (not w) 32 0)))) 0
    → (x ≡ true) × (y ≡ true) × (z ≡ true) × (w ≡ true)
none true true true true e = (refl, refl, refl, refl)
none true true true false e = absurd (omega arith)
none true true false w e = absurd (omega arith)
none true false z w e = absurd (omega arith)
none false y z w e = absurd (omega arith)

pub accepted : (s : List ℕ) → read_fault s ≡ 0 → (framed s ≡ true) × (check_right s ≡ true) × (addressed s ≡ true) × (text_fits (item_in s) ≡ true)
unfolding read_fault first_of
accepted s h = none (framed s) (check_right s) (addressed s) (text_fits (item_in s)) h

module _ (s : List ℕ) (h : framed s ≡ true) where
  frame-4 : (leb 10 (length s) && eqb (get_or s 0 0) STX && eqb (get_or s 4 0) B && eqb (get_or s 5 0) Z) ≡ true
  unfolding framed
  frame-4 = (both (leb 10 (length s) && eqb (get_or s 0 0) STX && eqb (get_or s 4 0) B && eqb (get_or s 5 0) Z) (eqb (get_or s (length s - 2) 0) ETX) h).0

  frame-3 : (leb 10 (length s) && eqb (get_or s 0 0) STX && eqb (get_or s 4 0) B) ≡ true
  frame-3 = (both (leb 10 (length s) && eqb (get_or s 0 0) STX && eqb (get_or s 4 0) B) (eqb (get_or s 5 0) Z) frame-4).0

  frame-2 : (leb 10 (length s) && eqb (get_or s 0 0) STX) ≡ true
  frame-2 = (both (leb 10 (length s) && eqb (get_or s 0 0) STX) (eqb (get_or s 4 0) B) frame-3).0

  pub frame-long : 10 ≤ length s
  frame-long = leb-true 10 (length s) (both (leb 10 (length s)) (eqb (get_or s 0 0) STX) frame-2).0

  pub frame-signs : (get_or s 0 0 ≡ STX) × (get_or s 4 0 ≡ B) × (get_or s 5 0 ≡ Z) × (get_or s (length s - 2) 0 ≡ ETX)
  unfolding framed
  frame-signs = (
    eqb-true (get_or s 0 0) STX (both (leb 10 (length s)) (eqb (get_or s 0 0) STX) frame-2).1,
    eqb-true (get_or s 4 0) B (both (leb 10 (length s) && eqb (get_or s 0 0) STX) (eqb (get_or s 4 0) B) frame-3).1,
    eqb-true (get_or s 5 0) Z (both (leb 10 (length s) && eqb (get_or s 0 0) STX && eqb (get_or s 4 0) B) (eqb (get_or s 5 0) Z) frame-4).1,
    eqb-true (get_or s (length s - 2) 0) ETX
        (both (leb 10 (length s) && eqb (get_or s 0 0) STX && eqb (get_or s 4 0) B && eqb (get_or s 5 0) Z) (eqb (get_or s (length s - 2) 0) ETX) h).1,
  )

-- fewer than ten bytes are in no frame
pub too-short : (s : List ℕ) → length s < 10 → framed s ≡ false
unfolding framed
too-short s short =
    let few : leb 10 (length s) ≡ false = lt-leb 10 (length s) short in
    ap (λ (b : Bool). (b && eqb (get_or s 0 0) STX && eqb (get_or s 4 0) B && eqb (get_or s 5 0) Z && eqb (get_or s (length s - 2) 0) ETX)) few

pub address-digits : (s : List ℕ) → addressed s ≡ true
    → (is_digit (get_or s 1 0) ≡ true) × (is_digit (get_or s 2 0) ≡ true) × (is_digit (get_or s 3 0) ≡ true)
unfolding addressed
address-digits s h =
    let two = both (is_digit (get_or s 1 0) && is_digit (get_or s 2 0)) (is_digit (get_or s 3 0)) h in
    let first = both (is_digit (get_or s 1 0)) (is_digit (get_or s 2 0)) two.0 in
    (first.0, first.1, two.1)
