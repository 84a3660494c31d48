-- Temperatures. The sixteen bits are seven parts, four single bits and three digits; each law goes by those parts.
use mathlib.Core.Path.{◌≡◌, refl, ap, ap₂, ◌∙◌}
use mathlib.Core.Bool.{Bool, true, false, true≢false, false≢true}
use Prim.Native.Nat.{ℕ, ◌+◌, ◌-◌, ◌*◌, ◌/◌, ◌%◌, ◌<◌, ◌≤◌, min}
use native.Mathlib.Omega.{arith}
use lib.Dec.{eqb, leb}
use lib.IntN.{ℤ, pos, negsuc}
use borrow.Author.Tests.{leb-true, leb-false, le-leb}
use Rattle.frame.specs.declared.Temperature.{Temperature}
use Rattle.frame.specs.declared.Temperature.TheVariants.{Degrees, Above, Below, Absent}
use Rattle.frame.specs.Pick.{pick}
use Rattle.frame.specs.Line.{field, bit, put, mark}
use Rattle.frame.specs.Temperature.{limit, told, bad, signed, is_plus, magnitude, degrees_at, hundreds1900, heat1900, heat1800, put_degrees, put_degrees_1900, put_heat_1900, put_heat_1800, put_above_1800, put_below_1800, heat_of, put_heat, is_absent}
use Rattle.promises_frame.specs.Temperatures.{InRange, read_back}
use Rattle.promises_frame.proofs.Bytes.{below-8}
use Rattle.promises_frame.proofs.Digits.{mark-1, mark-lt, three}

-- The parts of a line's temperature: bits 40 to 43, and three digits.
pub record Parts (n a b c d x y z : ℕ) : Type 0 where
  pub at_40 : bit n 40 ≡ a
  pub at_41 : bit n 41 ≡ b
  pub at_42 : bit n 42 ≡ c
  pub at_43 : bit n 43 ≡ d
  pub tens : field n 44 47 ≡ x
  pub ones : field n 48 51 ≡ y
  pub tenths : field n 52 55 ≡ z

-- The parts of a sum of parts.
parts : (n a b c d x y z : ℕ) → n ≡ put a 40 + put b 41 + put c 42 + put d 43 + (put x 47 + put y 51 + put z 55)
    → a < 2 → b < 2 → c < 2 → d < 2 → x ≤ 9 → y ≤ 9 → z ≤ 9 → Parts n a b c d x y z
parts n a b c d x y z e pa pb pc pd px py pz = omega arith

-- The parts that a 1900 writes, and those that an 1800 writes.
pub parts-1900 : (plus : Bool) (m : ℕ)
    → Parts (put_degrees_1900 plus m) (1 - m / 1000 % 2) (mark plus) (1 - m / 1000 / 2 % 2) (1 - m / 1000 / 4 % 2) (m % 1000 / 100) (m % 1000 / 10 % 10) (m % 1000 % 10)
unfolding put_degrees_1900
parts-1900 plus m =
    let t = three (m % 1000) (omega arith) in
    parts (put_degrees_1900 plus m) (1 - m / 1000 % 2) (mark plus) (1 - m / 1000 / 2 % 2) (1 - m / 1000 / 4 % 2) (m % 1000 / 100) (m % 1000 / 10 % 10) (m % 1000 % 10)
    (regroup (put (1 - m / 1000 % 2) 40) (put (mark plus) 41) (put (1 - m / 1000 / 2 % 2) 42) (put (1 - m / 1000 / 4 % 2) 43)
    (put (m % 1000 / 100) 47 + put (m % 1000 / 10 % 10) 51 + put (m % 1000 % 10) 55))
    (omega arith) (mark-lt plus) (omega arith) (omega arith) t.0 t.1 t.2
  where
    regroup : (a b c d x : ℕ) → a + c + d + (b + x) ≡ a + b + c + d + x
    regroup a b c d x = omega arith

abbrev pub degrees1800 : Bool → ℕ → ℕ
degrees1800 plus m = put (m / 1000) 42 + put_degrees plus m

pub parts-1800 : (plus : Bool) (m : ℕ) → m ≤ limit true
    → Parts (degrees1800 plus m) 0 (mark plus) (m / 1000) 0 (m % 1000 / 100) (m % 1000 / 10 % 10) (m % 1000 % 10)
parts-1800 plus m k =
    let t = three (m % 1000) (omega arith) in
    parts (degrees1800 plus m) 0 (mark plus) (m / 1000) 0 (m % 1000 / 100) (m % 1000 / 10 % 10) (m % 1000 % 10)
    (with-hundred (put (m / 1000) 42) (put (mark plus) 41) (put (m % 1000 / 100) 47 + put (m % 1000 / 10 % 10) 51 + put (m % 1000 % 10) 55))
    (omega arith) (mark-lt plus) (omega arith) (omega arith) t.0 t.1 t.2
  where
    with-hundred : (c b x : ℕ) → c + (b + x) ≡ 0 + b + c + 0 + x
    with-hundred c b x = omega arith

-- What the parts read as, of either type.
module _ (n a b c d x y z : ℕ) (of : Parts n a b c d x y z) (px : x ≤ 9) (py : y ≤ 9) (pz : z ≤ 9) where
  degrees : (h : ℕ) → degrees_at n h ≡ told (Degrees (signed (eqb b 1) (h * 1000 + (x * 100 + y * 10 + z))))
  degrees h = rw (of.at_41, of.tens, of.ones, of.tenths, le-leb x 9 px, le-leb y 9 py, le-leb z 9 pz)

  read-1900 : heat1900 n ≡ told (Degrees (signed (eqb b 1) (((1 - a) + 2 * (1 - c) + 4 * (1 - d)) * 1000 + (x * 100 + y * 10 + z))))
  unfolding heat1900
  read-1900 = degrees (hundreds1900 n) ∙ rw (of.at_40, of.at_42, of.at_43)

  read-1800 : heat1800 n ≡ pick (eqb d 1) (pick (eqb a 1) (told Below) (told Above)) (pick (eqb a 1) bad (told (Degrees (signed (eqb b 1) (c * 1000 + (x * 100 + y * 10 + z))))))
  unfolding heat1800
  read-1800 = rw (of.at_40, of.at_43, degrees (bit n 42), of.at_42)

-- Hundreds and digits, put together.
hundreds : (h : ℕ) → h < 8 → (1 - (1 - h % 2)) + 2 * (1 - (1 - h / 2 % 2)) + 4 * (1 - (1 - h / 4 % 2)) ≡ h
hundreds = below-8 (λ (h : ℕ). (1 - (1 - h % 2)) + 2 * (1 - (1 - h / 2 % 2)) + 4 * (1 - (1 - h / 4 % 2)) ≡ h) refl refl refl refl refl refl refl refl

joined : (m : ℕ) → m ≤ limit false
    → ((1 - (1 - m / 1000 % 2)) + 2 * (1 - (1 - m / 1000 / 2 % 2)) + 4 * (1 - (1 - m / 1000 / 4 % 2))) * 1000
    + (m % 1000 / 100 * 100 + m % 1000 / 10 % 10 * 10 + m % 1000 % 10) ≡ m
joined m k = rw (hundreds (m / 1000) (omega arith), (three (m % 1000) (omega arith)).3) (omega arith)

-- Degrees that were written read back.
back-1900 : (plus : Bool) (m : ℕ) → m ≤ limit false → heat1900 (put_degrees_1900 plus m) ≡ told (Degrees (signed plus m))
back-1900 plus m k =
    let t = three (m % 1000) (omega arith) in
    read-1900 (put_degrees_1900 plus m) (1 - m / 1000 % 2) (mark plus) (1 - m / 1000 / 2 % 2) (1 - m / 1000 / 4 % 2)
    (m % 1000 / 100) (m % 1000 / 10 % 10) (m % 1000 % 10) (parts-1900 plus m) t.0 t.1 t.2
    ∙ ap₂ (λ (p : Bool) (x : ℕ). told (Degrees (signed p x))) (mark-1 plus) (joined m k)

back-1800 : (plus : Bool) (m : ℕ) → m ≤ limit true → heat1800 (degrees1800 plus m) ≡ told (Degrees (signed plus m))
back-1800 plus m k =
    let t = three (m % 1000) (omega arith) in
    read-1800 (degrees1800 plus m) 0 (mark plus) (m / 1000) 0 (m % 1000 / 100) (m % 1000 / 10 % 10) (m % 1000 % 10) (parts-1800 plus m k) t.0 t.1 t.2
    ∙ ap₂ (λ (p : Bool) (x : ℕ). told (Degrees (signed p x))) (mark-1 plus) (rw t.3 (omega arith))

above-back : heat1800 put_above_1800 ≡ told Above
unfolding heat1800
above-back = refl

below-back : heat1800 put_below_1800 ≡ told Below
unfolding heat1800
below-back = refl

-- A number is its sign and its magnitude.
whole : (d : ℤ) → signed (is_plus d) (magnitude d) ≡ d
whole (pos n) = refl
whole (negsuc n) = refl

-- Degrees of either type, within its limit and beyond it.
degrees-back : (is1800 : Bool) (d : ℤ) → heat_of is1800 (put_heat is1800 (Degrees d)) ≡ told (read_back is1800 (Degrees d))
unfolding put_heat_1900 put_heat_1800
degrees-back true d = go (leb (magnitude d) (limit true)) refl (is_plus d) refl
  where
    go : (b : Bool) → leb (magnitude d) (limit true) ≡ b → (p : Bool) → is_plus d ≡ p
        → heat1800 (pick b (degrees1800 (is_plus d) (magnitude d)) (pick p put_above_1800 put_below_1800)) ≡ told (pick b (Degrees d) (pick p Above Below))
    go true k p q = back-1800 (is_plus d) (magnitude d) (leb-true (magnitude d) (limit true) k) ∙ ap (λ (x : ℤ). told (Degrees x)) (whole d)
    go false k true q = above-back
    go false k false q = below-back
degrees-back false d = go (leb (magnitude d) (limit false)) refl
  where
    go : (b : Bool) → leb (magnitude d) (limit false) ≡ b
        → heat1900 (put_degrees_1900 (is_plus d) (min (magnitude d) (limit false))) ≡ told (pick b (Degrees d) (Degrees (signed (is_plus d) (limit false))))
    go true k =
        let h : magnitude d ≤ limit false = leb-true (magnitude d) (limit false) k in
        let size : min (magnitude d) (limit false) ≡ magnitude d = omega arith in
        ap (λ (m : ℕ). heat1900 (put_degrees_1900 (is_plus d) m)) size ∙ back-1900 (is_plus d) (magnitude d) h ∙ ap (λ (x : ℤ). told (Degrees x)) (whole d)
    go false k =
        let h : limit false < magnitude d = leb-false (magnitude d) (limit false) k in
        let size : min (magnitude d) (limit false) ≡ limit false = omega arith in
        ap (λ (m : ℕ). heat1900 (put_degrees_1900 (is_plus d) m)) size ∙ back-1900 (is_plus d) (limit false) (omega arith)

-- Every temperature that is there, of either type.
pub reads-back : (is1800 : Bool) (t : Temperature) → is_absent t ≡ false → heat_of is1800 (put_heat is1800 t) ≡ told (read_back is1800 t)
unfolding put_heat_1900 put_heat_1800
reads-back is1800 (Degrees d) e = degrees-back is1800 d
reads-back true Above e = above-back
reads-back true Below e = below-back
reads-back false Above e = back-1900 true (limit false) (omega arith)
reads-back false Below e = back-1900 false (limit false) (omega arith)
reads-back is1800 Absent e = absurd (true≢false e)

pub in-range : (is1800 : Bool) (t : Temperature) → InRange is1800 t → read_back is1800 t ≡ t
in-range is1800 (Degrees d) h = rw (le-leb (magnitude d) (limit is1800) h)
in-range true Above h = refl
in-range true Below h = refl
in-range false Above h = absurd (false≢true h)
in-range false Below h = absurd (false≢true h)
in-range is1800 Absent h = refl
