-- The parts of a reply's word are small enough to add up, and its temperature ends where the parity bit begins. Assumes nothing.
use mathlib.Core.Path.{◌≡◌, refl}
use mathlib.Core.Bool.{Bool, true, false}
use Prim.Native.Nat.{ℕ, ◌+◌, ◌-◌, ◌*◌, ◌/◌, ◌%◌, ◌^◌, ◌<◌, ◌≤◌, min}
use native.Mathlib.Nat.{lt_of_lt_of_le}
use native.Mathlib.Omega.{arith}
use borrow.Author.Tests.{leb-true}
use lib.Dec.{leb}
use lib.Pow.{pow_mono, shl_lt, ones_lt}
use Rattle.frame.specs.declared.Temperature.{Temperature}
use Rattle.frame.specs.declared.Temperature.TheVariants.{Degrees, Above, Below, Absent}
use Rattle.frame.specs.Pick.{pick}
use Rattle.frame.specs.Line.{put, mark}
use Rattle.frame.specs.Level.{Mode, mode_of, put_level}
use Rattle.frame.specs.Temperature.{limit, is_plus, magnitude, put_degrees, put_degrees_1900, put_heat_1900, put_degrees_1800, put_heat_1800, put_heat, is_absent}
use Rattle.frame.specs.declared.Reading.{Reading}
use Rattle.frame.specs.Reply.{mode_in, is1800, body_of}
use Rattle.frame.specs.Inside.Packed.{three_of}
use Rattle.frame.specs.Inside.Written.{front_of}
use Rattle.frame.specs.declared.constants.Constants.{Constants}
use Rattle.frame.specs.Inside.Constants.{Fits, digit_bits, codes_by, write_by}
use Rattle.frame.proofs.Fitting.{write-is, some-fit}
use Rattle.frame.proofs.Upward.{up_lt, sixteen}
use Rattle.frame.proofs.Tables.{pick-case}

-- the level's part of any mode that constants fit stays below bit 53, and so in every mode
shifted : (a j fill : ℕ) → a < 2 ^ j → j + (27 + fill) ≤ 53 → a * 2 ^ (27 + fill) < 2 ^ 53
shifted a j fill h w = lt_of_lt_of_le (shl_lt j (27 + fill) h) (pow_mono {i = j + (27 + fill)} {j = 53} w)

module _ (m : Mode) (k : Constants) (f : Fits m k) where
  placed : (v : ℕ) → write_by k v < 2 ^ 53
  placed v = go (leb v k.largest) refl
    where
      few : codes_by k v < 2 ^ (4 * k.digits)
      few = rw (sixteen k.digits) (up_lt k.charts k.digits k.start v)

      go : (b : Bool) → leb v k.largest ≡ b → write_by k v < 2 ^ 53
      go true e = rw e (shifted (codes_by k v) (4 * k.digits) k.after few f.ends)
      go false e = rw e (shifted (2 ^ digit_bits k.first k.after - 1) (digit_bits k.first k.after) k.after (ones_lt (digit_bits k.first k.after)) (omega (arith, k.from_16, f.ends)))

  below : (v : ℕ) → put_level m v < 2 ^ 53
  below v = rw (← write-is m k f v) (placed v)

pub level-small : (k v : ℕ) → put_level (mode_of k) v < 2 ^ 53
level-small k v = let f = some-fit k in below (mode_of k) f.0 f.1 v

-- a part that begins at bit 9 of the word and stays below bit 25
pub record Low (n : ℕ) : Type 0 where
  pub small : n < 2 ^ 25
  pub ends : n % 2 ^ 9 ≡ 0

-- sign and digits end below bit 24, the hundreds' bits stand above the digits
pub degrees-small : (plus : Bool) (m : ℕ) → put_degrees plus m < 2 ^ 23 + 2 ^ 21
degrees-small true m = omega arith
degrees-small false m = omega arith

degrees-ends : (plus : Bool) (m : ℕ) → put_degrees plus m % 2 ^ 9 ≡ 0
degrees-ends true m = omega arith
degrees-ends false m = omega arith

with-hundreds : (a b c d : ℕ) → a ≤ 1 → b ≤ 1 → c ≤ 1 → d < 2 ^ 23 + 2 ^ 21 → d % 2 ^ 9 ≡ 0 → Low (a * 2 ^ 24 + b * 2 ^ 22 + c * 2 ^ 21 + d)
with-hundreds a b c d ha hb hc small ends = record { small = omega arith; ends = omega arith }

all-1900 : (plus : Bool) (m : ℕ) → Low (put_degrees_1900 plus m)
unfolding put_degrees_1900
all-1900 plus m =
    let h = m / 1000 in
    with-hundreds (1 - h % 2) (1 - h / 2 % 2) (1 - h / 4 % 2) (put_degrees plus m) (omega arith) (omega arith) (omega arith) (degrees-small plus m) (degrees-ends plus m)

low-1900 : (t : Temperature) → Low (put_heat_1900 t)
unfolding put_heat_1900
low-1900 (Degrees d) = all-1900 (is_plus d) (min (magnitude d) (limit false))
low-1900 Above = all-1900 true (limit false)
low-1900 Below = all-1900 false (limit false)
low-1900 Absent = record { small = omega arith; ends = omega arith }

-- an 1800's one hundred stands where the second bit of a 1900's stands
with-hundred : (plus : Bool) (m : ℕ) → m ≤ limit true → Low (put (m / 1000) 42 + put_degrees plus m)
with-hundred plus m h = sum (m / 1000) (put_degrees plus m) (omega arith) (degrees-small plus m) (degrees-ends plus m)
  where
    sum : (b d : ℕ) → b ≤ 1 → d < 2 ^ 23 + 2 ^ 21 → d % 2 ^ 9 ≡ 0 → Low (b * 2 ^ 22 + d)
    sum b d hb small ends = record { small = omega arith; ends = omega arith }

all-1800 : (plus : Bool) (m : ℕ) → Low (put_degrees_1800 plus m)
unfolding put_degrees_1800
all-1800 plus m = go (leb m (limit true)) refl
  where
    above : Low (put 1 41 + put 1 43)
    above = record { small = omega arith; ends = omega arith }

    below : Low (put 1 40 + put 1 43)
    below = record { small = omega arith; ends = omega arith }

    go : (b : Bool) → leb m (limit true) ≡ b → Low (pick b (put (m / 1000) 42 + put_degrees plus m) (pick plus (put 1 41 + put 1 43) (put 1 40 + put 1 43)))
    go true e = with-hundred plus m (leb-true m (limit true) e)
    go false e = pick-case Low plus above below

low-1800 : (t : Temperature) → Low (put_heat_1800 t)
unfolding put_heat_1800
low-1800 (Degrees d) = all-1800 (is_plus d) (magnitude d)
low-1800 Above = record { small = omega arith; ends = omega arith }
low-1800 Below = record { small = omega arith; ends = omega arith }
low-1800 Absent = record { small = omega arith; ends = omega arith }

pub heat-low : (is1800 : Bool) (t : Temperature) → Low (put_heat is1800 t)
heat-low is1800 t = pick-case Low is1800 (low-1800 t) (low-1900 t)

-- the whole word without its parity bit fits, with room for the parity bit
add-up : (h l a b t : ℕ) → h < 2 ^ 12 → l < 2 ^ 53 → a ≤ 1 → b ≤ 1 → Low t → 2 ^ 63 + h * 2 ^ 49 + l + a * 2 ^ 26 + b * 2 ^ 25 + t < 2 ^ 63 + 2 ^ 62
add-up h l a b t hh ml ha hb lt = omega (arith, hh, ml, ha, hb, lt.small)

-- the definition of the word, its address digits as one number
body_is : (settings address : ℕ) (r : Reading) → body_of settings address r ≡ 2 ^ 63 + three_of address * 2 ^ 49 + put_level (mode_in settings) r.level + mark r.alarm1 * 2 ^ 26 + mark r.alarm0 * 2 ^ 25 + put_heat (is1800 settings) r.temperature
unfolding body_of
body_is settings address r = regroup (address / 100) (address / 10 % 10) (address % 10) (put_level (mode_in settings) r.level) (mark r.alarm1) (mark r.alarm0) (put_heat (is1800 settings) r.temperature)
  where
    regroup : (x y z l a b t : ℕ) → 1 * 2 ^ 63 + (x * 2 ^ 57 + y * 2 ^ 53 + z * 2 ^ 49) + l + a * 2 ^ 26 + b * 2 ^ 25 + t ≡ 2 ^ 63 + (x * 256 + y * 16 + z) * 2 ^ 49 + l + a * 2 ^ 26 + b * 2 ^ 25 + t
    regroup x y z l a b t = omega arith

mark-le : (b : Bool) → mark b ≤ 1
mark-le true = omega arith
mark-le false = omega arith

pub three-lt : (v : ℕ) → v ≤ 999 → three_of v < 2 ^ 12
three-lt v h = omega arith

pub body-small : (settings address : ℕ) (r : Reading) → address ≤ 999 → body_of settings address r < 2 ^ 63 + 2 ^ 62
body-small settings address r h =
    rw (body_is settings address r)
    (add-up (three_of address) (put_level (mode_in settings) r.level) (mark r.alarm1) (mark r.alarm0) (put_heat (is1800 settings) r.temperature) (three-lt address h) (level-small (settings % 4) r.level) (mark-le r.alarm1) (mark-le r.alarm0) (heat-low (is1800 settings) r.temperature))

-- and so does what stands before the temperature
pub front-small : (settings address : ℕ) (r : Reading) → address ≤ 999 → front_of settings address r < 2 ^ 63 + 2 ^ 62
unfolding body_of
front-small settings address r h = omega (arith, body-small settings address r h)

-- an absent temperature has no bits
pub no-heat : (b : Bool) (t : Temperature) → is_absent t ≡ true → put_heat b t ≡ 0
unfolding put_heat_1800 put_heat_1900
no-heat b (Degrees d) e = let z : ◌≡◌ {A = ℕ} 0 1 = cc in absurd (omega arith)
no-heat b Above e = let z : ◌≡◌ {A = ℕ} 0 1 = cc in absurd (omega arith)
no-heat b Below e = let z : ◌≡◌ {A = ℕ} 0 1 = cc in absurd (omega arith)
no-heat true Absent e = refl
no-heat false Absent e = refl
