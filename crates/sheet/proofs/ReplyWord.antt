-- The 8 bytes where a reply can stand, as one word. Its lowest bits, those after the count, tell of the pad bits and of the blank bytes that follow the
-- reply; with them cleared byte by byte, the reply is left. Assumes nothing.
use mathlib.Core.Path.{◌≡◌, refl, sym, ap, ◌∙◌}
use mathlib.Core.Bool.{Bool, true, ◌&&◌}
use mathlib.Core.List.{List, ◌++◌}
use Prim.Native.Nat.{ℕ, zero, suc, ◌+◌, ◌-◌, ◌*◌, ◌/◌, ◌%◌, ◌^◌, ◌<◌, ◌≤◌}
use native.Mathlib.Nat.{pow-succ', mod-one, zero-mod, mod-eq_of_lt}
use native.Mathlib.Decide.{ℕ_discrete}
use native.Mathlib.Omega.{arith}
use borrow.Author.Tests.{eq-eqb, ne_eqb, eqb-true, le-leb}
use lib.Arith.{digits_mod}
use lib.Dec.{eqb}
use lib.ListN.{length, get_or, take, drop, replicate, length-append, length-drop, length-replicate, take-append-drop, get_or-eq_default}
use lib.Pow.{pow-add, high, low, mod-pow-add, mod-mod-pow, ones_lt}
use lib.Seq.{get_or-take, length-take-le}
use Rattle.frame.specs.Line.{bytes_for, pad_clear, formed}
use Rattle.sheet.specs.Bytes.{big_endian, number_in, all_blank}
use Rattle.sheet.proofs.Numbers.{AreBytes, bytes_take, bytes_drop, bytes-append, bytes-replicate, number_more, number_lt, number_append, number-zeros, bytes_back}
use Rattle.sheet.proofs.Same.{blank-number}

pow-256 : (n : ℕ) → 256 ^ n ≡ 2 ^ (8 * n)
pow-256 zero = refl
pow-256 (suc n) =
    let more : 8 * suc n ≡ 8 + 8 * n = omega arith in
    rw (more, pow-add 2 8 (8 * n), pow-succ' 256 n, pow-256 n) refl

-- a number over a power, below which another stands, is all ones below the power exactly where it is 0 and the other is
ones_below : (h p b : ℕ) → b < p → eqb (h * p + b) (p - 1) ≡ (eqb h 0 && eqb b (p - 1))
ones_below zero p b small = ap (λ (n : ℕ). eqb n (p - 1)) none
  where
    none : 0 * p + b ≡ b
    none = omega arith
ones_below (suc h) p b small =
    ne_eqb (suc h * p + b) (p - 1) (omega arith) ∙ sym (ap (λ (t : Bool). t && eqb b (p - 1)) (ne_eqb (suc h) 0 (omega arith)))

module _ (ys : List ℕ) (bytes : AreBytes ys) (long : length ys ≡ 8) (size : ℕ) (short : size ≤ 8) where
  rest-long : length (drop size ys) ≡ 8 - size
  rest-long = simp length-drop (omega arith)

  -- the word by its parts: the reply, and what follows it
  rest-power : 256 ^ length (drop size ys) ≡ 2 ^ (64 - 8 * size)
  rest-power =
      let bits : 8 * (8 - size) ≡ 64 - 8 * size = omega arith in
      ap (λ (n : ℕ). 256 ^ n) rest-long ∙ pow-256 (8 - size) ∙ ap (λ (n : ℕ). 2 ^ n) bits

  rest_lt : number_in (drop size ys) < 2 ^ (64 - 8 * size)
  rest_lt =
      let small = number_lt (length (drop size ys)) (drop size ys) (bytes_drop size ys bytes) (omega arith) in
      rw rest-power at small

  parts : number_in ys ≡ number_in (take size ys) * 2 ^ (64 - 8 * size) + number_in (drop size ys)
  parts =
      ap number_in (sym (take-append-drop size ys)) ∙ number_append (take size ys) (drop size ys)
      ∙ ap (λ (n : ℕ). number_in (take size ys) * n + number_in (drop size ys)) rest-power

  rest-blank : all_blank (drop size ys) ≡ eqb (number_in (drop size ys)) (2 ^ (64 - 8 * size) - 1)
  rest-blank =
      blank-number (drop size ys) (bytes_drop size ys bytes)
      ∙ ap (λ (n : ℕ). eqb (number_in (drop size ys)) (n - 1)) rest-power

  -- with what follows the reply cleared, the word's bytes are the reply's, and 0 after them
  cleared : big_endian 8 (number_in ys - number_in ys % 2 ^ (64 - 8 * size)) ≡ take size ys ++ replicate (8 - size) 0
  cleared =
      let k = 64 - 8 * size in
      let front = take size ys in
      let zeros : List ℕ = replicate (8 - size) 0 in
      let under : number_in ys % 2 ^ k ≡ number_in (drop size ys) = ap (λ (n : ℕ). n % 2 ^ k) parts ∙ low (number_in front) k rest_lt in
      let none : length zeros ≡ 8 - size = length-replicate (8 - size) 0 in
      let power : 256 ^ length zeros ≡ 2 ^ k = ap (λ (n : ℕ). 256 ^ n) (none ∙ sym rest-long) ∙ rest-power in
      let own : number_in (front ++ zeros) ≡ number_in front * 2 ^ k + 0 =
      number_append front zeros ∙ (λ i. number_in front * power i + number-zeros (8 - size) i) in
      let left : number_in ys - number_in ys % 2 ^ k ≡ number_in (front ++ zeros) = omega (arith, parts) in
      let whole : length (front ++ zeros) ≡ 8 = simp (length-append, length-take-le size ys (omega arith), none) (omega arith) in
      ap (big_endian 8) left ∙ ap (λ (n : ℕ). big_endian n (number_in (front ++ zeros))) (sym whole)
      ∙ bytes_back (front ++ zeros) (bytes-append front zeros (bytes_take size ys bytes) (bytes-replicate (8 - size) 0 (omega arith)))

module _ (ys : List ℕ) (bytes : AreBytes ys) (long : length ys ≡ 8) (count : ℕ) (few : count ≤ 64) where
  abbrev size : ℕ
  size = bytes_for count

  abbrev pad : ℕ
  pad = 8 * bytes_for count - count

  -- the pad bits are the lowest of the reply's number
  pads : pad_clear count (take (bytes_for count) ys) ≡ eqb (number_in (take (bytes_for count) ys) % 2 ^ (8 * bytes_for count - count)) 0
  pads = elim (ℕ_discrete (count % 8) 0) [
    | yes full ↦
        let none : get_or (take size ys) (count / 8) 0 ≡ 0 = get_or-eq_default (take size ys) 0 (omega (arith, length-take-le size ys (omega arith))) in
        let no-pad : pad ≡ 0 = omega arith in
        rw (none, no-pad, mod-one, zero-mod) refl
    | no over ↦
        let j = count / 8 in
        let last = get_or ys j 0 in
        let one_more : size ≡ j + 1 = omega arith in
        let at : get_or (take size ys) j 0 ≡ last = get_or-take size ys j 0 (omega arith) in
        let bits : 8 - count % 8 ≡ pad = omega arith in
        let own : number_in (take size ys) ≡ number_in (take j ys) * 256 + last = ap (λ (n : ℕ). number_in (take n ys)) one_more ∙ number_more ys j (omega arith) in
        let whole : 8 - pad + pad ≡ 8 = omega arith in
        let low_byte : number_in (take size ys) % 256 ≡ last = ap (λ (n : ℕ). n % 256) own ∙ digits_mod (number_in (take j ys)) (bytes j) in
        let cut = mod-mod-pow (number_in (take size ys)) (8 - pad) pad in
        let below : number_in (take size ys) % 2 ^ pad ≡ last % 2 ^ pad =
        sym cut ∙ ap (λ (n : ℕ). number_in (take size ys) % 2 ^ n % 2 ^ pad) whole ∙ ap (λ (n : ℕ). n % 2 ^ pad) low_byte in
        ap (λ (n : ℕ). eqb (n % 2 ^ (8 - count % 8)) 0) at ∙ ap (λ (n : ℕ). eqb (last % 2 ^ n) 0) bits ∙ ap (λ (n : ℕ). eqb n 0) (sym below)
  ]

  is-formed : formed count (take (bytes_for count) ys) ≡ eqb (number_in (take (bytes_for count) ys) % 2 ^ (8 * bytes_for count - count)) 0
  unfolding formed
  is-formed =
      let exact = length-take-le size ys (omega arith) in
      rw (le-leb count 64 few, eq-eqb (length (take size ys)) size exact) pads

  -- the bits after the count are 0 up to the reply's last byte and 1 after it exactly where the reply is in form and blank bytes follow
  pub ending : eqb (number_in ys % 2 ^ (64 - count)) (2 ^ (64 - 8 * bytes_for count) - 1)
      ≡ (formed count (take (bytes_for count) ys) && all_blank (drop (bytes_for count) ys))
  ending =
      let k = 64 - 8 * size in
      let a = number_in (take size ys) in
      let b = number_in (drop size ys) in
      let short : size ≤ 8 = omega arith in
      let small = rest_lt ys bytes long size short in
      let own = parts ys bytes long size short in
      let bits : 64 - count ≡ pad + k = omega arith in
      let cut : number_in ys % 2 ^ (64 - count) ≡ a % 2 ^ pad * 2 ^ k + b =
      ap (λ (n : ℕ). number_in ys % 2 ^ n) bits ∙ mod-pow-add (number_in ys) pad k
      ∙ ap (λ (n : ℕ). n / 2 ^ k % 2 ^ pad * 2 ^ k + n % 2 ^ k) own
      ∙ (λ i. high a k small i % 2 ^ pad * 2 ^ k + low a k small i) in
      ap (λ (n : ℕ). eqb n (2 ^ k - 1)) cut ∙ ones_below (a % 2 ^ pad) (2 ^ k) b small
      ∙ sym (λ i. is-formed i && rest-blank ys bytes long size short i)

  -- where they are so, clearing them leaves the reply's bytes, and 0 after them
  pub reply-left : eqb (number_in ys % 2 ^ (64 - count)) (2 ^ (64 - 8 * bytes_for count) - 1) ≡ true
      → big_endian 8 (number_in ys - number_in ys % 2 ^ (64 - count)) ≡ take (bytes_for count) ys ++ replicate (8 - bytes_for count) 0
  reply-left is =
      let k = 64 - 8 * size in
      let bits : 64 - count ≡ pad + k = omega arith in
      let all : number_in ys % 2 ^ (64 - count) ≡ 2 ^ k - 1 = eqb-true (number_in ys % 2 ^ (64 - count)) (2 ^ k - 1) is in
      let under : number_in ys % 2 ^ k ≡ 2 ^ k - 1 =
      sym (mod-mod-pow (number_in ys) pad k) ∙ ap (λ (n : ℕ). number_in ys % 2 ^ n % 2 ^ k) (sym bits) ∙ ap (λ (n : ℕ). n % 2 ^ k) all
      ∙ mod-eq_of_lt (ones_lt k) in
      ap (λ (n : ℕ). big_endian 8 (number_in ys - n)) (all ∙ sym under) ∙ cleared ys bytes long size (omega arith)
