-- Numbers written in bytes, big-endian: one byte more, two parts, how large they get, and that a number read from its own bytes comes back.
-- Assumes nothing.
use mathlib.Core.Path.{◌≡◌, refl, ap, ◌∙◌}
use mathlib.Core.List.{List, [], ◌∷◌, ◌++◌}
use Prim.Native.Nat.{ℕ, zero, suc, ◌+◌, ◌-◌, ◌*◌, ◌/◌, ◌%◌, ◌^◌, ◌<◌, ◌≤◌}
use native.Mathlib.Nat.{pow-suc, pow-succ', pow-le-pow_right, mul-le-mul_right, one-le-pow, mod-eq_of_lt}
use native.Mathlib.Numerals.{add-one}
use native.Mathlib.Omega.{arith}
use lib.Arith.{mod-mul, digits_div, digits_mod}
use lib.Dec.{lit<}
use lib.ListN.{length, get_or, take, drop, replicate}
use lib.Seq.{take-suc}
use Rattle.sheet.specs.Bytes.{FF, big_endian, number_after, number_in}

-- Every element is a byte.
abbrev pub AreBytes : List ℕ → Type 0
AreBytes bs = (i : ℕ) → get_or bs i 0 < 256

pub bytes_take : (n : ℕ) (bs : List ℕ) → AreBytes bs → AreBytes (take n bs)
bytes_take zero bs h i = omega arith
bytes_take (suc n) [] h i = omega arith
bytes_take (suc n) (b ∷ bs) h zero = h 0
bytes_take (suc n) (b ∷ bs) h (suc i) = bytes_take n bs (λ j. h (suc j)) i

pub bytes_drop : (n : ℕ) (bs : List ℕ) → AreBytes bs → AreBytes (drop n bs)
bytes_drop zero bs h i = h i
bytes_drop (suc n) [] h i = omega arith
bytes_drop (suc n) (b ∷ bs) h i = bytes_drop n bs (λ j. h (suc j)) i

pub bytes-append : (bs cs : List ℕ) → AreBytes bs → AreBytes cs → AreBytes (bs ++ cs)
bytes-append [] cs h k i = k i
bytes-append (b ∷ bs) cs h k zero = h 0
bytes-append (b ∷ bs) cs h k (suc i) = bytes-append bs cs (λ j. h (suc j)) k i

pub bytes-replicate : (n b : ℕ) → b < 256 → AreBytes (replicate n b)
bytes-replicate zero b h i = omega arith
bytes-replicate (suc n) b h zero = h
bytes-replicate (suc n) b h (suc i) = bytes-replicate n b h i

after-snoc : (n : ℕ) (bs : List ℕ) (b : ℕ) → number_after n (bs ++ (b ∷ [])) ≡ number_after n bs * 256 + b
after-snoc n [] b = refl
after-snoc n (c ∷ bs) b = after-snoc (n * 256 + c) bs b

-- One byte more.
pub number_more : (bs : List ℕ) (i : ℕ) → i < length bs → number_in (take (i + 1) bs) ≡ number_in (take i bs) * 256 + get_or bs i 0
number_more bs i h = rw (add-one, take-suc bs i 0) (after-snoc 0 (take i bs) (get_or bs i 0))

pub after-lt : (n : ℕ) (bs : List ℕ) → AreBytes bs → number_after n bs < (n + 1) * 256 ^ length bs
after-lt n [] h = omega arith
after-lt n (b ∷ bs) h =
    let p = 256 ^ length bs in
    let byte : b < 256 = h 0 in
    let rest : number_after (n * 256 + b) bs < (n * 256 + b + 1) * p = after-lt (n * 256 + b) bs (λ j. h (suc j)) in
    let wider : (n * 256 + b + 1) * p ≤ ((n + 1) * 256) * p = mul-le-mul_right p (omega arith) in
    rw (pow-suc 256 (length bs)) (omega arith)

-- A number of k bytes at most is below 256 to the k.
pub number_lt : (k : ℕ) (bs : List ℕ) → AreBytes bs → length bs ≤ k → number_in bs < 256 ^ k
number_lt k bs h short =
    let all : number_in bs < (0 + 1) * 256 ^ length bs = after-lt 0 bs h in
    let wider : 256 ^ length bs ≤ 256 ^ k = pow-le-pow_right (lit< tt) short in
    omega arith

after-back : (k m n : ℕ) → number_after m (big_endian k n) ≡ m * 256 ^ k + n % 256 ^ k
after-back zero m n = omega arith
after-back (suc k) m n =
    let p = 256 ^ k in
    let some : 0 < p = one-le-pow k 256 (lit< tt) in
    let split : n % (256 * p) ≡ (n / p % 256) * p + n % p = mod-mul n (lit< tt) some in
    let rest : number_after (m * 256 + n / p % 256) (big_endian k n) ≡ (m * 256 + n / p % 256) * p + n % p = after-back k (m * 256 + n / p % 256) n in
    rw (pow-succ' 256 k, split) (omega arith)

-- A number that k bytes can write comes back from its bytes.
pub number-back : (k n : ℕ) → n < 256 ^ k → number_in (big_endian k n) ≡ n
number-back k n h =
    let whole : n % 256 ^ k ≡ n = mod-eq_of_lt h in
    let own = after-back k 0 n in
    omega arith

after-split : (m : ℕ) (bs : List ℕ) → number_after m bs ≡ m * 256 ^ length bs + number_in bs
after-split m [] = omega arith
after-split m (b ∷ bs) =
    let p = 256 ^ length bs in
    let here : number_after (m * 256 + b) bs ≡ (m * 256 + b) * p + number_in bs = after-split (m * 256 + b) bs in
    let alone : number_after (0 * 256 + b) bs ≡ (0 * 256 + b) * p + number_in bs = after-split (0 * 256 + b) bs in
    rw (pow-succ' 256 (length bs)) (omega arith)

after-append : (m : ℕ) (bs cs : List ℕ) → number_after m (bs ++ cs) ≡ number_after (number_after m bs) cs
after-append m [] cs = refl
after-append m (b ∷ bs) cs = after-append (m * 256 + b) bs cs

-- Two parts: the first stands above the second.
pub number_append : (bs cs : List ℕ) → number_in (bs ++ cs) ≡ number_in bs * 256 ^ length cs + number_in cs
number_append bs cs = after-append 0 bs cs ∙ after-split (number_in bs) cs

pub number-zeros : (n : ℕ) → number_in (replicate n 0) ≡ 0
number-zeros zero = refl
number-zeros (suc n) = number-zeros n

after-ones : (n m : ℕ) → number_after m (replicate n FF) + 1 ≡ (m + 1) * 256 ^ n
after-ones zero m = omega arith
after-ones (suc n) m =
    let p = 256 ^ n in
    let rest : number_after (m * 256 + 255) (replicate n FF) + 1 ≡ (m * 256 + 255 + 1) * p = after-ones n (m * 256 + 255) in
    rw (pow-succ' 256 n) (omega arith)

-- Bytes that are all FF write the largest number.
pub number-ones : (n : ℕ) → number_in (replicate n FF) ≡ 256 ^ n - 1
number-ones n = omega (arith, after-ones n 0)

after-bytes : (m : ℕ) (bs : List ℕ) → AreBytes bs → big_endian (length bs) (number_after m bs) ≡ bs
after-bytes m [] h = refl
after-bytes m (b ∷ bs) h =
    let p = 256 ^ length bs in
    let rest : number_in bs < p = number_lt (length bs) bs (λ j. h (suc j)) (omega arith) in
    let top : number_after (m * 256 + b) bs / p % 256 ≡ b =
    ap (λ (n : ℕ). n / p % 256) (after-split (m * 256 + b) bs) ∙ ap (λ (n : ℕ). n % 256) (digits_div (m * 256 + b) rest) ∙ digits_mod m (h 0) in
    λ i. top i ∷ after-bytes (m * 256 + b) bs (λ j. h (suc j)) i

-- And bytes come back from the number that they write.
pub bytes_back : (bs : List ℕ) → AreBytes bs → big_endian (length bs) (number_in bs) ≡ bs
bytes_back bs h = after-bytes 0 bs h
