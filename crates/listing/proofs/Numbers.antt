-- Numbers in decimal: one digit more, how many digits, and the last ones. Each law is an induction over the digits, then taken at ten. Assumes nothing.
use mathlib.Core.Path.{◌≡◌, refl, sym, ap, ◌∙◌}
use mathlib.Core.List.{List, [], ◌∷◌, ◌++◌}
use Prim.Native.Nat.{ℕ, zero, suc, ◌+◌, ◌*◌, ◌/◌, ◌%◌, ◌^◌, ◌<◌, ◌≤◌}
use native.Mathlib.Decide.{dec_lt}
use native.Mathlib.Nat.{pow-suc, one-le-pow}
use native.Mathlib.Numerals.{add-one}
use native.Mathlib.Omega.{arith}
use borrow.Author.Tests.{lt-ltb, le-ltb}
use lib.Dec.{lit<}
use lib.ListN.{length, length-append}
use Rattle.putting.specs.Digit.{digit}
use Rattle.listing.specs.Text.{digits_up_to, in_decimal}

pub one_of : (most n : ℕ) → n < 10 → digits_up_to (suc most) n ≡ digit n ∷ []
unfolding digits_up_to
one_of most n small = simp (lt-ltb n 10 small)

pub more_of : (most n : ℕ) → 10 ≤ n → digits_up_to (suc most) n ≡ digits_up_to most (n / 10) ++ digit (n % 10) ∷ []
unfolding digits_up_to
more_of most n large = simp (le-ltb n 10 large)

-- what is left without its last digit
pub less : (k n : ℕ) → n < 10 ^ suc k → n / 10 < 10 ^ k
less k n small =
    let power : 10 ^ suc k ≡ 10 ^ k * 10 = pow-suc 10 k in
    omega arith

-- a bound that is large enough may be larger
enough : (k n : ℕ) → n < 10 ^ suc k → digits_up_to (suc (suc k)) n ≡ digits_up_to (suc k) n
enough zero n small = one_of 1 n small ∙ sym (one_of 0 n small)
enough (suc j) n small = go (dec_lt n 10) (enough j (n / 10) (less (suc j) n small))
  where
    go : Dec (n < 10) → digits_up_to (suc (suc j)) (n / 10) ≡ digits_up_to (suc j) (n / 10) → digits_up_to (suc (suc (suc j))) n ≡ digits_up_to (suc (suc j)) n
    go (yes p) ih = one_of (suc (suc j)) n p ∙ sym (one_of (suc j) n p)
    go (no q) ih =
        more_of (suc (suc j)) n (omega arith) ∙ ap (λ (t : List ℕ). t ++ digit (n % 10) ∷ []) ih ∙ sym (more_of (suc j) n (omega arith))

-- the digits of a number below a power of ten
pub none_of : (n : ℕ) → digits_up_to 0 n ≡ []
unfolding digits_up_to
none_of n = refl

few-of : (k most n : ℕ) → n < 10 ^ suc k → length (digits_up_to most n) ≤ suc k
few-of k zero n small = rw (none_of n) (omega arith)
few-of zero (suc most) n small = rw (one_of most n small) (omega arith)
few-of (suc j) (suc most) n small = go (dec_lt n 10) (few-of j most (n / 10) (less (suc j) n small))
  where
    go : Dec (n < 10) → length (digits_up_to most (n / 10)) ≤ suc j → length (digits_up_to (suc most) n) ≤ suc (suc j)
    go (yes p) ih = rw (one_of most n p) (omega arith)
    go (no q) ih = rw (more_of most n (omega arith)) (simp length-append (omega arith))

-- and of one that is at least the power before, where it has more than one
counted_of : (k most n : ℕ) → k ≤ most → (0 < k → 10 ^ k ≤ n) → n < 10 ^ suc k → length (digits_up_to (suc most) n) ≡ suc k
counted_of zero most n h from small = ap length (one_of most n small)
counted_of (suc j) zero n h from small = absurd (omega arith)
counted_of (suc j) (suc most) n h from small =
    let power : 10 ^ suc j ≡ 10 ^ j * 10 = pow-suc 10 j in
    let some : 0 < 10 ^ j = one-le-pow j 10 (lit< tt) in
    let large : 10 ^ suc j ≤ n = from (omega arith) in
    let rest : length (digits_up_to (suc most) (n / 10)) ≡ suc j = counted_of j most (n / 10) (omega arith) (λ _. omega arith) (less (suc j) n small) in
    rw (more_of (suc most) n (omega arith)) (simp length-append (omega arith))

pub more-digits : (n : ℕ) → 10 ≤ n → n < 2 ^ 32 → in_decimal n ≡ in_decimal (n / 10) ++ digit (n % 10) ∷ []
more-digits n large small =
    more_of 9 n large ∙ ap (λ (t : List ℕ). t ++ digit (n % 10) ∷ []) (sym (enough 8 (n / 10) (omega arith)))

pub few-digits : (k n : ℕ) → n < 10 ^ suc k → length (in_decimal n) ≤ suc k
few-digits k n small = few-of k 10 n small

pub digits_are : (k n : ℕ) → k ≤ 9 → (0 < k → 10 ^ k ≤ n) → n < 10 ^ suc k → suc k ≡ length (in_decimal n)
digits_are k n h from small = sym (counted_of k 9 n h from small)

-- the last digits of a number, so many
unfoldable pub last_digits : ℕ → ℕ → List ℕ
last_digits zero n = []
last_digits (suc k) n = last_digits k (n / 10) ++ digit (n % 10) ∷ []

one_all : (t : List ℕ) (n : ℕ) → n < 10 → t ≡ digit n ∷ [] → last_digits (length t) n ≡ t
unfolding last_digits
one_all t n small e =
    let same : n % 10 ≡ n = omega arith in
    ap (λ (l : List ℕ). last_digits (length l) n) e ∙ ap (λ (m : ℕ). digit m ∷ []) same ∙ sym e

more_all : (t u : List ℕ) (n : ℕ) → t ≡ u ++ digit (n % 10) ∷ [] → last_digits (length u) (n / 10) ≡ u → last_digits (length t) n ≡ t
unfolding last_digits
more_all t u n e ih =
    let long : length t ≡ suc (length u) = ap length e ∙ length-append u (digit (n % 10) ∷ []) ∙ add-one (length u) in
    ap (λ (k : ℕ). last_digits k n) long ∙ ap (λ (l : List ℕ). l ++ digit (n % 10) ∷ []) ih ∙ sym e

all_of : (most n : ℕ) → last_digits (length (digits_up_to most n)) n ≡ digits_up_to most n
unfolding last_digits
all_of zero n = rw (none_of n) refl
all_of (suc most) n = go (dec_lt n 10) (all_of most (n / 10))
  where
    go : Dec (n < 10) → last_digits (length (digits_up_to most (n / 10))) (n / 10) ≡ digits_up_to most (n / 10) → last_digits (length (digits_up_to (suc most) n)) n ≡ digits_up_to (suc most) n
    go (yes p) ih = one_all (digits_up_to (suc most) n) n p (one_of most n p)
    go (no q) ih = more_all (digits_up_to (suc most) n) (digits_up_to most (n / 10)) n (more_of most n (omega arith)) ih

pub all-digits : (n : ℕ) → last_digits (length (in_decimal n)) n ≡ in_decimal n
all-digits n = all_of 10 n

pub one-last : (k n : ℕ) → last_digits (k + 1) n ≡ last_digits k (n / 10) ++ digit (n % 10) ∷ []
unfolding last_digits
one-last k n = rw add-one

pub no-last : (n : ℕ) → last_digits 0 n ≡ []
unfolding last_digits
no-last n = refl
