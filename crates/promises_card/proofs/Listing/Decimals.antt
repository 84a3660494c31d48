-- Each law is an induction over the digits, the last digit taken off. Assumes nothing.
use mathlib.Core.Path.{◌≡◌, refl, ap, ◌∙◌}
use mathlib.Core.List.{List, [], ◌∷◌, ◌++◌}
use Prim.Native.Nat.{ℕ, zero, suc, ◌+◌, ◌-◌, ◌*◌, ◌/◌, ◌%◌, ◌^◌, ◌<◌, ◌≤◌}
use native.Mathlib.Decide.{dec_lt}
use native.Mathlib.Omega.{arith}
use lib.ListN.{length, get_or, length-append, get_or-append}
use lib.Seq.{get_or-append_seam}
use Rattle.putting.specs.Digit.{digit}
use Rattle.listing.specs.Text.{digits_up_to}
use Rattle.listing.proofs.Numbers.{one_of, more_of, none_of, less}
use Rattle.promises_card.specs.Listing.Records.{read_after}
use Rattle.promises_card.specs.Listing.Decimals.{ListingDecimals}

-- one digit more is read as ten times what stands before it, and the digit
read_more : (n : ℕ) (bs : List ℕ) (b : ℕ) → read_after n (bs ++ b ∷ []) ≡ read_after n bs * 10 + (b - 48)
read_more n [] b = refl
read_more n (c ∷ bs) b = read_more (n * 10 + (c - 48)) bs b

reads : (k n : ℕ) → n < 10 ^ suc k → read_after 0 (digits_up_to (suc k) n) ≡ n
reads zero n small = ap (read_after 0) (one_of 0 n small) ∙ omega arith
reads (suc k) n small = go (dec_lt n 10) (reads k (n / 10) (less (suc k) n small))
  where
    go : Dec (n < 10) → read_after 0 (digits_up_to (suc k) (n / 10)) ≡ n / 10 → read_after 0 (digits_up_to (suc (suc k)) n) ≡ n
    go (yes p) ih = ap (read_after 0) (one_of (suc k) n p) ∙ omega arith
    go (no q) ih =
        ap (read_after 0) (more_of (suc k) n (omega arith)) ∙ read_more 0 (digits_up_to (suc k) (n / 10)) (digit (n % 10)) ∙ omega arith

-- a number has at least one digit
some_of : (most n : ℕ) → 0 < length (digits_up_to (suc most) n)
some_of most n = go (dec_lt n 10)
  where
    go : Dec (n < 10) → 0 < length (digits_up_to (suc most) n)
    go (yes p) = rw (one_of most n p) (omega arith)
    go (no q) = rw (more_of most n (omega arith)) (simp length-append (omega arith))

-- a byte that is a digit, and a row of them
abbrev IsDigit : ℕ → Type 0
IsDigit b = (48 ≤ b) × (b ≤ 57)

one_more : (bs : List ℕ) (b i : ℕ) → ((j : ℕ) → j < length bs → IsDigit (get_or bs j 0)) → IsDigit b → i < length (bs ++ b ∷ []) → IsDigit (get_or (bs ++ b ∷ []) i 0)
one_more bs b i each own h = go (dec_lt i (length bs))
  where
    go : Dec (i < length bs) → IsDigit (get_or (bs ++ b ∷ []) i 0)
    go (yes p) = rw (get_or-append bs (b ∷ []) 0 i p) (each i p)
    go (no q) =
        let long = length-append bs (b ∷ []) in
        let last : i ≡ length bs = omega arith in
        rw (last, get_or-append_seam bs b [] 0) own

are-digits : (most n i : ℕ) → i < length (digits_up_to most n) → IsDigit (get_or (digits_up_to most n) i 0)
are-digits zero n i h = let none = rw (none_of n) at h in absurd (omega arith)
are-digits (suc most) n i h = go (dec_lt n 10) (are-digits most (n / 10))
  where
    go : Dec (n < 10) → ((j : ℕ) → j < length (digits_up_to most (n / 10)) → IsDigit (get_or (digits_up_to most (n / 10)) j 0)) → IsDigit (get_or (digits_up_to (suc most) n) i 0)
    go (yes p) ih = rw (one_of most n p) (one_more [] (digit n) i (λ j f. absurd (omega arith)) (omega arith, omega arith) (rw (one_of most n p) at h))
    go (no q) ih =
        rw (more_of most n (omega arith)) (one_more (digits_up_to most (n / 10)) (digit (n % 10)) i ih (omega arith, omega arith) (rw (more_of most n (omega arith)) at h))

-- the first digit of a number other than 0
first-digit : (k n : ℕ) → 0 < n → n < 10 ^ suc k → 48 < get_or (digits_up_to (suc k) n) 0 0
first-digit zero n some small = rw (one_of 0 n small) (omega arith)
first-digit (suc k) n some small = go (dec_lt n 10) (first-digit k (n / 10))
  where
    go : Dec (n < 10) → (0 < n / 10 → n / 10 < 10 ^ suc k → 48 < get_or (digits_up_to (suc k) (n / 10)) 0 0) → 48 < get_or (digits_up_to (suc (suc k)) n) 0 0
    go (yes p) ih = rw (one_of (suc k) n p) (omega arith)
    go (no q) ih =
        let before = digits_up_to (suc k) (n / 10) in
        rw (more_of (suc k) n (omega arith), get_or-append before (digit (n % 10) ∷ []) 0 0 (some_of k (n / 10))) (ih (omega arith) (less (suc k) n small))

pub listing-decimals : ListingDecimals
listing-decimals = record { digits = are-digits 10; number = reads 9; no_zero_first = λ n large small. first-digit 9 n (omega arith) small }
