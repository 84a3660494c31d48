-- The sum without carry tells any one byte: with all others given, another byte gives another sum. So the sum of an accepted record, its check included,
-- is 0, and would not be with one byte changed.
use mathlib.Core.Path.{◌≡◌, refl, sym, ap, ◌∙◌}
use mathlib.Core.Bool.{true, ◌&&◌}
use mathlib.Core.List.{List, [], ◌∷◌, ◌++◌}
use Prim.Native.Nat.{ℕ, zero, suc, ◌+◌, ◌*◌, ◌/◌, ◌%◌, ◌≤◌, ◌<◌, ◌^◌}
use native.Mathlib.Omega.{arith}
use native.Mathlib.Nat.{mod-eq_of_lt}
use lib.Arith.{bin_ind}
use lib.Bits.{bit_xor, differ, xor_step, xor_comm, xor_lt, xor_self}
use lib.Dec.{leb}
use lib.ListN.{length, get_or, set}
use borrow.Author.Tests.{leb-true}
use Rattle.frame.proofs.Both.{both}
use Rattle.enraf.specs.Check.{sum_after, block_check}
use Rattle.putting.specs.Digit.{digit}
use Rattle.enraf.specs.Item.{Item, ampersand, exclamation, digit_characters, is_letter, is_character, all_characters, kind_fits, text_fits, tail_of}
use Rattle.enraf.specs.Record.{ETX, checked_of}
use Rattle.enraf.proofs.SixKinds.{data-fits, error-few, one-of-six, fits-kind}
use Rattle.enraf.proofs.Tails.{tail-alone, tail-setting, tail-taken, tail-setting-taken, tail-value, tail-error}
use Rattle.promises_enraf.proofs.Tails.{six-ways, character-most, characters-all}

-- What two binary digits differ by from a third tells them.
differ-once : (z x y : ℕ) → z < 2 → x < 2 → y < 2 → differ z x ≡ differ z y → x ≡ y
differ-once zero x y hz hx hy e = e
differ-once (suc zero) zero zero hz hx hy e = refl
differ-once (suc zero) zero (suc zero) hz hx hy e = absurd (omega arith)
differ-once (suc zero) (suc zero) zero hz hx hy e = absurd (omega arith)
differ-once (suc zero) (suc zero) (suc zero) hz hx hy e = refl
differ-once (suc zero) zero (suc (suc y)) hz hx hy e = absurd (omega arith)
differ-once (suc zero) (suc zero) (suc (suc y)) hz hx hy e = absurd (omega arith)
differ-once (suc zero) (suc (suc x)) y hz hx hy e = absurd (omega arith)
differ-once (suc (suc z)) x y hz hx hy e = absurd (omega arith)

differ-lt : (x y : ℕ) → x < 2 → y < 2 → differ x y < 2
differ-lt zero y hx hy = hy
differ-lt (suc zero) zero hx hy = hx
differ-lt (suc zero) (suc zero) hx hy = omega arith
differ-lt (suc zero) (suc (suc y)) hx hy = absurd (omega arith)
differ-lt (suc (suc x)) y hx hy = absurd (omega arith)

-- One step of the law below, from its halves.
halves : (a b p q x y : ℕ) → a * 2 + p ≡ b * 2 + q → p < 2 → q < 2 → (a ≡ b → x / 2 ≡ y / 2) → (p ≡ q → x % 2 ≡ y % 2) → x ≡ y
halves a b p q x y e hp hq f g =
    let high : x / 2 ≡ y / 2 = f (omega arith) in
    let low : x % 2 ≡ y % 2 = g (omega arith) in
    omega arith

pub xor-once : (n x y : ℕ) → bit_xor n x ≡ bit_xor n y → x ≡ y
xor-once =
    bin_ind (λ (n : ℕ). (x y : ℕ) → bit_xor n x ≡ bit_xor n y → x ≡ y) (λ x y e. e)
    (λ n ih x y e. halves (bit_xor (n / 2) (x / 2)) (bit_xor (n / 2) (y / 2)) (differ (n % 2) (x % 2)) (differ (n % 2) (y % 2)) x y
    (sym (xor_step n x) ∙ e ∙ xor_step n y)
    (differ-lt (n % 2) (x % 2) (omega arith) (omega arith))
    (differ-lt (n % 2) (y % 2) (omega arith) (omega arith))
    (ih (x / 2) (y / 2))
    (differ-once (n % 2) (x % 2) (y % 2) (omega arith) (omega arith) (omega arith)))

-- A sum tells what it was begun with, and any one of its bytes.
sum-once : (l : List ℕ) (m n : ℕ) → sum_after m l ≡ sum_after n l → m ≡ n
unfolding sum_after
sum-once [] m n e = e
sum-once (b ∷ l) m n e =
    let same : bit_xor m b ≡ bit_xor n b = sum-once l (bit_xor m b) (bit_xor n b) e in
    xor-once b m n (xor_comm b m ∙ same ∙ xor_comm n b)

pub sum_tells : (l : List ℕ) (j n y : ℕ) → j < length l → sum_after n (set l j y) ≡ sum_after n l → y ≡ get_or l j 0
unfolding sum_after
sum_tells [] j n y h e = absurd (omega arith)
sum_tells (b ∷ l) zero n y h e = xor-once n y b (sum-once l (bit_xor n y) (bit_xor n b) e)
sum_tells (b ∷ l) (suc j) n y h e = sum_tells l j (bit_xor n b) y (omega arith) e

pub sum-append : (a b : List ℕ) (n : ℕ) → sum_after n (a ++ b) ≡ sum_after (sum_after n a) b
unfolding sum_after
sum-append [] b n = refl
sum-append (x ∷ a) b n = sum-append a b (bit_xor n x)

-- Characters of seven bits, and their sum.
abbrev pub Seven : List ℕ → Type 0
Seven [] = Unit {0}
Seven (b ∷ l) = (b < 2 ^ 7) × Seven l

seven-append : (a b : List ℕ) → Seven a → Seven b → Seven (a ++ b)
seven-append [] b p q = q
seven-append (x ∷ a) b p q = (p.0, seven-append a b p.1 q)

seven-sum : (l : List ℕ) (n : ℕ) → n < 2 ^ 7 → Seven l → sum_after n l < 2 ^ 7
unfolding sum_after
seven-sum [] n h p = h
seven-sum (b ∷ l) n h p = seven-sum l (bit_xor n b) (xor_lt 7 n b h p.0) p.1

-- With its check behind it, the sum of characters of seven bits is 0.
pub nothing_left : (l : List ℕ) → Seven l → sum_after 0 (l ++ block_check l ∷ []) ≡ 0
unfolding sum_after block_check
nothing_left l p =
    let s = sum_after 0 l in
    sum-append l (s % 2 ^ 7 ∷ []) 0 ∙ ap (bit_xor s) (mod-eq_of_lt (seven-sum l 0 (omega arith) p)) ∙ xor_self s

-- All that an item is written by has seven bits.
seven-data : (d : List ℕ) → all_characters d ≡ true → Seven d
unfolding all_characters
seven-data [] h = tt
seven-data (b ∷ d) h =
    let two = both (is_character b) (all_characters d) h in
    (omega (arith, character-most b two.0), seven-data d two.1)

seven-tail : (kind error : ℕ) (d : List ℕ) → kind_fits kind error d ≡ true → Seven (tail_of kind error d)
seven-tail kind error d h =
    six-ways (λ (k : ℕ). kind_fits k error d ≡ true → Seven (tail_of k error d))
    (λ f. rw (tail-alone 1 error d refl) tt)
    (λ f. rw (tail-setting 2 error d refl) (omega arith, seven-data d (characters-all d (data-fits 2 error d f))))
    (λ f. rw (tail-taken 3 error d refl) (omega arith, tt))
    (λ f. rw (tail-setting-taken 4 error d refl)
    (omega arith, seven-append d (ampersand ∷ []) (seven-data d (characters-all d (data-fits 4 error d f))) (omega arith, tt)))
    (λ f. rw (tail-value 5 error d refl) (seven-data d (characters-all d (data-fits 5 error d f))))
    (λ f. rw (tail-error 6 error d refl) (three error (error-few 6 error d f)))
    kind (one-of-six kind error d h).0 (one-of-six kind error d h).1 h
  where
    three : (e : ℕ) → e ≤ 999 → Seven (exclamation ∷ digit_characters e)
    three e few = (omega arith, (omega arith, (omega arith, (omega arith, tt))))

letter-small : (b : ℕ) → is_letter b ≡ true → b < 2 ^ 7
letter-small b h = omega (arith, leb-true b 0x5a (both (leb 0x41 b) (leb b 0x5a) h).1)

pub seven-item : (i : Item) → i.ciu ≤ 9 → i.gauge ≤ 99 → text_fits i ≡ true → Seven (checked_of i)
unfolding checked_of text_fits
seven-item i low few fits =
    let letters = both (is_letter i.first) (is_letter i.second) (both (is_letter i.first && is_letter i.second) (kind_fits i.kind i.error i.characters) fits).0 in
    let one : digit i.ciu < 2 ^ 7 = omega arith in
    let two : digit (i.gauge / 10) < 2 ^ 7 = omega arith in
    let three : digit (i.gauge % 10) < 2 ^ 7 = omega arith in
    let tail = seven-tail i.kind i.error i.characters (fits-kind i fits) in
    let after = seven-append (tail_of i.kind i.error i.characters) (ETX ∷ []) tail (omega arith, tt) in
    (one, (two, (three, (omega arith, (omega arith, (letter-small i.first letters.0, (letter-small i.second letters.1, after)))))))
