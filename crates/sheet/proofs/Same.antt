-- Rows of bytes that are the same: part by part, against blank bytes, and against a number's bytes. Assumes nothing.
use mathlib.Core.Path.{◌≡◌, refl, sym, ap, ◌∙◌}
use mathlib.Core.Bool.{Bool, true, false, ◌&&◌, and_assoc, false≢true}
use mathlib.Core.List.{List, [], ◌∷◌, ◌++◌}
use Prim.Native.Nat.{ℕ, ◌-◌, ◌^◌, ◌<◌}
use native.Mathlib.Nat.{one-le-pow}
use native.Mathlib.Omega.{arith}
use borrow.Author.Tests.{eq-eqb, eqb-true, eqb-false}
use lib.Dec.{eqb, lit<}
use lib.ListN.{length, take, drop, replicate, length-drop, length-replicate, take-append-drop}
use Rattle.frame.proofs.Both.{both_left, both_right}
use Rattle.sheet.specs.Bytes.{FF, big_endian, number_in, all_blank, same}
use Rattle.sheet.proofs.Numbers.{AreBytes, bytes-replicate, number-ones, number-back, bytes_back}

pub same_self : (xs : List ℕ) → same xs xs ≡ true
unfolding same
same_self [] = refl
same_self (x ∷ xs) = ap (λ (t : Bool). t && same xs xs) (eq-eqb x x refl) ∙ same_self xs

pub same_true : (xs ys : List ℕ) → same xs ys ≡ true → xs ≡ ys
unfolding same
same_true [] [] h = refl
same_true [] (y ∷ ys) h = absurd (false≢true h)
same_true (x ∷ xs) [] h = absurd (false≢true h)
same_true (x ∷ xs) (y ∷ ys) h =
    λ i. eqb-true x y (both_left (eqb x y) (same xs ys) h) i ∷ same_true xs ys (both_right (eqb x y) (same xs ys) h) i

-- Two parts of equal lengths, and what follows them.
pub same-append : (xs ys us vs : List ℕ) → length xs ≡ length ys → same (xs ++ us) (ys ++ vs) ≡ (same xs ys && same us vs)
unfolding same
same-append [] [] us vs h = refl
same-append [] (y ∷ ys) us vs h = absurd (omega arith)
same-append (x ∷ xs) [] us vs h = absurd (omega arith)
same-append (x ∷ xs) (y ∷ ys) us vs h =
    ap (λ (t : Bool). eqb x y && t) (same-append xs ys us vs (omega arith)) ∙ sym (and_assoc (eqb x y) (same xs ys) (same us vs))

-- The same part in front.
pub same-front : (xs us vs : List ℕ) → same (xs ++ us) (xs ++ vs) ≡ same us vs
same-front xs us vs = same-append xs xs us vs refl ∙ ap (λ (t : Bool). t && same us vs) (same_self xs)

same-blank : (ys : List ℕ) → same ys (replicate (length ys) FF) ≡ all_blank ys
unfolding same all_blank
same-blank [] = refl
same-blank (y ∷ ys) = ap (λ (t : Bool). eqb y FF && t) (same-blank ys)

-- A row against its own first n bytes with FF after them.
pub same-tail : (n m : ℕ) (ys : List ℕ) → m ≡ length ys - n → same ys (take n ys ++ replicate m FF) ≡ all_blank (drop n ys)
same-tail n m ys e =
    let size : m ≡ length (drop n ys) = e ∙ sym (length-drop n ys) in
    ap (λ (l : List ℕ). same l (take n ys ++ replicate m FF)) (sym (take-append-drop n ys)) ∙ same-front (take n ys) (drop n ys) (replicate m FF)
    ∙ ap (λ (k : ℕ). same (drop n ys) (replicate k FF)) size
    ∙ same-blank (drop n ys)

-- Bytes are those of a number exactly where they write it.
pub same_number : (bs : List ℕ) (n : ℕ) → AreBytes bs → n < 256 ^ length bs → same bs (big_endian (length bs) n) ≡ eqb (number_in bs) n
same_number bs n bytes small = go (eqb (number_in bs) n) refl
  where
    k : ℕ
    k = length bs

    other : (t : Bool) → same bs (big_endian k n) ≡ t → (number_in bs ≡ n → ⊥) → t ≡ false
    other true h ne = absurd (ne (ap number_in (same_true bs (big_endian k n) h) ∙ number-back k n small))
    other false h ne = refl

    go : (t : Bool) → eqb (number_in bs) n ≡ t → same bs (big_endian k n) ≡ t
    go true h =
        let own : big_endian k n ≡ bs = ap (big_endian k) (sym (eqb-true (number_in bs) n h)) ∙ bytes_back bs bytes in
        ap (same bs) own ∙ same_self bs
    go false h = other (same bs (big_endian k n)) refl (eqb-false (number_in bs) n h)

-- Bytes are blank exactly where they write the largest number.
pub blank-number : (bs : List ℕ) → AreBytes bs → all_blank bs ≡ eqb (number_in bs) (256 ^ length bs - 1)
blank-number bs bytes =
    let k = length bs in
    let some : 0 < 256 ^ k = one-le-pow k 256 (lit< tt) in
    let ones : big_endian k (256 ^ k - 1) ≡ replicate k FF =
    sym (λ i. big_endian (length-replicate k FF i) (number-ones k i)) ∙ bytes_back (replicate k FF) (bytes-replicate k FF (lit< tt)) in
    sym (same-blank bs) ∙ ap (same bs) (sym ones) ∙ same_number bs (256 ^ k - 1) bytes (omega arith)
