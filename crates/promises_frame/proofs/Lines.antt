-- A line and its first bytes hold each other: as bytes and back, and back again. Two numbers with the same eight bytes are one.
use mathlib.Core.Path.{◌≡◌, sym, ap, ap₂, subst, ◌∙◌}
use mathlib.Core.List.{List}
use Prim.Native.Nat.{ℕ, zero, suc, ◌+◌, ◌-◌, ◌*◌, ◌/◌, ◌%◌, ◌^◌, ◌<◌, ◌≤◌}
use native.Mathlib.Omega.{arith}
use native.Mathlib.Nat.{add-zero, mod-one, div-one, mod-eq_of_lt, zero-div, zero-mod}
use lib.ListN.{length, get_or, length-take, get_or-eq_default}
use lib.Seq.{ext_get_or}
use Rattle.frame.specs.Line.{line, field, bit, first_bytes}
use Rattle.promises_frame.specs.Bits.{AreBytes}
use Rattle.promises_frame.proofs.Cases.{by-lt}
use Rattle.promises_frame.proofs.Fields.{within, join, field_lt}
use Rattle.promises_frame.proofs.Bytes.{line-lt, line-byte, byte-written}

-- Two numbers with the same bytes.
up_to : (n m k : ℕ) → k ≤ 8 → ((q : ℕ) → q < 8 → field n (8 * q + 1) (8 * q + 8) ≡ field m (8 * q + 1) (8 * q + 8))
    → field n 1 (8 * k) ≡ field m 1 (8 * k)
up_to n m zero h e = mod-one (n / 2 ^ 64) ∙ sym (mod-one (m / 2 ^ 64))
up_to n m (suc k) h e =
    let next : 8 * suc k ≡ 8 * k + 8 = omega arith in
    rw next
    (join n 1 (8 * k) (8 * k + 8) (omega arith) (omega arith) (omega arith)
    ∙ ap₂ (λ (x y : ℕ). x * 2 ^ (8 * k + 8 - 8 * k) + y) (up_to n m k (omega arith) e) (e k (omega arith))
    ∙ sym (join m 1 (8 * k) (8 * k + 8) (omega arith) (omega arith) (omega arith)))

whole : (n : ℕ) → n < 2 ^ 64 → field n 1 64 ≡ n
whole n h = ap (λ (x : ℕ). x % 2 ^ 64) (div-one n) ∙ mod-eq_of_lt h

pub same_bytes : (n m : ℕ) → n < 2 ^ 64 → m < 2 ^ 64 → ((q : ℕ) → q < 8 → field n (8 * q + 1) (8 * q + 8) ≡ field m (8 * q + 1) (8 * q + 8)) → n ≡ m
same_bytes n m p q e = sym (whole n p) ∙ up_to n m 8 (omega arith) e ∙ whole m q

-- The first bytes of a line are as many as were asked for, and bytes.
pub length-first_bytes : (size n : ℕ) → size ≤ 8 → length (first_bytes size n) ≡ size
unfolding first_bytes
length-first_bytes size n h = length-take size _ ∙ omega arith

past : (size n q : ℕ) → size ≤ 8 → size ≤ q → get_or (first_bytes size n) q 0 ≡ 0
past size n q h k = get_or-eq_default (first_bytes size n) 0 (rw (length-first_bytes size n h) k)

pub bytes-first_bytes : (size n : ℕ) → size ≤ 8 → AreBytes (first_bytes size n)
bytes-first_bytes size n h q =
    by-lt q size (λ k. rw (byte-written size n q h k) (subst (λ (x : ℕ). field n (8 * q + 1) (8 * q + 8) < 2 ^ x) (eight (8 * q)) (field_lt n (8 * q + 1) (8 * q + 8))))
    (λ k. rw (past size n q h k) (omega arith))
  where
    eight : (a : ℕ) → a + 8 + 1 - (a + 1) ≡ 8
    eight a = omega arith

-- A line that is clear after its first bytes has zeros there.
clear-byte : (size n q : ℕ) → size ≤ q → q < 8 → n % 2 ^ (64 - 8 * size) ≡ 0 → field n (8 * q + 1) (8 * q + 8) ≡ 0
clear-byte size n q p k clear =
    let rest : 64 + 1 - (8 * size + 1) ≡ 64 - 8 * size = omega arith in
    let none : field n (8 * size + 1) 64 ≡ 0 = ap₂ (λ (x y : ℕ). x % 2 ^ y) (div-one n) rest ∙ clear in
    within n (8 * size + 1) 64 (8 * q + 1) (8 * q + 8) (omega arith) (omega arith) (omega arith) (omega arith)
    ∙ rw (none, zero-div (2 ^ (64 - (8 * q + 8))), zero-mod (2 ^ (8 * q + 8 + 1 - (8 * q + 1))))

-- As bytes and back.
pub line-first_bytes : (size n : ℕ) → size ≤ 8 → n < 2 ^ 64 → n % 2 ^ (64 - 8 * size) ≡ 0 → line (first_bytes size n) ≡ n
line-first_bytes size n h small clear =
    same_bytes (line (first_bytes size n)) n (line-lt (first_bytes size n) (bytes-first_bytes size n h)) small λ q k.
    line-byte (first_bytes size n) (bytes-first_bytes size n h) q k
    ∙ by-lt q size (λ p. byte-written size n q h p) (λ p. past size n q h p ∙ sym (clear-byte size n q p k clear))

pub first_bytes-line : (s : List ℕ) → AreBytes s → length s ≤ 8 → first_bytes (length s) (line s) ≡ s
first_bytes-line s ok h = ext_get_or 0 (first_bytes (length s) (line s)) s (length-first_bytes (length s) (line s) h) λ i k.
    let p : i < length s = rw (length-first_bytes (length s) (line s) h) at k in
    byte-written (length s) (line s) i h p ∙ line-byte s ok i (omega arith)

-- Lines with the same bits have the same fields and the same bytes.
bits_up : (n w a size : ℕ) → a + size ≤ 64 → ((i : ℕ) → a ≤ i → i ≤ a + size → bit w i ≡ bit n i) → field w a (a + size) ≡ field n a (a + size)
bits_up n w a zero h e = rw (add-zero a) (e a (omega arith) (omega arith))
bits_up n w a (suc size) h e =
    let next : a + size + 1 ≡ a + suc size = omega arith in
    let last : field w (a + size + 1) (a + suc size) ≡ field n (a + size + 1) (a + suc size) = rw next (e (a + suc size) (omega arith) (omega arith)) in
    join w a (a + size) (a + suc size) (omega arith) (omega arith) h
    ∙ ap₂ (λ (x y : ℕ). x * 2 ^ (a + suc size - (a + size)) + y) (bits_up n w a size (omega arith) (λ i p q. e i p (omega arith))) last
    ∙ sym (join n a (a + size) (a + suc size) (omega arith) (omega arith) h)

pub same-field : (n w a b : ℕ) → a ≤ b → b ≤ 64 → ((i : ℕ) → a ≤ i → i ≤ b → bit w i ≡ bit n i) → field w a b ≡ field n a b
same-field n w a b p q e =
    let end : a + (b - a) ≡ b = omega arith in
    subst (λ (x : ℕ). field w a x ≡ field n a x) end (bits_up n w a (b - a) (omega arith) (λ i h k. e i h (omega arith)))

pub same_first : (size n w : ℕ) → size ≤ 8 → ((i : ℕ) → 1 ≤ i → i ≤ 8 * size → bit w i ≡ bit n i) → first_bytes size w ≡ first_bytes size n
same_first size n w h e =
    ext_get_or 0 (first_bytes size w) (first_bytes size n) (length-first_bytes size w h ∙ sym (length-first_bytes size n h)) λ q k.
    let p : q < size = rw (length-first_bytes size w h) at k in
    byte-written size w q h p
    ∙ same-field n w (8 * q + 1) (8 * q + 8) (omega arith) (omega arith) (λ i a b. e i (omega arith) (omega arith))
    ∙ sym (byte-written size n q h p)
