-- Bits are bits. What is left to show is the form: the pad bits are the last bits of the byte that the count ends in.
use mathlib.Core.Path.{◌≡◌, sym, ap, ap₂, ◌∙◌}
use mathlib.Core.Logic.{◌↔◌}
use mathlib.Core.Bool.{true, ◌&&◌}
use mathlib.Core.List.{List}
use Prim.Native.Nat.{ℕ, ◌+◌, ◌-◌, ◌*◌, ◌/◌, ◌%◌, ◌^◌, ◌<◌, ◌≤◌}
use native.Mathlib.Omega.{arith}
use native.Mathlib.Nat.{div-one, zero-div, zero-mod}
use lib.Dec.{eqb, leb}
use lib.ListN.{length, get_or, get_or-eq_default}
use borrow.Author.Tests.{leb-true, le-leb, eqb-true, eq-eqb}
use Rattle.frame.specs.Line.{line, field, bytes_for, pad_clear, formed}
use Rattle.frame.proofs.Both.{both}
use Rattle.promises_frame.specs.Bits.{AreBytes, bit_at, InForm, BitsAreBits}
use Rattle.promises_frame.proofs.Cases.{by-lt}
use Rattle.promises_frame.proofs.Fields.{within, same-within}
use Rattle.promises_frame.proofs.Bytes.{line-byte, bit-line, field-read, bits-written}
use Rattle.promises_frame.proofs.Lines.{same-field}

-- A field of the line 0, and a line whose bits a to b are 0.
zero_field : (a b : ℕ) → field 0 a b ≡ 0
zero_field a b = ap (λ (x : ℕ). x % 2 ^ (b + 1 - a)) (zero-div (2 ^ (64 - b))) ∙ zero-mod (2 ^ (b + 1 - a))

-- The bits after the count in the byte q that it ends in.
pad-field : (s : List ℕ) → AreBytes s → (q r : ℕ) → q < 8 → r < 8 → field (line s) (8 * q + r + 1) (8 * q + 8) ≡ get_or s q 0 % 2 ^ (8 - r)
pad-field s ok q r hq hr =
    let size : 8 * q + 8 + 1 - (8 * q + r + 1) ≡ 8 - r = omega arith in
    let none : 8 * q + 8 - (8 * q + 8) ≡ 0 = omega arith in
    within (line s) (8 * q + 1) (8 * q + 8) (8 * q + r + 1) (8 * q + 8) (omega arith) (omega arith) (omega arith) (omega arith)
    ∙ ap₂ (λ (x y : ℕ). x % 2 ^ y) (ap₂ (λ (x y : ℕ). x / 2 ^ y) (line-byte s ok q hq) none ∙ div-one (get_or s q 0)) size

-- Where a count ends: in byte q after r bits, and with none to spare where r is 0.
spare : (count size i : ℕ) → size ≡ (count + 7) / 8 → count < i → i ≤ 8 * size
    → (0 < count % 8) × (i ≤ 8 * (count / 8) + 8) × (8 * (count / 8) + count % 8 + 1 ≤ i)
spare count size i e lo hi = (omega arith, omega arith, omega arith)

ends : (count size : ℕ) → size ≡ (count + 7) / 8 → 0 < count % 8 → size ≡ count / 8 + 1
ends count size e h = omega arith

full : (count size : ℕ) → size ≡ (count + 7) / 8 → count % 8 ≤ 0 → size ≡ count / 8
full count size e h = omega arith

module _ (count : ℕ) (s : List ℕ) (ok : AreBytes s) (small : count ≤ 64) (size : length s ≡ (count + 7) / 8) where
  pads-clear : pad_clear count s ≡ true → (i : ℕ) → count < i → i ≤ 8 * length s → bit_at s i ≡ 0
  pads-clear e i lo hi =
      let q : ℕ = count / 8 in
      let r : ℕ = count % 8 in
      let t = spare count (length s) i size lo hi in
      let clear : field (line s) (8 * q + r + 1) (8 * q + 8) ≡ field 0 (8 * q + r + 1) (8 * q + 8)
      = pad-field s ok q r (omega (arith, t.0)) (omega arith) ∙ eqb-true (get_or s q 0 % 2 ^ (8 - r)) 0 e ∙ sym (zero_field (8 * q + r + 1) (8 * q + 8)) in
      sym (bit-line s ok i (omega arith) (omega (arith, t.0, t.1)))
      ∙ same-within (line s) 0 (8 * q + r + 1) (8 * q + 8) i i t.2 (omega arith) t.1 (omega (arith, t.0)) clear ∙ zero_field i i

  clear-pads : ((i : ℕ) → count < i → i ≤ 8 * length s → bit_at s i ≡ 0) → pad_clear count s ≡ true
  clear-pads h =
      let q : ℕ = count / 8 in
      let r : ℕ = count % 8 in
      eq-eqb (get_or s q 0 % 2 ^ (8 - r)) 0
      (by-lt 0 r
      (λ p. sym (pad-field s ok q r (omega arith) (omega arith))
      ∙ same-field 0 (line s) (8 * q + r + 1) (8 * q + 8) (omega arith) (omega arith)
      (λ i a b. bit-line s ok i (omega arith) (omega arith) ∙ h i (omega arith) (omega (arith, ends count (length s) size p)) ∙ sym (zero_field i i))
      ∙ zero_field (8 * q + r + 1) (8 * q + 8))
      (λ p. ap (λ (x : ℕ). x % 2 ^ (8 - r)) (get_or-eq_default s 0 (omega (arith, full count (length s) size p))) ∙ zero-mod (2 ^ (8 - r))))

form : (count : ℕ) (s : List ℕ) → AreBytes s → (formed count s ≡ true) ↔ InForm count s
unfolding formed
form count s ok = (
  λ e.
      let p = both (leb count 64 && eqb (length s) (bytes_for count)) (pad_clear count s) e in
      let q = both (leb count 64) (eqb (length s) (bytes_for count)) p.0 in
      let small : count ≤ 64 = leb-true count 64 q.0 in
      let size : length s ≡ (count + 7) / 8 = eqb-true (length s) (bytes_for count) q.1 in
      record { at_most_64 = small; size = size; pads = pads-clear count s ok small size p.1 },
  λ f. rw (le-leb count 64 f.at_most_64, eq-eqb (length s) (bytes_for count) f.size, clear-pads count s ok f.at_most_64 f.size f.pads),
)

pub bits-are-bits : BitsAreBits
bits-are-bits = record { read = field-read; written = bits-written; form = form }
