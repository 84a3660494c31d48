-- A drawing by places: its bits are the document's, and each sample is found by dividing its number.
use mathlib.Core.Path.{◌≡◌, sym, ap, ◌∙◌}
use mathlib.Core.List.{List}
use Prim.Native.Nat.{ℕ, zero, suc, ◌+◌, ◌-◌, ◌*◌, ◌/◌, ◌%◌, ◌<◌, ◌≤◌}
use native.Mathlib.Omega.{arith}
use native.Mathlib.Nat.{add-zero, zero-add, mul-zero, mod-lt, div-lt_iff_lt-mul}
use lib.ListN.{length, get_or, drop, replicate, length-replicate, length-drop, get_or-replicate, get_or-append}
use lib.Seq.{ext_get_or, get_or-drop, get_or-append-add}
use Rattle.drawing.specs.Pulses.{low_sample, bit_after, bits_after, drawing}
use Rattle.drawing.proofs.Rest.{one, one-long, bits-after-long, rest_of, from-sample, next_bit}
pub use Rattle.drawing.proofs.Rest.{drawing-long}
use Rattle.promises_frame.specs.Bits.{bit_at}
use Rattle.promises_lines.specs.History.{bits_of}
use Rattle.promises_lines.proofs.Messages.{bits-long, bit_in}

-- The bits.
bit-after-in : (before count : ℕ) (m : List ℕ) (j : ℕ) → j < count → get_or (bits_after before count m) j 0 ≡ bit_after m (before + j)
unfolding bits_after
bit-after-in before zero m j h = absurd (omega arith)
bit-after-in before (suc count) m zero h = ap (bit_after m) (sym (add-zero before))
bit-after-in before (suc count) m (suc j) h =
    let next : suc before + j ≡ before + suc j = omega arith in
    bit-after-in (suc before) count m j (omega arith) ∙ ap (bit_after m) next

-- Bit i is the one after i - 1 others.
pub bit-at : (m : List ℕ) (j : ℕ) → bit_after m j ≡ bit_at m (j + 1)
bit-at m j =
    let back : j ≡ j + 1 - 1 = omega arith in
    ap (bit_after m) back

pub bits_are : (count : ℕ) (m : List ℕ) → bits_after 0 count m ≡ bits_of count m
bits_are count m =
    ext_get_or 0 (bits_after 0 count m) (bits_of count m) (bits-after-long 0 count m ∙ sym (bits-long count m))
    (λ i h.
    let less : i < count = omega (arith, bits-after-long 0 count m) in
    let next : i + 1 ≡ suc i = omega arith in
    bit-after-in 0 count m i less ∙ ap (bit_after m) (zero-add i) ∙ bit-at m i ∙ ap (bit_at m) next ∙ sym (bit_in count m i less))

-- Within a bit.
pub in-pulse : (low still bit p d : ℕ) → p < low → get_or (one low still bit) p d ≡ low_sample bit
in-pulse low still bit p d h =
    get_or-append (replicate low (low_sample bit)) (replicate still 0) d p (omega (arith, length-replicate low (low_sample bit)))
    ∙ get_or-replicate low p (low_sample bit) d h

pub in-idle : (low still bit p d : ℕ) → low ≤ p → p < low + still → get_or (one low still bit) p d ≡ 0
in-idle low still bit p d a b =
    let place : p ≡ length (replicate low (low_sample bit)) + (p - low) = omega (arith, length-replicate low (low_sample bit)) in
    ap (λ (k : ℕ). get_or (one low still bit) k d) place
    ∙ get_or-append-add (replicate low (low_sample bit)) (replicate still 0) (p - low) d
    ∙ get_or-replicate still (p - low) 0 d (omega arith)

-- Where there is a sample, a bit has one.
pub some_size : (k n size : ℕ) → k < n * size → 0 < size
some_size k n zero h = absurd (omega (arith, h, mul-zero n))
some_size k n (suc size) h = omega arith

-- Sample k is the one at its place in its bit.
pub sample_in : (low still count : ℕ) (m : List ℕ) (k d : ℕ) → k < count * (low + still)
    → get_or (drawing low still count m) k d ≡ get_or (one low still (bit_after m (k / (low + still)))) (k % (low + still)) d
sample_in low still count m k d h =
    let size = low + still in
    let some : 0 < size = some_size k count size h in
    let b = k / size in
    let p = k % size in
    let o = one low still (bit_after m b) in
    let less : b < count = (div-lt_iff_lt-mul some).1 h in
    let part : p < size = mod-lt k some in
    let long = length-drop p o in
    ap (λ (n : ℕ). get_or (drawing low still count m) n d) (sym (add-zero k))
    ∙ sym (get_or-drop k (drawing low still count m) 0 d)
    ∙ ap (λ (l : List ℕ). get_or l 0 d) (from-sample low still m count k ∙ next_bit low still m b (count - b) p (omega arith) (omega arith))
    ∙ get_or-append (drop p o) (rest_of low still m (b + 1) (count - b - 1) 0) d 0 (omega (arith, one-long low still (bit_after m b)))
    ∙ get_or-drop p o 0 d
    ∙ ap (λ (n : ℕ). get_or o n d) (add-zero p)
