-- `sheet::record::reply_in` meets its contract: the bits that are taken off are the word's remainder. Assumes nothing.
use mathlib.Core.Path.{◌≡◌, refl, ap, ◌∙◌}
use Prim.Native.Nat.{ℕ, ◌-◌, ◌^◌}
use lib.Bits.{bit_and, and_mask, and_le_l}
use Rattle.frame.specs.Line.{first_bytes}
use Rattle.sheet.specs.Bytes.{big_endian}
use Rattle.sheet.specs.Inside.Word.{first_bits}
use Rattle.sheet.proofs.record.reply_in.Goals as goal

-- the bytes of a word as the frame and as the sheet write them
as_written : (w : ℕ) → first_bytes 8 w ≡ big_endian 8 w
as_written w = unfold first_bytes in refl

-- what the code takes off, and what is left
left : (n m w count : ℕ) → n ≡ w → m ≡ 2 ^ (64 - count) - 1 → big_endian 8 (n - bit_and n m) ≡ big_endian 8 (first_bits count w)
left n m w count en em =
    ap (λ (r : ℕ). big_endian 8 (n - r)) (ap (bit_and n) em ∙ and_mask n (64 - count)) ∙ ap (λ (r : ℕ). big_endian 8 (first_bits count r)) en

pub overflow_sub-word : goal.overflow_sub-word
overflow_sub-word c = and_le_l c.number-word.result c.past.result

pub returns : goal.returns
returns c =
    let n = c.number-word in
    c.bytes_of.ensures ∙ as_written _ ∙ left n.result c.past.result _ c.args.count n.ensures c.past.ensures
