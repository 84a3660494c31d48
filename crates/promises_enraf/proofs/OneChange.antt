-- One changed byte: two accepted records begin with the same STX, and behind it the sum of each, check included, is 0; so no single byte differs.
use mathlib.Core.Path.{◌≡◌, sym, ap, ◌∙◌}
use mathlib.Core.List.{List, [], ◌∷◌}
use Prim.Native.Nat.{ℕ, zero, suc, ◌<◌, ◌^◌}
use native.Mathlib.Omega.{arith}
use lib.Bits.{bit_xor, xor_zero_r}
use lib.ListN.{length, get_or, set, drop}
use lib.Pow.{pow_pos}
use Rattle.enraf.specs.Check.{sum_after}
use Rattle.enraf.specs.Record.{STX, checked_of, item_record}
use Rattle.enraf.specs.Reading.{item_in, read_fault}
use Rattle.enraf.proofs.ByTests.{accepted, frame-signs}
use Rattle.promises_enraf.specs.OneChange.{ItemOneChange}
use Rattle.promises_enraf.proofs.Outcomes.{read_number}
use Rattle.promises_enraf.proofs.Records.{small, fitting, again}
use Rattle.promises_enraf.proofs.Sums.{xor-once, sum_tells, nothing_left, seven-item}

-- behind the STX nothing is left of the sum
nothing : (s : List ℕ) → read_fault s ≡ 0 → sum_after 0 (drop 1 s) ≡ 0
unfolding item_record
nothing s ok =
    let i = item_in s in
    sym (ap (λ (l : List ℕ). sum_after 0 (drop 1 l)) (again s ok)) ∙ nothing_left (checked_of i) (seven-item i (small s ok).0 (small s ok).1 (fitting s ok))

stx : (s : List ℕ) → read_fault s ≡ 0 → get_or s 0 0 ≡ STX
stx s ok = (frame-signs s (accepted s ok).0).0

no_change : (s : List ℕ) (at y : ℕ) → at < length s → read_fault s ≡ 0 → read_fault (set s at y) ≡ 0 → y ≡ get_or s at 0
no_change [] at y h p q = absurd (omega arith)
no_change (b ∷ s) zero y h p q = stx (y ∷ s) q ∙ sym (stx (b ∷ s) p)
no_change (b ∷ s) (suc j) y h p q = sum_tells s j 0 y (omega arith) (nothing (b ∷ set s j y) q ∙ sym (nothing (b ∷ s) p))

pub item-one-change : ItemOneChange
item-one-change =
    record {
      one_byte = λ s got r ok at y h other got' r' ok'.
          other (no_change s at y h (sym (read_number s got r) ∙ ok) (sym (read_number (set s at y) got' r') ∙ ok'));
      one_bit = λ s got r ok at k h got' r' ok'.
          let x = get_or s at 0 in
          let same = no_change s at (bit_xor x (2 ^ k)) h (sym (read_number s got r) ∙ ok) (sym (read_number (set s at (bit_xor x (2 ^ k))) got' r') ∙ ok') in
          let none : 2 ^ k ≡ 0 = xor-once x (2 ^ k) 0 (same ∙ sym (xor_zero_r x)) in
          let some = pow_pos k in
          omega arith;
    }
