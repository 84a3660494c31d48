-- Each call wrote its text; the lines joined are those of the definition, slot after slot. Assumes nothing.
use mathlib.Core.Path.{◌≡◌, refl, sym, ap, ◌∙◌}
use mathlib.Core.Bool.{true, false}
use mathlib.Core.List.{List, [], ◌∷◌, ◌++◌}
use Prim.Native.Nat.{ℕ, zero, suc, ◌+◌, ◌<◌}
use native.Mathlib.Omega.{arith}
use lib.ListN.{length, length-append}
use Rattle.sheet.specs.Slots.{Slot, blank, spoiled, foreign, holds, size_allowed, slots, slot_at, slot_of}
use Rattle.listing.specs.Text.{ascii, in_decimal}
use Rattle.listing.specs.Lines.{head_line, slot_line, listed_line, lines_up_to, last_line, listing_of, record_text}
use Rattle.promises_card.specs.Listing.InOrder.{ListingInOrder, joined}
use Rattle.promises_card.proofs.Listing.Written.{wrote}

lines : (s : List ℕ) (line : ℕ → List ℕ) (k : ℕ) → ((j : ℕ) → j < k → line j ≡ slot_line s j) → joined line k ≡ lines_up_to s k
unfolding joined lines_up_to
lines s line zero each = refl
lines s line (suc k) each =
    let before = lines s line k (λ j h. each j (omega arith)) in
    let here = each k (omega arith) in
    λ i. before i ++ here i

listing-is : (s : List ℕ) → size_allowed s ≡ true → listing_of s ≡ head_line s ++ lines_up_to s (slots s) ++ last_line s
unfolding listing_of
listing-is s size = simp size

bad-is : (s : List ℕ) → size_allowed s ≡ false → listing_of s ≡ ascii "fault 12\n"
unfolding listing_of
bad-is s size = simp size

-- a line ends, so that it is not empty
ended : (t : List ℕ) (b : ℕ) (u : List ℕ) → t ++ b ∷ u ≡ [] → ⊥
ended t b u e =
    let long : length (t ++ b ∷ u) ≡ length t + length (b ∷ u) = length-append t (b ∷ u) in
    let none : length (t ++ b ∷ u) ≡ 0 = ap length e in
    omega arith

some-line : (k : ℕ) (t : Slot) → (t ≡ blank → ⊥) → listed_line k t ≡ [] → ⊥
some-line k blank used e = used refl
some-line k spoiled used e = ended (in_decimal k) _ _ e
some-line k foreign used e = ended (in_decimal k) _ _ e
some-line k (holds r) used e = ended (in_decimal k ++ ascii " " ++ record_text r) _ _ e

pub listing-in-order : ListingInOrder
listing-in-order =
    record {
      whole = λ s size head last listing line h l t w.
          let each : (k : ℕ) → k < slots s → line k ≡ slot_line s k = λ k near. wrote _ _ (slot_line s k) (line k) (l k near) in
          let first = wrote _ _ (head_line s) head h in
          let middle = lines s line (slots s) each in
          let end = wrote _ _ (last_line s) last t in
          wrote _ _ (listing_of s) listing w ∙ listing-is s size ∙ (λ i. sym first i ++ sym middle i ++ sym end i);
      blank_has_none = λ s line k w e. wrote _ _ (slot_line s k) line w ∙ ap (listed_line k) e;
      others_have_one = λ s line k w used e. some-line k (slot_of (slot_at s k)) used (sym (wrote _ _ (slot_line s k) line w) ∙ e);
      bad_size = λ s listing size w. wrote _ _ (listing_of s) listing w ∙ bad-is s size;
    }
