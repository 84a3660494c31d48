-- The records that are counted are those of the list: slot by slot, since a look at a slot of a sheet tells what it holds. Assumes nothing.
use mathlib.Core.Path.{◌≡◌, refl, sym, ap, ◌∙◌}
use mathlib.Core.Bool.{true}
use mathlib.Core.List.{List, ◌++◌}
use Prim.Native.Nat.{ℕ, zero, suc, ◌+◌, ◌≤◌}
use native.Mathlib.Omega.{arith}
use lib.ListN.{length, length-append}
use Rattle.sheet.specs.declared.Looked.{Looked}
use Rattle.sheet.specs.Slots.{Slot, blank, spoiled, foreign, holds, size_allowed, slots, slot_at, slot_of, record_in, list_up_to, list_of}
use Rattle.sheet.specs.Look.{look_of, look_told}
use Rattle.sheet.proofs.SlotParts.{look-within}
use Rattle.cards.specs.declared.counting.Tally.{Tally}
use Rattle.cards.specs.Tally.{with_slot, tally_up_to, tally_of}

-- one slot
one-slot : (t : Slot) (y : Tally) → (with_slot (look_told t).found y).records ≡ y.records + length (record_in t)
one-slot blank y = omega arith
one-slot spoiled y = omega arith
one-slot foreign y = omega arith
one-slot (holds e) y = omega arith

up_to : (s : List ℕ) → size_allowed s ≡ true → (k : ℕ) → k ≤ slots s → (tally_up_to s k).records ≡ length (list_up_to s k)
unfolding tally_up_to list_up_to
up_to s size zero near = refl
up_to s size (suc k) near =
    let t = slot_of (slot_at s k) in
    let answer : look_of s k ≡ look_told t = look-within s k size (omega arith) in
    let seen : (with_slot (look_of s k).found (tally_up_to s k)).records ≡ (tally_up_to s k).records + length (record_in t) =
    ap (λ (x : Looked). (with_slot x.found (tally_up_to s k)).records) answer ∙ one-slot t (tally_up_to s k) in
    let both : length (list_up_to s k ++ record_in t) ≡ length (list_up_to s k) + length (record_in t) = length-append (list_up_to s k) (record_in t) in
    let before = up_to s size k (omega arith) in
    seen ∙ ap (λ (n : ℕ). n + length (record_in t)) before ∙ sym both

pub counted-records : (s : List ℕ) → size_allowed s ≡ true → (tally_of s).records ≡ length (list_of s)
counted-records s size = up_to s size (slots s) (omega arith)
