-- The slot after the last used one. Assumes nothing.
use mathlib.Core.Path.{◌≡◌, refl, sym, ap, ◌∙◌}
use mathlib.Core.Bool.{Bool, true}
use mathlib.Core.List.{List, ◌++◌}
use Prim.Native.Nat.{ℕ, zero, suc, ◌+◌, ◌*◌}
use native.Mathlib.Numerals.{add-one}
use native.Mathlib.Omega.{arith}
use lib.ListN.{take, drop}
use lib.Seq.{take-add, drop-drop}
use Rattle.frame.specs.Pick.{pick}
use Rattle.frame.proofs.Both.{both_left, both_right}
use Rattle.sheet.specs.Bytes.{all_blank}
use Rattle.sheet.specs.Slots.{slot_at, next_up_to}
use Rattle.sheet.proofs.Blank.{blank-append}

-- Among one slot more: that one, or else those before it.
pub next_one : (s : List ℕ) (k : ℕ) → next_up_to s (k + 1) ≡ pick (all_blank (slot_at s k)) (next_up_to s k) (k + 1)
unfolding next_up_to
next_one s k = rw add-one refl

-- Any number of blank slots after the first j.
pub next_past : (s : List ℕ) (j n : ℕ) → all_blank (take (32 * n) (drop (32 * j) s)) ≡ true → next_up_to s (j + n) ≡ next_up_to s j
unfolding next_up_to
next_past s j zero h =
    let none : j + 0 ≡ j = omega arith in
    ap (next_up_to s) none
next_past s j (suc n) h =
    let before = take (32 * n) (drop (32 * j) s) in
    let size : 32 * suc n ≡ 32 * n + 32 = omega arith in
    let place : 32 * j + 32 * n ≡ 32 * (j + n) = omega arith in
    let last : take 32 (drop (32 * n) (drop (32 * j) s)) ≡ slot_at s (j + n) =
    ap (take 32) (drop-drop (32 * n) (32 * j) s ∙ ap (λ (p : ℕ). drop p s) place) in
    let parts : take (32 * suc n) (drop (32 * j) s) ≡ before ++ slot_at s (j + n) =
    ap (λ (m : ℕ). take m (drop (32 * j) s)) size ∙ take-add (32 * n) 32 (drop (32 * j) s) ∙ ap (λ (l : List ℕ). before ++ l) last in
    let both = sym (blank-append before (slot_at s (j + n))) ∙ ap all_blank (sym parts) ∙ h in
    let more : j + suc n ≡ suc (j + n) = omega arith in
    ap (next_up_to s) more
    ∙ ap (λ (b : Bool). pick b (next_up_to s (j + n)) (suc (j + n))) (both_right (all_blank before) (all_blank (slot_at s (j + n))) both)
    ∙ next_past s j n (both_left (all_blank before) (all_blank (slot_at s (j + n))) both)
