-- The slot after the last used one, and the list, by slots: blank slots at the end count for nothing. Assumes nothing.
use mathlib.Core.Path.{◌≡◌, refl, sym, ap, ◌∙◌}
use mathlib.Core.Logic.{◌≢◌}
use mathlib.Core.Bool.{Bool, true, false}
use mathlib.Core.List.{List, [], ◌++◌, append-nil}
use Prim.Native.Nat.{ℕ, zero, suc, ◌-◌, ◌<◌, ◌≤◌}
use native.Mathlib.Omega.{arith}
use borrow.Author.Tests.{eqb-true, eqb-false}
use lib.Dec.{eqb}
use Rattle.frame.specs.Pick.{pick}
use Rattle.sheet.specs.Bytes.{all_blank}
use Rattle.sheet.specs.Record.{Entry}
use Rattle.sheet.specs.Slots.{record_in, slot_at, slot_of, list_up_to, next_up_to}

-- Slots n to m of a sheet are blank.
abbrev pub BlankFrom : List ℕ → ℕ → ℕ → Type 0
BlankFrom s n m = (k : ℕ) → n ≤ k → k < m → all_blank (slot_at s k) ≡ true

pub next_le : (s : List ℕ) (m : ℕ) → next_up_to s m ≤ m
unfolding next_up_to
next_le s zero = omega arith
next_le s (suc m) = go (all_blank (slot_at s m)) (next_le s m)
  where
    go : (t : Bool) → next_up_to s m ≤ m → pick t (next_up_to s m) (suc m) ≤ suc m
    go true h = omega arith
    go false h = omega arith

-- From it on the slots are blank.
pub next-blank : (s : List ℕ) (m : ℕ) → BlankFrom s (next_up_to s m) m
unfolding next_up_to
next-blank s zero k from below = absurd (omega arith)
next-blank s (suc m) k from below = go (all_blank (slot_at s m)) refl from (next-blank s m k)
  where
    go : (t : Bool) → all_blank (slot_at s m) ≡ t → pick t (next_up_to s m) (suc m) ≤ k → (next_up_to s m ≤ k → k < m → all_blank (slot_at s k) ≡ true)
        → all_blank (slot_at s k) ≡ true
    go false e h ih = absurd (omega arith)
    go true e h ih = last (eqb k m) refl
      where
        last : (u : Bool) → eqb k m ≡ u → all_blank (slot_at s k) ≡ true
        last true q = ap (λ (j : ℕ). all_blank (slot_at s j)) (eqb-true k m q) ∙ e
        last false q =
            let other : k ≡ m → ⊥ = eqb-false k m q in
            ih h (omega arith)

-- The slot before it is used.
pub next-used : (s : List ℕ) (m : ℕ) → 0 < next_up_to s m → all_blank (slot_at s (next_up_to s m - 1)) ≡ false
unfolding next_up_to
next-used s zero h = absurd (omega arith)
next-used s (suc m) h = go (all_blank (slot_at s m)) refl h (next-used s m)
  where
    go : (t : Bool) → all_blank (slot_at s m) ≡ t → 0 < pick t (next_up_to s m) (suc m)
        → (0 < next_up_to s m → all_blank (slot_at s (next_up_to s m - 1)) ≡ false) → all_blank (slot_at s (pick t (next_up_to s m) (suc m) - 1)) ≡ false
    go true e h ih = ih h
    go false e h ih =
        let back : suc m - 1 ≡ m = omega arith in
        ap (λ (j : ℕ). all_blank (slot_at s j)) back ∙ e

-- A used slot with blank ones after it is the last used.
pub next-is : (s : List ℕ) (m n : ℕ) → n < m → all_blank (slot_at s n) ≡ false → BlankFrom s (suc n) m → next_up_to s m ≡ suc n
unfolding next_up_to
next-is s zero n h used after = absurd (omega arith)
next-is s (suc m) n h used after = go (eqb n m) refl (next-is s m n)
  where
    go : (u : Bool) → eqb n m ≡ u → (n < m → all_blank (slot_at s n) ≡ false → BlankFrom s (suc n) m → next_up_to s m ≡ suc n)
        → pick (all_blank (slot_at s m)) (next_up_to s m) (suc m) ≡ suc n
    go true q ih =
        let same : n ≡ m = eqb-true n m q in
        ap (λ (t : Bool). pick t (next_up_to s m) (suc m)) (ap (λ (j : ℕ). all_blank (slot_at s j)) (sym same) ∙ used) ∙ ap suc (sym same)
    go false q ih =
        let other : n ≡ m → ⊥ = eqb-false n m q in
        ap (λ (t : Bool). pick t (next_up_to s m) (suc m)) (after m (omega arith) (omega arith))
        ∙ ih (omega arith) used (λ k from below. after k from (omega arith))

pub list_same : (s t : List ℕ) (m : ℕ) → ((k : ℕ) → k < m → slot_at t k ≡ slot_at s k) → list_up_to t m ≡ list_up_to s m
unfolding list_up_to
list_same s t zero h = refl
list_same s t (suc m) h = λ i. list_same s t m (λ k l. h k (omega arith)) i ++ record_in (slot_of (h m (omega arith) i))

blank-tells : (x : List ℕ) → all_blank x ≡ true → record_in (slot_of x) ≡ []
unfolding slot_of
blank-tells x h = simp h

-- Blank slots add nothing to the list.
pub list-blank : (s : List ℕ) (n m : ℕ) → n ≤ m → BlankFrom s n m → list_up_to s m ≡ list_up_to s n
unfolding list_up_to
list-blank s n zero h after =
    let none : 0 ≡ n = omega arith in
    ap (list_up_to s) none
list-blank s n (suc m) h after = go (eqb n (suc m)) refl (list-blank s n m)
  where
    go : (u : Bool) → eqb n (suc m) ≡ u → (n ≤ m → BlankFrom s n m → list_up_to s m ≡ list_up_to s n)
        → list_up_to s m ++ record_in (slot_of (slot_at s m)) ≡ list_up_to s n
    go true q ih = ap (list_up_to s) (sym (eqb-true n (suc m) q))
    go false q ih =
        let other : n ≡ suc m → ⊥ = eqb-false n (suc m) q in
        ap (λ (l : List Entry). list_up_to s m ++ l) (blank-tells (slot_at s m) (after m (omega arith) (omega arith))) ∙ append-nil (list_up_to s m)
        ∙ ih (omega arith) (λ k from below. after k from (omega arith))

-- Where only slot n changed and those after it are blank, the list grows by what that slot tells.
pub list-grows : (s t : List ℕ) (n m : ℕ) → n < m → BlankFrom s n m → ((k : ℕ) → k ≢ n → slot_at t k ≡ slot_at s k)
    → list_up_to t m ≡ list_up_to s m ++ record_in (slot_of (slot_at t n))
unfolding list_up_to
list-grows s t n m h after others =
    list-blank t (suc n) m (omega arith) (λ k from below. ap all_blank (others k (omega arith)) ∙ after k (omega arith) below)
    ∙ ap (λ (l : List Entry). l ++ record_in (slot_of (slot_at t n)))
    (list_same s t n (λ k l. others k (omega arith)) ∙ sym (list-blank s n m (omega arith) after))
