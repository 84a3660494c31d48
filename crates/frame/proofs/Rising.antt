-- Two lists that rise strictly by a key and hold the same at every key are equal: the smallest key of one is the smallest of the other, and what
-- follows holds the same again. Over any type and key. Assumes nothing.
use mathlib.Core.Path.{◌≡◌, refl, sym, ap, ◌∙◌}
use mathlib.Core.Bool.{Bool, true, false}
use mathlib.Core.List.{List, [], ◌∷◌}
use Prim.Native.Nat.{ℕ, ◌<◌, ◌≤◌}
use native.Mathlib.Omega.{arith}
use borrow.Author.Tests.{eq-eqb, ne_eqb, eqb-true, eqb-false, ltb-true, ltb-false}
use lib.Dec.{eqb, ltb}
use Rattle.frame.specs.Pick.{pick}
use Rattle.frame.specs.Rising.{Above, above_none, above_more, Rises, rises_more, held_at}

module _ {A : Type 0} (key : A → ℕ) where
  pub above_lower : {m n : ℕ} {xs : List A} → m ≤ n → Above key n xs → Above key m xs
  above_lower l above_none = above_none
  above_lower l (above_more {x = x} h a) = above_more {x = x} (omega arith) (above_lower l a)

  -- a list above a number holds nothing at it or below
  pub held_none : {n : ℕ} {xs : List A} (k : ℕ) → k ≤ n → Above key n xs → held_at key k xs ≡ []
  unfolding held_at
  held_none k l above_none = refl
  held_none k l (above_more {x = x} {xs = xs} h a) = ap (λ (b : Bool). pick b (x ∷ []) (held_at key k xs)) (ne_eqb (key x) k (omega arith)) ∙ held_none k l a

  -- what stands first is held at its key
  pub held_first : (x : A) (xs : List A) (k : ℕ) → key x ≡ k → held_at key k (x ∷ xs) ≡ x ∷ []
  unfolding held_at
  held_first x xs k e = ap (λ (b : Bool). pick b (x ∷ []) (held_at key k xs)) (eq-eqb (key x) k e)

  pub held-later : (x : A) (xs : List A) (k : ℕ) → (key x ≡ k → ⊥) → held_at key k (x ∷ xs) ≡ held_at key k xs
  unfolding held_at
  held-later x xs k e = ap (λ (b : Bool). pick b (x ∷ []) (held_at key k xs)) (ne_eqb (key x) k e)

  no_end : {x : A} {xs : List A} → ◌≡◌ {A = List A} [] (x ∷ xs) → ⊥
  no_end e = let z : ◌≡◌ {A = ℕ} 0 1 = cc in omega arith

  -- the first of two rising lists that hold the same is the same: neither key can be the smaller
  not-smaller : (x y : A) (xs ys : List A) → Above key (key y) ys → ((k : ℕ) → held_at key k (x ∷ xs) ≡ held_at key k (y ∷ ys)) → key x < key y → ⊥
  not-smaller x y xs ys a same less =
      no_end (sym (held_none (key x) (omega arith) a) ∙ sym (held-later y ys (key x) (omega arith)) ∙ sym (same (key x)) ∙ held_first x xs (key x) refl)

  same_key : (x y : A) (xs ys : List A) → Rises key (x ∷ xs) → Rises key (y ∷ ys) → ((k : ℕ) → held_at key k (x ∷ xs) ≡ held_at key k (y ∷ ys)) → key x ≡ key y
  same_key x y xs ys (rises_more a r) (rises_more b q) same = go (ltb (key x) (key y)) (ltb (key y) (key x)) refl refl
    where
      go : (s t : Bool) → ltb (key x) (key y) ≡ s → ltb (key y) (key x) ≡ t → key x ≡ key y
      go true t e f = absurd (not-smaller x y xs ys b same (ltb-true (key x) (key y) e))
      go false true e f = absurd (not-smaller y x ys xs a (λ k. sym (same k)) (ltb-true (key y) (key x) f))
      go false false e f = omega (arith, ltb-false (key x) (key y) e, ltb-false (key y) (key x) f)

  -- what follows the first of both
  rest-same : (x y : A) (xs ys : List A) → key x ≡ key y → Above key (key x) xs → Above key (key y) ys → ((k : ℕ) → held_at key k (x ∷ xs) ≡ held_at key k (y ∷ ys))
      → (k : ℕ) → held_at key k xs ≡ held_at key k ys
  rest-same x y xs ys e a b same k = go (eqb (key x) k) refl
    where
      go : (t : Bool) → eqb (key x) k ≡ t → held_at key k xs ≡ held_at key k ys
      go true q =
          let h = eqb-true (key x) k q in
          held_none k (omega arith) a ∙ sym (held_none k (omega arith) b)
      go false q =
          let h = eqb-false (key x) k q in
          sym (held-later x xs k h) ∙ same k ∙ held-later y ys k (λ f. h (e ∙ f))

  pub same-rising : (xs ys : List A) → Rises key xs → Rises key ys → ((k : ℕ) → held_at key k xs ≡ held_at key k ys) → xs ≡ ys
  unfolding held_at
  same-rising [] [] r q same = refl
  same-rising [] (y ∷ ys) r q same = absurd (no_end (same (key y) ∙ held_first y ys (key y) refl))
  same-rising (x ∷ xs) [] r q same = absurd (no_end (sym (same (key x)) ∙ held_first x xs (key x) refl))
  same-rising (x ∷ xs) (y ∷ ys) (rises_more a r) (rises_more b q) same =
      let e = same_key x y xs ys (rises_more a r) (rises_more b q) same in
      let first : x ∷ [] ≡ y ∷ [] = sym (held_first x xs (key x) refl) ∙ same (key x) ∙ held_first y ys (key x) (sym e) in
      let heads : x ≡ y = cc in
      ap (λ (z : A). z ∷ xs) heads ∙ ap (λ (zs : List A). y ∷ zs) (same-rising xs ys r q (rest-same x y xs ys e a b same))
