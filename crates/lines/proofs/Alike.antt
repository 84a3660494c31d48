-- Samples that are alike: one more, two stretches, and a part of a batch. Assumes nothing.
use mathlib.Core.Path.{◌≡◌, refl, sym, ap, ◌∙◌}
use mathlib.Core.Bool.{Bool, true, false}
use mathlib.Core.List.{List}
use Prim.Native.Nat.{ℕ, ◌+◌, ◌-◌, ◌≤◌}
use native.Mathlib.Omega.{arith}
use borrow.Author.Tests.{ltb-true, ltb-false}
use lib.Dec.{ltb}
use lib.ListN.{length, get_or, take, drop, length-drop}
use lib.Seq.{get_or-take, get_or-drop, take_all}
use Rattle.std.specs.Array.{IsFirstChunk}
use Rattle.lines.specs.Inside.Runs.{Alike, RunTo}

pub alike-join : (xs : List ℕ) (a b c x : ℕ) → Alike xs a b x → Alike xs b c x → Alike xs a c x
alike-join xs a b c x first then k h l = go (ltb k b) refl
  where
    go : (t : Bool) → ltb k b ≡ t → get_or xs k 0 ≡ x
    go true e = first k h (ltb-true k b e)
    go false e = then k (ltb-false k b e) l

pub alike-none : (xs : List ℕ) (a x : ℕ) → Alike xs a a x
alike-none xs a x k h l = absurd (omega arith)

pub alike-one : (xs : List ℕ) (a x : ℕ) → get_or xs a 0 ≡ x → Alike xs a (a + 1) x
alike-one xs a x e k h l =
    let here : k ≡ a = omega arith in
    ap (λ (n : ℕ). get_or xs n 0) here ∙ e

-- what is left of a batch, and its front
tail : (i : ℕ) (xs : List ℕ) → take (length xs - i) (drop i xs) ≡ drop i xs
tail i xs = take_all (length xs - i) (drop i xs) (omega (arith, length-drop i xs))

alike-rest : (xs ys : List ℕ) (a m x : ℕ) → ys ≡ drop a xs → Alike ys 0 m x → Alike xs a (a + m) x
alike-rest xs ys a m x e part k l r =
    let back : k ≡ a + (k - a) = omega arith in
    ap (λ (j : ℕ). get_or xs j 0) back ∙ sym (get_or-drop a xs (k - a) 0) ∙ ap (λ (s : List ℕ). get_or s (k - a) 0) (sym e)
    ∙ part (k - a) (omega arith) (omega arith)

alike-front : (xs : List ℕ) (n m x : ℕ) → m ≤ n → Alike (take n xs) 0 m x → Alike xs 0 m x
alike-front xs n m x h part k l r = sym (get_or-take n xs k 0 (omega arith)) ∙ part k l r

pub run_none : (xs : List ℕ) (a x : ℕ) → a ≤ length xs → RunTo xs a a x
run_none xs a x h = record { forward = omega arith; there = h; alike = alike-none xs a x }

pub run_join : (xs : List ℕ) (a b c x : ℕ) → RunTo xs a b x → RunTo xs b c x → RunTo xs a c x
run_join xs a b c x first then =
    record {
      forward = omega (arith, first.forward, then.forward);
      there = then.there;
      alike = alike-join xs a b c x first.alike then.alike;
    }

-- the first of what is left, where they are alike
pub run-front : (xs ys : List ℕ) (i n m x : ℕ) → i ≤ length xs → IsFirstChunk (take (length xs - i) (drop i xs)) ys n → m ≤ n → Alike ys 0 m x
    → RunTo xs i (i + m) x
run-front xs ys i n m x there first few alike =
    let left = take (length xs - i) (drop i xs) in
    let long : length left ≡ length xs - i = ap length (tail i xs) ∙ length-drop i xs in
    record {
      forward = omega arith;
      there = omega (arith, first.enough);
      alike = alike-rest xs left i m x (tail i xs) (alike-front left n m x few (rw first.same at alike));
    }
