-- A form read from a place on, and several forms in one text. Each law opens the definition at the byte that stands there. Assumes nothing.
use mathlib.Core.Path.{◌≡◌, refl, sym, ap, ◌∙◌}
use mathlib.Core.Bool.{Bool, true, false, ◌&&◌}
use mathlib.Core.List.{List, [], ◌∷◌, ◌++◌}
use Prim.Native.Nat.{ℕ, zero, suc, ◌+◌, ◌<◌, ◌≤◌, max}
use native.Mathlib.Numerals.{add-one}
use native.Mathlib.Omega.{arith}
use borrow.Author.Tests.{eq-eqb, ne_eqb, lt-ltb, le-ltb}
use lib.Dec.{eqb, ltb}
use lib.ListN.{length, get_or, drop}
use lib.Seq.{drop-cons}
use Rattle.std.specs.List.{slice_get, slice_split, onto_first}
use Rattle.std.specs.Option.{unwrap_or}
use Rattle.frame.specs.Pick.{pick}
use Rattle.listing.specs.Text.{in_decimal}
use Rattle.forms.specs.Form.{fill, first, others, choice}
use Rattle.forms.specs.Inside.Bounds.{widest_from, widest}

opened : (c : ℕ) (cs ns : List ℕ) → fill (c ∷ cs) ns ≡ pick (eqb c 126 && ltb 0 (length ns)) (in_decimal (get_or ns 0 0) ++ fill cs (drop 1 ns)) (c ∷ fill cs ns)
unfolding fill
opened c cs ns = refl

never : (b : Bool) → (b && false) ≡ false
never true = refl
never false = refl

-- the next byte of a form: the place of a number where one is left, or itself
module _ (form left : List ℕ) (i : ℕ) (near : i < length form) where
  byte : drop i form ≡ get_or form i 0 ∷ drop (i + 1) form
  byte = drop-cons form i 0 near ∙ ap (λ (k : ℕ). get_or form i 0 ∷ drop k form) (sym (add-one i))

  by-test : (b : Bool) → (eqb (get_or form i 0) 126 && ltb 0 (length left)) ≡ b → fill (drop i form) left ≡ pick b (in_decimal (get_or left 0 0) ++ fill (drop (i + 1) form) (drop 1 left)) (get_or form i 0 ∷ fill (drop (i + 1) form) left)
  by-test b e =
      ap (λ (l : List ℕ). fill l left) byte ∙ opened (get_or form i 0) (drop (i + 1) form) left
      ∙ ap (λ (t : Bool). pick t (in_decimal (get_or left 0 0) ++ fill (drop (i + 1) form) (drop 1 left)) (get_or form i 0 ∷ fill (drop (i + 1) form) left)) e

  pub fill-number : (n : ℕ) (rest : List ℕ) → get_or form i 0 ≡ 126 → left ≡ n ∷ rest → fill (drop i form) left ≡ in_decimal n ++ fill (drop (i + 1) form) rest
  fill-number n rest e is =
      let some : 0 < length left = omega (arith, ap length is) in
      by-test true (simp (eq-eqb (get_or form i 0) 126 e, lt-ltb 0 (length left) some))
      ∙ ap (λ (l : List ℕ). in_decimal (get_or l 0 0) ++ fill (drop (i + 1) form) (drop 1 l)) is

  pub fill-other : (get_or form i 0 ≡ 126 → ⊥) → fill (drop i form) left ≡ get_or form i 0 ∷ fill (drop (i + 1) form) left
  fill-other e = by-test false (simp (ne_eqb (get_or form i 0) 126 e))

  pub fill-used_up : length left ≡ 0 → fill (drop i form) left ≡ get_or form i 0 ∷ fill (drop (i + 1) form) left
  fill-used_up none = by-test false (simp (le-ltb 0 (length left) (omega arith)) (never (eqb (get_or form i 0) 126)))

nothing_left : (l : List ℕ) (k : ℕ) → length l ≤ k → drop k l ≡ []
nothing_left [] zero g = refl
nothing_left [] (suc k) g = refl
nothing_left (x ∷ l) zero g = absurd (omega arith)
nothing_left (x ∷ l) (suc k) g = nothing_left l k (omega arith)

pub fill_end : (form ns : List ℕ) (i : ℕ) → length form ≤ i → fill (drop i form) ns ≡ []
unfolding fill
fill_end form ns i h = ap (λ (l : List ℕ). fill l ns) (nothing_left form i h)

-- several forms as std splits them at the bars; no bytes are picked beyond the last
abbrev picked : List (List ℕ) → ℕ → List ℕ
picked parts n = unwrap_or (slice_get parts n) []

onto-first : (c : ℕ) (parts : List (List ℕ)) → picked (onto_first c parts) 0 ≡ c ∷ picked parts 0
onto-first c [] = refl
onto-first c (part ∷ parts) = refl

onto-later : (c n : ℕ) (parts : List (List ℕ)) → picked (onto_first c parts) (suc n) ≡ picked parts (suc n)
onto-later c zero [] = refl
onto-later c (suc n) [] = refl
onto-later c n (part ∷ parts) = refl

abbrev parts : List ℕ → List (List ℕ)
parts fs = slice_split (λ b. eqb b 124) fs

choice-none : (n : ℕ) → choice n [] ≡ []
unfolding choice first others
choice-none zero = refl
choice-none (suc n) = choice-none n

none-picked : (n : ℕ) → picked (parts []) n ≡ []
none-picked zero = refl
none-picked (suc zero) = refl
none-picked (suc (suc n)) = refl

-- a bar in front, and any other byte
bar-first : (c : ℕ) (cs : List ℕ) (n : ℕ) → eqb c 124 ≡ true → choice (suc n) (c ∷ cs) ≡ choice n cs
unfolding choice first others
bar-first c cs n e = simp e

bar-none : (c : ℕ) (cs : List ℕ) → eqb c 124 ≡ true → choice 0 (c ∷ cs) ≡ []
unfolding choice first others
bar-none c cs e = simp e

byte-first : (c : ℕ) (cs : List ℕ) → eqb c 124 ≡ false → choice 0 (c ∷ cs) ≡ c ∷ choice 0 cs
unfolding choice first others
byte-first c cs e = simp e

byte-later : (c : ℕ) (cs : List ℕ) (n : ℕ) → eqb c 124 ≡ false → choice (suc n) (c ∷ cs) ≡ choice (suc n) cs
unfolding choice first others
byte-later c cs n e = simp e

split-bar : (c : ℕ) (cs : List ℕ) → eqb c 124 ≡ true → parts (c ∷ cs) ≡ [] ∷ parts cs
split-bar c cs e = simp e

split-byte : (c : ℕ) (cs : List ℕ) → eqb c 124 ≡ false → parts (c ∷ cs) ≡ onto_first c (parts cs)
split-byte c cs e = simp e

pub choice-picked : (fs : List ℕ) (n : ℕ) → picked (parts fs) n ≡ choice n fs
choice-picked [] n = none-picked n ∙ sym (choice-none n)
choice-picked (c ∷ cs) n = go (eqb c 124) refl n (choice-picked cs)
  where
    go : (b : Bool) → eqb c 124 ≡ b → (n : ℕ) → ((k : ℕ) → picked (parts cs) k ≡ choice k cs) → picked (parts (c ∷ cs)) n ≡ choice n (c ∷ cs)
    go true e zero h = ap (λ (l : List (List ℕ)). picked l 0) (split-bar c cs e) ∙ sym (bar-none c cs e)
    go true e (suc n) h = ap (λ (l : List (List ℕ)). picked l (suc n)) (split-bar c cs e) ∙ h n ∙ sym (bar-first c cs n e)
    go false e zero h =
        ap (λ (l : List (List ℕ)). picked l 0) (split-byte c cs e) ∙ onto-first c (parts cs) ∙ ap (λ (l : List ℕ). c ∷ l) (h 0) ∙ sym (byte-first c cs e)
    go false e (suc n) h =
        ap (λ (l : List (List ℕ)). picked l (suc n)) (split-byte c cs e) ∙ onto-later c n (parts cs) ∙ h (suc n) ∙ sym (byte-later c cs n e)

-- no form is longer than the longest
first-widest : (n : ℕ) (fs : List ℕ) → n + length (first fs) ≤ widest_from n fs
unfolding first
first-widest n [] = omega arith
first-widest n (c ∷ cs) = go (eqb c 124) (first-widest (suc n) cs)
  where
    go : (b : Bool) → suc n + length (first cs) ≤ widest_from (suc n) cs → n + length (pick b [] (c ∷ first cs)) ≤ pick b (max n (widest_from 0 cs)) (widest_from (suc n) cs)
    go true h = omega arith
    go false h = omega arith

others-widest : (n : ℕ) (fs : List ℕ) → widest (others fs) ≤ widest_from n fs
unfolding first others
others-widest n [] = omega arith
others-widest n (c ∷ cs) = go (eqb c 124) (others-widest (suc n) cs)
  where
    go : (b : Bool) → widest (drop (suc (length (first cs))) cs) ≤ widest_from (suc n) cs → widest (drop (length (pick b [] (c ∷ first cs))) cs) ≤ pick b (max n (widest_from 0 cs)) (widest_from (suc n) cs)
    go true h = omega arith
    go false h = h

pub choice-widest : (n : ℕ) (fs : List ℕ) → length (choice n fs) ≤ widest fs
unfolding choice
choice-widest zero fs = omega (arith, first-widest 0 fs)
choice-widest (suc n) fs = omega (arith, choice-widest n (others fs), others-widest 0 fs)

-- the same form with the same numbers, said by a number that is equal
pub chosen : (a b : ℕ) (fs ns ms : List ℕ) → a ≡ b → ns ≡ ms → fill (choice a fs) ns ≡ fill (choice b fs) ms
chosen a b fs ns ms e same = λ i. fill (choice (e i) fs) (same i)
