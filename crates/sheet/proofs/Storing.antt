-- Stores made one after another and run after run, and which store comes k-th. Assumes nothing.
use mathlib.Core.Path.{◌≡◌, refl, sym, ap, ◌∙◌}
use mathlib.Core.Bool.{Bool, true, false}
use mathlib.Core.List.{List, [], ◌∷◌, ◌++◌}
use Prim.Native.Nat.{ℕ, zero, suc, ◌+◌, ◌-◌, ◌<◌, ◌≤◌, min}
use native.Mathlib.Nat.{add-zero}
use native.Mathlib.Numerals.{add-one}
use native.Mathlib.Omega.{arith}
use borrow.Author.Tests.{ltb-true, ltb-false, leb-true, leb-false}
use lib.Dec.{ltb, leb}
use lib.ListN.{length, get_or, take, replicate, set, length-append, length-set, get_or-append}
use lib.Seq.{take-suc, take_all, take-length, get_or-append-add}
use Rattle.frame.specs.Pick.{pick}
use Rattle.sheet.specs.Record.{Entry, after_length, length_of, length_bytes}
use Rattle.sheet.specs.Inside.InSlot.{in_slot, store_place}
use Rattle.sheet.specs.Stores.{Store, ◌puts◌, made, ascending, stores}

pub made-append : (s : List ℕ) (ps qs : List Store) → made s (ps ++ qs) ≡ made (made s ps) qs
unfolding made
made-append s [] qs = refl
made-append s (p ∷ ps) qs = made-append (set s p.place p.byte) ps qs

pub made-length : (s : List ℕ) (ps : List Store) → length (made s ps) ≡ length s
unfolding made
made-length s [] = refl
made-length s (p ∷ ps) = made-length (set s p.place p.byte) ps ∙ length-set s p.place p.byte

-- One store more.
pub made_more : (s : List ℕ) (ps : List Store) (k : ℕ) (d : Store) → k < length ps
    → made s (take (k + 1) ps) ≡ set (made s (take k ps)) (get_or ps k d).place (get_or ps k d).byte
unfolding made
made_more s ps k d h = rw (add-one, take-suc ps k d) (made-append s (take k ps) (get_or ps k d ∷ []))

pub ascending-length : (p : ℕ) (bs : List ℕ) → length (ascending p bs) ≡ length bs
unfolding ascending
ascending-length p [] = refl
ascending-length p (b ∷ bs) = ap suc (ascending-length (p + 1) bs)

-- A record has as many stores as its length says, and two for the length.
pub stores-length : (at : ℕ) (e : Entry) → length (stores at e) ≡ length_of e + 2
unfolding stores
stores-length at e = simp (length-append, ascending-length) (omega arith)

pub ascending-at : (p : ℕ) (bs : List ℕ) (k : ℕ) (d : Store) → k < length bs → get_or (ascending p bs) k d ≡ (p + k) puts get_or bs k 0
unfolding ascending
ascending-at p [] k d h = absurd (omega arith)
ascending-at p (b ∷ bs) zero d h = ap (λ (n : ℕ). n puts b) (sym (add-zero p))
ascending-at p (b ∷ bs) (suc k) d h =
    let further : p + 1 + k ≡ p + suc k = omega arith in
    ascending-at (p + 1) bs k d (omega arith) ∙ ap (λ (n : ℕ). n puts get_or bs k 0) further

-- No more is taken than there is.
pub take_min : {A : Type 0} (n : ℕ) (l : List A) → take (min n (length l)) l ≡ take n l
take_min n l = go (leb n (length l)) refl
  where
    go : (t : Bool) → leb n (length l) ≡ t → take (min n (length l)) l ≡ take n l
    go true q =
        let all : min n (length l) ≡ n = omega (arith, leb-true n (length l) q) in
        rw all
    go false q =
        let more : length l < n = leb-false n (length l) q in
        let all : min n (length l) ≡ length l = omega arith in
        rw all (take-length l ∙ sym (take_all n l (omega arith)))

take-append : {A : Type 0} (n : ℕ) (xs ys : List A) → take n (xs ++ ys) ≡ take n xs ++ take (n - length xs) ys
take-append zero xs ys =
    let none : 0 ≡ 0 - length xs = omega arith in
    ap (λ (k : ℕ). take k ys) none
take-append (suc n) [] ys =
    let all : suc n ≡ suc n - 0 = omega arith in
    ap (λ (k : ℕ). take k ys) all
take-append {A} (suc n) (x ∷ xs) ys =
    let fewer : n - length xs ≡ suc n - suc (length xs) = omega arith in
    ap (λ (l : List A). x ∷ l) (take-append n xs ys ∙ ap (λ (k : ℕ). take n xs ++ take k ys) fewer)

-- Some stores and then others, as many as are allowed of both.
made-on : (s : List ℕ) (n : ℕ) (ps qs : List Store) → made (made s (take n ps)) (take (n - length ps) qs) ≡ made s (take n (ps ++ qs))
made-on s n ps qs = sym (ap (made s) (take-append n ps qs) ∙ made-append s (take n ps) (take (n - length ps) qs))

ascending-append : (p : ℕ) (xs ys : List ℕ) → ascending p (xs ++ ys) ≡ ascending p xs ++ ascending (p + length xs) ys
unfolding ascending
ascending-append p [] ys = ap (λ (n : ℕ). ascending n ys) (sym (add-zero p))
ascending-append p (x ∷ xs) ys =
    let further : p + 1 + length xs ≡ p + suc (length xs) = omega arith in
    ap (λ (l : List Store). p puts x ∷ l) (ascending-append (p + 1) xs ys ∙ ap (λ (n : ℕ). ascending (p + 1) xs ++ ascending n ys) further)

-- Two rows that ascend one behind the other, and then more.
pub in-runs : (s : List ℕ) (n p : ℕ) (xs ys : List ℕ) (more : List Store)
    → made (made (made s (take n (ascending p xs))) (take (n - length xs) (ascending (p + length xs) ys))) (take (n - (length xs + length ys)) more)
    ≡ made s (take n (ascending p (xs ++ ys) ++ more))
in-runs s n p xs ys more =
    let a = ascending p xs in
    let b = ascending (p + length xs) ys in
    let rows : made (made s (take n a)) (take (n - length xs) b) ≡ made s (take n (ascending p (xs ++ ys))) =
    ap (λ (k : ℕ). made (made s (take n a)) (take (n - k) b)) (sym (ascending-length p xs)) ∙ made-on s n a b
    ∙ ap (λ (l : List Store). made s (take n l)) (sym (ascending-append p xs ys)) in
    let long : length xs + length ys ≡ length (ascending p (xs ++ ys)) = sym (ascending-length p (xs ++ ys) ∙ length-append xs ys) in
    (λ i. made (rows i) (take (n - long i) more)) ∙ made-on s n (ascending p (xs ++ ys)) more

-- The k-th of stores that ascend from a place and end with two more.
module _ (at : ℕ) (bs : List ℕ) (low high d : Store) where
  abbrev L : ℕ
  L = length bs

  abbrev all : List Store
  all = ascending (at + 2) bs ++ low ∷ high ∷ []

  before-length : (k : ℕ) → k < L → get_or all k d ≡ (at + 2 + k) puts get_or bs k 0
  before-length k h =
      get_or-append (ascending (at + 2) bs) (low ∷ high ∷ []) d k (rw ascending-length h) ∙ ascending-at (at + 2) bs k d h

  behind : (k j : ℕ) → k ≡ L + j → get_or all k d ≡ get_or (low ∷ high ∷ []) j d
  behind k j e =
      let same : k ≡ length (ascending (at + 2) bs) + j = e ∙ ap (λ (n : ℕ). n + j) (sym (ascending-length (at + 2) bs)) in
      ap (λ (n : ℕ). get_or all n d) same ∙ get_or-append-add (ascending (at + 2) bs) (low ∷ high ∷ []) j d

-- The k-th store of a record puts the byte that stands in its slot at that place.
module _ (at : ℕ) (e : Entry) (d : Store) where
  abbrev low : Store
  low = (at + 1) puts get_or (length_bytes e) 1 0

  abbrev high : Store
  high = at puts get_or (length_bytes e) 0 0

  abbrev stored : ℕ → Store
  stored i = (at + i) puts get_or (in_slot e) i 0

  last-two : (k j : ℕ) → k ≡ length_of e + j → j < 2 → get_or (stores at e) k d ≡ stored (length_of e + 1 - k)
  unfolding stores
  last-two k zero q h =
      let place : 1 ≡ length_of e + 1 - k = omega arith in
      behind at (after_length e) low high d k 0 q ∙ ap stored place
  last-two k (suc zero) q h =
      let place : 0 ≡ length_of e + 1 - k = omega arith in
      behind at (after_length e) low high d k 1 q ∙ ap (λ (n : ℕ). n puts get_or (length_bytes e) 0 0) (sym (add-zero at)) ∙ ap stored place
  last-two k (suc (suc j)) q h = absurd (omega arith)

  first-ones : (k : ℕ) → k < length_of e → get_or (stores at e) k d ≡ stored (2 + k)
  unfolding stores
  first-ones k h =
      let further : at + 2 + k ≡ at + (2 + k) = omega arith in
      let two : suc (suc k) ≡ 2 + k = omega arith in
      let byte : get_or (after_length e) k 0 ≡ get_or (in_slot e) (2 + k) 0 =
      sym (get_or-append (after_length e) (replicate (8 - length e.reply) 0) 0 k h) ∙ ap (λ (n : ℕ). get_or (in_slot e) n 0) two in
      before-length at (after_length e) low high d k h ∙ (λ i. further i puts byte i)

  pub store_at : (k : ℕ) → k < length_of e + 2 → get_or (stores at e) k d ≡ (at + store_place (length_of e) k) puts get_or (in_slot e) (store_place (length_of e) k) 0
  store_at k h = go (ltb k (length_of e)) refl
    where
      go : (t : Bool) → ltb k (length_of e) ≡ t → get_or (stores at e) k d ≡ stored (pick t (2 + k) (length_of e + 1 - k))
      go true q = first-ones k (ltb-true k (length_of e) q)
      go false q =
          let past : length_of e ≤ k = ltb-false k (length_of e) q in
          last-two k (k - length_of e) (omega arith) (omega arith)
