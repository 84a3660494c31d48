-- The rows of an answer that tells a save's stores: filled from the front they keep zeros behind, and read back they are the stores of the save.
-- Assumes nothing.
use mathlib.Core.Path.{◌≡◌, refl, sym, ap, ◌∙◌}
use mathlib.Core.Bool.{Bool, true, false}
use mathlib.Core.List.{List, [], ◌∷◌, ◌++◌, map}
use Prim.Native.Nat.{ℕ, zero, suc, ◌+◌, ◌-◌, ◌*◌, ◌/◌, ◌%◌, ◌<◌, ◌≤◌}
use native.Mathlib.Nat.{div-one, mod-eq_of_lt, div-eq_of_lt}
use native.Mathlib.Omega.{arith}
use lib.Dec.{eqb}
use lib.ListN.{length, take, drop, replicate, set, length-append, length-replicate, replicate-append-replicate}
use lib.Seq.{paste, take-append_seam, drop-append-add, take-length, drop_at, set-append_seam, append_snoc}
use Rattle.frame.specs.Pick.{pick}
use Rattle.sheet.specs.Record.{Entry, after_length, length_of}
use Rattle.sheet.specs.Slots.{next}
use Rattle.sheet.specs.Stores.{Store, ◌puts◌, ascending, stores}
use Rattle.sheet.specs.Save.{save_fault}
use Rattle.sheet.specs.StoresTold.{zeros_behind, telling, refusing, save_told, laid, stores_told}
use Rattle.sheet.specs.Inside.Rows.{up_from, places_row, bytes_row}
use Rattle.sheet.proofs.StorePlaces.{moved, stores-moved}

-- One byte more at the end of what is told.
pub one_more : (xs : List ℕ) (b : ℕ) → length xs < 19 → set (zeros_behind xs) (length xs) b ≡ zeros_behind (xs ++ b ∷ [])
one_more xs b h =
    let n = 18 - length xs in
    let here : 19 - length xs ≡ suc n = omega arith in
    let left : n ≡ 19 - length (xs ++ b ∷ []) = simp length-append (omega arith) in
    ap (λ (k : ℕ). set (xs ++ replicate k 0) (length xs) b) here ∙ set-append_seam xs 0 (replicate n 0) b ∙ sym (append_snoc xs b (replicate n 0))
    ∙ ap (λ (k : ℕ). xs ++ b ∷ [] ++ replicate k 0) left

-- Two more.
pub two-more : (row xs : List ℕ) (a b n : ℕ) → length xs ≡ n → n ≤ 17 → row ≡ zeros_behind xs → set (set row n a) (n + 1) b ≡ zeros_behind (xs ++ a ∷ b ∷ [])
two-more row xs a b n long few is =
    let longer : length (xs ++ a ∷ []) ≡ n + 1 = simp length-append (omega arith) in
    let first : set row n a ≡ zeros_behind (xs ++ a ∷ []) = (λ i. set (is i) (sym long i) a) ∙ one_more xs a (omega arith) in
    (λ i. set (first i) (sym longer i) b) ∙ one_more (xs ++ a ∷ []) b (omega arith) ∙ ap zeros_behind (append_snoc xs a (b ∷ []))

-- A whole row of them.
drop-zeros : (n m : ℕ) → drop {A = ℕ} n (replicate (n + m) 0) ≡ replicate m 0
drop-zeros n m =
    ap (drop {A = ℕ} n) (sym (replicate-append-replicate {A = ℕ} n m 0)) ∙ drop_at {A = ℕ} (replicate n 0) (replicate m 0) n (length-replicate {A = ℕ} n 0)

pub row_more : (xs bs : List ℕ) → length xs + length bs ≤ 19 → paste (zeros_behind xs) (length xs) bs (length bs) ≡ zeros_behind (xs ++ bs)
row_more xs bs h =
    let n = length bs in
    let m = 19 - (length xs + length bs) in
    let all : 19 - length xs ≡ n + m = omega arith in
    let left : m ≡ 19 - length (xs ++ bs) = simp length-append (omega arith) in
    let front : take (length xs) (zeros_behind xs) ≡ xs = take-append_seam xs (replicate (19 - length xs) 0) in
    let rest : drop (length xs + n) (zeros_behind xs) ≡ replicate m 0 =
    drop-append-add xs (replicate (19 - length xs) 0) n ∙ ap (λ (k : ℕ). drop n (replicate k 0)) all ∙ drop-zeros n m in
    (λ i. front i ++ take-length bs i ++ rest i) ∙ ap (λ (k : ℕ). xs ++ bs ++ replicate k 0) left

-- Numbers one after another.
pub up-length : (first n : ℕ) → length (up_from first n) ≡ n
up-length first zero = refl
up-length first (suc n) = ap suc (up-length (first + 1) n)

pub up_more : (first n : ℕ) → up_from first n ++ (first + n) ∷ [] ≡ up_from first (suc n)
up_more first zero =
    let same : first + 0 ≡ first = omega arith in
    ap (λ (k : ℕ). k ∷ []) same
up_more first (suc n) =
    let same : first + suc n ≡ first + 1 + n = omega arith in
    ap (λ (l : List ℕ). first ∷ l) (ap (λ (k : ℕ). up_from (first + 1) n ++ k ∷ []) same ∙ up_more (first + 1) n)

-- Places and bytes of stores that ascend.
abbrev place_of : Store → ℕ
place_of p = p.place

abbrev byte_of : Store → ℕ
byte_of p = p.byte

map-append : (f : Store → ℕ) (ps qs : List Store) → map f (ps ++ qs) ≡ map f ps ++ map f qs
map-append f [] qs = refl
map-append f (p ∷ ps) qs = ap (λ (l : List ℕ). f p ∷ l) (map-append f ps qs)

ascending-places : (p : ℕ) (bs : List ℕ) → map place_of (ascending p bs) ≡ up_from p (length bs)
unfolding ascending
ascending-places p [] = refl
ascending-places p (b ∷ bs) = ap (λ (l : List ℕ). p ∷ l) (ascending-places (p + 1) bs)

ascending-bytes : (p : ℕ) (bs : List ℕ) → map byte_of (ascending p bs) ≡ bs
unfolding ascending
ascending-bytes p [] = refl
ascending-bytes p (b ∷ bs) = ap (λ (l : List ℕ). b ∷ l) (ascending-bytes (p + 1) bs)

-- A record's stores, by their places and by their bytes.
pub stores-places : (e : Entry) → map place_of (stores 0 e) ≡ places_row (length_of e)
unfolding stores
stores-places e =
    map-append place_of (ascending 2 (after_length e)) (1 puts _ ∷ 0 puts _ ∷ [])
    ∙ ap (λ (l : List ℕ). l ++ 1 ∷ 0 ∷ []) (ascending-places 2 (after_length e))

pub stores-bytes : (e : Entry) → length_of e < 256 → map byte_of (stores 0 e) ≡ bytes_row e
unfolding stores
stores-bytes e small =
    let low : length_of e / 1 % 256 ≡ length_of e = simp (div-one, mod-eq_of_lt small) in
    let high : length_of e / 256 % 256 ≡ 0 = simp (div-eq_of_lt small) in
    map-append byte_of (ascending 2 (after_length e)) (1 puts _ ∷ 0 puts _ ∷ [])
    ∙ (λ i. ascending-bytes 2 (after_length e) i ++ low i ∷ high i ∷ [])

-- Read back: the first rows laid at a slot are the stores, moved there.
laid-back : (at : ℕ) (ps : List Store) (xs ys : List ℕ) → take (length ps) (laid at (map place_of ps ++ xs) (map byte_of ps ++ ys)) ≡ moved at ps
laid-back at [] xs ys = refl
laid-back at (p ∷ ps) xs ys = ap (λ (l : List Store). (at + p.place) puts p.byte ∷ l) (laid-back at ps xs ys)

-- So an answer tells the stores of the save, at their places in the sheet; of a refused one none.
pub told-stores : (s : List ℕ) (e : Entry) → stores_told (save_told s e) ≡ pick (eqb (save_fault s e) 0) (stores (32 * next s) e) []
unfolding save_told stores_told
told-stores s e = go (eqb (save_fault s e) 0)
  where
    go : (b : Bool) → stores_told (pick b (telling (next s) (stores 0 e)) (refusing (save_fault s e))) ≡ pick b (stores (32 * next s) e) []
    go true =
        laid-back (32 * next s) (stores 0 e) (replicate (19 - length (map place_of (stores 0 e))) 0) (replicate (19 - length (map byte_of (stores 0 e))) 0)
        ∙ sym (stores-moved (32 * next s) e)
    go false = refl
