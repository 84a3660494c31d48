-- A row carried over a run of rows that are cut out of others is a row carried over these places among them all. Onward from the first place of the run, or
-- back from the one behind its last.
use mathlib.Core.Path.{◌≡◌, refl, sym, ◌∙◌, ap, ap₂}
use mathlib.Core.List.{List, [], ◌∷◌, ◌++◌}
use Prim.Native.Nat.{ℕ, suc, ◌+◌, ◌-◌, ◌≤◌}
use native.Mathlib.Omega.{arith}
use lib.ListN.{length, take, get_or, set}
use lib.Seq.{length-take-le}
use borrow.Rule.Slice.PartMut.{mid_of, post_of, put_mid, mid_len, put_same}
use Rattle.board.specs.declared.Row.{Row}
use Rattle.board.specs.Row.{free_row}
use Rattle.board.specs.Inside.ByValue.{carry, Within, onward, backward}
use Rattle.board.proofs.Carried.{carry-step, carry-front, up-cons, down-cons}

-- how far a run of a change reaches
pub on-within : {n k at : ℕ} → Within n 1 0 k at → at + k ≤ n
on-within (onward u d l) = l
on-within (backward u d l m) = absurd (omega arith)

pub back-within : {n k at : ℕ} → Within n 0 1 k at → (k ≤ at) × (at ≤ n)
back-within (onward u d l) = absurd (omega arith)
back-within (backward u d l m) = (l, m)

up-behind : (k i : ℕ) (row : Row) (xs rows : List Row) → carry 1 0 k (length xs + i) row (xs ++ rows) ≡ xs ++ carry 1 0 k i row rows
up-behind k i row [] rows = ap (λ (n : ℕ). carry 1 0 k n row rows) (omega arith)
up-behind k i row (x ∷ xs) rows =
    let e : suc (length xs) + i ≡ suc (length xs + i) = omega arith in
    ap (λ (n : ℕ). carry 1 0 k n row (x ∷ xs ++ rows)) e ∙ up-cons k (length xs + i) row x (xs ++ rows) ∙ ap (λ (zs : List Row). x ∷ zs) (up-behind k i row xs rows)

pub run-on : (at : ℕ) (row : Row) (xs ys zs : List Row) → length xs ≡ at → carry 1 0 (length ys) at row (xs ++ (ys ++ zs)) ≡ xs ++ (carry 1 0 (length ys) 0 row ys ++ zs)
run-on at row xs ys zs e =
    let is : at ≡ length xs + 0 = omega arith in
    ap (λ (n : ℕ). carry 1 0 (length ys) n row (xs ++ (ys ++ zs))) is ∙ up-behind (length ys) 0 row xs (ys ++ zs)
    ∙ ap (λ (l : List Row). xs ++ l) (carry-front 1 0 (length ys) 0 row ys zs (onward refl refl (omega arith)))

down-behind : (k i : ℕ) (row : Row) (xs rows : List Row) → k ≤ i → carry 0 1 k (length xs + i) row (xs ++ rows) ≡ xs ++ carry 0 1 k i row rows
down-behind k i row [] rows l = ap (λ (n : ℕ). carry 0 1 k n row rows) (omega arith)
down-behind k i row (x ∷ xs) rows l =
    let e : suc (length xs) + i ≡ suc (length xs + i) = omega arith in
    ap (λ (n : ℕ). carry 0 1 k n row (x ∷ xs ++ rows)) e ∙ down-cons k (length xs + i) row x (xs ++ rows) (omega arith) ∙ ap (λ (zs : List Row). x ∷ zs) (down-behind k i row xs rows l)

pub run-back : (at : ℕ) (row : Row) (xs ys zs : List Row) → length xs + length ys ≡ at → carry 0 1 (length ys) at row (xs ++ (ys ++ zs)) ≡ xs ++ (carry 0 1 (length ys) (length ys) row ys ++ zs)
run-back at row xs ys zs e =
    ap (λ (n : ℕ). carry 0 1 (length ys) n row (xs ++ (ys ++ zs))) (sym e) ∙ down-behind (length ys) (length ys) row xs (ys ++ zs) (omega arith)
    ∙ ap (λ (l : List Row). xs ++ l) (carry-front 0 1 (length ys) (length ys) row ys zs (backward refl refl (omega arith) (omega arith)))

-- One place of a run.
pub step-on : (m k i : ℕ) (x y row : Row) (rows : List Row) → m ≡ suc k → x ≡ row → y ≡ get_or rows i free_row → carry 1 0 k (i + 1) y (set rows i x) ≡ carry 1 0 m i row rows
step-on m k i x y row rows e p q =
    ap₂ (λ (a b : Row). carry 1 0 k (i + 1) b (set rows i a)) p q ∙ sym (carry-step 1 0 k i i (i + 1) row rows (omega arith) refl) ∙ ap (λ (n : ℕ). carry 1 0 n i row rows) (sym e)

pub step-back : (m k : ℕ) (x y row : Row) (rows : List Row) → m ≡ suc k → x ≡ row → y ≡ get_or rows k free_row → carry 0 1 k k y (set rows k x) ≡ carry 0 1 m m row rows
step-back m k x y row rows e p q =
    ap₂ (λ (a b : Row). carry 0 1 k k b (set rows k a)) p q ∙ sym (carry-step 0 1 k (suc k) k k row rows (omega arith) (omega arith)) ∙ ap (λ (n : ℕ). carry 0 1 n n row rows) (sym e)

-- A run put back where it was cut out.
pub put-on : (at count : ℕ) (row : Row) (rows run : List Row) → run ≡ carry 1 0 (length (mid_of at (at + count - at) rows)) 0 row (mid_of at (at + count - at) rows) → at + count ≤ length rows → put_mid at (at + count - at) rows run ≡ carry 1 0 count at row rows
put-on at count row rows run e l =
    let k = at + count - at in
    let long : length (mid_of at k rows) ≡ count = mid_len at (at + count) rows l ∙ omega arith in
    ap (put_mid at k rows) e
    ∙ sym (run-on at row (take at rows) (mid_of at k rows) (post_of at k rows) (length-take-le at rows (omega arith)))
    ∙ ap (carry 1 0 (length (mid_of at k rows)) at row) (put_same at k rows)
    ∙ ap (λ (n : ℕ). carry 1 0 n at row rows) long

pub put-back : (at count : ℕ) (row : Row) (rows run : List Row) → run ≡ carry 0 1 (length (mid_of (at - count) (at - (at - count)) rows)) (length (mid_of (at - count) (at - (at - count)) rows)) row (mid_of (at - count) (at - (at - count)) rows) → count ≤ at → at ≤ length rows → put_mid (at - count) (at - (at - count)) rows run ≡ carry 0 1 count at row rows
put-back at count row rows run e l m =
    let first = at - count in
    let k = at - (at - count) in
    let long : length (mid_of first k rows) ≡ k = mid_len first at rows m in
    ap (put_mid first k rows) e
    ∙ sym (run-back at row (take first rows) (mid_of first k rows) (post_of first k rows) (omega (arith, long, length-take-le first rows (omega arith))))
    ∙ ap (carry 0 1 (length (mid_of first k rows)) at row) (put_same first k rows)
    ∙ ap (λ (n : ℕ). carry 0 1 n at row rows) (long ∙ omega arith)
