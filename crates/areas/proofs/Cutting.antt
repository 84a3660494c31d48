-- A plan's runs, area after area, from a place of the site on. Assumes nothing.
use mathlib.Core.Path.{◌≡◌, sym, ap, ◌∙◌}
use mathlib.Core.Bool.{Bool, false, not, ◌&&◌}
use mathlib.Core.List.{List, [], ◌∷◌}
use Prim.Native.Nat.{ℕ, suc, ◌+◌, ◌<◌}
use native.Mathlib.Numerals.{add-one}
use lib.Dec.{eqb, ltb, leb}
use lib.ListN.{length, get_or, take, drop}
use lib.Seq.{drop-cons, drop-length}
use Rattle.frame.specs.Pick.{pick}
use Rattle.frame.specs.Faults.{first_of}
use Rattle.areas.specs.Site.{is_area}
use Rattle.areas.specs.Check.{keeps, accepts, check_fault}
use Rattle.areas.specs.Plan.{first_area, greedy, rest, plan_fault}

-- The next run of a plan, by what is asked of it.
pub keeps-step : (s p : List ℕ) (k n : ℕ) (x y : Bool) → k < length p → get_or p k 0 ≡ n → leb n (length s) ≡ x → is_area (take n s) ≡ y
    → keeps s (drop k p) ≡ (x && y && keeps (drop n s) (drop (k + 1) p))
unfolding keeps
keeps-step s p k n x y h e a b =
    ap (keeps s) (drop-cons p k 0 h) ∙ ap (λ (m : ℕ). keeps s (m ∷ drop (suc k) p)) e
    ∙ (λ i. (a i && b i && keeps (drop n s) (drop (sym (add-one k) i) p)))

pub keeps-end : (s p : List ℕ) (k : ℕ) → k ≡ length p → keeps s (drop k p) ≡ eqb (length s) 0
unfolding keeps
keeps-end s p k e = ap (keeps s) (ap (λ (m : ℕ). drop m p) e ∙ drop-length p)

-- The next area that is taken, of so many that may be taken.
pub greedy-step : (s : List ℕ) (n j : ℕ) → n ≡ first_area s → eqb n 0 ≡ false → greedy (suc j) s ≡ n ∷ greedy j (drop n s)
unfolding greedy
greedy-step s n j e z =
    ap (λ (m : ℕ). pick (eqb m 0) [] (m ∷ greedy j (drop m s))) (sym e) ∙ ap (λ (b : Bool). pick b [] (n ∷ greedy j (drop n s))) z

pub rest-step : (s : List ℕ) (n j : ℕ) → n ≡ first_area s → eqb n 0 ≡ false → rest (suc j) s ≡ rest j (drop n s)
unfolding rest
rest-step s n j e z =
    ap (λ (m : ℕ). pick (eqb m 0) s (rest j (drop m s))) (sym e) ∙ ap (λ (b : Bool). pick b s (rest j (drop n s))) z

pub greedy-stop : (s : List ℕ) (j : ℕ) → first_area s ≡ 0 → greedy (suc j) s ≡ []
unfolding greedy
greedy-stop s j e = ap (λ (m : ℕ). pick (eqb m 0) [] (m ∷ greedy j (drop m s))) e

pub rest-stop : (s : List ℕ) (j : ℕ) → first_area s ≡ 0 → rest (suc j) s ≡ s
unfolding rest
rest-stop s j e = ap (λ (m : ℕ). pick (eqb m 0) s (rest j (drop m s))) e

-- Both lists of refusals, by what the tests give.
pub check-by : (s p : List ℕ) (x y z : Bool) → ltb 120 (length s) ≡ x → leb (length p) 8 ≡ y → keeps s p ≡ z
    → check_fault s p ≡ pick x 34 (pick (not (y && z)) 36 0)
unfolding check_fault accepts first_of
check-by s p x y z a b c = λ i. pick (a i) 34 (pick (not (b i && c i)) 36 0)

pub plan-by : (s : List ℕ) (x y : Bool) → ltb 120 (length s) ≡ x → eqb (length (rest 8 s)) 0 ≡ y → plan_fault s ≡ pick x 34 (pick (not y) 35 0)
unfolding plan_fault first_of
plan-by s x y a b = λ i. pick (a i) 34 (pick (not (b i)) 35 0)
