-- Largest areas. What fits as an area still fits without its first transmitters; so from any place at or behind the beginning of a plan's area, the
-- largest area reaches at least as far as the plan's. By induction on the plan, largest areas need no more areas than any plan.
use mathlib.Core.Path.{◌≡◌, refl, sym, ap, ◌∙◌}
use mathlib.Core.Bool.{Bool, true, false}
use mathlib.Core.List.{List, [], ◌∷◌}
use Prim.Native.Nat.{ℕ, zero, suc, ◌+◌, ◌-◌, ◌<◌, ◌≤◌}
use native.Mathlib.Omega.{arith}
use borrow.Author.Tests.{eqb-false, le-leb, ne_eqb}
use lib.Dec.{eqb}
use lib.ListN.{length, take, drop, length-drop}
use lib.Seq.{drop-drop, take-add, length-take-le, drop-nil}
use Rattle.frame.specs.Pick.{pick}
use Rattle.areas.specs.Site.{feet, tenths, total, is_area}
use Rattle.areas.specs.Check.{keeps}
use Rattle.areas.specs.Plan.{joins, joining, first_area, greedy, rest}
use Rattle.areas.proofs.Joining.{joins-so, joins-by}
use Rattle.areas.proofs.Totals.{total-append}
use Rattle.promises_frame.proofs.Cases.{by-lt}
use Rattle.promises_areas.proofs.Runs.{First, area-allowed, allowed-area, first-kept, kept-first, none_left}

-- Those that join: there are so many, and they stay within the limits.
pub record Joined (many far ohms : ℕ) (s : List ℕ) (n : ℕ) : Type 0 where
  pub there : n ≤ length s
  pub count : many + n ≤ 30
  pub far_enough : far + total feet (take n s) ≤ 10000
  pub ohms_enough : ohms + total tenths (take n s) ≤ 500

pub joined : (many far ohms : ℕ) (s : List ℕ) → many ≤ 30 → far ≤ 10000 → ohms ≤ 500 → Joined many far ohms s (joining many far ohms s)
unfolding joining total
joined many far ohms [] a b c = record { there = omega arith; count = omega arith; far_enough = omega arith; ohms_enough = omega arith }
joined many far ohms (t ∷ s) a b c = go (joins many far ohms t) refl (joined (many + 1) (far + feet t) (ohms + tenths t) s)
  where
    go : (x : Bool) → joins many far ohms t ≡ x
        → (many + 1 ≤ 30 → far + feet t ≤ 10000 → ohms + tenths t ≤ 500
        → Joined (many + 1) (far + feet t) (ohms + tenths t) s (joining (many + 1) (far + feet t) (ohms + tenths t) s))
        → Joined many far ohms (t ∷ s) (pick x (suc (joining (many + 1) (far + feet t) (ohms + tenths t) s)) 0)
    go true e ih =
        let so = joins-so many far ohms t e in
        let r = ih so.0 so.1 so.2 in
        let p = r.there in
        let q = r.count in
        let u = r.far_enough in
        let v = r.ohms_enough in
        record { there = omega arith; count = omega arith; far_enough = omega arith; ohms_enough = omega arith }
    go false e ih = record { there = omega arith; count = omega arith; far_enough = omega arith; ohms_enough = omega arith }

-- As many join as may: any number that stays within the limits is no more.
pub most : (many far ohms : ℕ) (s : List ℕ) (m : ℕ) → m ≤ length s → many + m ≤ 30 → far + total feet (take m s) ≤ 10000
    → ohms + total tenths (take m s) ≤ 500 → m ≤ joining many far ohms s
unfolding joining total
most many far ohms s zero a b c d = omega arith
most many far ohms [] (suc m) a b c d = absurd (omega arith)
most many far ohms (t ∷ s) (suc m) a b c d =
    let does : joins many far ohms t ≡ true =
    joins-by many far ohms t true true true (le-leb (many + 1) 30 (omega arith)) (le-leb (far + feet t) 10000 (omega arith)) (le-leb (ohms + tenths t) 500 (omega arith)) in
    let more = most (many + 1) (far + feet t) (ohms + tenths t) s m (omega arith) (omega arith) (omega arith) (omega arith) in
    rw does (omega arith)

-- The first area is one, unless it has none.
pub first-area : (s : List ℕ) → ¬ (first_area s ≡ 0) → is_area (take (first_area s) s) ≡ true
first-area s some =
    let j = joined 0 0 0 s (omega arith) (omega arith) (omega arith) in
    let long = length-take-le (first_area s) s j.there in
    let p = j.count in
    let q = j.far_enough in
    let r = j.ohms_enough in
    allowed-area (take (first_area s) s) (record { not_empty = omega arith; at_most_30 = omega arith; feet_within = omega arith; ohms_within = omega arith })

pub first-there : (s : List ℕ) → first_area s ≤ length s
first-there s = (joined 0 0 0 s (omega arith) (omega arith) (omega arith)).there

-- A run that begins within an area and ends with it stays within the limits.
within : (f : ℕ → ℕ) (s : List ℕ) (j m : ℕ) → total f (take m (drop j s)) ≤ total f (take (j + m) s)
within f s j m =
    let e = ap (total f) (take-add j m s) ∙ total-append f (take j s) (take m (drop j s)) in
    omega arith

pub reaches : (s : List ℕ) (j n : ℕ) → j ≤ n → n ≤ length s → is_area (take n s) ≡ true → n - j ≤ first_area (drop j s)
reaches s j n h there is =
    let a = area-allowed (take n s) is in
    let all : j + (n - j) ≡ n = omega arith in
    let long : length (take n s) ≡ n = length-take-le n s there in
    let room : length (drop j s) ≡ length s - j = length-drop j s in
    let f = within feet s j (n - j) in
    let o = within tenths s j (n - j) in
    let sf = ap (λ (k : ℕ). total feet (take k s)) all in
    let so = ap (λ (k : ℕ). total tenths (take k s)) all in
    let p = a.at_most_30 in
    let q = a.feet_within in
    let r = a.ohms_within in
    most 0 0 0 (drop j s) (n - j) (omega arith) (omega arith) (omega arith) (omega arith)

-- One step of both, by whether the first area has any.
rest_some : (k : ℕ) (s : List ℕ) → eqb (first_area s) 0 ≡ false → rest (suc k) s ≡ rest k (drop (first_area s) s)
unfolding rest
rest_some k s e = ap (λ (b : Bool). pick b s (rest k (drop (first_area s) s))) e

rest-none : (k : ℕ) (s : List ℕ) → eqb (first_area s) 0 ≡ true → rest (suc k) s ≡ s
unfolding rest
rest-none k s e = ap (λ (b : Bool). pick b s (rest k (drop (first_area s) s))) e

greedy-some : (k : ℕ) (s : List ℕ) → eqb (first_area s) 0 ≡ false → greedy (suc k) s ≡ first_area s ∷ greedy k (drop (first_area s) s)
unfolding greedy
greedy-some k s e = ap (λ (b : Bool). pick b [] (first_area s ∷ greedy k (drop (first_area s) s))) e

greedy-none : (k : ℕ) (s : List ℕ) → eqb (first_area s) 0 ≡ true → greedy (suc k) s ≡ []
unfolding greedy
greedy-none k s e = ap (λ (b : Bool). pick b [] (first_area s ∷ greedy k (drop (first_area s) s))) e

rest-empty : (k : ℕ) → rest k [] ≡ []
unfolding rest joining
rest-empty zero = refl
rest-empty (suc k) = refl

greedy-empty : (k : ℕ) → greedy k [] ≡ []
unfolding greedy joining
greedy-empty zero = refl
greedy-empty (suc k) = refl

rest-zero : (s : List ℕ) → rest 0 s ≡ s
unfolding rest
rest-zero s = refl

greedy-zero : (s : List ℕ) → greedy 0 s ≡ []
unfolding greedy
greedy-zero s = refl

-- Where nothing is left over, one area more leaves nothing over, and so do any number more.
one_more : (k : ℕ) (s : List ℕ) → rest k s ≡ [] → rest (suc k) s ≡ []
one_more zero s e = ap (rest 1) (sym (rest-zero s) ∙ e) ∙ rest-empty 1
one_more (suc k) s e = go (eqb (first_area s) 0) refl (one_more k (drop (first_area s) s))
  where
    go : (b : Bool) → eqb (first_area s) 0 ≡ b → (rest k (drop (first_area s) s) ≡ [] → rest (suc k) (drop (first_area s) s) ≡ []) → rest (suc (suc k)) s ≡ []
    go true z ih = rest-none (suc k) s z ∙ sym (rest-none k s z) ∙ e
    go false z ih = rest_some (suc k) s z ∙ ih (sym (rest_some k s z) ∙ e)

pub more : (d k : ℕ) (s : List ℕ) → rest k s ≡ [] → rest (d + k) s ≡ []
more zero k s e =
    let n : 0 + k ≡ k = omega arith in
    ap (λ (m : ℕ). rest m s) n ∙ e
more (suc d) k s e =
    let n : suc d + k ≡ suc (d + k) = omega arith in
    ap (λ (m : ℕ). rest m s) n ∙ one_more (d + k) s (more d k s e)

-- A place within a plan's first area: the largest area from there ends at or behind its end. The last argument is what is known of the plan's rest.
module _ (n : ℕ) (plan s : List ℕ) (j : ℕ) (f : First s n plan) (ih : (i : ℕ) → rest (length plan) (drop i (drop n s)) ≡ []) where
  inside : j < n → rest (suc (length plan)) (drop j s) ≡ []
  inside small =
      let m = first_area (drop j s) in
      let far : n - j ≤ m = reaches s j n (omega arith) f.there f.area in
      let some : eqb m 0 ≡ false = ne_eqb m 0 (λ e. omega arith) in
      let place : n + (j + m - n) ≡ j + m = omega arith in
      let same : drop m (drop j s) ≡ drop (j + m - n) (drop n s) =
      drop-drop m j s ∙ ap (λ (k : ℕ). drop k s) (sym place) ∙ sym (drop-drop (j + m - n) n s) in
      rest_some (length plan) (drop j s) some ∙ ap (rest (length plan)) same ∙ ih (j + m - n)

  behind : n ≤ j → rest (suc (length plan)) (drop j s) ≡ []
  behind large =
      let place : n + (j - n) ≡ j = omega arith in
      let same : drop j s ≡ drop (j - n) (drop n s) = ap (λ (k : ℕ). drop k s) (sym place) ∙ sym (drop-drop (j - n) n s) in
      one_more (length plan) (drop j s) (ap (rest (length plan)) same ∙ ih (j - n))

-- From any place on, largest areas leave nothing over where a plan has as many areas.
pub ahead : (plan s : List ℕ) (j : ℕ) → keeps s plan ≡ true → rest (length plan) (drop j s) ≡ []
ahead [] s j h = ap (λ (l : List ℕ). rest 0 (drop j l)) (none_left s h) ∙ ap (rest 0) (drop-nil j) ∙ rest-empty 0
ahead (n ∷ plan) s j h =
    let f = first-kept s n plan h in
    by-lt j n (inside n plan s j f (λ i. ahead plan (drop n s) i f.behind)) (behind n plan s j f (λ i. ahead plan (drop n s) i f.behind))

-- Largest areas are never more than those after which nothing is left over, nor more than may be taken; and where nothing is left over they are kept.
pub few : (k m : ℕ) (s : List ℕ) → rest k s ≡ [] → length (greedy m s) ≤ k
few zero m s e =
    let z = ap length (ap (greedy m) (sym (rest-zero s) ∙ e) ∙ greedy-empty m) in
    omega arith
few (suc k) zero s e =
    let z = ap length (greedy-zero s) in
    omega arith
few (suc k) (suc m) s e = go (eqb (first_area s) 0) refl (few k m (drop (first_area s) s))
  where
    go : (b : Bool) → eqb (first_area s) 0 ≡ b → (rest k (drop (first_area s) s) ≡ [] → length (greedy m (drop (first_area s) s)) ≤ k) → length (greedy (suc m) s) ≤ suc k
    go true z ih =
        let l = ap length (greedy-none m s z) in
        omega arith
    go false z ih =
        let l = ap length (greedy-some m s z) in
        let r = ih (sym (rest_some k s z) ∙ e) in
        omega arith

pub at_most : (k : ℕ) (s : List ℕ) → length (greedy k s) ≤ k
at_most zero s =
    let z = ap length (greedy-zero s) in
    omega arith
at_most (suc k) s = go (eqb (first_area s) 0) refl (at_most k (drop (first_area s) s))
  where
    go : (b : Bool) → eqb (first_area s) 0 ≡ b → length (greedy k (drop (first_area s) s)) ≤ k → length (greedy (suc k) s) ≤ suc k
    go true z ih =
        let l = ap length (greedy-none k s z) in
        omega arith
    go false z ih =
        let l = ap length (greedy-some k s z) in
        omega arith

nothing-kept : (s : List ℕ) → s ≡ [] → keeps s [] ≡ true
unfolding keeps
nothing-kept s e = ap (λ (l : List ℕ). eqb (length l) 0) e

pub greedy-kept : (k : ℕ) (s : List ℕ) → rest k s ≡ [] → keeps s (greedy k s) ≡ true
greedy-kept zero s e = ap (keeps s) (greedy-zero s) ∙ nothing-kept s (sym (rest-zero s) ∙ e)
greedy-kept (suc k) s e = go (eqb (first_area s) 0) refl (greedy-kept k (drop (first_area s) s))
  where
    go : (b : Bool) → eqb (first_area s) 0 ≡ b → (rest k (drop (first_area s) s) ≡ [] → keeps (drop (first_area s) s) (greedy k (drop (first_area s) s)) ≡ true)
        → keeps s (greedy (suc k) s) ≡ true
    go true z ih = ap (keeps s) (greedy-none k s z) ∙ nothing-kept s (sym (rest-none k s z) ∙ e)
    go false z ih =
        ap (keeps s) (greedy-some k s z)
        ∙ kept-first s (first_area s) (greedy k (drop (first_area s) s))
        (record { there = first-there s; area = first-area s (eqb-false (first_area s) 0 z); behind = ih (sym (rest_some k s z) ∙ e) })

-- What is left over, at most 8 areas being taken, where some plan has at most 8.
pub none_over : (plan s : List ℕ) → keeps s plan ≡ true → length plan ≤ 8 → rest 8 s ≡ []
none_over plan s h small =
    let n : 8 - length plan + length plan ≡ 8 = omega arith in
    ap (λ (m : ℕ). rest m s) (sym n) ∙ more (8 - length plan) (length plan) s (ahead plan s 0 h)
