-- The two laws of any row, by induction on the row.
use mathlib.Core.Path.{◌≡◌, refl, sym, ap, ◌∙◌}
use mathlib.Core.Bool.{Bool, true, false}
use mathlib.Core.List.{List, [], ◌∷◌}
use Prim.Native.Nat.{ℕ, zero, suc, ◌+◌, ◌*◌, ◌/◌, ◌%◌, ◌^◌, ◌<◌}
use native.Mathlib.Omega.{arith}
use native.Mathlib.Nat.{mul_assoc, mul-add-div_right, mul-add-mod_self_right, div-add-mod', mod-lt, mod-eq_of_lt}
use lib.Arith.{digits_lt, digits_div, digits_mod}
use lib.Pow.{pow-add, pow_pos, shr_lt}
use lib.Dec.{eqb, ltb}
use lib.ListN.{length, get_or}
use borrow.Author.Tests.{eqb-true, eq-eqb, ne_eqb, ltb-true, lt-ltb}
use Rattle.frame.specs.Pick.{pick}
use Rattle.frame.specs.Charts.{Chart, size_of, is_odd, turned, code_of, place_in}
use Rattle.frame.specs.Level.{Level, known, lost, width_of, values_of, read_row, write_row}
use Rattle.frame.proofs.Digits.{turned_lt}
use Rattle.promises_frame.specs.Rows.{SoundChart, SoundRow, RowBothWays}
use Rattle.promises_frame.proofs.Narrow as wide
use Rattle.promises_frame.proofs.Narrow.{NarrowRow, digit_lt}

-- A code of a chart stands at the place where it is found.
pub at_place : (x : ℕ) (cs : List ℕ) → place_in x cs < length cs → get_or cs (place_in x cs) 0 ≡ x
unfolding place_in
at_place x [] h = omega arith
at_place x (c ∷ cs) h = go (at_place x cs) (eqb x c) refl h
  where
    go : (place_in x cs < length cs → get_or cs (place_in x cs) 0 ≡ x)
        → (b : Bool) → eqb x c ≡ b → pick b zero (suc (place_in x cs)) < suc (length cs) → get_or (c ∷ cs) (pick b zero (suc (place_in x cs))) 0 ≡ x
    go ih true e k = sym (eqb-true x c e)
    go ih false e k = ih (omega arith)

-- Where no code stands twice, the code at a place is found there.
place_at : (cs : List ℕ) → ((i j : ℕ) → i < length cs → j < length cs → get_or cs i 0 ≡ get_or cs j 0 → i ≡ j) → (i : ℕ)
    → i < length cs → place_in (get_or cs i 0) cs ≡ i
unfolding place_in
place_at [] single i h = omega arith
place_at (c ∷ cs) single zero h = rw (eq-eqb c c refl)
place_at (c ∷ cs) single (suc i) h =
    rw (ne_eqb (get_or cs i 0) c (λ e. let z : suc i ≡ 0 = single (suc i) 0 h (omega arith) e in omega arith))
    (ap suc (place_at cs (λ a b p q e. let z : suc a ≡ suc b = single (suc a) (suc b) (omega arith) (omega arith) e in omega arith) i (omega arith)))

-- Read from its other end twice, a chart is read straight.
turned-twice : (odd : Bool) (size d : ℕ) → d < size → turned odd size (turned odd size d) ≡ d
unfolding turned
turned-twice true size d h = omega arith
turned-twice false size d h = refl

-- A sound chart is narrow.
narrow : (row : List Chart) → SoundRow row → NarrowRow row
narrow [] ok = tt
narrow (c ∷ cs) ok = (record { some = ok.0.some; within = ok.0.within }, narrow cs ok.1)

values-pos : (row : List Chart) → SoundRow row → 0 < values_of row
values-pos row ok = wide.values-pos row (narrow row ok)

-- A row sees none of the bits above it.
above-unseen : (row : List Chart) (hi lo : ℕ) (odd : Bool) (sofar place : ℕ)
    → read_row row (hi * 2 ^ width_of row + lo) odd sofar place ≡ read_row row lo odd sofar place
unfolding read_row width_of
above-unseen [] hi lo odd sofar place = refl
above-unseen (c ∷ cs) hi lo odd sofar place =
    let regroup : hi * 2 ^ (c.width + width_of cs) + lo ≡ hi * 2 ^ c.width * 2 ^ width_of cs + lo
    = ap (λ (x : ℕ). x + lo) (ap (λ (x : ℕ). hi * x) (pow-add 2 c.width (width_of cs)) ∙ sym (mul_assoc hi (2 ^ c.width) (2 ^ width_of cs))) in
    let top : (hi * 2 ^ c.width * 2 ^ width_of cs + lo) / 2 ^ width_of cs % 2 ^ c.width ≡ lo / 2 ^ width_of cs % 2 ^ c.width
    = ap (λ (x : ℕ). x % 2 ^ c.width) (mul-add-div_right (pow_pos (width_of cs)) (hi * 2 ^ c.width) lo) ∙ mul-add-mod_self_right hi (2 ^ c.width) (lo / 2 ^ width_of cs) in
    let at : ℕ = place_in (lo / 2 ^ width_of cs % 2 ^ c.width) c.codes in
    let d : ℕ = turned odd (size_of c) at in
    rw (regroup, top)
    (ap (λ (x : Level). pick (ltb at (size_of c)) x (lost place)) (above-unseen cs (hi * 2 ^ c.width) lo (is_odd d) (sofar * size_of c + d) (suc place)))

-- What is written fits its bits.
code_lt : (c : Chart) → SoundChart c → (odd : Bool) (d : ℕ) → d < size_of c → code_of odd c d < 2 ^ c.width
code_lt c ok = wide.code_lt c (record { some = ok.some; within = ok.within })

fits : (row : List Chart) → SoundRow row → (odd : Bool) (v : ℕ) → v < values_of row → write_row row odd v < 2 ^ width_of row
fits row ok = wide.fits row (narrow row ok)

-- The place of a digit's code, read back from above the digits under it.
code-found : (c : Chart) → SoundChart c → (odd : Bool) (d under : ℕ) {low : ℕ} → d < size_of c → low < 2 ^ under
    → place_in ((code_of odd c d * 2 ^ under + low) / 2 ^ under % 2 ^ c.width) c.codes ≡ turned odd (size_of c) d
code-found c ok odd d under h l =
    ap (λ (x : ℕ). place_in (x % 2 ^ c.width) c.codes) (digits_div (code_of odd c d) l)
    ∙ ap (λ (x : ℕ). place_in x c.codes) (mod-eq_of_lt (code_lt c ok odd d h))
    ∙ place_at c.codes ok.single (turned odd (size_of c) d) (turned_lt odd (size_of c) d h)

regroup : (sofar size values v : ℕ) → (sofar * size + v / values) * values + v % values ≡ sofar * (size * values) + v
regroup sofar size values v = omega (arith, div-add-mod' v values)

written-then-read : (row : List Chart) → SoundRow row → (odd : Bool) (sofar place v : ℕ) → v < values_of row
    → read_row row (write_row row odd v) odd sofar place ≡ known (sofar * values_of row + v)
unfolding read_row write_row width_of values_of
written-then-read [] ok odd sofar place v h = ap known (omega arith)
written-then-read (c ∷ cs) ok odd sofar place v h =
    let p : 0 < values_of cs = values-pos cs ok.1 in
    let d : ℕ = v / values_of cs in
    let k : d < size_of c = digit_lt c (values_of cs) v p h in
    let below : ℕ = write_row cs (is_odd d) (v % values_of cs) in
    let under : below < 2 ^ width_of cs = fits cs ok.1 (is_odd d) (v % values_of cs) (mod-lt v p) in
    rw (code-found c ok.0 odd d (width_of cs) k under, turned-twice odd (size_of c) d k, lt-ltb (turned odd (size_of c) d) (size_of c) (turned_lt odd (size_of c) d k))
    (above-unseen cs (code_of odd c d) below (is_odd d) (sofar * size_of c + d) (suc place)
    ∙ written-then-read cs ok.1 (is_odd d) (sofar * size_of c + d) (suc place) (v % values_of cs) (mod-lt v p)
    ∙ ap known (regroup sofar (size_of c) (values_of cs) v))

-- A row that reads as a level: its top digit is in the chart, and the rest reads as that level.
top-found : (found : Bool) (rest : Level) (place v : ℕ) → pick found rest (lost place) ≡ known v → (found ≡ true) × (rest ≡ known v)
top-found true rest place v e = (refl, e)
top-found false rest place v e = let z : ◌≡◌ {A = ℕ} 0 1 = cc in absurd (omega arith)

-- The bits below, read alone.
low_bits : (row : List Chart) (bits : ℕ) (odd : Bool) (sofar place : ℕ)
    → read_row row (bits % 2 ^ width_of row) odd sofar place ≡ read_row row bits odd sofar place
low_bits row bits odd sofar place =
    sym (above-unseen row (bits / 2 ^ width_of row) (bits % 2 ^ width_of row) odd sofar place)
    ∙ ap (λ (x : ℕ). read_row row x odd sofar place) (div-add-mod' bits (2 ^ width_of row))

-- The code of the digit that was read is the top of the bits.
code_read : (c : Chart) (odd : Bool) (bits under : ℕ) → bits < 2 ^ (c.width + under)
    → place_in (bits / 2 ^ under % 2 ^ c.width) c.codes < size_of c
    → code_of odd c (turned odd (size_of c) (place_in (bits / 2 ^ under % 2 ^ c.width) c.codes)) ≡ bits / 2 ^ under
code_read c odd bits under h k =
    let x : ℕ = bits / 2 ^ under % 2 ^ c.width in
    ap (λ (i : ℕ). get_or c.codes i 0) (turned-twice odd (size_of c) (place_in x c.codes) k)
    ∙ at_place x c.codes k
    ∙ mod-eq_of_lt (shr_lt c.width under h)

read-then-written : (row : List Chart) → SoundRow row → (bits : ℕ) → bits < 2 ^ width_of row → (odd : Bool) (sofar place v : ℕ)
    → read_row row bits odd sofar place ≡ known v
    → (w : ℕ) × (w < values_of row) × (v ≡ sofar * values_of row + w) × (write_row row odd w ≡ bits)
unfolding read_row write_row width_of values_of
read-then-written [] ok bits h odd sofar place v e =
    let same : sofar ≡ v = cc in
    (0, omega arith, omega arith, omega arith)
read-then-written (c ∷ cs) ok bits h odd sofar place v e =
    let under : ℕ = 2 ^ width_of cs in
    let at : ℕ = place_in (bits / under % 2 ^ c.width) c.codes in
    let d : ℕ = turned odd (size_of c) at in
    let split = top-found (ltb at (size_of c)) (read_row cs bits (is_odd d) (sofar * size_of c + d) (suc place)) place v e in
    let k : at < size_of c = ltb-true at (size_of c) split.0 in
    let rest = read-then-written cs ok.1 (bits % under) (mod-lt bits (pow_pos (width_of cs))) (is_odd d) (sofar * size_of c + d) (suc place) v
    (low_bits cs bits (is_odd d) (sofar * size_of c + d) (suc place) ∙ split.1) in
    let w : ℕ = rest.0 in
    let inside : d * values_of cs + w < size_of c * values_of cs = digits_lt (turned_lt odd (size_of c) at k) rest.1 in
    let level : v ≡ sofar * (size_of c * values_of cs) + (d * values_of cs + w) = omega (arith, rest.2) in
    let top : code_of odd c d ≡ bits / under = code_read c odd bits (width_of cs) h k in
    (d * values_of cs + w, inside, level, rw (digits_div d rest.1, digits_mod d rest.1, top, rest.3) (div-add-mod' bits under))

pub row-both-ways : RowBothWays
row-both-ways = record { fits = fits; written-then-read = written-then-read; read-then-written = read-then-written }
