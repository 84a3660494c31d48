-- The place that fault 7 names. Of any row it goes by induction on the row, with the test of the first digit's chart taken apart; a reply is then
-- opened at its number, and since no reply is read as the last fault of the table, to which every number outside it falls, a fault that is read by its number
-- has that number. Which charts have every code is computed, mode by mode, and so is a line for each place that remains.
use mathlib.Core.Path.{◌≡◌, refl, sym, ◌∙◌, ap, subst}
use mathlib.Core.Bool.{Bool, true, false, not, ◌&&◌, ◌||◌}
use mathlib.Core.List.{List, [], ◌∷◌}
use Prim.Native.Nat.{ℕ, zero, suc, ◌+◌, ◌*◌, ◌/◌, ◌%◌, ◌^◌, ◌<◌, ◌≤◌}
use native.Mathlib.Omega.{arith}
use native.Mathlib.Nat.{mod-lt}
use lib.Dec.{T, eqb, leb, ltb, ltb→lt}
use lib.ListN.{length, get_or, get_or-eq_default}
use lib.Pow.{pow_pos}
use borrow.Author.Tests.{eqb-true, eqb-false, leb-true, ltb-true, ltb-false, lt-ltb}
use Rattle.frame.specs.Pick.{pick}
use Rattle.frame.specs.Charts.{Chart, size_of, is_odd, turned, place_in, one_bit, two_bits, feet_tens, decimal, inches, sixteenths}
use Rattle.frame.specs.Faults.{Test, first_of, number_of, place_named, table, fault}
use Rattle.frame.specs.Level.{Level, Mode, known, lost, no_chart, place_lost, width_of, read_row, level_of, last_bit_of, mode_of, fractional_mode, decimal_mode, twenty_metre_mode, thirty_metre_mode}
use Rattle.frame.specs.Line.{line, field, put}
use Rattle.frame.specs.Reply.{ReadsReply, mode_in, reading_at, reply_tests, reply_fault, reply_of, reply_number}
use Rattle.frame.proofs.Tables.{all_below, at-below}
use Rattle.frame.proofs.Both.{both}
use Rattle.frame.proofs.Numbers.{own_number, names-seven, reply-small}
use Rattle.promises_frame.specs.Unreadable.{InChart, chart_at, code_at, FirstUnreadable, Named, NamesPlace, EveryCode, last_named, CanBeNamed, UnreadableDigit}
use Rattle.promises_frame.proofs.Rows.{at_place}
use Rattle.std.specs.Prelude.{Result, Ok, Err}
use Rattle.frame.specs.declared.faults.Fault.{Fault}
use Rattle.frame.specs.declared.faults.Fault.TheVariants.{InNoChart, OutOfOrder}
use Rattle.frame.specs.declared.Reading.{Reading}

-- A code is in its chart exactly where its place is below the chart's size.
in-by : (c : Chart) (code : ℕ) → ltb (place_in code c.codes) (size_of c) ≡ true → InChart c code
in-by c code e =
    let l = ltb-true (place_in code c.codes) (size_of c) e in
    record { place = place_in code c.codes; within = l; here = at_place code c.codes l }

found : (code : ℕ) (cs : List ℕ) (i : ℕ) → i < length cs → get_or cs i 0 ≡ code → place_in code cs < length cs
unfolding place_in
found code [] i l e = absurd (omega arith)
found code (c ∷ cs) i l e = go (found code cs) (eqb code c) refl i l e
  where
    go : ((i : ℕ) → i < length cs → get_or cs i 0 ≡ code → place_in code cs < length cs)
        → (t : Bool) → eqb code c ≡ t → (i : ℕ) → i < suc (length cs) → get_or (c ∷ cs) i 0 ≡ code → pick t zero (suc (place_in code cs)) < suc (length cs)
    go rest true f i l e = omega arith
    go rest false f zero l e = absurd (eqb-false code c f (sym e))
    go rest false f (suc i) l e = let less : place_in code cs < length cs = rest i (omega arith) e in omega arith

in_is : (c : Chart) (code : ℕ) → InChart c code → ltb (place_in code c.codes) (size_of c) ≡ true
in_is c code h = lt-ltb (place_in code c.codes) (size_of c) (found code c.codes h.place h.within h.here)

out-is : (c : Chart) (code : ℕ) → (InChart c code → ⊥) → ltb (place_in code c.codes) (size_of c) ≡ false
out-is c code none = go (ltb (place_in code c.codes) (size_of c)) refl
  where
    go : (t : Bool) → ltb (place_in code c.codes) (size_of c) ≡ t → t ≡ false
    go true e = absurd (none (in-by c code e))
    go false e = refl

-- what is left of a first unreadable digit below the top
below : (c : Chart) (cs : List Chart) (bits k : ℕ) → FirstUnreadable (c ∷ cs) bits (suc k) → FirstUnreadable cs bits k
unfolding chart_at code_at
below c cs bits k f = record { within = omega (arith, f.within); none = f.none; above = λ j l. f.above (suc j) (omega arith) }

first-lost : (row : List Chart) (bits : ℕ) (odd : Bool) (sofar at k : ℕ) → FirstUnreadable row bits k → read_row row bits odd sofar at ≡ lost (at + k)
unfolding read_row chart_at code_at
first-lost [] bits odd sofar at k f = absurd (omega (arith, f.within))
first-lost (c ∷ cs) bits odd sofar at zero f = rw (out-is c (bits / 2 ^ width_of cs % 2 ^ c.width) f.none) (ap lost (omega arith))
first-lost (c ∷ cs) bits odd sofar at (suc k) f =
    rw (in_is c (bits / 2 ^ width_of cs % 2 ^ c.width) (f.above zero (omega arith)))
    (first-lost cs bits _ _ (suc at) k (below c cs bits k f) ∙ ap lost (omega arith))

-- one digit more at the top
above : (c : Chart) (cs : List Chart) (bits at p : ℕ) → InChart c (bits / 2 ^ width_of cs % 2 ^ c.width) → Named cs bits (suc at) p → Named (c ∷ cs) bits at p
unfolding chart_at code_at
above c cs bits at p in-chart n =
    record {
      digit = suc n.digit;
      place = omega (arith, n.place);
      first = record { within = omega (arith, n.first.within); none = n.first.none; above = λ j l. each j l };
    }
  where
    each : (j : ℕ) → j < suc n.digit → InChart (chart_at (c ∷ cs) j) (code_at (c ∷ cs) bits j)
    each zero l = in-chart
    each (suc j) l = n.first.above j (omega arith)

only-lost : (row : List Chart) (bits : ℕ) (odd : Bool) (sofar at p : ℕ) → read_row row bits odd sofar at ≡ lost p → Named row bits at p
unfolding read_row chart_at code_at
only-lost [] bits odd sofar at p e = let z : ◌≡◌ {A = ℕ} 0 1 = cc in absurd (omega arith)
only-lost (c ∷ cs) bits odd sofar at p e = go (λ odd sofar. only-lost cs bits odd sofar (suc at) p) (ltb spot (size_of c)) refl e
  where
    code : ℕ
    code = bits / 2 ^ width_of cs % 2 ^ c.width

    spot : ℕ
    spot = place_in code c.codes

    d : ℕ
    d = turned odd (size_of c) spot

    go : ((odd : Bool) (sofar : ℕ) → read_row cs bits odd sofar (suc at) ≡ lost p → Named cs bits (suc at) p)
        → (t : Bool) → ltb spot (size_of c) ≡ t → pick t (read_row cs bits (is_odd d) (sofar * size_of c + d) (suc at)) (lost at) ≡ lost p → Named (c ∷ cs) bits at p
    go rest true f e = above c cs bits at p (in-by c code f) (rest (is_odd d) (sofar * size_of c + d) e)
    go rest false f e =
        let same : at ≡ p = cc in
        let not_in : InChart c code → ⊥ = λ h. let b : ◌≡◌ {A = Bool} true false = sym (in_is c code h) ∙ f in let z : ◌≡◌ {A = ℕ} 0 1 = cc in omega arith in
        record { digit = zero; place = omega arith; first = record { within = omega arith; none = not_in; above = λ j l. absurd (omega arith) } }

-- A number that no test with it gives is not the first.
abbrev other_than : ℕ → List Test → Bool
other_than n [] = true
other_than n (t ∷ ts) = (not (eqb t.number n) || not t.applies) && other_than n ts

two : (a b : Bool) → T (a && b) → T a × T b
two true b h = (tt, h)
two false b h = absurd h

not-given : (n : ℕ) (ts : List Test) → T (other_than n ts) → (n ≡ 0 → ⊥) → first_of ts ≡ n → ⊥
unfolding first_of
not-given n [] h some e = some (sym e)
not-given n (t ∷ ts) h some e =
    let each = two (not (eqb t.number n) || not t.applies) (other_than n ts) h in
    go (not-given n ts each.1 some) (eqb t.number n) t.applies refl each.0 e
  where
    go : (first_of ts ≡ n → ⊥) → (a b : Bool) → eqb t.number n ≡ a → T (not a || not b) → pick b t.number (first_of ts) ≡ n → ⊥
    go rest a false f p e = rest e
    go rest true true f p e = p
    go rest false true f p e = eqb-false t.number n f e

module _ (settings address count : ℕ) (reply : List ℕ) where
  abbrev number : ℕ
  number = reply_fault settings address count reply

  abbrev level : Level
  level = level_of (mode_in settings) (line reply)

  -- fault 7 is given only where a digit is in no chart
  no-chart : number ≡ 7 → no_chart level ≡ true
  unfolding reply_fault
  no-chart e = go (no_chart level) refl
    where
      go : (t : Bool) → no_chart level ≡ t → t ≡ true
      go true f = refl
      go false f = absurd (not-given 7 (reply_tests settings address count reply) (rw f tt) (λ z. omega arith) e)

  is_lost : (l : Level) → no_chart l ≡ true → l ≡ lost (place_lost l)
  is_lost (known v) e = let z : ◌≡◌ {A = ℕ} 0 1 = cc in absurd (omega arith)
  is_lost (lost k) e = refl

  lost-at : number ≡ 7 → level ≡ lost (place_lost level)
  lost-at e = is_lost level (no-chart e)

  abbrev by : Bool → Bool → ℕ → Result Reading Fault
  by none seven f = pick none (Ok (reading_at settings count (line reply))) (Err (pick seven (InNoChart (place_lost level)) (fault f)))

  -- an answer, by its fault
  seven-by : (none seven : Bool) → eqb number 0 ≡ none → eqb number 7 ≡ seven → (got : Result Reading Fault) → got ≡ by none seven number → reply_number got ≡ 7 → NamesPlace settings reply got
  seven-by true seven z v got e n = let bad : ◌≡◌ {A = ℕ} 0 7 = sym (ap reply_number e) ∙ n in absurd (omega arith)
  seven-by false true z v got e n = record { place = place_lost level; named = e; level = lost-at (eqb-true number 7 v) }
  seven-by false false z v got e n =
      let same : number_of (fault number) ≡ number = own_number number (eqb-false number 0 z) (reply-small settings address count reply) in
      absurd (eqb-false number 7 v (sym same ∙ sym (ap reply_number e) ∙ n))

  place-by : (none seven : Bool) → eqb number 0 ≡ none → eqb number 7 ≡ seven → (p : ℕ) → Err (InNoChart p) ≡ by none seven number → level ≡ lost p
  place-by true seven z v p e = let bad : ◌≡◌ {A = ℕ} 0 1 = cc in absurd (omega arith)
  place-by false true z v p e = let same : place_lost level ≡ p = cc in lost-at (eqb-true number 7 v) ∙ ap lost same
  place-by false false z v p e = let same : fault number ≡ InNoChart p = cc in absurd (eqb-false number 7 v (names-seven number p same))

  seven-names : (got : Result Reading Fault) → ReadsReply settings address count reply got → reply_number got ≡ 7 → NamesPlace settings reply got
  unfolding reply_of
  seven-names got r n = seven-by (eqb number 0) (eqb number 7) refl refl got r.answers n

  place-names : (p : ℕ) → ReadsReply settings address count reply (Err (InNoChart p)) → level ≡ lost p
  unfolding reply_of
  place-names p r = place-by (eqb number 0) (eqb number 7) refl refl p r.answers

  -- a fault that has number 7 names that place
  names-lost : (f : Fault) → ReadsReply settings address count reply (Err f) → number_of f ≡ 7 → (f ≡ InNoChart (place_named f)) × (level ≡ lost (place_named f))
  names-lost f r n =
      let it = seven-names (Err f) r n in
      let named = it.named in
      let same : f ≡ InNoChart it.place = cc in
      let place : place_named f ≡ it.place = ap place_named same in
      (same ∙ ap InNoChart (sym place), it.level ∙ ap lost (sym place))

  -- the number of a fault that is read is the one that the tests give
  number-by : (none seven : Bool) → eqb number 0 ≡ none → eqb number 7 ≡ seven → (f : Fault) → Err f ≡ by none seven number → number_of f ≡ number
  number-by true seven z v f e = let bad : ◌≡◌ {A = ℕ} 0 1 = cc in absurd (omega arith)
  number-by false true z v f e = let same : f ≡ InNoChart (place_lost level) = cc in ap number_of same ∙ sym (eqb-true number 7 v)
  number-by false false z v f e =
      let same : f ≡ fault number = cc in
      ap number_of same ∙ own_number number (eqb-false number 0 z) (reply-small settings address count reply)

  given-number : (f : Fault) → ReadsReply settings address count reply (Err f) → number_of f ≡ number
  unfolding reply_of
  given-number f r = number-by (eqb number 0) (eqb number 7) refl refl f r.answers

  -- no test of a reply has number 38, and 0 and the numbers above 38 have its fault
  never-last : (f : Fault) → ReadsReply settings address count reply (Err f) → f ≡ OutOfOrder → ⊥
  unfolding reply_fault
  never-last f r e =
      not-given 38 (reply_tests settings address count reply) tt (λ z. omega arith) (sym (given-number f r) ∙ ap number_of e)

  pub told-number : (n : ℕ) → ReadsReply settings address count reply (Err (fault n)) → number_of (fault n) ≡ n
  told-number n r = go (ltb n 39) (eqb n 0) refl refl
    where
      go : (a b : Bool) → ltb n 39 ≡ a → eqb n 0 ≡ b → number_of (fault n) ≡ n
      go true true l z = absurd (never-last (fault n) r (ap fault (eqb-true n 0 z)))
      go true false l z = let within : n < 39 = ltb-true n 39 l in own_number n (eqb-false n 0 z) (omega arith)
      go false b l z = absurd (never-last (fault n) r (get_or-eq_default table OutOfOrder {n = n} (ltb-false n 39 l)))

-- A digit's code has its chart's width, so a chart with every code of it has this one too.
code_lt : (row : List Chart) (bits k : ℕ) → k < length row → code_at row bits k < 2 ^ (chart_at row k).width
unfolding code_at chart_at
code_lt [] bits k l = absurd (omega arith)
code_lt (c ∷ cs) bits zero l = mod-lt _ (pow_pos c.width)
code_lt (c ∷ cs) bits (suc k) l = code_lt cs bits k (omega arith)

never-every : (row : List Chart) (bits k : ℕ) → EveryCode (chart_at row k) → FirstUnreadable row bits k → ⊥
never-every row bits k every f = f.none (every (code_at row bits k) (code_lt row bits k f.within))

never-named : (row : List Chart) (bits : ℕ) (odd : Bool) (sofar at k : ℕ) → EveryCode (chart_at row k) → read_row row bits odd sofar at ≡ lost (at + k) → ⊥
never-named row bits odd sofar at k every e =
    let n : Named row bits at (at + k) = only-lost row bits odd sofar at (at + k) e in
    let same : n.digit ≡ k = omega (arith, n.place) in
    never-every row bits k every (subst (FirstUnreadable row bits) same n.first)

-- Whether a chart has every code is computed.
abbrev has : Chart → ℕ → Bool
has c code = ltb (place_in code c.codes) (size_of c)

abbrev has_every : Chart → Bool
has_every c = all_below (has c) (2 ^ c.width)

every-by : (c : Chart) → T (has_every c) → EveryCode c
every-by c t code l =
    in-by c code (lt-ltb (place_in code c.codes) (size_of c) (ltb→lt (place_in code c.codes) (size_of c) (at-below (has c) (2 ^ c.width) t code l)))

-- Each digit of a mode stands from place 1 to the last that is named, or its chart has every code.
abbrev between : ℕ → ℕ → Bool
between last k = leb 1 k && leb k last

abbrev may_be : Mode → ℕ → ℕ → Bool
may_be m last k = between last k || has_every (chart_at m.row k)

abbrev Placed : Mode → ℕ → Type 0
Placed m last = T (all_below (may_be m last) (length m.row))

possible-in : (m : Mode) (last : ℕ) → Placed m last → (bits p : ℕ) → Named m.row bits 0 p → (1 ≤ p) × (p ≤ last)
possible-in m last placed bits p n =
    go (between last n.digit) refl (at-below (may_be m last) (length m.row) placed n.digit n.first.within)
  where
    go : (t : Bool) → between last n.digit ≡ t → T (t || has_every (chart_at m.row n.digit)) → (1 ≤ p) × (p ≤ last)
    go true e h =
        let b = both (leb 1 n.digit) (leb n.digit last) e in
        (omega (arith, n.place, leb-true 1 n.digit b.0), omega (arith, n.place, leb-true n.digit last b.1))
    go false e h = absurd (never-every m.row bits n.digit (every-by (chart_at m.row n.digit) h) n.first)

-- What holds of each mode and its last place.
each-mode : (P : Mode → ℕ → Type 0) → P fractional_mode (last_named 0) → P decimal_mode (last_named 1) → P twenty_metre_mode (last_named 2) → P thirty_metre_mode (last_named 3) → (k : ℕ) → P (mode_of k) (last_named k)
unfolding mode_of
each-mode P a b c d k = by (eqb k 0) (eqb k 1) (eqb k 2)
  where
    by : (r s t : Bool) → P (pick r fractional_mode (pick s decimal_mode (pick t twenty_metre_mode thirty_metre_mode))) (pick r (last_named 0) (pick s (last_named 1) (last_named 2)))
    by true s t = a
    by false true t = b
    by false false true = c
    by false false false = d

all_placed : (k : ℕ) → Placed (mode_of k) (last_named k)
unfolding fractional_mode decimal_mode twenty_metre_mode thirty_metre_mode chart_at place_in one_bit two_bits feet_tens decimal inches sixteenths
all_placed = each-mode Placed tt tt tt tt

-- The code 1010 is neither a decimal digit nor inches: with zeros above it, its digit is the one named.
abbrev Occurs : Mode → ℕ → Type 0
Occurs m last = (p : ℕ) → 1 ≤ p → p ≤ last → CanBeNamed m p

occurs-0 : Occurs fractional_mode (last_named 0)
unfolding fractional_mode read_row place_in turned width_of feet_tens decimal inches sixteenths
occurs-0 zero a b = absurd (omega arith)
occurs-0 (suc zero) a b = record { bits = put (0b1010 * 2 ^ 8) 31; fits = omega arith; named = refl }
occurs-0 (suc (suc zero)) a b = record { bits = put (0b1010 * 2 ^ 4) 31; fits = omega arith; named = refl }
occurs-0 (suc (suc (suc p))) a b = absurd (omega arith)

occurs-1 : Occurs decimal_mode (last_named 1)
unfolding decimal_mode read_row place_in turned width_of feet_tens decimal
occurs-1 zero a b = absurd (omega arith)
occurs-1 (suc zero) a b = record { bits = put (0b1010 * 2 ^ 8) 31; fits = omega arith; named = refl }
occurs-1 (suc (suc zero)) a b = record { bits = put (0b1010 * 2 ^ 4) 31; fits = omega arith; named = refl }
occurs-1 (suc (suc (suc zero))) a b = record { bits = put 0b1010 31; fits = omega arith; named = refl }
occurs-1 (suc (suc (suc (suc p)))) a b = absurd (omega arith)

occurs-2 : Occurs twenty_metre_mode (last_named 2)
unfolding twenty_metre_mode read_row place_in turned width_of one_bit decimal
occurs-2 zero a b = absurd (omega arith)
occurs-2 (suc zero) a b = record { bits = put (0b1010 * 2 ^ 12) 32; fits = omega arith; named = refl }
occurs-2 (suc (suc zero)) a b = record { bits = put (0b1010 * 2 ^ 8) 32; fits = omega arith; named = refl }
occurs-2 (suc (suc (suc zero))) a b = record { bits = put (0b1010 * 2 ^ 4) 32; fits = omega arith; named = refl }
occurs-2 (suc (suc (suc (suc zero)))) a b = record { bits = put 0b1010 32; fits = omega arith; named = refl }
occurs-2 (suc (suc (suc (suc (suc p))))) a b = absurd (omega arith)

occurs-3 : Occurs thirty_metre_mode (last_named 3)
unfolding thirty_metre_mode read_row place_in turned width_of two_bits decimal
occurs-3 zero a b = absurd (omega arith)
occurs-3 (suc zero) a b = record { bits = put (0b1010 * 2 ^ 12) 33; fits = omega arith; named = refl }
occurs-3 (suc (suc zero)) a b = record { bits = put (0b1010 * 2 ^ 8) 33; fits = omega arith; named = refl }
occurs-3 (suc (suc (suc zero))) a b = record { bits = put (0b1010 * 2 ^ 4) 33; fits = omega arith; named = refl }
occurs-3 (suc (suc (suc (suc zero)))) a b = record { bits = put 0b1010 33; fits = omega arith; named = refl }
occurs-3 (suc (suc (suc (suc (suc p))))) a b = absurd (omega arith)

-- The digit that a reply with fault 7 names, in the row of its mode.
module _ (settings address count : ℕ) (reply : List ℕ) (p : ℕ) (r : ReadsReply settings address count reply (Err (InNoChart p))) where
  abbrev row : List Chart
  row = (mode_in settings).row

  digit-of : Named row (field (line reply) (mode_in settings).first (last_bit_of (mode_in settings))) 0 p
  digit-of = only-lost row _ false 0 0 p (place-names settings address count reply p r)

  place-possible : (1 ≤ p) × (p ≤ last_named (settings % 4))
  place-possible = possible-in (mode_in settings) (last_named (settings % 4)) (all_placed (settings % 4)) _ p digit-of

  not_first : (1 ≤ p) × (p < length row)
  not_first = (place-possible.0, omega (arith, digit-of.place, digit-of.first.within))

-- The table's own fault 7 names place 0, where no digit is named.
others-not : (settings address count : ℕ) (reply : List ℕ) → (n : ℕ) → ReadsReply settings address count reply (Err (fault n)) → n ≡ 7 → ⊥
others-not settings address count reply n r seven =
    let place = not_first settings address count reply 0 (subst (λ (k : ℕ). ReadsReply settings address count reply (Err (fault k))) seven r) in
    omega (arith, place.0)

pub unreadable-digit : UnreadableDigit
unreadable-digit =
    record {
      first = first-lost;
      only = only-lost;
      seven = seven-names;
      place = λ settings address count reply got r p e.
          (ap reply_number e, place-names settings address count reply p (subst (ReadsReply settings address count reply) e r));
      others = others-not;
      names = names-lost;
      never_the_first = not_first;
      every_code = never-named;
      possible = place-possible;
      each_occurs = each-mode Occurs occurs-0 occurs-1 occurs-2 occurs-3;
    }
