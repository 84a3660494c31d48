-- What a reply answers by the tests that were made: each fault once those before it do not apply, and what the number of a level says
-- of faults 6, 7 and 8. Assumes nothing.
use mathlib.Core.Path.{◌≡◌, refl, sym, ◌∙◌, ap}
use mathlib.Core.Bool.{Bool, true, false, not, ◌&&◌}
use mathlib.Core.List.{List, [], ◌∷◌}
use Prim.Native.Nat.{ℕ, suc, ◌+◌, ◌*◌, ◌/◌, ◌%◌, ◌^◌, ◌<◌, ◌≤◌}
use native.Mathlib.Omega.{arith}
use borrow.Author.Tests.{eqb-true, ltb-true, ltb-false}
use lib.Dec.{eqb, ltb, lit<}
use lib.ListN.{length}
use Rattle.frame.specs.Pick.{pick}
use Rattle.frame.specs.Line.{line, bit, three_decimal, three_digits}
use Rattle.frame.specs.Charts.{Chart, size_of, is_odd, turned, place_in}
use Rattle.frame.specs.Level.{Level, known, lost, Mode, width_of, read_row, level_of, fill_clear, no_chart, value_of, place_lost, above_largest}
use Rattle.frame.specs.Temperature.{is_bad}
use Rattle.frame.specs.Reply.{mode_in, heat_in, parity_right, reading_at, refused_by, reply_of}
use Rattle.frame.specs.Inside.Packed.{level_number, level_code, line_fault, line_reply, level_refused, heat_reply, levelled_reply, unread_fault, unfit_fault}
use Rattle.frame.proofs.Answers.{refused-by}
use Rattle.frame.proofs.Refusals.{plain_by, unread-line}
use Rattle.frame.proofs.Tables.{pick-case}
use Rattle.frame.proofs.EachMode.{small-levels, few-digits}
use Rattle.std.specs.Prelude.{Ok, Err}
use Rattle.frame.specs.declared.faults.Fault.TheVariants.{InNoChart}
use Rattle.frame.specs.Faults.{fault}

-- the place of a digit in no chart is within the row
abbrev LostBelow : ℕ → Level → Type 0
LostBelow b (known v) = Unit {0}
LostBelow b (lost k) = k < b

lost-below : (cs : List Chart) (bits : ℕ) (odd : Bool) (sofar place most : ℕ) → place + length cs ≤ most → LostBelow most (read_row cs bits odd sofar place)
unfolding read_row
lost-below [] bits odd sofar place most h = tt
lost-below (c ∷ cs) bits odd sofar place most h =
    let at = place_in (bits / 2 ^ width_of cs % 2 ^ c.width) c.codes in
    let d = turned odd (size_of c) at in
    pick-case (LostBelow most) (ltb at (size_of c)) (lost-below cs bits (is_odd d) (sofar * size_of c + d) (suc place) most (omega arith)) (omega arith)

-- faults 6, 7 and 8 in their order, before a rest
abbrev pub after_level : Mode → Bool → Level → ℕ → ℕ
after_level m clear l rest = pick (not clear) 6 (pick (no_chart l) 7 (pick (above_largest m l) 8 rest))

abbrev number_of : Mode → Bool → Level → ℕ
number_of m clear l = pick clear (level_number m.largest l) (6 * 65536)

module _ (m : Mode) (small : m.largest < 65536) where
  refusing : (clear : Bool) (l : Level) → LostBelow 5 l → 65536 ≤ number_of m clear l → (rest : ℕ) → number_of m clear l / 65536 ≡ after_level m clear l rest
  refusing false l few h rest = refl
  refusing true (lost k) few h rest = omega arith
  refusing true (known v) few h rest = go (ltb m.largest v) refl
    where
      go : (t : Bool) → ltb m.largest v ≡ t → number_of m true (known v) / 65536 ≡ after_level m true (known v) rest
      go true e = rw e
      go false e = absurd (omega (arith, ltb-false m.largest v e, small, rw e at h))

  -- of a refused level the number's rest is the place that fault 7 names
  rest-is : (clear : Bool) (l : Level) → LostBelow 5 l → 65536 ≤ number_of m clear l → (number_of m clear l % 65536 < 256) × (number_of m clear l / 65536 ≡ 7 → number_of m clear l % 65536 ≡ place_lost l)
  rest-is false l few h = (omega arith, λ e. absurd (omega arith))
  rest-is true (lost k) few h = (omega arith, λ _. omega arith)
  rest-is true (known v) few h = go (ltb m.largest v) refl
    where
      go : (t : Bool) → ltb m.largest v ≡ t → (number_of m true (known v) % 65536 < 256) × (number_of m true (known v) / 65536 ≡ 7 → number_of m true (known v) % 65536 ≡ 0)
      go true e = rw e (omega arith, λ _. omega arith)
      go false e = absurd (omega (arith, ltb-false m.largest v e, small, rw e at h))

  number_lt : (clear : Bool) (l : Level) → LostBelow 5 l → number_of m clear l < 9 * 65536
  number_lt false l few = omega arith
  number_lt true (lost k) few = omega arith
  number_lt true (known v) few = go (ltb m.largest v) refl
    where
      go : (t : Bool) → ltb m.largest v ≡ t → number_of m true (known v) < 9 * 65536
      go true e = rw e (omega arith)
      go false e = rw e (omega (arith, ltb-false m.largest v e, small))

  at-least-six : (clear : Bool) (l : Level) → LostBelow 5 l → 65536 ≤ number_of m clear l → 6 * 65536 ≤ number_of m clear l
  at-least-six false l few h = omega arith
  at-least-six true (lost k) few h = omega arith
  at-least-six true (known v) few h = go (ltb m.largest v) refl
    where
      go : (t : Bool) → ltb m.largest v ≡ t → 6 * 65536 ≤ number_of m true (known v)
      go true e = rw e (omega arith)
      go false e = absurd (omega (arith, ltb-false m.largest v e, small, rw e at h))

  passing : (clear : Bool) (l : Level) → number_of m clear l < 65536 → (rest : ℕ) → after_level m clear l rest ≡ rest
  passing false l h rest = absurd (omega arith)
  passing true (lost k) h rest = absurd (omega arith)
  passing true (known v) h rest = go (ltb m.largest v) refl
    where
      go : (t : Bool) → ltb m.largest v ≡ t → after_level m true (known v) rest ≡ rest
      go true e = absurd (omega (arith, rw e at h))
      go false e = rw e

  value-is : (clear : Bool) (l : Level) → number_of m clear l < 65536 → value_of l ≡ number_of m clear l
  value-is false l h = absurd (omega arith)
  value-is true (lost k) h = absurd (omega arith)
  value-is true (known v) h = go (ltb m.largest v) refl
    where
      go : (t : Bool) → ltb m.largest v ≡ t → v ≡ number_of m true (known v)
      go true e = absurd (omega (arith, rw e at h))
      go false e = rw e

-- the level of a line in the mode of some settings
module _ (settings n : ℕ) where
  few : LostBelow 5 (level_of (mode_in settings) n)
  few = lost-below (mode_in settings).row _ false 0 0 5 (omega (arith, few-digits (settings % 4)))

  small-place : (l : Level) → LostBelow 5 l → place_lost l < 5
  small-place (known v) h = omega arith
  small-place (lost k) h = h

  -- the place that is named is one of five digits
  pub place-small : place_lost (level_of (mode_in settings) n) < 5
  place-small = small-place (level_of (mode_in settings) n) few

  pub level-refused : 65536 ≤ level_code (mode_in settings) n → (rest : ℕ)
      → level_code (mode_in settings) n / 65536 ≡ after_level (mode_in settings) (fill_clear n (mode_in settings).fill) (level_of (mode_in settings) n) rest
  unfolding level_code
  level-refused h rest = refusing (mode_in settings) (small-levels (settings % 4)) (fill_clear n (mode_in settings).fill) (level_of (mode_in settings) n) few h rest

  pub level-rest : 65536 ≤ level_code (mode_in settings) n → (level_code (mode_in settings) n % 65536 < 256) × (level_code (mode_in settings) n / 65536 ≡ 7 → level_code (mode_in settings) n % 65536 ≡ place_lost (level_of (mode_in settings) n))
  unfolding level_code
  level-rest h = rest-is (mode_in settings) (small-levels (settings % 4)) (fill_clear n (mode_in settings).fill) (level_of (mode_in settings) n) few h

  pub level-six : 65536 ≤ level_code (mode_in settings) n → 6 * 65536 ≤ level_code (mode_in settings) n
  unfolding level_code
  level-six h = at-least-six (mode_in settings) (small-levels (settings % 4)) (fill_clear n (mode_in settings).fill) (level_of (mode_in settings) n) few h

  pub level-lt : level_code (mode_in settings) n < 9 * 65536
  unfolding level_code
  level-lt = number_lt (mode_in settings) (small-levels (settings % 4)) (fill_clear n (mode_in settings).fill) (level_of (mode_in settings) n) few

  pub level-passed : level_code (mode_in settings) n < 65536 → (rest : ℕ)
      → after_level (mode_in settings) (fill_clear n (mode_in settings).fill) (level_of (mode_in settings) n) rest ≡ rest
  unfolding level_code
  level-passed h rest = passing (mode_in settings) (small-levels (settings % 4)) (fill_clear n (mode_in settings).fill) (level_of (mode_in settings) n) h rest

  pub level-value : level_code (mode_in settings) n < 65536 → value_of (level_of (mode_in settings) n) ≡ level_code (mode_in settings) n
  unfolding level_code
  level-value h = value-is (mode_in settings) (small-levels (settings % 4)) (fill_clear n (mode_in settings).fill) (level_of (mode_in settings) n) h

-- the answer of a reply of the right form and length, by the tests made of it
module _ (settings address count : ℕ) (s : List ℕ) where
  abbrev pub right4 : Bool
  right4 = three_decimal (line s) 4 && eqb (three_digits (line s) 4) address

  abbrev fault9 : ℕ
  fault9 = pick (is_bad (heat_in settings count (line s))) 9 0

  abbrev level : Level
  level = level_of (mode_in settings) (line s)

  refused-is : (f : ℕ) → line_fault settings address count s ≡ f → (f ≡ 0 → ⊥) → line_reply settings address count s ≡ Err (refused_by level f)
  unfolding line_reply
  refused-is f e some = refused-by (Ok (reading_at settings count (line s))) (λ (n : ℕ). Err (refused_by level n)) _ f e some

  answer-is : (f : ℕ) → line_fault settings address count s ≡ f → (f ≡ 0 → ⊥) → eqb f 7 ≡ false → line_reply settings address count s ≡ Err (fault f)
  answer-is f e some other = refused-is f e some ∙ ap Err (plain_by level f other)

  -- a refusal by the number of a level
  by_code : (code : ℕ) → (code / 65536 ≡ 7 → code % 65536 ≡ place_lost level) → (t : Bool) → eqb (code / 65536) 7 ≡ t
      → pick t (InNoChart (place_lost level)) (fault (code / 65536)) ≡ pick t (InNoChart (code % 65536)) (fault (code / 65536))
  by_code code rest true e = ap InNoChart (sym (rest (eqb-true (code / 65536) 7 e)))
  by_code code rest false e = refl

  pub line-3 : eqb (bit (line s) 1) 0 ≡ true → line_reply settings address count s ≡ Err (fault 3)
  unfolding line_fault
  line-3 e3 = answer-is 3 (rw e3) (omega arith) refl

  module _ (e3 : eqb (bit (line s) 1) 0 ≡ false) where
    pub line-4 : right4 ≡ false → line_reply settings address count s ≡ Err (fault 4)
    unfolding line_fault
    line-4 e4 = answer-is 4 (rw (e3, e4)) (omega arith) refl

    module _ (e4 : right4 ≡ true) where
      pub line-5 : parity_right settings s ≡ false → line_reply settings address count s ≡ Err (fault 5)
      unfolding line_fault
      line-5 e5 = answer-is 5 (rw (e3, e4, e5)) (omega arith) refl

      module _ (e5 : parity_right settings s ≡ true) where
        from-6 : line_fault settings address count s ≡ after_level (mode_in settings) (fill_clear (line s) (mode_in settings).fill) (level_of (mode_in settings) (line s)) fault9
        unfolding line_fault
        from-6 = rw (e3, e4, e5)

        pub line-level : 65536 ≤ level_code (mode_in settings) (line s) → line_reply settings address count s ≡ Err (level_refused (level_code (mode_in settings) (line s)))
        line-level h =
            let code = level_code (mode_in settings) (line s) in
            refused-is (code / 65536) (from-6 ∙ sym (level-refused settings (line s) h fault9)) (omega arith)
            ∙ ap Err (by_code code (level-rest settings (line s) h).1 (eqb (code / 65536) 7) refl)

        pub line_read : level_code (mode_in settings) (line s) < 65536 → line_reply settings address count s ≡ heat_reply settings count (line s) (level_code (mode_in settings) (line s))
        unfolding line_reply heat_reply
        line_read h = rw (from-6 ∙ level-passed settings (line s) h fault9) (go (is_bad (heat_in settings count (line s))) refl)
          where
            go : (b : Bool) → is_bad (heat_in settings count (line s)) ≡ b
                → pick (eqb (pick (is_bad (heat_in settings count (line s))) 9 0) 0) (Ok (reading_at settings count (line s))) (Err (refused_by level (pick (is_bad (heat_in settings count (line s))) 9 0)))
                ≡ heat_reply settings count (line s) (level_code (mode_in settings) (line s))
            go true e = rw e
            go false e = rw (e, level-value settings (line s) h)

        -- both together
        pub line-levelled : levelled_reply settings count (line s) (level_code (mode_in settings) (line s)) ≡ line_reply settings address count s
        line-levelled = go (ltb (level_code (mode_in settings) (line s)) 65536) refl
          where
            go : (b : Bool) → ltb (level_code (mode_in settings) (line s)) 65536 ≡ b
                → pick b (heat_reply settings count (line s) (level_code (mode_in settings) (line s))) (Err (level_refused (level_code (mode_in settings) (line s)))) ≡ line_reply settings address count s
            go true e = sym (line_read (ltb-true (level_code (mode_in settings) (line s)) 65536 e))
            go false e = sym (line-level (ltb-false (level_code (mode_in settings) (line s)) 65536 e))

-- the answer by the first refusal before the level
module _ (settings address count : ℕ) (s : List ℕ) where
  abbrev unfit : Bool → Bool → Bool → ℕ
  unfit a b c = pick a 3 (pick (not b) 4 (pick (not c) 5 0))

  pub unfit-refused : (unfit_fault settings address (line s) s ≡ 0 → ⊥) → line_reply settings address count s ≡ Err (fault (unfit_fault settings address (line s) s))
  unfit-refused = go (eqb (bit (line s) 1) 0) (right4 settings address count s) (parity_right settings s) refl refl refl
    where
      go : (a b c : Bool) → eqb (bit (line s) 1) 0 ≡ a → right4 settings address count s ≡ b → parity_right settings s ≡ c
          → (unfit a b c ≡ 0 → ⊥) → line_reply settings address count s ≡ Err (fault (unfit a b c))
      go true b c ea eb ec some = line-3 settings address count s ea
      go false false c ea eb ec some = line-4 settings address count s ea eb
      go false true false ea eb ec some = line-5 settings address count s ea eb ec
      go false true true ea eb ec some = absurd (some refl)

  pub unfit-levelled : unfit_fault settings address (line s) s ≡ 0
      → levelled_reply settings count (line s) (level_code (mode_in settings) (line s)) ≡ line_reply settings address count s
  unfit-levelled = go (eqb (bit (line s) 1) 0) (right4 settings address count s) (parity_right settings s) refl refl refl
    where
      go : (a b c : Bool) → eqb (bit (line s) 1) 0 ≡ a → right4 settings address count s ≡ b → parity_right settings s ≡ c
          → unfit a b c ≡ 0 → levelled_reply settings count (line s) (level_code (mode_in settings) (line s)) ≡ line_reply settings address count s
      go true b c ea eb ec none = absurd (omega (arith, none))
      go false false c ea eb ec none = absurd (omega (arith, none))
      go false true false ea eb ec none = absurd (omega (arith, none))
      go false true true ea eb ec none = line-levelled settings address count s ea eb ec

pub unfit-small : (settings address n : ℕ) (s : List ℕ) → unfit_fault settings address n s < 256
unfit-small settings address n s = go (eqb (bit n 1) 0) (not (three_decimal n 4 && eqb (three_digits n 4) address)) (not (parity_right settings s))
  where
    go : (a b c : Bool) → pick a 3 (pick b 4 (pick c 5 0)) < 256
    go true b c = lit< tt
    go false true c = lit< tt
    go false false true = lit< tt
    go false false false = lit< tt

-- the same of the whole reply, whose line is n
module _ (settings address count n : ℕ) (s : List ℕ) (is : n ≡ line s) (read : unread_fault settings address count s ≡ 0) where
  same-fault : unfit_fault settings address n s ≡ unfit_fault settings address (line s) s
  same-fault = ap (λ (m : ℕ). unfit_fault settings address m s) is

  pub reply-unfit : (unfit_fault settings address n s ≡ 0 → ⊥) → Err (fault (unfit_fault settings address n s)) ≡ reply_of settings address count s
  reply-unfit some =
      ap (λ (n : ℕ). Err (fault n)) same-fault ∙ sym (unread-line settings address count s read ∙ unfit-refused settings address count s (λ e. some (same-fault ∙ e)))

  pub reply-levelled : unfit_fault settings address n s ≡ 0 → levelled_reply settings count n (level_code (mode_in settings) n) ≡ reply_of settings address count s
  reply-levelled none =
      ap (λ (m : ℕ). levelled_reply settings count m (level_code (mode_in settings) m)) is
      ∙ unfit-levelled settings address count s (sym same-fault ∙ none)
      ∙ sym (unread-line settings address count s read)
