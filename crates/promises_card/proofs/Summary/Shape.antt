-- The tests of the definition and those of the promised table hold of the same summaries: 37's of those that are not in order, 24's of those with a count that is
-- over. Assumes nothing.
use mathlib.Core.Path.{◌≡◌, refl, sym, ap, ◌∙◌}
use mathlib.Core.Bool.{Bool, true, false, not, ◌&&◌, ◌||◌}
use Prim.Native.Nat.{ℕ, zero, suc, ◌+◌, ◌<◌, ◌≤◌}
use native.Mathlib.Omega.{arith}
use native.Mathlib.Numerals.{add-one}
use borrow.Author.Tests.{eq-eqb, ne_eqb, lt-ltb, le-ltb, ltb-true, ltb-false, leb-true, leb-false, le-leb, lt-leb, eqb-true, eqb-false, not-true, not-false}
use lib.Dec.{eqb, ltb, leb}
use Rattle.frame.specs.Pick.{pick}
use Rattle.frame.proofs.Both.{both}
use Rattle.summary.specs.declared.Line.{Line}
use Rattle.summary.specs.declared.Summary.{Summary}
use Rattle.summary.specs.Line.{no_level, pair_of, blank_line}
use Rattle.summary.specs.Handed.{line_at, is_blank, levels_right, rises_at, place_right, misshapen, counts_over, lines_over, over}
use Rattle.summary.proofs.Every.{neither, all_right, right-few, right-at, blank-is, none_over, over_none, counts-few, others-few}
use Rattle.summary.proofs.Shaped.{LevelsTold, right-told, told-right}
use Rattle.promises_card.specs.Summary.InOrder.{Ordered}
use Rattle.promises_card.specs.Summary.FirstFault.{some, unused_not_blank, not_rising, no_good, levels_against, out_of_shape, a_count_over}
use Rattle.promises_card.specs.Summary.Refused.{FewEnough}

-- two tests that fail together are one
same_test : (a b : Bool) → (a ≡ false → b ≡ false) → (b ≡ false → a ≡ false) → a ≡ b
same_test true true f g = refl
same_test true false f g = g refl
same_test false true f g = sym (f refl)
same_test false false f g = refl

pub apart : {A : Type 0} → ◌≡◌ {A = Bool} true false → A
apart e = let z : ◌≡◌ {A = ℕ} 0 1 = cc in absurd (omega arith)

and-false : (a b : Bool) → (a && b) ≡ false → a ≡ true → b ≡ false
and-false a b e h = sym (ap (λ (t : Bool). t && b) h) ∙ e

false-and : (a b : Bool) → (a ≡ true → b ≡ false) → (a && b) ≡ false
false-and true b f = f refl
false-and false b f = refl

or-false : (a b : Bool) → a ≡ false → b ≡ false → (a || b) ≡ false
or-false a b p q = ap (λ (t : Bool). t || b) p ∙ q

-- some place below a number
module _ (f : ℕ → Bool) where
  none-at : (n : ℕ) → some n f ≡ false → (i : ℕ) → i < n → f i ≡ false
  unfolding some
  none-at zero e i l = absurd (omega arith)
  none-at (suc n) e i l = let p = neither (some n f) (f n) e in go (none-at n p.0 i) p.1 (ltb i n) refl
    where
      go : (i < n → f i ≡ false) → f n ≡ false → (b : Bool) → ltb i n ≡ b → f i ≡ false
      go rest last true q = rest (ltb-true i n q)
      go rest last false q = let same : n ≡ i = omega (arith, ltb-false i n q) in ap f (sym same) ∙ last

  at_none : (n : ℕ) → ((i : ℕ) → i < n → f i ≡ false) → some n f ≡ false
  unfolding some
  at_none zero h = refl
  at_none (suc n) h = or-false (some n f) (f n) (at_none n (λ i l. h i (omega arith))) (h n (omega arith))

blank-blank : is_blank blank_line ≡ true
blank-blank = unfold is_blank in refl

module _ (s : Summary) where
  abbrev pair : ℕ → ℕ
  pair i = pair_of (line_at s i)

  opened : (i : ℕ) (b : Bool) → ltb i s.count ≡ b → place_right s i ≡ pick b (rises_at s i && levels_right (line_at s i)) (is_blank (line_at s i))
  opened i b h = unfold place_right in ap (λ (t : Bool). pick t (rises_at s i && levels_right (line_at s i)) (is_blank (line_at s i))) h

  -- by the definition's tests
  pub right-ordered : misshapen s ≡ false → Ordered s
  right-ordered right = record { few = few; rises = rises; blank = unused; without = λ i l. (told i l).without; with_levels = λ i l. (told i l).with_levels }
    where
      few : s.count ≤ 30
      few = right-few s right

      used : (i : ℕ) → i < s.count → (rises_at s i ≡ true) × (levels_right (line_at s i) ≡ true)
      used i l = both (rises_at s i) (levels_right (line_at s i)) (sym (opened i true (lt-ltb i s.count l)) ∙ right-at s right i (omega (arith, few)))

      unused : (i : ℕ) → s.count ≤ i → i < 30 → line_at s i ≡ blank_line
      unused i l m = blank-is (line_at s i) (sym (opened i false (le-ltb i s.count l)) ∙ right-at s right i m)

      told : (i : ℕ) → i < s.count → LevelsTold (line_at s i)
      told i l = right-told (line_at s i) (used i l).1

      rises : (i : ℕ) → i + 1 < s.count → pair i < pair (i + 1)
      rises i l = rw (add-one i) (up (rw (add-one i) at (used (i + 1) l).0))
        where
          up : rises_at s (suc i) ≡ true → pair i < pair (suc i)
          up r = unfold rises_at in ltb-true (pair i) (pair (suc i)) r

  pub ordered-right : Ordered s → misshapen s ≡ false
  ordered-right o = all_right s o.few (λ i l. go i l (ltb i s.count) refl)
    where
      first : rises_at s 0 ≡ true
      first = unfold rises_at in refl

      later : (i : ℕ) → suc i < s.count → rises_at s (suc i) ≡ true
      later i l = unfold rises_at in lt-ltb (pair i) (pair (suc i)) (rw (add-one i) at (o.rises i (omega (arith, l))))

      rises-so : (i : ℕ) → i < s.count → rises_at s i ≡ true
      rises-so zero l = first
      rises-so (suc i) l = later i l

      go : (i : ℕ) → i < 30 → (b : Bool) → ltb i s.count ≡ b → place_right s i ≡ true
      go i l true h =
          let near = ltb-true i s.count h in
          let levels = told-right (line_at s i) (record { without = o.without i near; with_levels = o.with_levels i near }) in
          opened i true h ∙ ap (λ (t : Bool). t && levels_right (line_at s i)) (rises-so i near) ∙ levels
      go i l false h =
          let none = ap is_blank (o.blank i (ltb-false i s.count h) l) ∙ blank-blank in
          opened i false h ∙ none

  -- by the table's
  abbrev blank-test : ℕ → Bool
  blank-test i = leb s.count i && not (is_blank (line_at s i))

  abbrev rise-test : ℕ → Bool
  rise-test i = ltb (i + 1) s.count && leb (pair (i + 1)) (pair i)

  abbrev level-test : ℕ → Bool
  level-test i = ltb i s.count && levels_against (line_at s i)

  abbrev some_level : Line → Bool
  some_level l = not (eqb l.lowest no_level) || not (eqb l.highest no_level)

  abbrev no-level : Line → Bool
  no-level l = eqb l.lowest no_level || eqb l.highest no_level

  shape-ordered : out_of_shape s ≡ false → Ordered s
  shape-ordered e =
      record {
        few = few;
        rises = λ i l. leb-false (pair (i + 1)) (pair i) (and-false _ _ (none-at rise-test 30 p2.0 i (omega (arith, few, l))) (lt-ltb (i + 1) s.count l));
        blank = λ i low high. blank-is (line_at s i)
            (not-false (is_blank (line_at s i)) (and-false _ _ (none-at blank-test 30 p1.0 i high) (le-leb s.count i low)));
        without = λ i l z.
            let q = and-false (no_good (line_at s i)) (some_level (line_at s i)) (sides i l).0 (eq-eqb (line_at s i).good 0 z) in
            let r = neither (not (eqb (line_at s i).lowest no_level)) (not (eqb (line_at s i).highest no_level)) q in
            (eqb-true (line_at s i).lowest no_level (not-false _ r.0), eqb-true (line_at s i).highest no_level (not-false _ r.1));
        with_levels = λ i l n.
            let q = and-false (not (no_good (line_at s i))) (no-level (line_at s i)) (sides i l).1 (ap not (ne_eqb (line_at s i).good 0 n)) in
            let r = neither (eqb (line_at s i).lowest no_level) (eqb (line_at s i).highest no_level) q in
            (eqb-false (line_at s i).lowest no_level r.0, eqb-false (line_at s i).highest no_level r.1);
      }
    where
      p0 : (ltb 30 s.count ≡ false) × ((unused_not_blank s || (not_rising s || some 30 level-test)) ≡ false)
      p0 = neither (ltb 30 s.count) (unused_not_blank s || (not_rising s || some 30 level-test)) e

      p1 : (unused_not_blank s ≡ false) × ((not_rising s || some 30 level-test) ≡ false)
      p1 = neither (unused_not_blank s) (not_rising s || some 30 level-test) p0.1

      p2 : (not_rising s ≡ false) × (some 30 level-test ≡ false)
      p2 = neither (not_rising s) (some 30 level-test) p1.1

      few : s.count ≤ 30
      few = ltb-false 30 s.count p0.0

      sides : (i : ℕ) → i < s.count → ((no_good (line_at s i) && some_level (line_at s i)) ≡ false) × ((not (no_good (line_at s i)) && no-level (line_at s i)) ≡ false)
      sides i l =
          neither (no_good (line_at s i) && some_level (line_at s i)) (not (no_good (line_at s i)) && no-level (line_at s i))
          (and-false (ltb i s.count) (levels_against (line_at s i)) (none-at level-test 30 p2.1 i (omega (arith, few, l))) (lt-ltb i s.count l))

  ordered-shape : Ordered s → out_of_shape s ≡ false
  ordered-shape o =
      or-false (ltb 30 s.count) _ (le-ltb 30 s.count o.few)
      (or-false (unused_not_blank s) _ (at_none blank-test 30 blanks)
      (or-false (not_rising s) _ (at_none rise-test 30 risings) (at_none level-test 30 levels)))
    where
      blanks : (i : ℕ) → i < 30 → blank-test i ≡ false
      blanks i l = false-and (leb s.count i) (not (is_blank (line_at s i))) (λ h. ap not (ap is_blank (o.blank i (leb-true s.count i h) l) ∙ blank-blank))

      risings : (i : ℕ) → i < 30 → rise-test i ≡ false
      risings i l = false-and (ltb (i + 1) s.count) (leb (pair (i + 1)) (pair i)) (λ h. lt-leb (pair (i + 1)) (pair i) (o.rises i (ltb-true (i + 1) s.count h)))

      levels : (i : ℕ) → i < 30 → level-test i ≡ false
      levels i l =
          false-and (ltb i s.count) (levels_against (line_at s i))
          (λ h.
          let near = ltb-true i s.count h in
          or-false (no_good (line_at s i) && some_level (line_at s i)) (not (no_good (line_at s i)) && no-level (line_at s i))
          (false-and (no_good (line_at s i)) (some_level (line_at s i))
          (λ g.
          let p = o.without i near (eqb-true (line_at s i).good 0 g) in
          or-false (not (eqb (line_at s i).lowest no_level)) (not (eqb (line_at s i).highest no_level))
          (ap not (eq-eqb (line_at s i).lowest no_level p.0)) (ap not (eq-eqb (line_at s i).highest no_level p.1))))
          (false-and (not (no_good (line_at s i))) (no-level (line_at s i))
          (λ g.
          let p = o.with_levels i near (eqb-false (line_at s i).good 0 (not-true (no_good (line_at s i)) g)) in
          or-false (eqb (line_at s i).lowest no_level) (eqb (line_at s i).highest no_level)
          (ne_eqb (line_at s i).lowest no_level p.0) (ne_eqb (line_at s i).highest no_level p.1))))

  pub same_shape : out_of_shape s ≡ misshapen s
  same_shape = same_test (out_of_shape s) (misshapen s) (λ e. ordered-right (shape-ordered e)) (λ e. ordered-shape (right-ordered e))

  -- the counts
  abbrev count-test : ℕ → Bool
  count-test i = ltb 1_000_000 (line_at s i).good || ltb 1_000_000 (line_at s i).faulty

  counted : (i : ℕ) → counts_over (line_at s i) ≡ count-test i
  counted i = unfold counts_over in refl

  over-is : over s ≡ (ltb 1_000_000 s.others || lines_over s)
  over-is = unfold over in refl

  pub same-counts : a_count_over s ≡ over s
  same-counts = same_test (a_count_over s) (over s) there back
    where
      there : a_count_over s ≡ false → over s ≡ false
      there e =
          let p = neither (ltb 1_000_000 s.others) (some 30 count-test) e in
          over-is ∙ or-false (ltb 1_000_000 s.others) (lines_over s) p.0 (none_over s (λ i l. counted i ∙ none-at count-test 30 p.1 i l))

      back : over s ≡ false → a_count_over s ≡ false
      back e =
          let p = neither (ltb 1_000_000 s.others) (lines_over s) (sym over-is ∙ e) in
          or-false (ltb 1_000_000 s.others) (some 30 count-test) p.0 (at_none count-test 30 (λ i l. sym (counted i) ∙ over_none s p.1 i l))

  pub few-over : Ordered s → FewEnough s → over s ≡ false
  few-over o f =
      over-is ∙ or-false (ltb 1_000_000 s.others) (lines_over s) (le-ltb 1_000_000 s.others f.others) (none_over s (λ i l. go i l (ltb i s.count) refl))
    where
      small : (x : Line) → x.good ≤ 1_000_000 → x.faulty ≤ 1_000_000 → counts_over x ≡ false
      small x p q = unfold counts_over in or-false (ltb 1_000_000 x.good) (ltb 1_000_000 x.faulty) (le-ltb 1_000_000 x.good p) (le-ltb 1_000_000 x.faulty q)

      go : (i : ℕ) → i < 30 → (b : Bool) → ltb i s.count ≡ b → counts_over (line_at s i) ≡ false
      go i l true h = let near = ltb-true i s.count h in small (line_at s i) (f.good i near) (f.faulty i near)
      go i l false h = ap counts_over (o.blank i (ltb-false i s.count h) l) ∙ small blank_line (omega arith) (omega arith)

  pub over-few : Ordered s → over s ≡ false → FewEnough s
  over-few o e =
      record {
        others = others-few s e;
        good = λ i l. (counts-few s e i (omega (arith, o.few))).0;
        faulty = λ i l. (counts-few s e i (omega (arith, o.few))).1;
      }
