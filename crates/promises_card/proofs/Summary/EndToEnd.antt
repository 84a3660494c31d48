-- The join of two lists' summaries, where no record is unkept and the pairs are at most 30, is the summary of the two lists put end to end: at each pair
-- both hold the two lines together. Assumes nothing.
use mathlib.Core.Path.{◌≡◌, refl, sym, ap, ◌∙◌}
use mathlib.Core.Bool.{Bool, true, false, ◌||◌}
use mathlib.Core.List.{List, [], ◌∷◌, ◌++◌, map}
use Prim.Native.Nat.{ℕ, ◌+◌, ◌≤◌}
use native.Mathlib.Omega.{arith}
use borrow.Author.Tests.{eq-eqb, ne_eqb}
use lib.Dec.{eqb}
use lib.ListN.{length, length-map}
use lib.Seq.{take_all}
use Rattle.frame.specs.Pick.{pick}
use Rattle.frame.specs.Rising.{Rises, held_at}
use Rattle.frame.proofs.Rising.{same-rising}
use Rattle.sheet.specs.Record.{Entry}
use Rattle.summary.specs.declared.Line.{Line}
use Rattle.summary.specs.declared.Summary.{Summary}
use Rattle.summary.specs.Line.{pair_of, together, page}
use Rattle.summary.specs.Worked.{pair_in, entries_of_pair, figures, line_for, without, pairs_of, kept_pairs, among, in_order, other_records, summary_of}
use Rattle.summary.specs.Handed.{lines_of}
use Rattle.summary.specs.Joined.{join_lines, join_page}
use Rattle.summary.proofs.KeptPairs.{Same, is, isnt, compare, among_first, among_later, among-without, among-order, once-pairs, length-order, rises-order, all-inside, no_record, among-take}
use Rattle.summary.proofs.OneRecordMore.{worked, rises-lines, held-lines}
use Rattle.summary.proofs.Pages.{lines-page}
use Rattle.summary.proofs.PairFigures.{line-append, with_nothing, nothing-with}
use Rattle.summary.proofs.PutAll.{rises-all}
use Rattle.promises_card.specs.Summary.Join.{both_lines}
use Rattle.promises_card.proofs.Summary.JoinLines.{held_all}

-- the pairs of two lists put end to end
among-pairs : (k : ℕ) (e : Entry) (l : List Entry) → among k (pairs_of (e ∷ l)) ≡ (eqb (pair_in e) k || among k (pairs_of l))
among-pairs k e l = opened ∙ go (compare (pair_in e) k)
  where
    opened : among k (pairs_of (e ∷ l)) ≡ among k (pair_in e ∷ without (pair_in e) (pairs_of l))
    opened = unfold pairs_of in refl

    go : Same (pair_in e) k → among k (pair_in e ∷ without (pair_in e) (pairs_of l)) ≡ (eqb (pair_in e) k || among k (pairs_of l))
    go (is q) = among_first k (pair_in e) (without (pair_in e) (pairs_of l)) q ∙ sym (ap (λ (b : Bool). b || among k (pairs_of l)) (eq-eqb (pair_in e) k q))
    go (isnt q) =
        among_later k (pair_in e) (without (pair_in e) (pairs_of l)) q ∙ among-without k (pair_in e) (λ p. q (sym p)) (pairs_of l)
        ∙ sym (ap (λ (b : Bool). b || among k (pairs_of l)) (ne_eqb (pair_in e) k q))

pairs-append : (k : ℕ) (l m : List Entry) → among k (pairs_of (l ++ m)) ≡ (among k (pairs_of l) || among k (pairs_of m))
pairs-append k [] m = let none : among k (pairs_of []) ≡ false = unfold pairs_of in unfold among in refl in sym (ap (λ (b : Bool). b || among k (pairs_of m)) none)
pairs-append k (e ∷ l) m =
    among-pairs k e (l ++ m) ∙ ap (λ (b : Bool). eqb (pair_in e) k || b) (pairs-append k l m) ∙ group (eqb (pair_in e) k) (among k (pairs_of l)) (among k (pairs_of m))
    ∙ ap (λ (b : Bool). b || among k (pairs_of m)) (sym (among-pairs k e l))
  where
    group : (a b c : Bool) → (a || (b || c)) ≡ ((a || b) || c)
    group true b c = refl
    group false b c = refl

-- where no record is outside, every pair is kept
all-kept : (ks : List ℕ) (l : List Entry) → other_records ks l ≤ 0 → (k : ℕ) → among k (pairs_of l) ≡ true → among k ks ≡ true
all-kept ks [] h k q = absurd (no q)
  where
    no : among k (pairs_of []) ≡ true → ⊥
    no e = unfold pairs_of in unfold among in (let z : ◌≡◌ {A = ℕ} 0 1 = cc in omega arith)
all-kept ks (e ∷ l) h k q = go (among (pair_in e) ks) refl (compare (pair_in e) k) (all-kept ks l)
  where
    opened : (b : Bool) → among (pair_in e) ks ≡ b → other_records ks (e ∷ l) ≡ pick b 0 1 + other_records ks l
    opened b p = unfold other_records in ap (λ (t : Bool). pick t 0 1 + other_records ks l) p

    go : (b : Bool) → among (pair_in e) ks ≡ b → Same (pair_in e) k → (other_records ks l ≤ 0 → (j : ℕ) → among j (pairs_of l) ≡ true → among j ks ≡ true) → among k ks ≡ true
    go false p s rest = absurd (omega (arith, opened false p))
    go true p (is s) rest = ap (λ (j : ℕ). among j ks) (sym s) ∙ p
    go true p (isnt s) rest =
        rest (omega (arith, opened true p)) k (sym (among-pairs k e l ∙ ap (λ (b : Bool). b || among k (pairs_of l)) (ne_eqb (pair_in e) k s)) ∙ q)

module _ (l : List Entry) (none : other_records (kept_pairs l) l ≤ 0) where
  kept-is : (k : ℕ) → among k (kept_pairs l) ≡ among k (pairs_of l)
  kept-is k = go (among k (pairs_of l)) refl
    where
      go : (b : Bool) → among k (pairs_of l) ≡ b → among k (kept_pairs l) ≡ among k (pairs_of l)
      go true q = all-kept (kept_pairs l) l none k q ∙ sym q
      go false q = among-take k 30 (pairs_of l) q ∙ sym q

  held-is : (k : ℕ) → held_at pair_of k (lines_of (summary_of l)) ≡ pick (among k (pairs_of l)) (line_for l k ∷ []) []
  held-is k =
      ap (λ (s : Summary). held_at pair_of k (lines_of s)) (worked l)
      ∙ ap (held_at pair_of k) (lines-page (other_records (kept_pairs l) l) (map (line_for l) (in_order (kept_pairs l))))
      ∙ held-lines l (in_order (kept_pairs l)) k ∙ ap (λ (b : Bool). pick b (line_for l k ∷ []) []) (among-order k (kept_pairs l) ∙ kept-is k)

rises-summary : (l : List Entry) → Rises pair_of (lines_of (summary_of l))
rises-summary l =
    rw (ap lines_of (worked l) ∙ lines-page (other_records (kept_pairs l) l) (map (line_for l) (in_order (kept_pairs l))))
    (rises-lines l (in_order (kept_pairs l)) (rises-order (kept_pairs l)))

others-is : (l : List Entry) → (summary_of l).others ≡ other_records (kept_pairs l) l
others-is l = ap (λ (s : Summary). s.others) (worked l) ∙ (unfold page in refl)

module _ (l m : List Entry) (few : length (join_lines (summary_of l) (summary_of m)) ≤ 30) (na : (summary_of l).others ≤ 0) (nb : (summary_of m).others ≤ 0) where
  none-l : other_records (kept_pairs l) l ≤ 0
  none-l = omega (arith, others-is l)

  none-m : other_records (kept_pairs m) m ≤ 0
  none-m = omega (arith, others-is m)

  abbrev all : List Line
  all = map (line_for (l ++ m)) (in_order (pairs_of (l ++ m)))

  -- at one pair
  at_pair : (k : ℕ) (b c : Bool) → among k (pairs_of l) ≡ b → among k (pairs_of m) ≡ c
      → both_lines (pick b (line_for l k ∷ []) []) (pick c (line_for m k ∷ []) []) ≡ pick (b || c) (line_for (l ++ m) k ∷ []) []
  at_pair k true true p q = ap (λ (x : Line). x ∷ []) (sym (line-append l m k))
  at_pair k true false p q = ap (λ (x : Line). x ∷ []) (sym (line-append l m k ∙ ap (together (line_for l k)) (empty m q) ∙ right))
    where
      empty : (n : List Entry) → among k (pairs_of n) ≡ false → line_for n k ≡ figures k []
      empty n h = unfold line_for in ap (figures k) (no_record k n h)

      right : together (line_for l k) (figures k []) ≡ line_for l k
      right = unfold line_for in with_nothing k (entries_of_pair k l)
  at_pair k false true p q = ap (λ (x : Line). x ∷ []) (sym (line-append l m k ∙ ap (λ (x : Line). together x (line_for m k)) (empty l p) ∙ left))
    where
      empty : (n : List Entry) → among k (pairs_of n) ≡ false → line_for n k ≡ figures k []
      empty n h = unfold line_for in ap (figures k) (no_record k n h)

      left : together (figures k []) (line_for m k) ≡ line_for m k
      left = unfold line_for in nothing-with k (entries_of_pair k m)
  at_pair k false false p q = refl

  lines_are : join_lines (summary_of l) (summary_of m) ≡ all
  lines_are =
      same-rising pair_of (join_lines (summary_of l) (summary_of m)) all (rises-all (lines_of (summary_of l)) (lines_of (summary_of m)) (rises-summary l))
      (rises-lines (l ++ m) (in_order (pairs_of (l ++ m))) (rises-order (pairs_of (l ++ m))))
      (λ k.
      held_all k (lines_of (summary_of l)) (lines_of (summary_of m)) (rises-summary l) (rises-summary m)
      ∙ ap (λ (h : List Line). both_lines h (held_at pair_of k (lines_of (summary_of m)))) (held-is l none-l k)
      ∙ ap (both_lines (pick (among k (pairs_of l)) (line_for l k ∷ []) [])) (held-is m none-m k)
      ∙ at_pair k (among k (pairs_of l)) (among k (pairs_of m)) refl refl
      ∙ ap (λ (b : Bool). pick b (line_for (l ++ m) k ∷ []) []) (sym (among-order k (pairs_of (l ++ m)) ∙ pairs-append k l m))
      ∙ sym (held-lines (l ++ m) (in_order (pairs_of (l ++ m))) k))

  all-pairs : kept_pairs (l ++ m) ≡ pairs_of (l ++ m)
  all-pairs =
      take_all 30 (pairs_of (l ++ m))
      (omega (arith, few, ap length lines_are, length-map (in_order (pairs_of (l ++ m))) (line_for (l ++ m)), length-order (pairs_of (l ++ m)) (once-pairs (l ++ m))))

  pub end-lines : join_page (summary_of l) (summary_of m) ≡ summary_of (l ++ m)
  end-lines =
      let none : other_records (pairs_of (l ++ m)) (l ++ m) ≡ 0 = all-inside (pairs_of (l ++ m)) (l ++ m) (λ j q. q) in
      ap (page 0) lines_are ∙ ap (λ (n : ℕ). page n all) (sym none)
      ∙ ap (λ (ks : List ℕ). page (other_records ks (l ++ m)) (map (line_for (l ++ m)) (in_order ks))) (sym all-pairs) ∙ sym (worked (l ++ m))
