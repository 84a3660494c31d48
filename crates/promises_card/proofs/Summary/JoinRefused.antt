-- 25 and 24 of a join both ways: a line put among others makes one more where its pair has none; and the join's line of a pair has the replies of both sides. Assumes
-- nothing.
use mathlib.Core.Path.{◌≡◌, refl, sym, ap, ◌∙◌}
use mathlib.Core.Logic.{◌≢◌, ◌⊎◌, inl, inr, ◌↔◌}
use mathlib.Core.Bool.{Bool, true, false, not, ◌&&◌, ◌||◌}
use mathlib.Core.List.{List, [], ◌∷◌}
use Prim.Native.Nat.{ℕ, zero, suc, ◌+◌, ◌<◌, ◌≤◌}
use native.Mathlib.Omega.{arith}
use borrow.Author.Tests.{lt-ltb, ltb-true, ltb-false, ne_eqb, not-true, not-false}
use lib.Dec.{ltb}
use lib.ListN.{length, get_or}
use Rattle.frame.specs.Pick.{pick}
use Rattle.frame.specs.Rising.{Above, above_none, above_more, Rises, rises_none, rises_more, held_at}
use Rattle.summary.specs.declared.Line.{Line}
use Rattle.summary.specs.declared.Summary.{Summary}
use Rattle.summary.specs.declared.Made.{Made}
use Rattle.summary.specs.Line.{pair_of, together, blank_line}
use Rattle.summary.specs.Handed.{every, lines_of, line_at, misshapen, most, counts_over, lines_over}
use Rattle.summary.specs.Updated.{has_line, put_among}
use Rattle.summary.specs.Joined.{put_all, join_lines, join_page, unkept, join_over, JoinsSummaries}
use Rattle.summary.proofs.Every.{neither}
use Rattle.summary.proofs.HandedIn.{sound-handed}
use Rattle.summary.proofs.JoinTests.{fault-by}
use Rattle.summary.proofs.LinesAdded.{count-of}
use Rattle.summary.proofs.Pages.{line-page}
use Rattle.summary.proofs.PutAll.{rises-all, AllFew}
use Rattle.summary.proofs.Putting.{joined, held-put, rises-put}
use Rattle.summary.proofs.Shaped.{AllTold}
use Rattle.summary.proofs.RecordAdded.{has-held, held-has, length-put}
use Rattle.promises_card.specs.Summary.OwnFigures.{line_in}
use Rattle.promises_card.specs.Summary.InOrder.{Ordered}
use Rattle.promises_card.specs.Summary.Join.{Handed, both_lines}
use Rattle.promises_card.specs.Summary.JoinRefused.{one_if_none, new_pairs, pairs_of_both, good_in, faulty_in, JoinRefusedExactly}
use Rattle.promises_card.proofs.Summary.JoinLines.{held_all}
use Rattle.promises_card.proofs.Summary.JoinPassed.{number_is}
use Rattle.promises_card.proofs.Summary.Grouping.{held-at, held-few, few-left, few-right, blank-behind, page-few, few-page, told-all, told-lines}
use Rattle.promises_card.proofs.Summary.Shape.{apart, ordered-right}

-- how many lines a join has
has-none : (k : ℕ) (ls : List Line) → pick (has_line k ls) 0 1 ≡ one_if_none (held_at pair_of k ls)
has-none k ls = go (has_line k ls) refl (held_at pair_of k ls) refl
  where
    go : (b : Bool) → has_line k ls ≡ b → (hs : List Line) → held_at pair_of k ls ≡ hs → pick b 0 1 ≡ one_if_none hs
    go true h [] q = absurd (has-held k ls h q)
    go true h (x ∷ hs) q = refl
    go false h [] q = refl
    go false h (x ∷ hs) q = let z : ◌≡◌ {A = ℕ} 0 1 = ap one_if_none (sym q ∙ held-has k ls h) in absurd (omega (arith, z))

same_new : (x : Line) (ls xs : List Line) → Rises pair_of ls → Above pair_of (pair_of x) xs → new_pairs (put_among x ls) xs ≡ new_pairs ls xs
unfolding new_pairs
same_new x ls [] r above_none = refl
same_new x ls (y ∷ xs) r (above_more h a) =
    let held : held_at pair_of (pair_of y) (put_among x ls) ≡ held_at pair_of (pair_of y) ls =
    held-put x ls r (pair_of y)
    ∙ ap (λ (b : Bool). pick b (joined x (held_at pair_of (pair_of y) ls)) (held_at pair_of (pair_of y) ls)) (ne_eqb (pair_of x) (pair_of y) (λ z. absurd (omega (arith, h, z)))) in
    (λ i. one_if_none (held i) + same_new x ls xs r a i)

join-length : (ls xs : List Line) → Rises pair_of ls → Rises pair_of xs → length (put_all ls xs) ≡ length ls + new_pairs ls xs
join-length ls [] r rises_none =
    let is : put_all ls [] ≡ ls = unfold put_all in refl in
    let none : new_pairs ls [] ≡ 0 = unfold new_pairs in refl in
    ap length is ∙ (omega (arith, none))
join-length ls (x ∷ xs) r (rises_more a rx) =
    let is : put_all ls (x ∷ xs) ≡ put_all (put_among x ls) xs = unfold put_all in refl in
    let more : new_pairs ls (x ∷ xs) ≡ one_if_none (held_at pair_of (pair_of x) ls) + new_pairs ls xs = unfold new_pairs in refl in
    ap length is
    ∙ (omega (arith, join-length (put_among x ls) xs (rises-put x ls r) rx, length-put x ls r, has-none (pair_of x) ls, same_new x ls xs r a, more))

-- a pair's replies in a join
both-good : (xs ys : List Line) → good_in (both_lines xs ys) ≡ good_in xs + good_in ys
both-good [] [] = refl
both-good [] (y ∷ ys) = omega arith
both-good (x ∷ xs) [] = omega arith
both-good (x ∷ xs) (y ∷ ys) = unfold together in refl

both-faulty : (xs ys : List Line) → faulty_in (both_lines xs ys) ≡ faulty_in xs + faulty_in ys
both-faulty [] [] = refl
both-faulty [] (y ∷ ys) = omega arith
both-faulty (x ∷ xs) [] = omega arith
both-faulty (x ∷ xs) (y ∷ ys) = unfold together in refl

-- a line that is over
found : (n : ℕ) (f : ℕ → Bool) → every n f ≡ false → (i : ℕ) × ((i < n) × (f i ≡ false))
unfolding every
found zero f e = apart e
found (suc n) f e = go (every n f) refl (found n f) (f n) refl e
  where
    go : (b : Bool) → every n f ≡ b → (every n f ≡ false → (i : ℕ) × ((i < n) × (f i ≡ false))) → (c : Bool) → f n ≡ c → (b && c) ≡ false
        → (i : ℕ) × ((i < suc n) × (f i ≡ false))
    go false q rest c d e = let r = rest q in (r.0, (omega (arith, r.1.0), r.1.1))
    go true q rest false d e = (n, (omega arith, d))
    go true q rest true d e = apart e

one-over : (s : Summary) → lines_over s ≡ true → (i : ℕ) × ((i < 30) × (counts_over (line_at s i) ≡ true))
one-over s e =
    let is : lines_over s ≡ not (every 30 (λ i. not (counts_over (line_at s i)))) = unfold lines_over in refl in
    let opened : not (every 30 (λ i. not (counts_over (line_at s i)))) ≡ true = sym is ∙ e in
    let r = found 30 (λ i. not (counts_over (line_at s i))) (not-true _ opened) in
    (r.0, (r.1.0, not-false _ r.1.1))

module _ (a b : Summary) (ha : Handed a) (hb : Handed b) (oa : Ordered a) (ob : Ordered b) (r : Made) (j : JoinsSummaries a b r) where
  right-a : misshapen a ≡ false
  right-a = ordered-right a oa

  right-b : misshapen b ≡ false
  right-b = ordered-right b ob

  number_by : (u o : Bool) → unkept a b ≡ u → join_over a b ≡ o → r.number ≡ pick u 25 (pick o 24 0)
  number_by u o p q =
      ap (λ (x : Made). x.number) j.answers ∙ number_is a b
      ∙ fault-by a b false u o (ap (λ (t : Bool). t || misshapen b) right-a ∙ right-b) p q

  rises-a : Rises pair_of (lines_of a)
  rises-a = (sound-handed a ha.thirty right-a).rises

  rises-b : Rises pair_of (lines_of b)
  rises-b = (sound-handed b hb.thirty right-b).rises

  many : length (join_lines a b) ≡ pairs_of_both a b
  many = join-length (lines_of a) (lines_of b) rises-a rises-b ∙ ap (λ (n : ℕ). n + new_pairs (lines_of a) (lines_of b)) (sym (count-of a (sound-handed a ha.thirty right-a)))

  pairs_of : (r.number ≡ 25) ↔ ((30 < pairs_of_both a b) ⊎ ((0 < a.others) ⊎ (0 < b.others)))
  pairs_of = (there (unkept a b) refl (join_over a b) refl, back)
    where
      small : (o : Bool) → pick o 24 0 ≤ 24
      small true = omega arith
      small false = omega arith

      which : (x y z : Bool) → ltb 30 (length (join_lines a b)) ≡ x → ltb 0 a.others ≡ y → ltb 0 b.others ≡ z → (x || (y || z)) ≡ true
          → (30 < pairs_of_both a b) ⊎ ((0 < a.others) ⊎ (0 < b.others))
      which true y z p q s e = inl (omega (arith, many, ltb-true 30 (length (join_lines a b)) p))
      which false true z p q s e = inr (inl (ltb-true 0 a.others q))
      which false false true p q s e = inr (inr (ltb-true 0 b.others s))
      which false false false p q s e = apart (sym e)

      there : (u : Bool) → unkept a b ≡ u → (o : Bool) → join_over a b ≡ o → r.number ≡ 25 → (30 < pairs_of_both a b) ⊎ ((0 < a.others) ⊎ (0 < b.others))
      there true p o q n = which (ltb 30 (length (join_lines a b))) (ltb 0 a.others) (ltb 0 b.others) refl refl refl p
      there false p o q n = absurd (omega (arith, n, number_by false o p q, small o))

      kept-too : (x y z : Bool) → (x ≡ true) ⊎ ((y ≡ true) ⊎ (z ≡ true)) → (x || (y || z)) ≡ true
      kept-too true y z h = refl
      kept-too false true z h = refl
      kept-too false false true h = refl
      kept-too false false false (inl e) = e
      kept-too false false false (inr (inl e)) = e
      kept-too false false false (inr (inr e)) = e

      tests : (30 < pairs_of_both a b) ⊎ ((0 < a.others) ⊎ (0 < b.others))
          → (ltb 30 (length (join_lines a b)) ≡ true) ⊎ ((ltb 0 a.others ≡ true) ⊎ (ltb 0 b.others ≡ true))
      tests (inl h) = inl (lt-ltb 30 (length (join_lines a b)) (omega (arith, many, h)))
      tests (inr (inl h)) = inr (inl (lt-ltb 0 a.others h))
      tests (inr (inr h)) = inr (inr (lt-ltb 0 b.others h))

      back : (30 < pairs_of_both a b) ⊎ ((0 < a.others) ⊎ (0 < b.others)) → r.number ≡ 25
      back h = number_by true (join_over a b) (kept-too _ _ _ (tests h)) refl

  -- the replies of a pair, by the join's own line
  held : (k : ℕ) → held_at pair_of k (join_lines a b) ≡ both_lines (line_in k a) (line_in k b)
  held k = held_all k (lines_of a) (lines_of b) rises-a rises-b

  rises-j : Rises pair_of (join_lines a b)
  rises-j = rises-all (lines_of a) (lines_of b) rises-a

  told-j : AllTold (join_lines a b)
  told-j = told-all (lines_of a) (lines_of b) (told-lines a ha right-a) (told-lines b hb right-b)

  abbrev OverAt : Type 0
  OverAt = (k : ℕ) × ((1_000_000 < good_in (line_in k a) + good_in (line_in k b)) ⊎ (1_000_000 < faulty_in (line_in k a) + faulty_in (line_in k b)))

  module _ (few : length (join_lines a b) ≤ 30) where
    -- a line of the join that is over tells its pair
    over-line : (x : Line) (k : ℕ) → held_at pair_of k (join_lines a b) ≡ x ∷ [] → counts_over x ≡ true → OverAt
    over-line x k h e = (k, go (ltb 1_000_000 x.good) (ltb 1_000_000 x.faulty) refl refl (sym opened ∙ e))
      where
        opened : counts_over x ≡ (ltb 1_000_000 x.good || ltb 1_000_000 x.faulty)
        opened = unfold counts_over in refl

        good-is : x.good ≡ good_in (line_in k a) + good_in (line_in k b)
        good-is = ap good_in (sym h ∙ held k) ∙ both-good (line_in k a) (line_in k b)

        faulty-is : x.faulty ≡ faulty_in (line_in k a) + faulty_in (line_in k b)
        faulty-is = ap faulty_in (sym h ∙ held k) ∙ both-faulty (line_in k a) (line_in k b)

        go : (p q : Bool) → ltb 1_000_000 x.good ≡ p → ltb 1_000_000 x.faulty ≡ q → (p || q) ≡ true
            → (1_000_000 < good_in (line_in k a) + good_in (line_in k b)) ⊎ (1_000_000 < faulty_in (line_in k a) + faulty_in (line_in k b))
        go true q s u f = inl (omega (arith, good-is, ltb-true 1_000_000 x.good s))
        go false true s u f = inr (omega (arith, faulty-is, ltb-true 1_000_000 x.faulty u))
        go false false s u f = apart (sym f)

    over-page : lines_over (join_page a b) ≡ true → OverAt
    over-page e =
        let r = one-over (join_page a b) e in
        go r.0 r.1.0 r.1.1 (ltb r.0 (length (join_lines a b))) refl
      where
        blank-few : counts_over blank_line ≡ false
        blank-few = unfold counts_over in refl

        go : (i : ℕ) → i < 30 → counts_over (line_at (join_page a b) i) ≡ true → (c : Bool) → ltb i (length (join_lines a b)) ≡ c → OverAt
        go i l o true h =
            let near = ltb-true i (length (join_lines a b)) h in
            let x = get_or (join_lines a b) i blank_line in
            over-line (get_or (join_lines a b) i blank_line) (pair_of (get_or (join_lines a b) i blank_line)) (held-at (join_lines a b) rises-j i near)
            (ap counts_over (sym (line-page 0 (join_lines a b) i near)) ∙ o)
        go i l o false h =
            apart (sym (ap counts_over (sym (blank-behind 0 (join_lines a b) i (ltb-false i (length (join_lines a b)) h) l)) ∙ o) ∙ blank-few)

    -- where no line of the join is over, none of a side is
    sides-few : lines_over (join_page a b) ≡ false → join_over a b ≡ false
    sides-few e =
        let small = page-few 0 (join_lines a b) few rises-j told-j e in
        let sa = sound-handed a ha.thirty right-a in
        let sb = sound-handed b hb.thirty right-b in
        let left : lines_over a ≡ false =
        ap lines_over sa.is
        ∙ few-page a.others (lines_of a) (omega (arith, count-of a sa, sa.few)) rises-a (told-lines a ha right-a) (few-left most (lines_of a) (lines_of b) rises-a rises-b small) in
        let right : lines_over b ≡ false =
        ap lines_over sb.is
        ∙ few-page b.others (lines_of b) (omega (arith, count-of b sb, sb.few)) rises-b (told-lines b hb right-b) (few-right most (lines_of a) (lines_of b) rises-a rises-b small) in
        ap (λ (t : Bool). t || (lines_over b || lines_over (join_page a b))) left ∙ ap (λ (t : Bool). t || lines_over (join_page a b)) right ∙ e

    -- and no pair's replies are
    pairs-few : lines_over (join_page a b) ≡ false → OverAt → ⊥
    pairs-few e (k, over) = go (held_at pair_of k (join_lines a b)) refl over
      where
        small : AllFew most (join_lines a b)
        small = page-few 0 (join_lines a b) few rises-j told-j e

        go : (hs : List Line) → held_at pair_of k (join_lines a b) ≡ hs
            → (1_000_000 < good_in (line_in k a) + good_in (line_in k b)) ⊎ (1_000_000 < faulty_in (line_in k a) + faulty_in (line_in k b)) → ⊥
        go [] h (inl o) = omega (arith, o, ap good_in (sym h ∙ held k) ∙ both-good (line_in k a) (line_in k b))
        go [] h (inr o) = omega (arith, o, ap faulty_in (sym h ∙ held k) ∙ both-faulty (line_in k a) (line_in k b))
        go (z ∷ zs) h (inl o) =
            omega (arith, o, ap good_in (sym h ∙ held k) ∙ both-good (line_in k a) (line_in k b), (held-few k (join_lines a b) z zs small h).0)
        go (z ∷ zs) h (inr o) =
            omega (arith, o, ap faulty_in (sym h ∙ held k) ∙ both-faulty (line_in k a) (line_in k b), (held-few k (join_lines a b) z zs small h).1)

    counts-by : unkept a b ≡ false → (c : Bool) → lines_over (join_page a b) ≡ c → (r.number ≡ 24) ↔ OverAt
    counts-by u true e =
        let over : join_over a b ≡ true = ap (λ (t : Bool). lines_over a || (lines_over b || t)) e ∙ last (lines_over a) (lines_over b) in
        (λ n. over-page e, λ o. number_by false true u over)
      where
        last : (x y : Bool) → (x || (y || true)) ≡ true
        last true y = refl
        last false true = refl
        last false false = refl
    counts-by u false e = (λ n. absurd (omega (arith, n, number_by false false u (sides-few e))), λ o. absurd (pairs-few e o))

  counts_of : r.number ≢ 25 → (r.number ≡ 24) ↔ OverAt
  counts_of no-25 = go (unkept a b) refl
    where
      go : (u : Bool) → unkept a b ≡ u → (r.number ≡ 24) ↔ OverAt
      go true p = absurd (no-25 (number_by true (join_over a b) p refl))
      go false p =
          let q = neither (ltb 30 (length (join_lines a b))) (ltb 0 a.others || ltb 0 b.others) p in
          counts-by (ltb-false 30 (length (join_lines a b)) q.0) p (lines_over (join_page a b)) refl

pub join-refused-exactly : JoinRefusedExactly
join-refused-exactly = record { pairs = pairs_of; counts = counts_of }
