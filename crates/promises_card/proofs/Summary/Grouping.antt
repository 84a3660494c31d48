-- Grouping: the lines of three summaries put together hold the same at each pair, whichever two are put together first. A part of a join has no more lines
-- and no larger counts than the whole, so where one grouping is not refused, neither is the other. Assumes nothing.
use mathlib.Core.Path.{◌≡◌, refl, sym, ap, ◌∙◌}
use mathlib.Core.Bool.{Bool, true, false, ◌||◌}
use mathlib.Core.List.{List, [], ◌∷◌, ◌++◌}
use Prim.Native.Nat.{ℕ, zero, suc, ◌+◌, ◌-◌, ◌<◌, ◌≤◌, min, max}
use native.Mathlib.Omega.{arith}
use borrow.Author.Tests.{eq-eqb, eqb-true, ltb-true, ltb-false, le-ltb}
use lib.Dec.{eqb, ltb}
use lib.ListN.{length, get_or, replicate, length-append, length-replicate, get_or-replicate}
use lib.Seq.{get_or-append-add}
use Rattle.frame.specs.Pick.{pick}
use Rattle.frame.specs.Rising.{Above, above_more, Rises, rises_more, held_at}
use Rattle.frame.proofs.Rising.{held_first, held-later, same-rising}
use Rattle.summary.specs.declared.Line.{Line}
use Rattle.summary.specs.declared.Summary.{Summary}
use Rattle.summary.specs.declared.Made.{Made}
use Rattle.summary.specs.Line.{pair_of, together, page, blank_line}
use Rattle.summary.specs.Handed.{lines_of, line_at, misshapen, most, counts_over, lines_over}
use Rattle.summary.specs.Updated.{put_among}
use Rattle.summary.specs.Calls.{made_of}
use Rattle.summary.specs.Joined.{put_all, join_lines, join_page, join_fault, join_of}
use Rattle.summary.specs.Sound.{Sound}
use Rattle.summary.proofs.Every.{neither, none_over, over_none}
use Rattle.summary.proofs.HandedIn.{sound-handed, used}
use Rattle.summary.proofs.KeptPairs.{Same, is, isnt, compare}
use Rattle.summary.proofs.Levels.{min-picks, max-picks, two-grouped}
use Rattle.summary.proofs.LinesAdded.{count-of, line-of}
use Rattle.summary.proofs.Pages.{lines-page, line-page}
use Rattle.summary.proofs.PutAll.{rises-all, all-length, AllFew, few_more, few-at, at-few}
use Rattle.summary.proofs.JoinTests.{made-join}
use Rattle.summary.proofs.Shaped.{AllTold, told_more, all_told, told-put, right-told, shaped-page}
use Rattle.promises_card.specs.Summary.Join.{Handed, Clean, both_lines, from_left, from_right}
use Rattle.promises_card.proofs.Summary.JoinLines.{held_all, AllNarrow, narrow_none, narrow_more, lines-turned}
use Rattle.promises_card.proofs.Summary.JoinPassed.{number_is, passed, not-over, narrow-lines, fault-clear}

-- the lines
together-grouped : (x y z : Line) → together (together x y) z ≡ together x (together y z)
unfolding together
together-grouped x y z =
    let low = sym (two-grouped min min-picks x.lowest y.lowest z.lowest) in
    let high = sym (two-grouped max max-picks x.highest y.highest z.highest) in
    let good : x.good + y.good + z.good ≡ x.good + (y.good + z.good) = omega arith in
    let faulty : x.faulty + y.faulty + z.faulty ≡ x.faulty + (y.faulty + z.faulty) = omega arith in
    λ i. record { address = x.address; settings = x.settings; lowest = low i; highest = high i; good = good i; faulty = faulty i }

both-grouped : (xs ys zs : List Line) → both_lines (both_lines xs ys) zs ≡ both_lines xs (both_lines ys zs)
both-grouped [] [] [] = refl
both-grouped [] [] (z ∷ zs) = refl
both-grouped [] (y ∷ ys) [] = refl
both-grouped [] (y ∷ ys) (z ∷ zs) = refl
both-grouped (x ∷ xs) [] [] = refl
both-grouped (x ∷ xs) [] (z ∷ zs) = refl
both-grouped (x ∷ xs) (y ∷ ys) [] = refl
both-grouped (x ∷ xs) (y ∷ ys) (z ∷ zs) = ap (λ (l : Line). l ∷ []) (together-grouped x y z)

lines-grouped : (ls bs cs : List Line) → Rises pair_of ls → Rises pair_of bs → Rises pair_of cs → put_all (put_all ls bs) cs ≡ put_all ls (put_all bs cs)
lines-grouped ls bs cs ra rb rc =
    same-rising pair_of (put_all (put_all ls bs) cs) (put_all ls (put_all bs cs)) (rises-all (put_all ls bs) cs (rises-all ls bs ra)) (rises-all ls (put_all bs cs) ra)
    (λ k.
    held_all k (put_all ls bs) cs (rises-all ls bs ra) rc ∙ ap (λ (h : List Line). both_lines h (held_at pair_of k cs)) (held_all k ls bs ra rb)
    ∙ both-grouped (held_at pair_of k ls) (held_at pair_of k bs) (held_at pair_of k cs)
    ∙ sym (held_all k ls (put_all bs cs) ra (rises-all bs cs rb) ∙ ap (both_lines (held_at pair_of k ls)) (held_all k bs cs rb rc)))

-- what stands in a row that rises is held at its pair
pub held-at : (ls : List Line) → Rises pair_of ls → (i : ℕ) → i < length ls → held_at pair_of (pair_of (get_or ls i blank_line)) ls ≡ get_or ls i blank_line ∷ []
held-at [] r i l = absurd (omega arith)
held-at (x ∷ ls) (rises_more a r) zero l = held_first pair_of x ls (pair_of x) refl
held-at (x ∷ ls) (rises_more a r) (suc i) l =
    held-later pair_of x ls (pair_of (get_or ls i blank_line)) (λ q. apart (above_at ls a i (omega arith)) q) ∙ held-at ls r i (omega arith)
  where
    above_at : {n : ℕ} (ms : List Line) → Above pair_of n ms → (j : ℕ) → j < length ms → n < pair_of (get_or ms j blank_line)
    above_at [] b j m = absurd (omega arith)
    above_at (y ∷ ms) (above_more h b) zero m = h
    above_at (y ∷ ms) (above_more h b) (suc j) m = above_at ms b j (omega arith)

    apart : pair_of x < pair_of (get_or ls i blank_line) → pair_of x ≡ pair_of (get_or ls i blank_line) → ⊥
    apart h q = omega arith

pub held-few : {n : ℕ} (k : ℕ) (ls : List Line) (z : Line) (zs : List Line) → AllFew n ls → held_at pair_of k ls ≡ z ∷ zs → (z.good ≤ n) × (z.faulty ≤ n)
held-few k [] z zs f e = absurd (no e)
  where
    no : held_at pair_of k [] ≡ z ∷ zs → ⊥
    no q = unfold held_at in (let bad : ◌≡◌ {A = ℕ} 0 1 = cc in omega arith)
held-few {n} k (x ∷ ls) z zs (few_more g h f) e = go (compare (pair_of x) k) (held-few k ls z zs f)
  where
    go : Same (pair_of x) k → (held_at pair_of k ls ≡ z ∷ zs → (z.good ≤ n) × (z.faulty ≤ n)) → (z.good ≤ n) × (z.faulty ≤ n)
    go (is q) rest =
        let same : x ∷ [] ≡ z ∷ zs = sym (held_first pair_of x ls k q) ∙ e in
        let it : x ≡ z = cc in
        (omega (arith, g, ap (λ (y : Line). y.good) it), omega (arith, h, ap (λ (y : Line). y.faulty) it))
    go (isnt q) rest = rest (sym (held-later pair_of x ls k q) ∙ e)

-- a part has no larger counts than the whole
more_left : (x : Line) (hs : List Line) → (z : Line) × (zs : List Line) × ((both_lines (x ∷ []) hs ≡ z ∷ zs) × ((x.good ≤ z.good) × (x.faulty ≤ z.faulty)))
more_left x [] = (x, [], (refl, (omega arith, omega arith)))
more_left x (h ∷ hs) = (together x h, [], (refl, (unfold together in omega arith, unfold together in omega arith)))

more-right : (x : Line) (hs : List Line) → (z : Line) × (zs : List Line) × ((both_lines hs (x ∷ []) ≡ z ∷ zs) × ((x.good ≤ z.good) × (x.faulty ≤ z.faulty)))
more-right x [] = (x, [], (refl, (omega arith, omega arith)))
more-right x (h ∷ hs) = (together h x, [], (refl, (unfold together in omega arith, unfold together in omega arith)))

pub few-left : (n : ℕ) (ls xs : List Line) → Rises pair_of ls → Rises pair_of xs → AllFew n (put_all ls xs) → AllFew n ls
few-left n ls xs rl rx f =
    at-few n ls
    (λ i l.
    let x = get_or ls i blank_line in
    let k = pair_of x in
    let m = more_left x (held_at pair_of k xs) in
    let e = held_all k ls xs rl rx ∙ ap (λ (h : List Line). both_lines h (held_at pair_of k xs)) (held-at ls rl i l) ∙ m.2.0 in
    let p = held-few k (put_all ls xs) m.0 m.1 f e in
    (omega (arith, p.0, m.2.1.0), omega (arith, p.1, m.2.1.1)))

pub few-right : (n : ℕ) (ls xs : List Line) → Rises pair_of ls → Rises pair_of xs → AllFew n (put_all ls xs) → AllFew n xs
few-right n ls xs rl rx f =
    at-few n xs
    (λ i l.
    let x = get_or xs i blank_line in
    let k = pair_of x in
    let m = more-right x (held_at pair_of k ls) in
    let e = held_all k ls xs rl rx ∙ ap (both_lines (held_at pair_of k ls)) (held-at xs rx i l) ∙ m.2.0 in
    let p = held-few k (put_all ls xs) m.0 m.1 f e in
    (omega (arith, p.0, m.2.1.0), omega (arith, p.1, m.2.1.1)))

-- behind the lines of a page stand blank ones
pub blank-behind : (o : ℕ) (ls : List Line) (i : ℕ) → length ls ≤ i → i < 30 → line_at (page o ls) i ≡ blank_line
unfolding page
blank-behind o ls i low high =
    let e : i ≡ length ls + (i - length ls) = omega arith in
    ap (λ (j : ℕ). get_or (ls ++ replicate (30 - length ls) blank_line) j blank_line) e
    ∙ get_or-append-add ls (replicate (30 - length ls) blank_line) (i - length ls) blank_line
    ∙ get_or-replicate (30 - length ls) (i - length ls) blank_line blank_line (omega arith)

-- counts of a page, by its lines
module _ (o : ℕ) (ls : List Line) (few : length ls ≤ 30) (rises : Rises pair_of ls) (told : AllTold ls) where
  pub page-few : lines_over (page o ls) ≡ false → AllFew most ls
  page-few h =
      at-few most ls
      (λ i l.
      let none = opened (line_at (page o ls) i) (over_none (page o ls) h i (omega arith)) in
      let p = neither (ltb most (line_at (page o ls) i).good) (ltb most (line_at (page o ls) i).faulty) none in
      let same = line-page o ls i l in (
        omega (arith, ltb-false most (line_at (page o ls) i).good p.0, ap (λ (y : Line). y.good) same),
        omega (arith, ltb-false most (line_at (page o ls) i).faulty p.1, ap (λ (y : Line). y.faulty) same),
      ))
    where
      opened : (x : Line) → counts_over x ≡ false → (ltb most x.good || ltb most x.faulty) ≡ false
      opened x q = unfold counts_over in q

  pub few-page : AllFew most ls → lines_over (page o ls) ≡ false
  few-page f = none_over (page o ls) (λ i l. go i l (ltb i (length ls)) refl)
    where
      small : (x : Line) → x.good ≤ most → x.faulty ≤ most → counts_over x ≡ false
      small x p q = unfold counts_over in simp (le-ltb most x.good p, le-ltb most x.faulty q)

      go : (i : ℕ) → i < 30 → (b : Bool) → ltb i (length ls) ≡ b → counts_over (line_at (page o ls) i) ≡ false
      go i l true q =
          let near = ltb-true i (length ls) q in
          let p = few-at ls f i near in
          ap counts_over (line-page o ls i near) ∙ small (get_or ls i blank_line) p.0 p.1
      go i l false q = ap counts_over (blank-behind o ls i (ltb-false i (length ls) q) l) ∙ small blank_line (omega arith) (omega arith)

-- rows put together are narrow, and have their levels
narrow-put : (x : Line) (ls : List Line) → x.settings < 0x10000 → AllNarrow ls → AllNarrow (put_among x ls)
narrow-put x [] h n = unfold put_among in narrow_more {l = x} h narrow_none
narrow-put x (y ∷ ls) h (narrow_more k n) = opened (go (ltb (pair_of x) (pair_of y)) (eqb (pair_of x) (pair_of y)) (narrow-put x ls h n))
  where
    opened : AllNarrow (pick (ltb (pair_of x) (pair_of y)) (x ∷ y ∷ ls) (pick (eqb (pair_of x) (pair_of y)) (together y x ∷ ls) (y ∷ put_among x ls))) → AllNarrow (put_among x (y ∷ ls))
    opened q = unfold put_among in q

    both : (together y x).settings < 0x10000
    both = unfold together in k

    go : (b c : Bool) → AllNarrow (put_among x ls) → AllNarrow (pick b (x ∷ y ∷ ls) (pick c (together y x ∷ ls) (y ∷ put_among x ls)))
    go true c rest = narrow_more {l = x} h (narrow_more {l = y} k n)
    go false true rest = narrow_more {l = together y x} both n
    go false false rest = narrow_more {l = y} k rest

narrow-all : (ls xs : List Line) → AllNarrow ls → AllNarrow xs → AllNarrow (put_all ls xs)
narrow-all ls [] n m = unfold put_all in n
narrow-all ls (x ∷ xs) n (narrow_more h m) = opened (narrow-all (put_among x ls) xs (narrow-put x ls h n) m)
  where
    opened : AllNarrow (put_all (put_among x ls) xs) → AllNarrow (put_all ls (x ∷ xs))
    opened q = unfold put_all in q

pub told-all : (ls xs : List Line) → AllTold ls → AllTold xs → AllTold (put_all ls xs)
told-all ls [] t u = unfold put_all in t
told-all ls (x ∷ xs) t (told_more h u) = opened (told-all (put_among x ls) xs (told-put x ls h t) u)
  where
    opened : AllTold (put_all (put_among x ls) xs) → AllTold (put_all ls (x ∷ xs))
    opened q = unfold put_all in q

pub told-lines : (s : Summary) (h : Handed s) → misshapen s ≡ false → AllTold (lines_of s)
told-lines s h right =
    let so = sound-handed s h.thirty right in
    all_told (lines_of s)
    (λ i l.
    let near : i < s.count = omega (arith, count-of s so) in
    rw (line-of s i near) (right-told (line_at s i) (used s h.thirty right i near).1))

-- two clean summaries whose join is not refused
module _ (a b : Summary) (ha : Handed a) (hb : Handed b) (ca : Clean a) (cb : Clean b) where
  abbrev sa : Sound a
  sa = sound-handed a ha.thirty ca.shape

  abbrev sb : Sound b
  sb = sound-handed b hb.thirty cb.shape

  told-join : AllTold (join_lines a b)
  told-join = told-all (lines_of a) (lines_of b) (told-lines a ha ca.shape) (told-lines b hb cb.shape)

  rises-join : Rises pair_of (join_lines a b)
  rises-join = rises-all (lines_of a) (lines_of b) sa.rises

  narrow-join : AllNarrow (join_lines a b)
  narrow-join = narrow-all (lines_of a) (lines_of b) (narrow-lines a ha ca.shape) (narrow-lines b hb cb.shape)

  clear : length (join_lines a b) ≤ 30 → AllFew most (join_lines a b) → join_fault a b ≡ 0
  clear few f = fault-clear a b ca cb few (few-page 0 (join_lines a b) few rises-join told-join f)

  pub few-join : join_fault a b ≡ 0 → (length (join_lines a b) ≤ 30) × AllFew most (join_lines a b)
  few-join f = let few = (passed a b f).few in (few, page-few 0 (join_lines a b) few rises-join told-join (not-over a b f))

  module _ (few : length (join_lines a b) ≤ 30) (small : AllFew most (join_lines a b)) where
    pub clean-join : Clean (join_page a b)
    clean-join =
        record {
          shape = shaped-page 0 (join_lines a b) few rises-join told-join;
          kept = unfold page in refl;
          counts = few-page 0 (join_lines a b) few rises-join told-join small;
        }

    pub handed-join : Handed (join_page a b)
    handed-join = record { thirty = thirty; narrow = λ i l. go i l (ltb i (length (join_lines a b))) refl }
      where
        thirty : length (join_page a b).lines ≡ 30
        thirty =
            unfold page in
            length-append (join_lines a b) (replicate (30 - length (join_lines a b)) blank_line)
            ∙ omega (arith, length-replicate (30 - length (join_lines a b)) blank_line)

        narrow_at : (ls : List Line) → AllNarrow ls → (i : ℕ) → i < length ls → (get_or ls i blank_line).settings < 0x10000
        narrow_at [] n i l = absurd (omega arith)
        narrow_at (x ∷ ls) (narrow_more h n) zero l = h
        narrow_at (x ∷ ls) (narrow_more h n) (suc i) l = narrow_at ls n i (omega arith)

        go : (i : ℕ) → i < 30 → (t : Bool) → ltb i (length (join_lines a b)) ≡ t → (line_at (join_page a b) i).settings < 0x10000
        go i l true q =
            let near = ltb-true i (length (join_lines a b)) q in
            omega (arith, ap (λ (y : Line). y.settings) (line-page 0 (join_lines a b) i near), narrow_at (join_lines a b) narrow-join i near)
        go i l false q =
            omega (arith, ap (λ (y : Line). y.settings) (blank-behind 0 (join_lines a b) i (ltb-false i (length (join_lines a b)) q) l))

    lines_join : lines_of (join_page a b) ≡ join_lines a b
    lines_join = lines-page 0 (join_lines a b)

module _ (a b c : Summary) (ha : Handed a) (hb : Handed b) (hc : Handed c) (ca : Clean a) (cb : Clean b) (cc' : Clean c) where
  abbrev la : List Line
  la = lines_of a

  abbrev lb : List Line
  lb = lines_of b

  abbrev lc : List Line
  lc = lines_of c

  abbrev ra : Rises pair_of la
  ra = (sound-handed a ha.thirty ca.shape).rises

  abbrev rb : Rises pair_of lb
  rb = (sound-handed b hb.thirty cb.shape).rises

  abbrev rc : Rises pair_of lc
  rc = (sound-handed c hc.thirty cc'.shape).rises

  abbrev whole : List Line
  whole = put_all (put_all la lb) lc

  grouped : whole ≡ put_all la (put_all lb lc)
  grouped = lines-grouped la lb lc ra rb rc

  -- where the whole has few lines and small counts, every way of making it is clear, and makes it
  module _ (few : length whole ≤ 30) (small : AllFew most whole) where
    few-ab : length (put_all la lb) ≤ 30
    few-ab = omega (arith, all-length (put_all la lb) lc (rises-all la lb ra))

    small-ab : AllFew most (put_all la lb)
    small-ab = few-left most (put_all la lb) lc (rises-all la lb ra) rc small

    turned : put_all la (put_all lb lc) ≡ put_all (put_all lb lc) la
    turned =
        lines-turned la (put_all lb lc) ra (rises-all lb lc rb) (narrow-lines a ha ca.shape)
        (narrow-all lb lc (narrow-lines b hb cb.shape) (narrow-lines c hc cc'.shape))

    few-bc : length (put_all lb lc) ≤ 30
    few-bc = omega (arith, all-length (put_all lb lc) la (rises-all lb lc rb), ap length (grouped ∙ turned))

    small-bc : AllFew most (put_all lb lc)
    small-bc = few-right most la (put_all lb lc) ra (rises-all lb lc rb) (rw grouped at small)

    left_is : from_left a b c ≡ made_of (page 0 whole) 0
    left_is =
        let f = clear a b ha hb ca cb few-ab small-ab in
        let m = made-join a b f in
        let j = join_page a b in
        let lines = lines_join a b ha hb ca cb few-ab small-ab in
        let hj = handed-join a b ha hb ca cb few-ab small-ab in
        let cj = clean-join a b ha hb ca cb few-ab small-ab in
        let same : join_lines j c ≡ whole = ap (λ (ls : List Line). put_all ls lc) lines in
        let g = clear j c hj hc cj cc' (rw same few) (rw same small) in
        ap (λ (r : Made). pick (eqb r.number 0) (join_of r.summary c) r) m ∙ made-join j c g ∙ ap (λ (ls : List Line). made_of (page 0 ls) 0) same

    right_is : from_right a b c ≡ made_of (page 0 whole) 0
    right_is =
        let f = clear b c hb hc cb cc' few-bc small-bc in
        let m = made-join b c f in
        let j = join_page b c in
        let lines = lines_join b c hb hc cb cc' few-bc small-bc in
        let hj = handed-join b c hb hc cb cc' few-bc small-bc in
        let cj = clean-join b c hb hc cb cc' few-bc small-bc in
        let same : join_lines a j ≡ whole = ap (put_all la) lines ∙ sym grouped in
        let g = clear a j ha hj ca cj (rw same few) (rw same small) in
        ap (λ (r : Made). pick (eqb r.number 0) (join_of a r.summary) r) m ∙ made-join a j g ∙ ap (λ (ls : List Line). made_of (page 0 ls) 0) same

    both-are : from_left a b c ≡ from_right a b c
    both-are = left_is ∙ sym right_is

  -- a grouping that is not refused tells so of the whole
  from-left : (from_left a b c).number ≡ 0 → from_left a b c ≡ from_right a b c
  from-left n = go (eqb (join_of a b).number 0) refl n
    where
      go : (t : Bool) → eqb (join_of a b).number 0 ≡ t → (pick t (join_of (join_of a b).summary c) (join_of a b)).number ≡ 0 → from_left a b c ≡ from_right a b c
      go true e q =
          let f : join_fault a b ≡ 0 = sym (number_is a b) ∙ eqb-true (join_of a b).number 0 e in
          let p = few-join a b ha hb ca cb f in
          let j = join_page a b in
          let is-j : (join_of a b).summary ≡ j = ap (λ (r : Made). r.summary) (made-join a b f) in
          let g : join_fault j c ≡ 0 = sym (number_is j c) ∙ ap (λ (s : Summary). (join_of s c).number) (sym is-j) ∙ q in
          let w = few-join j c (handed-join a b ha hb ca cb p.0 p.1) hc (clean-join a b ha hb ca cb p.0 p.1) cc' g in
          let same : join_lines j c ≡ whole = ap (λ (ls : List Line). put_all ls lc) (lines_join a b ha hb ca cb p.0 p.1) in
          both-are (rw same at w.0) (rw same at w.1)
      go false e q = absurd (refused-zero e q)
        where
          refused-zero : eqb (join_of a b).number 0 ≡ false → (join_of a b).number ≡ 0 → ⊥
          refused-zero h z = let bad : ◌≡◌ {A = ℕ} 0 1 = cc (eq-eqb (join_of a b).number 0 z) in omega arith

  from-right : (from_right a b c).number ≡ 0 → from_left a b c ≡ from_right a b c
  from-right n = go (eqb (join_of b c).number 0) refl n
    where
      go : (t : Bool) → eqb (join_of b c).number 0 ≡ t → (pick t (join_of a (join_of b c).summary) (join_of b c)).number ≡ 0 → from_left a b c ≡ from_right a b c
      go true e q =
          let f : join_fault b c ≡ 0 = sym (number_is b c) ∙ eqb-true (join_of b c).number 0 e in
          let p = few-join b c hb hc cb cc' f in
          let j = join_page b c in
          let is-j : (join_of b c).summary ≡ j = ap (λ (r : Made). r.summary) (made-join b c f) in
          let g : join_fault a j ≡ 0 = sym (number_is a j) ∙ ap (λ (s : Summary). (join_of a s).number) (sym is-j) ∙ q in
          let w = few-join a j ha (handed-join b c hb hc cb cc' p.0 p.1) ca (clean-join b c hb hc cb cc' p.0 p.1) g in
          let same : join_lines a j ≡ whole = ap (put_all la) (lines_join b c hb hc cb cc' p.0 p.1) ∙ sym grouped in
          both-are (rw same at w.0) (rw same at w.1)
      go false e q = absurd (refused-zero e q)
        where
          refused-zero : eqb (join_of b c).number 0 ≡ false → (join_of b c).number ≡ 0 → ⊥
          refused-zero h z = let bad : ◌≡◌ {A = ℕ} 0 1 = cc (eq-eqb (join_of b c).number 0 z) in omega arith

  pub grouping-of : ((from_left a b c).number ≡ 0 → from_left a b c ≡ from_right a b c) × ((from_right a b c).number ≡ 0 → from_left a b c ≡ from_right a b c)
  grouping-of = (from-left, from-right)
