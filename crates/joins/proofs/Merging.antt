-- Merging two rows of lines: the line that is next, and that a row which rises, put among others line by line, is the two merged. The second goes by
-- induction: the first line of the row stands below all behind it, so that it can be put first and the rest merged. Assumes nothing.
use mathlib.Core.Path.{◌≡◌, refl, sym, ap, ◌∙◌}
use mathlib.Core.List.{List, [], ◌∷◌, ◌++◌, map, append-nil}
use Prim.Native.Nat.{ℕ, suc, ◌+◌, ◌-◌, ◌<◌, ◌≤◌}
use native.Mathlib.Omega.{arith}
use native.Mathlib.Numerals.{add-one}
use borrow.Author.Tests.{eq-eqb, ne_eqb, lt-ltb, le-ltb}
use lib.ListN.{length, get_or, take, drop, set, replicate, length-append, length-set, take-append-drop, get_or-map}
use lib.Seq.{drop-cons, length-take-le, take-suc-set, drop-set-lt, append_snoc}
use Rattle.std.specs.declared.cmp.Ordering.{Ordering}
use Rattle.std.specs.declared.cmp.Ordering.TheVariants.{Less, Greater, Equal}
use Rattle.std.specs.Ordering.{MatchOrdering}
use Rattle.frame.specs.Rising.{Above, above_more, Rises, rises_more}
use Rattle.summary.specs.declared.Line.{Line}
use Rattle.summary.specs.Line.{pair_of, together, blank_line}
use Rattle.summary.specs.declared.Summary.{Summary}
use Rattle.summary.specs.Handed.{lines_of, most}
use Rattle.summary.specs.Updated.{put_among}
use Rattle.summary.specs.Joined.{put_all, join_lines}
use Rattle.summary.specs.Sound.{Sound, Few}
use Rattle.joins.specs.Inside.Joining.{merged_from, merged, Turn}
use Rattle.summary.proofs.LinesAdded.{count-of, line-of}
use Rattle.summary.proofs.PutAll.{AllFew, few_none, few_more, at-few}
use Rattle.summary.proofs.Putting.{Order, less, same, more, order, pair-together, put-before, put-at, put-after}

-- the pairs of lines as numbers
pub pair-at : (ls : List Line) (i : ℕ) → get_or (map pair_of ls) i 0 ≡ pair_of (get_or ls i blank_line)
pair-at ls i = unfold pair_of in get_or-map pair_of ls i blank_line

-- the line that is next
merged-none : (l : Line) (ls : List Line) → merged (l ∷ ls) [] ≡ l ∷ merged ls []
unfolding merged merged_from
merged-none l ls = refl

merged-first : (l m : Line) (ls ms : List Line) → pair_of l < pair_of m → merged (l ∷ ls) (m ∷ ms) ≡ l ∷ merged ls (m ∷ ms)
unfolding merged merged_from
merged-first l m ls ms h = simp (lt-ltb (pair_of l) (pair_of m) h)

merged-both : (l m : Line) (ls ms : List Line) → pair_of l ≡ pair_of m → merged (l ∷ ls) (m ∷ ms) ≡ together l m ∷ merged ls ms
unfolding merged merged_from
merged-both l m ls ms h = simp (le-ltb (pair_of l) (pair_of m) (omega arith), eq-eqb (pair_of l) (pair_of m) h)

merged-second : (l m : Line) (ls ms : List Line) → pair_of m < pair_of l → merged (l ∷ ls) (m ∷ ms) ≡ m ∷ merged (l ∷ ls) ms
unfolding merged merged_from
merged-second l m ls ms h = simp (le-ltb (pair_of l) (pair_of m) (omega arith), ne_eqb (pair_of l) (pair_of m) (omega arith))

-- a line below all of the other row comes first
merged-below : (l : Line) (ls ms : List Line) (n : ℕ) → pair_of l ≤ n → Above pair_of n ms → merged (l ∷ ls) ms ≡ l ∷ merged ls ms
merged-below l ls [] n h a = merged-none l ls
merged-below l ls (m ∷ ms) n h (above_more q a) = merged-first l m ls ms (omega arith)

-- the first of a row put among the others, and the rest merged
put-merged : (m : Line) (ls ms : List Line) → Above pair_of (pair_of m) ms → merged (put_among m ls) ms ≡ merged ls (m ∷ ms)
put-merged m [] ms a = ap (λ (ls : List Line). merged ls ms) alone ∙ merged-below m [] ms (pair_of m) (omega arith) a ∙ none
  where
    alone : put_among m [] ≡ m ∷ []
    alone = unfold put_among in refl

    none : m ∷ merged [] ms ≡ merged [] (m ∷ ms)
    none = unfold merged in refl
put-merged m (l ∷ ls) ms a = go (put-merged m ls ms a) (order (pair_of l) (pair_of m))
  where
    go : merged (put_among m ls) ms ≡ merged ls (m ∷ ms) → Order (pair_of l) (pair_of m) → merged (put_among m (l ∷ ls)) ms ≡ merged (l ∷ ls) (m ∷ ms)
    go rest (less q) =
        ap (λ (xs : List Line). merged xs ms) (put-after m l ls q) ∙ merged-below l (put_among m ls) ms (pair_of m) (omega arith) a
        ∙ ap (λ (xs : List Line). l ∷ xs) rest ∙ sym (merged-first l m ls ms q)
    go rest (same q) =
        ap (λ (xs : List Line). merged xs ms) (put-at m l ls (sym q))
        ∙ merged-below (together l m) ls ms (pair_of m) (omega (arith, pair-together l m, q)) a ∙ sym (merged-both l m ls ms q)
    go rest (more q) =
        ap (λ (xs : List Line). merged xs ms) (put-before m l ls q) ∙ merged-below m (l ∷ ls) ms (pair_of m) (omega arith) a
        ∙ sym (merged-second l m ls ms q)

pub all-merged : (ls ms : List Line) → Rises pair_of ms → put_all ls ms ≡ merged ls ms
unfolding put_all
all-merged ls [] r = sym (nothing ls)
  where
    nothing : (xs : List Line) → merged xs [] ≡ xs
    nothing [] = unfold merged in refl
    nothing (x ∷ xs) = merged-none x xs ∙ ap (λ (ys : List Line). x ∷ ys) (nothing xs)
all-merged ls (m ∷ ms) (rises_more a r) = all-merged (put_among m ls) ms r ∙ put-merged m ls ms a

-- the line that is next, by the first lines of two rows
pub next-first : (ls ms : List Line) → 0 < length ls → (0 < length ms → pair_of (get_or ls 0 blank_line) < pair_of (get_or ms 0 blank_line))
    → merged ls ms ≡ get_or ls 0 blank_line ∷ merged (drop 1 ls) ms
next-first [] ms near low = absurd (omega arith)
next-first (l ∷ ls) [] near low = merged-none l ls
next-first (l ∷ ls) (m ∷ ms) near low = merged-first l m ls ms (low (omega arith))

pub next-second : (ls ms : List Line) → 0 < length ms → (0 < length ls → pair_of (get_or ms 0 blank_line) < pair_of (get_or ls 0 blank_line))
    → merged ls ms ≡ get_or ms 0 blank_line ∷ merged ls (drop 1 ms)
next-second [] [] near low = absurd (omega arith)
next-second (l ∷ ls) [] near low = absurd (omega arith)
next-second [] (m ∷ ms) near low = unfold merged in refl
next-second (l ∷ ls) (m ∷ ms) near low = merged-second l m ls ms (low (omega arith))

pub next_both : (ls ms : List Line) → 0 < length ls → 0 < length ms → pair_of (get_or ls 0 blank_line) ≡ pair_of (get_or ms 0 blank_line)
    → merged ls ms ≡ together (get_or ls 0 blank_line) (get_or ms 0 blank_line) ∷ merged (drop 1 ls) (drop 1 ms)
next_both [] ms near here e = absurd (omega arith)
next_both (l ∷ ls) [] near here e = absurd (omega arith)
next_both (l ∷ ls) (m ∷ ms) near here e = merged-both l m ls ms e

pub next-none : (ls ms : List Line) → length ls + length ms ≡ 0 → merged ls ms ≡ []
next-none [] [] h = unfold merged in refl
next-none [] (m ∷ ms) h = absurd (omega arith)
next-none (l ∷ ls) ms h = absurd (omega arith)

-- by how their pairs compare
pub turned : (ls ms : List Line) → 0 < length ls → 0 < length ms → (whose : Ordering)
    → MatchOrdering whose (pair_of (get_or ls 0 blank_line) < pair_of (get_or ms 0 blank_line)) (pair_of (get_or ls 0 blank_line) ≡ pair_of (get_or ms 0 blank_line))
    (pair_of (get_or ms 0 blank_line) < pair_of (get_or ls 0 blank_line))
    → Turn ls ms whose
turned ls ms near here Less h = record { first = λ e. (near, next-first ls ms near (λ k. h)); second = λ e. absurd (cc); same = λ e. absurd (cc) }
turned ls ms near here Greater h = record { first = λ e. absurd (cc); second = λ e. (here, next-second ls ms here (λ k. h)); same = λ e. absurd (cc) }
turned ls ms near here Equal h = record { first = λ e. absurd (cc); second = λ e. absurd (cc); same = λ e. (near, (here, next_both ls ms near here h)) }

pub turn-first : (ls ms : List Line) → length ms ≡ 0 → 0 < length ls + length ms → Turn ls ms Less
turn-first ls ms none some =
    record { first = λ e. (omega arith, next-first ls ms (omega arith) (λ k. absurd (omega arith))); second = λ e. absurd (cc); same = λ e. absurd (cc) }

pub turn-second : (ls ms : List Line) → length ls ≡ 0 → 0 < length ls + length ms → Turn ls ms Greater
turn-second ls ms none some =
    record { first = λ e. absurd (cc); second = λ e. (omega arith, next-second ls ms (omega arith) (λ k. absurd (omega arith))); same = λ e. absurd (cc) }

-- so many lines of an array are the first of some lines, the rest is blank, and two rows merged are those behind them
pub record Merging (all out : List Line) (at : ℕ) (ls ms : List Line) : Type 0 where
  pub done : take at out ++ merged ls ms ≡ all
  pub free : drop at out ≡ replicate (30 - at) blank_line
  pub long : length out ≡ 30
  pub few : at ≤ 30

pub none-merged : (ls ms out : List Line) → out ≡ replicate 30 blank_line → Merging (merged ls ms) out 0 ls ms
none-merged ls ms out e = record { done = refl; free = e; long = ap length e; few = omega arith }

module _ (all out : List Line) (at : ℕ) (ls ms : List Line) (g : Merging all out at ls ms) where
  counted : at + length (merged ls ms) ≡ length all
  counted =
      let e : length (take at out) ≡ at = length-take-le at out (omega (arith, g.long, g.few)) in
      omega (arith, length-append (take at out) (merged ls ms), ap length g.done, e)

  module _ (small : length all ≤ 30) (x : Line) (ls' ms' : List Line) (next : merged ls ms ≡ x ∷ merged ls' ms') where
    pub place-free : at < 30
    place-free = omega (arith, counted, ap length next)

    pub one-merged : Merging all (set out at x) (at + 1) ls' ms'
    one-merged =
        let near : at < length out = omega (arith, place-free, g.long) in
        rw (add-one at)
        (record {
          done = ap (λ (xs : List Line). xs ++ rest) (take-suc-set out at x near) ∙ append_snoc (take at out) x rest ∙ ap (λ (xs : List Line). take at out ++ xs) (sym next) ∙ g.done;
          free = drop-set-lt (suc at) out at x (omega arith) ∙ tail near;
          long = length-set out at x ∙ g.long;
          few = omega (arith, place-free);
        })
      where
        rest : List Line
        rest = merged ls' ms'

        behind : {y z : Line} {ys zs : List Line} → y ∷ ys ≡ z ∷ zs → ys ≡ zs
        behind e = ap (drop 1) e

        tail : at < length out → drop (suc at) out ≡ replicate (30 - suc at) blank_line
        tail near =
            let less_one : 30 - at ≡ suc (30 - suc at) = omega (arith, place-free) in
            behind (sym (drop-cons out at blank_line near) ∙ g.free ∙ ap (λ (n : ℕ). replicate n blank_line) less_one)

  -- all are merged
  pub all_done : length ls + length ms ≡ 0 → (at ≡ length all) × (out ≡ all ++ replicate (30 - at) blank_line)
  all_done h =
      let none = next-none ls ms h in
      let whole : take at out ≡ all = sym (append-nil (take at out)) ∙ ap (λ (xs : List Line). take at out ++ xs) (sym none) ∙ g.done in
      (omega (arith, counted, ap length none), sym (take-append-drop at out) ∙ ap (λ (xs : List Line). xs ++ drop at out) whole ∙ ap (λ (xs : List Line). all ++ xs) g.free)

-- counts of lines that are not over
pub few-lines : (s : Summary) → Sound s → Few s → AllFew most (lines_of s)
few-lines s sound few =
    at-few most (lines_of s)
    (λ i l.
    let near : i < s.count = omega (arith, count-of s sound) in
    rw (line-of s i near) (few.good i near, few.faulty i near))

pub few-rest : (n : ℕ) (ls : List Line) → AllFew n ls → AllFew n (drop 1 ls)
few-rest n [] a = few_none
few-rest n (x ∷ ls) (few_more g f a) = a

-- two sound summaries joined are their lines merged
pub join-merged : (a b : Summary) → Sound b → join_lines a b ≡ merged (lines_of a) (lines_of b)
join-merged a b sound = all-merged (lines_of a) (lines_of b) sound.rises
