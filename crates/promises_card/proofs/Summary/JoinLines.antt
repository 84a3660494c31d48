-- The lines of a join: what they hold at each pair, and so in which order they were put does not matter. Assumes nothing.
use mathlib.Core.Path.{◌≡◌, refl, sym, ap, ◌∙◌}
use mathlib.Core.Bool.{Bool, true, false}
use mathlib.Core.List.{List, [], ◌∷◌}
use Prim.Native.Nat.{ℕ, suc, ◌+◌, ◌<◌, min, max}
use native.Mathlib.Omega.{arith}
use borrow.Author.Tests.{eq-eqb, ne_eqb}
use lib.Dec.{eqb}
use lib.ListN.{length, get_or}
use Rattle.frame.specs.Pick.{pick}
use Rattle.frame.specs.Rising.{Rises, rises_more, held_at}
use Rattle.frame.proofs.Rising.{held_none, held_first, held-later, same-rising}
use Rattle.summary.specs.declared.Line.{Line}
use Rattle.summary.specs.Line.{pair_by, pair_of, together, blank_line}
use Rattle.summary.specs.Updated.{put_among}
use Rattle.summary.specs.Joined.{put_all}
use Rattle.summary.proofs.KeptPairs.{Same, is, isnt, compare}
use Rattle.summary.proofs.Levels.{min-picks, max-picks, two-turned}
use Rattle.summary.proofs.Putting.{joined, held-put, rises-put}
use Rattle.summary.proofs.PutAll.{rises-all}
use Rattle.promises_card.specs.Summary.Join.{both_lines}

-- at one pair
one_more : (x : Line) (hs : List Line) → both_lines (joined x hs) [] ≡ both_lines hs (x ∷ [])
one_more x [] = refl
one_more x (h ∷ hs) = refl

single : (k : ℕ) (ls : List Line) → both_lines (held_at pair_of k ls) [] ≡ held_at pair_of k ls
single k [] = unfold held_at in refl
single k (l ∷ ls) = go (compare (pair_of l) k) (single k ls)
  where
    go : Same (pair_of l) k → both_lines (held_at pair_of k ls) [] ≡ held_at pair_of k ls → both_lines (held_at pair_of k (l ∷ ls)) [] ≡ held_at pair_of k (l ∷ ls)
    go (is q) rest = ap (λ (h : List Line). both_lines h []) (held_first pair_of l ls k q) ∙ sym (held_first pair_of l ls k q)
    go (isnt q) rest = ap (λ (h : List Line). both_lines h []) (held-later pair_of l ls k q) ∙ rest ∙ sym (held-later pair_of l ls k q)

pub held_all : (k : ℕ) (ls xs : List Line) → Rises pair_of ls → Rises pair_of xs → held_at pair_of k (put_all ls xs) ≡ both_lines (held_at pair_of k ls) (held_at pair_of k xs)
held_all k ls [] rl rx = (unfold put_all in unfold held_at in sym (single k ls))
held_all k ls (x ∷ xs) rl (rises_more a rx) = opened ∙ held_all k (put_among x ls) xs (rises-put x ls rl) rx ∙ go (compare (pair_of x) k)
  where
    opened : held_at pair_of k (put_all ls (x ∷ xs)) ≡ held_at pair_of k (put_all (put_among x ls) xs)
    opened = unfold put_all in refl

    after-put : (b : Bool) → eqb (pair_of x) k ≡ b → held_at pair_of k (put_among x ls) ≡ pick b (joined x (held_at pair_of k ls)) (held_at pair_of k ls)
    after-put b h = held-put x ls rl k ∙ ap (λ (t : Bool). pick t (joined x (held_at pair_of k ls)) (held_at pair_of k ls)) h

    go : Same (pair_of x) k → both_lines (held_at pair_of k (put_among x ls)) (held_at pair_of k xs) ≡ both_lines (held_at pair_of k ls) (held_at pair_of k (x ∷ xs))
    go (is q) =
        ap (λ (h : List Line). both_lines h (held_at pair_of k xs)) (after-put true (eq-eqb (pair_of x) k q))
        ∙ ap (both_lines (joined x (held_at pair_of k ls))) (held_none pair_of k (omega arith) a)
        ∙ one_more x (held_at pair_of k ls) ∙ ap (both_lines (held_at pair_of k ls)) (sym (held_first pair_of x xs k q))
    go (isnt q) =
        ap (λ (h : List Line). both_lines h (held_at pair_of k xs)) (after-put false (ne_eqb (pair_of x) k q))
        ∙ ap (both_lines (held_at pair_of k ls)) (sym (held-later pair_of x xs k q))

-- lines of one pair, either way round
module _ (x y : Line) (nx : x.settings < 0x10000) (ny : y.settings < 0x10000) (same : pair_of x ≡ pair_of y) where
  address_same : x.address ≡ y.address
  address_same = go same
    where
      go : pair_of x ≡ pair_of y → x.address ≡ y.address
      go h = unfold pair_of in unfold pair_by in omega (arith, nx, ny, h)

  settings-same : x.settings ≡ y.settings
  settings-same = go same
    where
      go : pair_of x ≡ pair_of y → x.settings ≡ y.settings
      go h = unfold pair_of in unfold pair_by in omega (arith, nx, ny, h)

  pub turned : together x y ≡ together y x
  unfolding together
  turned =
      let a = address_same in
      let s = settings-same in
      let low = two-turned min min-picks x.lowest y.lowest in
      let high = two-turned max max-picks x.highest y.highest in
      let good : x.good + y.good ≡ y.good + x.good = omega arith in
      let faulty : x.faulty + y.faulty ≡ y.faulty + x.faulty = omega arith in
      λ i. record { address = a i; settings = s i; lowest = low i; highest = high i; good = good i; faulty = faulty i }

pub data AllNarrow : List Line → Type 0 where
  narrow_none : AllNarrow []
  narrow_more : {l : Line} {ls : List Line} → l.settings < 0x10000 → AllNarrow ls → AllNarrow (l ∷ ls)

pub all-narrow : (ls : List Line) → ((i : ℕ) → i < length ls → (get_or ls i blank_line).settings < 0x10000) → AllNarrow ls
all-narrow [] h = narrow_none
all-narrow (x ∷ ls) h = narrow_more {l = x} (h 0 (omega arith)) (all-narrow ls (λ i l. h (suc i) (omega arith)))

-- what is held at a pair is of that pair, and narrow
data Holds (k : ℕ) : List Line → Type 0 where
  nothing : Holds k []
  line : {x : Line} → pair_of x ≡ k → x.settings < 0x10000 → Holds k (x ∷ [])

holds : (k : ℕ) (ls : List Line) → AllNarrow ls → Holds k (held_at pair_of k ls)
holds k [] n = unfold held_at in nothing
holds k (l ∷ ls) (narrow_more h n) = go (compare (pair_of l) k) (holds k ls n)
  where
    go : Same (pair_of l) k → Holds k (held_at pair_of k ls) → Holds k (held_at pair_of k (l ∷ ls))
    go (is q) rest = rw (held_first pair_of l ls k q) (line {x = l} q h)
    go (isnt q) rest = rw (held-later pair_of l ls k q) rest

both-turned : (k : ℕ) (xs ys : List Line) → Holds k xs → Holds k ys → both_lines xs ys ≡ both_lines ys xs
both-turned k [] [] nothing nothing = refl
both-turned k [] (y ∷ []) nothing (line q m) = refl
both-turned k [] (y ∷ (_ ∷ _)) _ h = elim h [ ]
both-turned k (x ∷ []) [] (line p n) nothing = refl
both-turned k (x ∷ []) (y ∷ []) (line p n) (line q m) = ap (λ (z : Line). z ∷ []) (turned x y n m (p ∙ sym q))
both-turned k (x ∷ []) (y ∷ (_ ∷ _)) _ h = elim h [ ]
both-turned k (x ∷ (_ ∷ _)) ys h _ = elim h [ ]

pub lines-turned : (ls xs : List Line) → Rises pair_of ls → Rises pair_of xs → AllNarrow ls → AllNarrow xs → put_all ls xs ≡ put_all xs ls
lines-turned ls xs rl rx nl nx =
    same-rising pair_of (put_all ls xs) (put_all xs ls) (rises-all ls xs rl) (rises-all xs ls rx)
    (λ k. held_all k ls xs rl rx ∙ both-turned k (held_at pair_of k ls) (held_at pair_of k xs) (holds k ls nl) (holds k xs nx) ∙ sym (held_all k xs ls rx rl))
