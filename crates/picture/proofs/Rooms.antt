-- The room of all sections: no record is of two pairs, so the records of all pairs together are no more than the list. Assumes nothing.
use mathlib.Core.Path.{◌≡◌, refl, ap}
use mathlib.Core.Bool.{Bool, true, false}
use mathlib.Core.List.{List, [], ◌∷◌, map}
use Prim.Native.Nat.{ℕ, ◌+◌, ◌*◌, ◌≤◌}
use native.Mathlib.Omega.{arith}
use borrow.Author.Tests.{eq-eqb, ne_eqb}
use lib.Dec.{eqb}
use lib.ListN.{length}
use Rattle.frame.specs.Pick.{pick}
use Rattle.frame.specs.Rising.{Above, above_none, above_more, Rises, rises_none, rises_more}
use Rattle.sheet.specs.Record.{Entry}
use Rattle.summary.specs.declared.Line.{Line}
use Rattle.summary.specs.Line.{pair_of}
use Rattle.summary.specs.Worked.{pair_in, entries_of_pair, line_for}
use Rattle.summary.proofs.KeptPairs.{itself, Same, is, isnt, compare}
use Rattle.summary.proofs.PairFigures.{pair_line}
use Rattle.picture.specs.Inside.Room.{room_of}

-- how many of some pairs are one, and how many records some pairs have
hits : ℕ → List ℕ → ℕ
hits p [] = 0
hits p (k ∷ ks) = pick (eqb p k) 1 0 + hits p ks

counted : List Entry → List ℕ → ℕ
counted l [] = 0
counted l (k ∷ ks) = length (entries_of_pair k l) + counted l ks

none_above : (p k : ℕ) (ks : List ℕ) → p ≤ k → Above itself k ks → hits p ks ≡ 0
unfolding hits
none_above p k [] h above_none = refl
none_above p k (j ∷ js) h (above_more q a) =
    let far : p ≡ j → ⊥ = λ e. omega arith in
    let rest = none_above p k js h a in
    rw (ne_eqb p j far) (omega (arith, rest))

one_hit : (p : ℕ) (ks : List ℕ) → Rises itself ks → hits p ks ≤ 1
unfolding hits
one_hit p [] rises_none = omega arith
one_hit p (k ∷ ks) (rises_more a r) = go (compare p k) (one_hit p ks r)
  where
    go : Same p k → hits p ks ≤ 1 → pick (eqb p k) 1 0 + hits p ks ≤ 1
    go (is e) h = rw (eq-eqb p k e) (omega (arith, none_above p k ks (omega arith) a))
    go (isnt n) h = rw (ne_eqb p k n) (omega (arith, h))

counted_none : (ks : List ℕ) → counted [] ks ≡ 0
unfolding counted entries_of_pair
counted_none [] = refl
counted_none (k ∷ ks) = omega (arith, counted_none ks)

counted-more : (e : Entry) (l : List Entry) (ks : List ℕ) → counted (e ∷ l) ks ≡ hits (pair_in e) ks + counted l ks
unfolding counted hits entries_of_pair
counted-more e l [] = refl
counted-more e l (k ∷ ks) = go (eqb (pair_in e) k) (counted-more e l ks)
  where
    go : (b : Bool) → counted (e ∷ l) ks ≡ hits (pair_in e) ks + counted l ks → length (pick b (e ∷ entries_of_pair k l) (entries_of_pair k l)) + counted (e ∷ l) ks ≡ pick b 1 0 + hits (pair_in e) ks + (length (entries_of_pair k l) + counted l ks)
    go true h = omega arith
    go false h = omega arith

counted-few : (l : List Entry) (ks : List ℕ) → Rises itself ks → counted l ks ≤ length l
counted-few [] ks r = omega (arith, counted_none ks)
counted-few (e ∷ l) ks r = omega (arith, counted-more e l ks, one_hit (pair_in e) ks r, counted-few l ks r)

-- the room of the lines of some pairs
room-is : (l : List Entry) (ks : List ℕ) → room_of l (map (line_for l) ks) ≡ 4600 * length ks + 624 * counted l ks
unfolding room_of counted
room-is l [] = refl
room-is l (k ∷ ks) =
    let own : length (entries_of_pair (pair_of (line_for l k)) l) ≡ length (entries_of_pair k l) = ap (λ (j : ℕ). length (entries_of_pair j l)) (pair_line l k) in
    omega (arith, room-is l ks)

pub room-few : (l : List Entry) (ks : List ℕ) → Rises itself ks → length ks ≤ 30 → room_of l (map (line_for l) ks) ≤ 138000 + 624 * length l
room-few l ks r few = omega (arith, room-is l ks, counted-few l ks r)

-- the records of a pair that was told, and those of its line
pub many-are : (l : List Entry) (x : Line) (pair : ℕ) → pair ≡ pair_of x → length (entries_of_pair pair l) ≡ length (entries_of_pair (pair_of x) l)
many-are l x pair p = ap (λ (j : ℕ). length (entries_of_pair j l)) p
