-- One turn of listening: a piece of the samples, cut at the limit, handed to the hearing of the lines. Assumes nothing.
use mathlib.Core.Path.{◌≡◌, refl, sym, ap, ap₂, subst, ◌∙◌}
use mathlib.Core.Bool.{Bool, true, false, ◌&&◌, ◌||◌, not, true≢false}
use mathlib.Core.List.{List, [], ◌∷◌, ◌++◌}
use Prim.Native.Nat.{ℕ, ◌+◌, ◌-◌, ◌<◌, ◌≤◌, min, max}
use native.Mathlib.Omega.{arith}
use native.Mathlib.Nat.{add-zero, zero-add}
use lib.Dec.{eqb, leb, ltb}
use lib.ListN.{length, take, drop, length-take, length-drop, take-append-drop, drop_of_length-le}
use lib.Seq.{drop-drop}
use borrow.Author.Tests.{ltb-true, le-leb, lt-leb, not-true, not-false}
use Rattle.frame.specs.Pick.{pick}
use Rattle.lines.specs.declared.SoFar.{SoFar}
use Rattle.lines.specs.declared.LinesTold.{LinesTold}
use Rattle.lines.specs.SoFar.{is_rest}
use Rattle.lines.specs.Hearing.{MessageTold, nothing, message, spoiled, Hearing, number_told, count_told, bytes_told, hear}
use Rattle.lines.specs.Calls.{answered}
use Rattle.lines.proofs.Cases.{of-pick}
use Rattle.polling.specs.declared.Pace.{Pace}
use Rattle.polling.specs.declared.listening.Told.{Told}
use Rattle.polling.specs.declared.listening.Told.TheVariants.{Message, Spoiled}
use Rattle.polling.specs.declared.listening.Ear.TheVariants.{Closed}
use Rattle.polling.specs.Pace.{timing_of}
use Rattle.polling.specs.Listening.{Listened, still_going, settled_by, later, listen}
use Rattle.polling.specs.Inside.Ears.{Ready, limit_of, next_limit, end_of, cut_to, told_by, told_in, ear_of}
use Rattle.polling.proofs.Paces.{Good}
use Rattle.polling.proofs.Pieces.{later-later, untold, Part, shut, onward, part}

later-none : (l : Listened) → l ≡ later 0 l
later-none (still_going left taken) = ap (still_going left) (sym (zero-add taken))
later-none (settled_by told taken) = ap (settled_by told) (sym (zero-add taken))

-- before the first turn, and after the last
pub first : (p : Pace) (s : SoFar) (before : ℕ) (xs : List ℕ) → listen p s before xs ≡ later 0 (listen p s (before + 0) xs)
first p s before xs = later-none (listen p s before xs) ∙ ap (λ (n : ℕ). later 0 (listen p s n xs)) (sym (add-zero before))

pub at-end : (p : Pace) (s : SoFar) (passed i : ℕ) (xs : List ℕ) → length xs ≤ i → later i (listen p s passed (drop i xs)) ≡ still_going s i
unfolding listen
at-end p s passed i xs h = ap (λ (l : List ℕ). later i (listen p s passed l)) (drop_of_length-le xs h) ∙ ap (still_going s) (add-zero i)

-- the limit is never above `longest`
pub limit-most : (p : Pace) → Good p → (s : SoFar) → limit_of p s ≤ p.longest
limit-most p g s = of-pick (λ (n : ℕ). n ≤ p.longest) (is_rest s) p.wait p.longest (λ e. g.wait) (λ e. omega arith)

-- and never below `wait`; so the one that comes next is not behind it, and is reached where it is
wait-first : (p : Pace) → Good p → (s : SoFar) → p.wait ≤ limit_of p s
wait-first p g s = of-pick (λ (n : ℕ). p.wait ≤ n) (is_rest s) p.wait p.longest (λ e. omega arith) (λ e. g.wait)

pub next-limit : (p : Pace) → Good p → (s : SoFar) (passed n : ℕ) → n ≡ next_limit p s passed → (n ≤ limit_of p s) × (n ≤ passed → limit_of p s ≤ passed)
next-limit p g s passed n e = go (ltb passed p.wait) refl
  where
    go : (b : Bool) → ltb passed p.wait ≡ b → (n ≤ limit_of p s) × (n ≤ passed → limit_of p s ≤ passed)
    go true t =
        let is : n ≡ p.wait = e ∙ ap (λ (b : Bool). pick b p.wait (limit_of p s)) t in
        (omega (arith, is, wait-first p g s), λ h. absurd (omega (arith, is, h, ltb-true passed p.wait t)))
    go false t =
        let is : n ≡ limit_of p s = e ∙ ap (λ (b : Bool). pick b p.wait (limit_of p s)) t in
        (omega (arith, is), λ h. omega (arith, is, h))

-- where a piece is cut
pub cut_by : (p : Pace) (s : SoFar) (k many limit passed : ℕ) → k ≡ cut_to many limit passed → limit ≡ next_limit p s passed → k ≡ cut_to many (next_limit p s passed) passed
cut_by p s k many limit passed e f = e ∙ ap (λ (n : ℕ). cut_to many n passed) f

cut-facts : (many limit passed k : ℕ) → 1 ≤ many → limit ≤ 10000000 → k ≡ min (max (limit - passed) 1) many
    → (1 ≤ k) × (k ≤ many) × ((j : ℕ) → 1 ≤ j → j < k → passed + j < limit) × (k ≤ 10000000)
cut-facts many limit passed k some most e = (omega arith, omega arith, λ j a b. omega arith, omega arith)

module _ (p : Pace) (g : Good p) (s : SoFar) (before i k : ℕ) (xs : List ℕ) (more : i < length xs) (cut : k ≡ cut_to (length xs - i) (next_limit p s (before + i)) (before + i)) where
  pub cut-so : (1 ≤ k) × (k ≤ length xs - i) × ((j : ℕ) → 1 ≤ j → j < k → before + i + j < limit_of p s) × (k ≤ 10000000)
  cut-so =
      let limit = next_limit p s (before + i) in
      let near = (next-limit p g s (before + i) limit refl).0 in
      let so = cut-facts (length xs - i) limit (before + i) k (omega arith) (omega (arith, near, limit-most p g s, g.longest)) cut in
      (so.0, so.1, λ j a b. omega (arith, near, so.2 j a b), so.3)

-- What the lines told of it is told of the try.
told-ear : (t : MessageTold) → (not (eqb (count_told t) 0) || not (eqb (number_told t) 0)) ≡ true
    → pick (eqb (number_told t) 0) (Message (count_told t) (bytes_told t)) (Spoiled (number_told t)) ≡ told_by t
told-ear nothing e = absurd (true≢false (sym e))
told-ear (message count bits) e = refl
told-ear (spoiled number) e = ap (λ (b : Bool). pick b (Message 0 (bytes_told (spoiled number))) (Spoiled number)) (not-true (eqb number 0) e)

none_told : (t : MessageTold) → (not (eqb (count_told t) 0) || not (eqb (number_told t) 0)) ≡ false → untold t ≡ true
none_told t e = go (eqb (count_told t) 0) (eqb (number_told t) 0) e
  where
    go : (a b : Bool) → (not a || not b) ≡ false → (a && b) ≡ true
    go true b e = not-false b e
    go false b e = absurd (true≢false e)

-- What a turn comes to, where the lines told so much of the piece.
pub record Turn (p : Pace) (s : SoFar) (before i : ℕ) (xs : List ℕ) (told : LinesTold) : Type 0 where
  pub few : i + told.taken ≤ length xs
  pub small : told.taken ≤ 10000000
  pub closes : (not (eqb told.count 0) || not (eqb told.number 0)) ≡ true
      → Closed (told_in told) (i + told.taken) ≡ ear_of (later i (listen p s (before + i) (drop i xs)))
  pub some : (not (eqb told.count 0) || not (eqb told.number 0)) ≡ false → 1 ≤ told.taken
  pub ready : (not (eqb told.count 0) || not (eqb told.number 0)) ≡ false → Ready told.so_far
  pub ends : (not (eqb told.count 0) || not (eqb told.number 0)) ≡ false → limit_of p told.so_far ≤ before + (i + told.taken)
      → later i (listen p s (before + i) (drop i xs)) ≡ settled_by (end_of told.so_far) (i + told.taken)
  pub goes : (not (eqb told.count 0) || not (eqb told.number 0)) ≡ false → before + (i + told.taken) < limit_of p told.so_far
      → later i (listen p s (before + i) (drop i xs)) ≡ later (i + told.taken) (listen p told.so_far (before + (i + told.taken)) (drop (i + told.taken) xs))

module _ (p : Pace) (g : Good p) (s : SoFar) (r : Ready s) (before i k : ℕ) (xs : List ℕ) (more : i < length xs) (cut : k ≡ cut_to (length xs - i) (next_limit p s (before + i)) (before + i)) where
  abbrev ys : List ℕ
  ys = take (i + k - i) (drop i xs)

  abbrev zs : List ℕ
  zs = drop (i + k) xs

  cuts : (1 ≤ k) × (k ≤ length xs - i) × ((j : ℕ) → 1 ≤ j → j < k → before + i + j < limit_of p s) × (k ≤ 10000000)
  cuts = cut-so p g s before i k xs more cut

  long : length ys ≡ k
  long = length-take (i + k - i) (drop i xs) ∙ omega (arith, length-drop i xs, cuts.1)

  whole : ys ++ zs ≡ drop i xs
  whole =
      let size : i + k - i ≡ k = omega arith in
      ap (λ (n : ℕ). take n (drop i xs) ++ zs) size ∙ ap (λ (l : List ℕ). take k (drop i xs) ++ l) (sym (drop-drop k i xs)) ∙ take-append-drop k (drop i xs)

  its-part : Part p g s (before + i) ys zs (hear (timing_of p) s ys)
  its-part = go ys long
    where
      go : (l : List ℕ) → length l ≡ k → Part p g s (before + i) l zs (hear (timing_of p) s l)
      go [] e = absurd (omega (arith, cuts.0))
      go (x ∷ l) e = part p g s r (before + i) x l zs (λ j a b. cuts.2 j a (omega arith))

  module _ (h : Hearing) where
    abbrev all : Listened
    all = later i (listen p s (before + i) (drop i xs))

    by_part : Part p g s (before + i) ys zs h → Turn p s before i xs (answered h)
    by_part (shut told few is) =
        record {
          few = omega (arith, few, long, cuts.1);
          small = omega (arith, few, long, cuts.3);
          closes = λ e. ap (λ (t : Told). Closed t (i + h.taken)) (told-ear h.told e) ∙ ap ear_of (sym (ap (λ (l : List ℕ). later i (listen p s (before + i) l)) (sym whole) ∙ ap (later i) is));
          some = λ e. absurd (true≢false (sym (none_told h.told e) ∙ told));
          ready = λ e. absurd (true≢false (sym (none_told h.told e) ∙ told));
          ends = λ e. absurd (true≢false (sym (none_told h.told e) ∙ told));
          goes = λ e. absurd (true≢false (sym (none_told h.told e) ∙ told));
        }
    by_part (onward told taken left is) =
        let size : h.taken ≡ k = taken ∙ long in
        let sum : before + i + length ys ≡ before + (i + h.taken) = omega (arith, taken) in
        let start : all ≡ later i (pick (leb (limit_of p h.left) (before + (i + h.taken))) (settled_by (end_of h.left) h.taken) (later h.taken (listen p h.left (before + (i + h.taken)) zs)))
        = ap (λ (l : List ℕ). later i (listen p s (before + i) l)) (sym whole) ∙ ap (later i) is
        ∙ ap₂ (λ (n m : ℕ). later i (pick (leb (limit_of p h.left) n) (settled_by (end_of h.left) m) (later m (listen p h.left n zs)))) sum (sym taken) in
        record {
          few = omega (arith, size, cuts.1);
          small = omega (arith, size, cuts.3);
          closes = λ e. absurd (true≢false (sym e ∙ ap (λ (t : MessageTold). not (eqb (count_told t) 0) || not (eqb (number_told t) 0)) told));
          some = λ e. omega (arith, size, cuts.0);
          ready = λ e. left;
          ends = λ e b. start
              ∙ ap (λ (t : Bool). later i (pick t (settled_by (end_of h.left) h.taken) (later h.taken (listen p h.left (before + (i + h.taken)) zs)))) (le-leb (limit_of p h.left) (before + (i + h.taken)) b);
          goes = λ e b. start
              ∙ ap (λ (t : Bool). later i (pick t (settled_by (end_of h.left) h.taken) (later h.taken (listen p h.left (before + (i + h.taken)) zs)))) (lt-leb (limit_of p h.left) (before + (i + h.taken)) b)
              ∙ later-later i h.taken (listen p h.left (before + (i + h.taken)) zs)
              ∙ ap (λ (n : ℕ). later (i + h.taken) (listen p h.left (before + (i + h.taken)) (drop (i + n) xs))) (sym size);
        }

  pub turn : (told : LinesTold) → told ≡ answered (hear (timing_of p) s ys) → Turn p s before i xs told
  turn told e = subst (Turn p s before i xs) (sym e) (by_part (hear (timing_of p) s ys) its-part)
