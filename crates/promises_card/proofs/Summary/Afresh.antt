-- Made afresh: what the call answers is its definition. That the lowest is the least of the levels and the highest the greatest goes once, over any rule
-- that picks one of two and is better than both. Assumes nothing.
use mathlib.Core.Path.{◌≡◌, refl, sym, ap, ◌∙◌}
use mathlib.Core.Bool.{Bool, true, false}
use mathlib.Core.List.{List, [], ◌∷◌, map}
use Prim.Native.Nat.{ℕ, zero, suc, ◌<◌, ◌≤◌, min, max}
use native.Mathlib.Omega.{arith}
use borrow.Author.Tests.{leb-true, leb-false}
use lib.Dec.{leb}
use lib.ListN.{length, get_or}
use Rattle.frame.specs.Pick.{pick}
use Rattle.frame.specs.Rising.{held_at}
use Rattle.sheet.specs.Record.{Entry}
use Rattle.sheet.specs.Slots.{size_allowed, list_of}
use Rattle.summary.specs.declared.Summary.{Summary}
use Rattle.summary.specs.declared.Made.{Made}
use Rattle.summary.specs.Line.{pair_of, of_two, blank_summary}
use Rattle.summary.specs.Worked.{entries_of_pair, good_levels, picked_by, figures, line_for, kept_pairs, among, in_order, other_records, summary_of}
use Rattle.summary.specs.Handed.{lines_of}
use Rattle.summary.specs.Calls.{made_of, afresh}
use Rattle.summary.proofs.KeptPairs.{among-order}
use Rattle.summary.proofs.Levels.{Picks, min-picks, max-picks, none_right, of-levels}
use Rattle.summary.proofs.OneRecordMore.{worked, held-lines}
use Rattle.summary.proofs.Pages.{lines-page}
use Rattle.summary.proofs.PairFigures.{pair_line, counts-are}
use Rattle.summary.proofs.Shaped.{Levels, levels_more, levels-good, picked-some, told-figures}
use Rattle.promises_card.specs.Summary.Afresh.{TellsOf, Afresh}

-- A rule that picks one of two levels, better than both.
record Best (rule : ℕ → ℕ → ℕ) (Better : ℕ → ℕ → Type 0) : Type 0 where
  picks : Picks rule
  itself : (a : ℕ) → Better a a
  first : (a b : ℕ) → Better (rule a b) a
  second : (a b c : ℕ) → Better b c → Better (rule a b) c
  one_of : (a b : ℕ) → Bool
  is-first : (a b : ℕ) → one_of a b ≡ true → rule a b ≡ a
  is_second : (a b : ℕ) → one_of a b ≡ false → rule a b ≡ b

least : Best min (λ a b. a ≤ b)
least =
    record {
      picks = min-picks;
      itself = λ a. omega arith;
      first = λ a b. omega arith;
      second = λ a b c h. omega arith;
      one_of = leb;
      is-first = λ a b h. omega (arith, leb-true a b h);
      is_second = λ a b h. omega (arith, leb-false a b h);
    }

greatest : Best max (λ a b. b ≤ a)
greatest =
    record {
      picks = max-picks;
      itself = λ a. omega arith;
      first = λ a b. omega arith;
      second = λ a b c h. omega arith;
      one_of = λ a b. leb b a;
      is-first = λ a b h. omega (arith, leb-true b a h);
      is_second = λ a b h. omega (arith, leb-false b a h);
    }

module _ (rule : ℕ → ℕ → ℕ) (Better : ℕ → ℕ → Type 0) (best : Best rule Better) where
  alone : (n : ℕ) → picked_by rule (n ∷ []) ≡ n
  unfolding picked_by
  alone n = none_right rule n

  before : (n m : ℕ) (ns : List ℕ) → Levels (n ∷ m ∷ ns) → picked_by rule (n ∷ m ∷ ns) ≡ rule n (picked_by rule (m ∷ ns))
  before n m ns (levels_more p a) = opened ∙ of-levels rule n (picked_by rule (m ∷ ns)) p (picked-some rule best.picks m ns a)
    where
      opened : picked_by rule (n ∷ m ∷ ns) ≡ of_two rule n (picked_by rule (m ∷ ns))
      opened = unfold picked_by in refl

  better : (ns : List ℕ) → Levels ns → (i : ℕ) → i < length ns → Better (picked_by rule ns) (get_or ns i 0)
  better [] a i l = absurd (omega arith)
  better (n ∷ []) a zero l = rw (alone n) (best.itself n)
  better (n ∷ []) a (suc i) l = absurd (omega arith)
  better (n ∷ m ∷ ns) (levels_more p a) zero l = rw (before n m ns (levels_more p a)) (best.first n (picked_by rule (m ∷ ns)))
  better (n ∷ m ∷ ns) (levels_more p a) (suc i) l =
      rw (before n m ns (levels_more p a)) (best.second n (picked_by rule (m ∷ ns)) (get_or (m ∷ ns) i 0) (better (m ∷ ns) a i (omega arith)))

  found : (ns : List ℕ) → Levels ns → 0 < length ns → (i : ℕ) × ((i < length ns) × (get_or ns i 0 ≡ picked_by rule ns))
  found [] a l = absurd (omega arith)
  found (n ∷ []) a l = (0, (omega arith, sym (alone n)))
  found (n ∷ m ∷ ns) (levels_more p a) l = go (best.one_of n (picked_by rule (m ∷ ns))) refl (found (m ∷ ns) a (omega arith))
    where
      go : (b : Bool) → best.one_of n (picked_by rule (m ∷ ns)) ≡ b → ((i : ℕ) × ((i < length (m ∷ ns)) × (get_or (m ∷ ns) i 0 ≡ picked_by rule (m ∷ ns))))
          → (i : ℕ) × ((i < length (n ∷ m ∷ ns)) × (get_or (n ∷ m ∷ ns) i 0 ≡ picked_by rule (n ∷ m ∷ ns)))
      go true h rest = (0, (omega arith, sym (before n m ns (levels_more p a) ∙ best.is-first n (picked_by rule (m ∷ ns)) h)))
      go false h rest =
          (suc rest.0, (omega (arith, rest.1.0), rest.1.1 ∙ sym (before n m ns (levels_more p a) ∙ best.is_second n (picked_by rule (m ∷ ns)) h)))

tells-of : (k : ℕ) (l : List Entry) → TellsOf l (figures k l)
tells-of k l =
    let levels = levels-good l in
    let told = told-figures k l in
    unfold figures in
    record {
      all = counts-are l;
      good = refl;
      lowest = better min (λ a b. a ≤ b) least (good_levels l) levels;
      lowest_is = found min (λ a b. a ≤ b) least (good_levels l) levels;
      highest = better max (λ a b. b ≤ a) greatest (good_levels l) levels;
      highest_is = found max (λ a b. b ≤ a) greatest (good_levels l) levels;
      no-level = told.without;
    }

held_of : (l : List Entry) (k : ℕ) (b : Bool) → among k (kept_pairs l) ≡ b → held_at pair_of k (lines_of (summary_of l)) ≡ pick b (line_for l k ∷ []) []
held_of l k b h =
    let lines = map (line_for l) (in_order (kept_pairs l)) in
    ap (λ (s : Summary). held_at pair_of k (lines_of s)) (worked l) ∙ ap (held_at pair_of k) (lines-page (other_records (kept_pairs l) l) lines)
    ∙ held-lines l (in_order (kept_pairs l)) k ∙ ap (λ (c : Bool). pick c (line_for l k ∷ []) []) (among-order k (kept_pairs l) ∙ h)

tells-line : (l : List Entry) (k : ℕ) → TellsOf (entries_of_pair k l) (line_for l k)
tells-line l k = unfold line_for in tells-of k (entries_of_pair k l)

answers_of : (sheet : List ℕ) (b : Bool) → size_allowed sheet ≡ b → afresh sheet ≡ pick b (made_of (summary_of (list_of sheet)) 0) (made_of blank_summary 12)
unfolding afresh
answers_of sheet b h = ap (λ (c : Bool). pick c (made_of (summary_of (list_of sheet)) 0) (made_of blank_summary 12)) h

parts : (a : Made) (s : Summary) (n : ℕ) → a ≡ made_of s n → (a.summary ≡ s) × (a.number ≡ n)
parts a s n e = (ap (λ (m : Made). m.summary) e, ap (λ (m : Made). m.number) e)

pub afresh-made : Afresh
afresh-made =
    record {
      answers = λ sheet answer m h. parts answer (summary_of (list_of sheet)) 0 (m.answers ∙ answers_of sheet true h);
      refused = λ sheet answer m h. parts answer blank_summary 12 (m.answers ∙ answers_of sheet false h);
      kept = λ l k h. (line_for l k, (held_of l k true h, (pair_line l k, tells-line l k)));
      not-kept = λ l k h. held_of l k false h;
    }
