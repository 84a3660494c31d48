-- A hearing, one sample further. Assumes nothing.
use mathlib.Core.Path.{◌≡◌, refl, sym, ap, ◌∙◌}
use mathlib.Core.Bool.{Bool, true, false}
use mathlib.Core.List.{List}
use Prim.Native.Nat.{ℕ, zero, suc, ◌+◌, ◌<◌, ◌≤◌}
use native.Mathlib.Nat.{add_assoc, add-zero}
use native.Mathlib.Numerals.{add-one}
use native.Mathlib.Omega.{arith}
use borrow.Author.Tests.{ne_eqb}
use lib.ListN.{length, get_or, drop, drop_of_length-le}
use lib.Seq.{drop-cons}
use Rattle.frame.specs.Pick.{pick}
use Rattle.lines.specs.declared.SoFar.{SoFar}
use Rattle.lines.specs.Sample.{sample_of}
use Rattle.lines.specs.Timing.{Timing}
use Rattle.lines.specs.SoFar.{rest_state}
use Rattle.lines.specs.Step.{after_low, after_both, after, closes}
use Rattle.lines.specs.Hearing.{Hearing, nothing, hearing, told_of, later, hear}

-- Which step a byte makes.
pub low-sample : (t : Timing) (s : SoFar) (b : ℕ) → 1 ≤ b → b ≤ 2 → after_low b s ≡ after t s (sample_of b)
low-sample t s zero p q = absurd (omega arith)
low-sample t s (suc zero) p q = refl
low-sample t s (suc (suc zero)) p q = refl
low-sample t s (suc (suc (suc b))) p q = absurd (omega arith)

pub foreign-sample : (t : Timing) (s : SoFar) (b : ℕ) → 3 < b → after_both 22 s ≡ after t s (sample_of b)
foreign-sample t s b h =
    simp (ne_eqb b 0 (omega arith), ne_eqb b 1 (omega arith), ne_eqb b 2 (omega arith), ne_eqb b 3 (omega arith))

pub later-later : (i j : ℕ) (h : Hearing) → later i (later j h) ≡ later (i + j) h
later-later i j h = ap (hearing h.told h.left) (sym (add_assoc i j h.taken))

module _ (t : Timing) (s n : SoFar) (xs : List ℕ) (i : ℕ) (more : i < length xs) (step : n ≡ after t s (sample_of (get_or xs i 0))) where
  next : (b : Bool) → closes t n ≡ b
      → later i (hear t s (drop i xs)) ≡ later i (pick b (hearing (told_of n) rest_state 1) (later 1 (hear t n (drop (i + 1) xs))))
  unfolding hear
  next b e = rw (drop-cons xs i 0 more, ← step, e, add-one i)

  pub next-closed : closes t n ≡ true → later i (hear t s (drop i xs)) ≡ hearing (told_of n) rest_state (i + 1)
  next-closed e = next true e

  pub next-open : closes t n ≡ false → later i (hear t s (drop i xs)) ≡ later (i + 1) (hear t n (drop (i + 1) xs))
  next-open e = next false e ∙ later-later i 1 (hear t n (drop (i + 1) xs))

pub at-end : (t : Timing) (s : SoFar) (xs : List ℕ) (i : ℕ) → length xs ≤ i → later i (hear t s (drop i xs)) ≡ hearing nothing s i
unfolding hear
at-end t s xs i h = rw (drop_of_length-le xs h) (ap (hearing nothing s) (add-zero i))
