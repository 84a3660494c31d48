-- What settles a try is silence, a message of bits with nothing behind them, or 21 or 22: one step from lines as a call leaves them, and so along all samples.
use mathlib.Core.Path.{◌≡◌, refl, sym, ap, subst, ◌∙◌}
use mathlib.Core.Bool.{Bool, true, false}
use mathlib.Core.List.{List, [], ◌∷◌}
use Prim.Native.Nat.{ℕ, ◌+◌, ◌≤◌}
use native.Mathlib.Omega.{arith}
use lib.Dec.{eqb}
use borrow.Author.Tests.{ne_eqb}
use Rattle.frame.specs.Pick.{pick}
use Rattle.lines.specs.declared.SoFar.{SoFar}
use Rattle.lines.specs.Sample.{Sample, sample_of}
use Rattle.lines.specs.Step.{after}
use Rattle.lines.specs.Hearing.{MessageTold, nothing, message, spoiled, told_of}
use Rattle.lines.proofs.Cases.{of-pick}
use Rattle.polling.specs.declared.Pace.{Pace}
use Rattle.polling.specs.Pace.{timing_of, bad_pace}
use Rattle.polling.specs.Listening.{Listened, still_going, settled_by, later, given_up, listen}
use Rattle.promises_lines.proofs.Words.{Clear}
use Rattle.promises_lines.proofs.Legal.{Legal, Closing, Stepped, on, shut, step}
use Rattle.promises_lines.proofs.Legal as legal
use Rattle.promises_lines.proofs.Ends.{good}
use Rattle.promises_polling.proofs.Path.{silent_now, ending, told_at}
use Rattle.promises_polling.proofs.Heard.{next, timing-fine, stays-legal, not-closed, listen-one}

abbrev pub Sound : MessageTold → Type 0
Sound nothing = 0 ≤ 0
Sound (message count bits) = (1 ≤ count) × Clear bits count
Sound (spoiled number) = (21 ≤ number) × (number ≤ 22)

closing-sound : {n : SoFar} → Closing n → Sound (told_of n)
closing-sound (legal.message bits run count p c) = (p, c)
closing-sound (legal.report number run p q) = rw (ne_eqb number 0 (omega arith)) (p, q)

pub told-sound : (p : Pace) → bad_pace p ≡ false → {s : SoFar} → Legal s → (k : Sample) (q : ℕ) → Sound (told_at p (after (timing_of p) s k) q)
told-sound p fine {s} l k q =
    let g = good (timing_of p) (timing-fine p fine) in go (step (timing_of p) g.some g.gap l k)
  where
    other : Sound (pick (silent_now p (after (timing_of p) s k) q) nothing (given_up (after (timing_of p) s k)))
    other =
        of-pick Sound (silent_now p (after (timing_of p) s k) q) nothing (given_up (after (timing_of p) s k)) (λ e. omega arith)
        (λ e. of-pick (λ (n : ℕ). (21 ≤ n) × (n ≤ 22)) (eqb (after (timing_of p) s k).fault 22) 22 21 (λ f. (omega arith, omega arith)) (λ f. (omega arith, omega arith)))

    go : Stepped (timing_of p) k (after (timing_of p) s k) → Sound (told_at p (after (timing_of p) s k) q)
    go (on e l) = rw e other
    go (shut e i c) = rw e (closing-sound c)

-- Along samples.
abbrev pub Soundly : Listened → Type 0
Soundly (still_going left k) = 0 ≤ k
Soundly (settled_by told k) = Sound told

later-sound : (h : Listened) → Soundly h → Soundly (later 1 h)
later-sound (still_going left k) c = omega arith
later-sound (settled_by told k) c = c

pub listen-sound : (p : Pace) → bad_pace p ≡ false → (s : SoFar) (q : ℕ) → Legal s → (xs : List ℕ) → Soundly (listen p s q xs)
listen-sound p fine s q l [] = unfold listen in omega arith
listen-sound p fine s q l (x ∷ xs) = go (ending p (next p s x) (q + 1)) refl (λ g. listen-sound p fine (next p s x) (q + 1) g xs)
  where
    abide : (b : Bool) → ending p (next p s x) (q + 1) ≡ b → Soundly (pick b (settled_by (told_at p (next p s x) (q + 1)) 1) (later 1 (listen p (next p s x) (q + 1) xs)))
        → Soundly (listen p s q (x ∷ xs))
    abide b f h =
        subst Soundly
        (sym (listen-one p s q x xs (next p s x) refl ∙ ap (λ (b : Bool). pick b (settled_by (told_at p (next p s x) (q + 1)) 1) (later 1 (listen p (next p s x) (q + 1) xs))) f)) h

    go : (b : Bool) → ending p (next p s x) (q + 1) ≡ b → (Legal (next p s x) → Soundly (listen p (next p s x) (q + 1) xs)) → Soundly (listen p s q (x ∷ xs))
    go true f onward = abide true f (told-sound p fine l (sample_of x) (q + 1))
    go false f onward =
        abide false f (later-sound (listen p (next p s x) (q + 1) xs) (onward (stays-legal p fine l (sample_of x) (not-closed p (next p s x) (q + 1) f))))
