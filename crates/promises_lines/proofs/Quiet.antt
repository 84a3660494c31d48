-- Samples that close nothing: from one state to another, and how a hearing passes over them.
use mathlib.Core.Path.{◌≡◌, sym, subst, ap, ◌∙◌}
use mathlib.Core.Bool.{false}
use mathlib.Core.List.{List, [], ◌∷◌, ◌++◌, map}
use Prim.Native.Nat.{ℕ}
use native.Mathlib.Omega.{arith}
use native.Mathlib.Nat.{zero-add}
use lib.ListN.{length}
use Rattle.lines.specs.declared.SoFar.{SoFar}
use Rattle.lines.specs.Sample.{Sample, sample_of}
use Rattle.lines.specs.Timing.{Timing}
use Rattle.lines.specs.Step.{after, closes}
use Rattle.lines.specs.Hearing.{Hearing, hearing, later, hear}
use Rattle.lines.proofs.Steps.{later-later}

abbrev pub Quiet : Timing → SoFar → List Sample → SoFar → Type 0
Quiet t s [] n = s ≡ n
Quiet t s (k ∷ ks) n = (closes t (after t s k) ≡ false) × Quiet t (after t s k) ks n

pub quiet-append : (t : Timing) (s m n : SoFar) (ks js : List Sample) → Quiet t s ks m → Quiet t m js n → Quiet t s (ks ++ js) n
quiet-append t s m n [] js e q = subst (λ (x : SoFar). Quiet t x js n) (sym e) q
quiet-append t s m n (k ∷ ks) js p q = (p.0, quiet-append t (after t s k) m n ks js p.1 q)

pub later-none : (h : Hearing) → later 0 h ≡ h
later-none h = ap (hearing h.told h.left) (zero-add h.taken)

pub quiet-hear : (t : Timing) (s n : SoFar) (xs ys : List ℕ) → Quiet t s (map sample_of xs) n → hear t s (xs ++ ys) ≡ later (length xs) (hear t n ys)
unfolding hear
quiet-hear t s n [] ys e = ap (λ (m : SoFar). hear t m ys) e ∙ sym (later-none (hear t n ys))
quiet-hear t s n (x ∷ xs) ys q =
    let m : SoFar = after t s (sample_of x) in
    rw q.0
    (ap (later 1) (quiet-hear t m n xs ys q.1) ∙ later-later 1 (length xs) (hear t n ys)
    ∙ ap (λ (i : ℕ). later i (hear t n ys)) (omega arith))
