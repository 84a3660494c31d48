-- Any samples are runs: one after another from the last, each joins the run after it or begins one before it.
use mathlib.Core.Path.{◌≡◌, refl, sym, ap, ◌∙◌}
use mathlib.Core.Bool.{Bool, true, false}
use mathlib.Core.List.{List, [], ◌∷◌, ◌++◌, map}
use Prim.Native.Nat.{ℕ, suc}
use native.Mathlib.Omega.{arith}
use lib.Dec.{eqb}
use lib.ListN.{replicate}
use borrow.Author.Tests.{eqb-true, eqb-false}
use Rattle.lines.specs.Sample.{Sample, idle, mark, space, both, foreign, sample_of}
use Rattle.promises_lines.specs.Runs.{Run, spelled, Apart, InRuns, Grouped}

-- Whether two kinds are one.
abbrev kind_number : Sample → ℕ
kind_number idle = 0
kind_number mark = 1
kind_number space = 2
kind_number both = 3
kind_number foreign = 4

kind-back : (k : Sample) → sample_of (kind_number k) ≡ k
kind-back idle = refl
kind-back mark = refl
kind-back space = refl
kind-back both = refl
kind-back foreign = refl

by_kind : {A : Type 0} (k j : Sample) → (k ≡ j → A) → ((k ≡ j → ⊥) → A) → A
by_kind {A} k j f g = go (eqb (kind_number k) (kind_number j)) refl
  where
    go : (b : Bool) → eqb (kind_number k) (kind_number j) ≡ b → A
    go true e = f (sym (kind-back k) ∙ ap sample_of (eqb-true (kind_number k) (kind_number j) e) ∙ kind-back j)
    go false e = g (λ p. eqb-false (kind_number k) (kind_number j) e (ap kind_number p))

record Runs-of (ks : List Sample) : Type 0 where
  runs : List Run
  apart : InRuns runs
  spells : ks ≡ spelled runs

longer : (r : Run) (rs : List Run) → Apart r rs → Apart (record { kind = r.kind; size = suc r.size }) rs
longer r [] a = omega arith
longer r (q ∷ rs) a = (omega arith, a.1)

before : (k : Sample) (ks : List Sample) → Runs-of ks → Runs-of (k ∷ ks)
before k ks g = go g.runs g.apart g.spells
  where
    go : (rs : List Run) → InRuns rs → ks ≡ spelled rs → Runs-of (k ∷ ks)
    go [] i e =
        record {
          runs = record { kind = k; size = 1 } ∷ [];
          apart = (omega arith, omega arith);
          spells = unfold spelled in ap (λ (x : List Sample). k ∷ x) e;
        }
    go (r ∷ rs) i e =
        by_kind k r.kind
        (λ same.
        record {
          runs = record { kind = r.kind; size = suc r.size } ∷ rs;
          apart = (longer r rs i.0, i.1);
          spells = unfold spelled in (ap (λ (x : List Sample). k ∷ x) e ∙ ap (λ (x : Sample). x ∷ (replicate r.size r.kind ++ spelled rs)) same);
        })
        (λ other.
        record {
          runs = record { kind = k; size = 1 } ∷ r ∷ rs;
          apart = ((omega arith, other), i);
          spells = unfold spelled in ap (λ (x : List Sample). k ∷ x) e;
        })

runs_of : (ks : List Sample) → Runs-of ks
runs_of [] = record { runs = []; apart = omega arith; spells = unfold spelled in refl }
runs_of (k ∷ ks) = before k ks (runs_of ks)

pub grouped : (samples : List ℕ) → Grouped samples
grouped samples = let g = runs_of (map sample_of samples) in record { runs = g.runs; apart = g.apart; spells = g.spells }
