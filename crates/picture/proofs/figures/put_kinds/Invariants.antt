-- `picture::figures::put_kinds` meets its contract: what was put so far, and the kinds that are left, are the whole. Assumes nothing.
use mathlib.Core.Path.{◌≡◌}
use mathlib.Core.List.{List, ◌++◌}
use Prim.Native.Nat.{ℕ, ◌*◌, ◌-◌, ◌≤◌}
use Rattle.putting.specs.declared.Text.{Text}
use Rattle.putting.specs.Adds.{Adds}
use Rattle.picture.specs.Page.{kinds_text}
use Rattle.picture.proofs.figures.put_kinds.Given as goal

pub record Kinded (before : Text) (counts : List ℕ) (after : Text) (k : ℕ) : Type 0 where
  pub so_far : k ≤ 16
  pub text : List ℕ
  pub put : Adds text (44 * (k - 1)) before after
  pub whole : text ++ kinds_text counts k (16 - k) ≡ kinds_text counts 1 15

abbrev pub invariant-loop-k : goal.invariant-loop-k
invariant-loop-k l = Kinded l.initial.text l.counts l.text l.k
