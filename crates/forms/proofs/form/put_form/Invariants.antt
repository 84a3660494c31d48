-- `forms::form::put_form` meets its contract: what was added so far, and the form from the place on with the numbers that are left, are the whole.
-- Assumes nothing.
use mathlib.Core.Path.{◌≡◌}
use mathlib.Core.List.{List, ◌++◌}
use Prim.Native.Nat.{ℕ, ◌+◌, ◌*◌, ◌≤◌}
use lib.ListN.{length, drop}
use Rattle.putting.specs.declared.Text.{Text}
use Rattle.putting.specs.Adds.{Adds}
use Rattle.forms.specs.Form.{fill}
use Rattle.forms.proofs.form.put_form.Given as goal

pub record Filled (before : Text) (form numbers : List ℕ) (text : Text) (left : List ℕ) (i : ℕ) : Type 0 where
  pub n : ℕ
  pub numbers_left : n ≤ length numbers
  pub left-is : left ≡ drop n numbers
  pub filled : List ℕ
  pub adds : Adds filled (i + 9 * n) before text
  pub whole : filled ++ fill (drop i form) left ≡ fill form numbers

abbrev pub invariant-loop-byte : goal.invariant-loop-byte
invariant-loop-byte l = Filled l.initial.text l.form l.numbers l.text l.left l.byte-index
