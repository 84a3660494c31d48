-- `listing::text::put_number` meets its contract. The loop puts the digits from the last forward: those put so far, `tail`, stand from the place i
-- on, and the digits that are left to put, with the tail after them, are those of the number. Assumes nothing.
use mathlib.Core.Path.{◌≡◌}
use mathlib.Core.List.{List, ◌++◌}
use Prim.Native.Nat.{ℕ, ◌+◌, ◌-◌, ◌≤◌}
use lib.ListN.{length}
use lib.Seq.{sets}
use Rattle.putting.specs.declared.Text.{Text}
use Rattle.listing.specs.Text.{in_decimal}
use Rattle.listing.proofs.Numbers.{last_digits}
use Rattle.listing.proofs.text.put_number.Given as goal

pub record Filled (before : Text) (n : ℕ) (text : Text) (left i : ℕ) : Type 0 where
  pub tail : List ℕ
  pub digits : last_digits (i - before.at) left ++ tail ≡ in_decimal n
  pub behind : before.at ≤ i
  pub place : i + length tail ≡ before.at + length (in_decimal n)
  pub same : text.out.ghost_name ≡ before.out.ghost_name
  pub stays : text.at ≡ before.at
  pub filled : text.out.now ≡ sets before.out.now i tail

abbrev pub invariant-loop-i : goal.invariant-loop-i
invariant-loop-i l = Filled l.initial.text l.n l.text l.left l.i
