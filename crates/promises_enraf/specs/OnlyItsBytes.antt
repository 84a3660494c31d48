-- A refused write changes no byte, and a write that is made changes only the bytes that it counts.
use Rattle.std.specs.Prelude.{◌≡◌, List, ℕ, ◌≤◌, length, get_or}
use Rattle.enraf.specs.declared.Done.{Done}
use Rattle.enraf.specs.Item.{Item}
use Rattle.enraf.specs.Writing.{WritesItem}

pub record ItemOnlyItsBytes : Type 0 where
  pub refused : (i : Item) (out after : List ℕ) (said : Done) → WritesItem i out said after → ¬ (said.number ≡ 0) → (after ≡ out) × (said.count ≡ 0)
  pub same_length : (i : Item) (out after : List ℕ) (said : Done) → WritesItem i out said after → length after ≡ length out
  pub others : (i : Item) (out after : List ℕ) (said : Done) → WritesItem i out said after
      → (k : ℕ) → said.count ≤ k → get_or after k 0 ≡ get_or out k 0
