-- Accepted, then written again: bytes that are read as a record are, written by what was told, the same bytes. So every record that is accepted is one
-- that could have been written.
use Rattle.std.specs.Prelude.{◌≡◌, List, ◌++◌, ℕ, ◌≤◌, length, drop}
use Rattle.enraf.specs.declared.Done.{Done}
use Rattle.enraf.specs.declared.ItemTold.{ItemTold}
use Rattle.enraf.specs.Reading.{ReadsItem, item_told}
use Rattle.enraf.specs.Writing.{WritesItem}

pub record SameBytes (bytes out : List ℕ) (said : Done) (after : List ℕ) : Type 0 where
  pub taken : said.number ≡ 0
  pub count : said.count ≡ length bytes
  pub left : after ≡ bytes ++ drop (length bytes) out

pub record ItemReadThenWritten : Type 0 where
  pub same_bytes : (bytes : List ℕ) (got : ItemTold) → ReadsItem bytes got → got.number ≡ 0
      → (out : List ℕ) → length bytes ≤ length out
      → (said : Done) (after : List ℕ) → WritesItem (item_told got) out said after
      → SameBytes bytes out said after
