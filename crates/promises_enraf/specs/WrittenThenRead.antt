-- Written, then read: a record that was written tells, when it is read, all that was written, and nothing else could have been written by it.
use Rattle.std.specs.Prelude.{◌≡◌, List, ℕ, take}
use Rattle.enraf.specs.declared.Done.{Done}
use Rattle.enraf.specs.declared.ItemTold.{ItemTold}
use Rattle.enraf.specs.Item.{Item}
use Rattle.enraf.specs.Reading.{ReadsItem, item_told}
use Rattle.enraf.specs.Writing.{WritesItem}

-- An item was written into an output, and these are the record's bytes.
pub record Wrote (i : Item) (bytes : List ℕ) : Type 0 where
  pub out : List ℕ
  pub after : List ℕ
  pub said : Done
  pub writes : WritesItem i out said after
  pub taken : said.number ≡ 0
  pub are : bytes ≡ take said.count after

pub record ItemWrittenThenRead : Type 0 where
  pub read_back : (i : Item) (bytes : List ℕ) (got : ItemTold) → Wrote i bytes → ReadsItem bytes got
      → (got.number ≡ 0) × (item_told got ≡ i)
  pub one_reading : (i j : Item) (bytes : List ℕ) → Wrote i bytes → Wrote j bytes → i ≡ j
