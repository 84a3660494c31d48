-- One outcome: what each call may answer and leave is one thing and no other.
use Rattle.std.specs.Prelude.{List, ℕ}
use Rattle.enraf.specs.declared.Done.{Done}
use Rattle.enraf.specs.declared.ItemTold.{ItemTold}
use Rattle.enraf.specs.Item.{Item}
use Rattle.enraf.specs.Reading.{ReadsItem}
use Rattle.enraf.specs.Writing.{WritesItem}
use Rattle.promises_frame.specs.One.{One}

pub record ItemOneOutcome : Type 0 where
  pub read : (s : List ℕ) → One ItemTold (ReadsItem s)
  pub write : (i : Item) (out : List ℕ) → One (Done × List ℕ) (λ o. WritesItem i out o.0 o.1)
