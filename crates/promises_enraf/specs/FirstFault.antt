-- First fault: the numbers of document 02, request 13, and the order that they are asked in.
use Rattle.std.specs.Prelude.{not, ◌||◌, List, [], ◌∷◌, ℕ, ◌-◌, eqb, ltb, length, get_or}
use Rattle.frame.specs.Faults.{Test, ◌gives◌}
use Rattle.enraf.specs.declared.Done.{Done}
use Rattle.enraf.specs.declared.ItemTold.{ItemTold}
use Rattle.enraf.specs.Item.{Item, text_fits}
use Rattle.enraf.specs.Record.{STX, ETX, B, Z, item_record}
use Rattle.enraf.specs.Reading.{check_right, addressed, item_in, ReadsItem}
use Rattle.enraf.specs.Writing.{WritesItem}
use Rattle.promises_frame.specs.FirstFault.{FirstThatApplies}

-- 29: under 10 bytes, or STX, B, Z or ETX not in its place.
abbrev pub read_table : List ℕ → List Test
read_table s =
    (ltb (length s) 10
    || not (eqb (get_or s 0 0) STX)
    || not (eqb (get_or s 4 0) B)
    || not (eqb (get_or s 5 0) Z)
    || not (eqb (get_or s (length s - 2) 0) ETX)) gives 29
    ∷ not (check_right s) gives 30
    ∷ not (addressed s) gives 31
    ∷ not (text_fits (item_in s)) gives 32
    ∷ []

abbrev pub write_table : Item → List ℕ → List Test
write_table i out =
    (ltb 9 i.ciu || ltb 99 i.gauge) gives 31
    ∷ not (text_fits i) gives 32
    ∷ ltb (length out) (length (item_record i)) gives 33
    ∷ []

pub record ItemFirstFault : Type 0 where
  pub read : (s : List ℕ) (got : ItemTold) → ReadsItem s got → FirstThatApplies (read_table s) (29 ∷ 30 ∷ 31 ∷ 32 ∷ []) got.number
  pub write : (i : Item) (out after : List ℕ) (said : Done) → WritesItem i out said after
      → FirstThatApplies (write_table i out) (31 ∷ 32 ∷ 33 ∷ []) said.number
