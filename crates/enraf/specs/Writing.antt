-- Document 02, request 13: what writing a record answers, and the output after it.
use Rattle.std.specs.Prelude.{◌≡◌, not, ◌||◌, List, [], ◌∷◌, ◌++◌, ℕ, eqb, ltb, length, drop}
use Rattle.frame.specs.Pick.{pick}
use Rattle.frame.specs.Faults.{◌gives◌, first_of}
use Rattle.enraf.specs.declared.Done.{Done}
use Rattle.enraf.specs.Item.{Item, text_fits}
use Rattle.enraf.specs.Record.{item_record}

-- Writing: 31 a CIU above 9 or a transmission address above 99 (so document 002 numbers its wildcards), 32 item text, 33 output short.
unfoldable pub write_fault : Item → List ℕ → ℕ
write_fault i out =
    first_of
    ((ltb 9 i.ciu || ltb 99 i.gauge) gives 31
    ∷ not (text_fits i) gives 32
    ∷ ltb (length out) (length (item_record i)) gives 33
    ∷ [])

abbrev pub done : ℕ → ℕ → Done
done count number = record { count = count; number = number }

-- What `sisal_write_item` answers, the bytes written, and the output after it: only those bytes change, and none where it refuses.
pub record WritesItem (i : Item) (out : List ℕ) (answer : Done) (after : List ℕ) : Type 0 where
  pub answers : answer ≡ pick (eqb (write_fault i out) 0) (done (length (item_record i)) 0) (done 0 (write_fault i out))
  pub leaves : after ≡ pick (eqb (write_fault i out) 0) (item_record i ++ drop (length (item_record i)) out) out
