-- Each of the sheet's calls asks its table in its order, so that the law of the first that applies gives its number. Assumes nothing.
use mathlib.Core.Path.{◌≡◌, refl, ap, ◌∙◌}
use mathlib.Core.Bool.{Bool, true, false, not, ◌&&◌}
use mathlib.Core.List.{List, [], ◌∷◌}
use Prim.Native.Nat.{ℕ}
use lib.Dec.{ltb}
use Rattle.frame.specs.Pick.{pick}
use Rattle.frame.specs.Faults.{first_of}
use Rattle.frame.specs.declared.faults.Fault.TheVariants.{NoSheet}
use Rattle.sheet.specs.declared.Found.TheVariants as found
use Rattle.sheet.specs.Record.{Entry}
use Rattle.sheet.specs.Slots.{Slot, blank, spoiled, foreign, holds, size_allowed, slots, slot_at, slot_of}
use Rattle.sheet.specs.Save.{save_fault, saved_number}
use Rattle.sheet.proofs.SaveNumbers.{answer-number}
use Rattle.sheet.specs.Look.{bare, look_told, look_of, found_number}
use Rattle.promises_card.proofs.Sheet.Telling.{told-number-is}
use Rattle.promises_card.specs.Sheet.FirstFault.{save_table, save_order, look_table, SheetFault}
use Rattle.promises_frame.proofs.FirstFault.{asked, given}

save-asks : (s : List ℕ) (e : Entry) → save_fault s e ≡ first_of (asked (save_table s e) save_order)
unfolding save_fault
save-asks s e = refl

told-number : (y : Slot) → found_number (look_told y).found ≡ 0
told-number blank = refl
told-number spoiled = refl
told-number foreign = refl
told-number (holds e) = refl

look-asks : (s : List ℕ) (k : ℕ) → found_number (look_of s k).found ≡ first_of (asked (look_table s k) (12 ∷ []))
unfolding look_of first_of
look-asks s k = go (size_allowed s && ltb k (slots s))
  where
    go : (b : Bool) → found_number (pick b (look_told (slot_of (slot_at s k))) (bare (found.Refused NoSheet))).found ≡ pick (not b) 12 0
    go true = told-number (slot_of (slot_at s k))
    go false = refl

pub sheet-fault : SheetFault
sheet-fault =
    record {
      save = λ s e allowance answer t h. given (save_table s e) save_order (saved_number answer)
          (answer-number s e allowance answer t h ∙ save-asks s e);
      look = λ s k answer h. given (look_table s k) (12 ∷ []) (found_number answer.found)
          (ap (λ a. found_number a.found) h.answers ∙ look-asks s k);
      tell = λ s e answer h. given (save_table s e) save_order answer.number (told-number-is s e answer h ∙ save-asks s e);
    }
