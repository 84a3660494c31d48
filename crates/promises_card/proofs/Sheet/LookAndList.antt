-- Look and list agree: what a look answers of a slot tells the record that the slot holds, and no other. Assumes nothing.
use mathlib.Core.Path.{◌≡◌, refl, sym, ap, ◌∙◌}
use mathlib.Core.Bool.{Bool, true, false}
use mathlib.Core.List.{List, [], ◌∷◌, ◌++◌}
use Prim.Native.Nat.{ℕ, zero, suc, ◌-◌, ◌<◌, ◌≤◌}
use native.Mathlib.Omega.{arith}
use lib.Dec.{eqb}
use lib.ListN.{length, get_or, take, replicate}
use lib.Seq.{take_at}
use Rattle.frame.specs.Pick.{pick}
use Rattle.frame.specs.Line.{bytes_for}
use Rattle.sheet.specs.declared.Looked.{Looked}
use Rattle.sheet.specs.Bytes.{FF, all_blank}
use Rattle.sheet.specs.Record.{Entry, fields_of, is_record}
use Rattle.sheet.specs.Slots.{blank, spoiled, foreign, holds, record_in, size_allowed, slots, slot_at, slot_of, list_up_to}
use Rattle.sheet.specs.Look.{look_told, Looks, record_told}
use Rattle.sheet.proofs.Records.{record-passes, passes-formed, formed-few}
use Rattle.sheet.proofs.SlotParts.{look-within}
use Rattle.promises_card.specs.Sheet.LookAndList.{gathered, LookAndList}

-- A reply in form takes the bytes for its count, so that what follows it beside the answer is not told.
told_back : (e : Entry) → length e.reply ≡ bytes_for e.count → record_told (look_told (holds e)).found (look_told (holds e)).reply ≡ e ∷ []
told_back e size =
    let reply : take (bytes_for e.count) (e.reply ++ replicate (8 - length e.reply) 0) ≡ e.reply =
    take_at e.reply (replicate (8 - length e.reply) 0) (bytes_for e.count) size in
    λ i. record { settings = e.settings; minute = e.minute; address = e.address; count = e.count; reply = reply i } ∷ []

told-slot : (x : List ℕ) → record_told (look_told (slot_of x)).found (look_told (slot_of x)).reply ≡ record_in (slot_of x)
unfolding slot_of
told-slot x = go (all_blank x) (eqb (get_or x 0 0) FF) (is_record x) refl
  where
    go : (b f r : Bool) → is_record x ≡ r
        → let y = pick b blank (pick f spoiled (pick r (holds (fields_of x)) foreign)) in record_told (look_told y).found (look_told y).reply ≡ record_in y
    go true f r h = refl
    go false true r h = refl
    go false false true h =
        told_back (fields_of x) (formed-few (fields_of x).count (fields_of x).reply (passes-formed (fields_of x) (record-passes x h))).1
    go false false false h = refl

module _ (s : List ℕ) (sized : size_allowed s ≡ true) (answer : ℕ → Looked) (looks : (k : ℕ) → k < slots s → Looks s k (answer k)) where
  up_to : (k : ℕ) → k ≤ slots s → list_up_to s k ≡ gathered answer k
  unfolding list_up_to gathered
  up_to zero h = refl
  up_to (suc k) h =
      let said : answer k ≡ look_told (slot_of (slot_at s k)) = (looks k h).answers ∙ look-within s k sized h in
      let one : record_in (slot_of (slot_at s k)) ≡ record_told (answer k).found (answer k).reply =
      sym (told-slot (slot_at s k)) ∙ ap (λ (a : Looked). record_told a.found a.reply) (sym said) in
      λ i. up_to k (omega arith) i ++ one i

pub look-and-list : LookAndList
look-and-list = record { agree = λ s sized answer looks. up_to s sized answer looks (slots s) (omega arith) }
