-- The view: what is seen through it is what a look answers, and a view with a wrong count of slots shows no slot that is not there.
use Rattle.std.specs.Prelude.{◌≡◌, true, false, List, ℕ, ◌<◌, ◌≤◌}
use Rattle.std.specs.Borrow.{Bor}
use Rattle.sheet.specs.declared.Looked.{Looked}
use Rattle.sheet.specs.declared.Found.TheVariants.{Refused}
use Rattle.sheet.specs.declared.view.Sheet.{Sheet}
use Rattle.sheet.specs.Slots.{size_allowed, slots, slot_at, slot_of}
use Rattle.sheet.specs.Look.{Looks, look_told, bare}
use Rattle.sheet.specs.View.{Opens, Sees, Counts, counted_number, slots_told}
use Rattle.promises_frame.specs.One.{One}
use Rattle.std.specs.Prelude.{Result}
use Rattle.frame.specs.declared.faults.Fault.{Fault}
use Rattle.frame.specs.Faults.{fault}

pub record SheetView : Type 0 where
  -- One that was opened.
  pub opened : (lent : Bor (List ℕ)) (view : Sheet) (slot : ℕ) (seen looked : Looked)
      → Opens lent view → Sees view.bytes.now view.slots slot seen → Looks lent.now slot looked → seen ≡ looked
  -- Any other, whatever count it holds: a slot that it counts and whose 32 bytes are there, a slot beyond its count, and one beyond its bytes.
  pub there : (bytes : List ℕ) (count slot : ℕ) (seen : Looked) → Sees bytes count slot seen
      → slot < count → slot < slots bytes → seen ≡ look_told (slot_of (slot_at bytes slot))
  pub beyond_count : (bytes : List ℕ) (count slot : ℕ) (seen : Looked) → Sees bytes count slot seen → count ≤ slot → seen ≡ bare (Refused (fault 12))
  pub beyond_bytes : (bytes : List ℕ) (count slot : ℕ) (seen : Looked) → Sees bytes count slot seen → slots bytes ≤ slot → seen ≡ bare (Refused (fault 12))
  -- The slots of a sheet of an allowed size are counted; of any other 12 is told, and no slot.
  pub counted : (s : List ℕ) (answer : Result ℕ Fault) → Counts s answer → size_allowed s ≡ true → (counted_number answer ≡ 0) × (slots_told answer ≡ slots s)
  pub not_counted : (s : List ℕ) (answer : Result ℕ Fault) → Counts s answer → size_allowed s ≡ false → (counted_number answer ≡ 12) × (slots_told answer ≡ 0)
  -- One outcome of each call.
  pub count-slots : (s : List ℕ) → One (Result ℕ Fault) (Counts s)
  pub open_view : (lent : Bor (List ℕ)) → One Sheet (Opens lent)
  pub slot-in : (bytes : List ℕ) (count slot : ℕ) → One Looked (Sees bytes count slot)
