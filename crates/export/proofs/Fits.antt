-- The bit count that a look tells fits one byte: what is told as a record passes its checks, so its count is at most 64.
use mathlib.Core.Path.{◌≡◌, refl}
use mathlib.Core.Bool.{Bool, true, false, ◌&&◌}
use mathlib.Core.List.{List}
use Prim.Native.Nat.{ℕ, ◌<◌}
use native.Mathlib.Omega.{arith}
use lib.Dec.{eqb, ltb}
use lib.ListN.{get_or}
use Rattle.frame.specs.Pick.{pick}
use Rattle.frame.specs.Faults.{fault}
use Rattle.sheet.specs.declared.Found.TheVariants.{Refused}
use Rattle.sheet.specs.Bytes.{FF, all_blank}
use Rattle.sheet.specs.Record.{is_record, fields_of}
use Rattle.sheet.specs.Slots.{blank, spoiled, foreign, holds, slot_of, slot_at, slots, size_allowed}
use Rattle.sheet.specs.Look.{bare, look_told, look_of}
use Rattle.sheet.proofs.Records.{record-passes, passes-formed, formed-few}
use Rattle.export_told.specs.Told.{count_fits}

record-fits : (x : List ℕ) → is_record x ≡ true → (fields_of x).count < 256
record-fits x h =
    let e = fields_of x in
    omega (arith, (formed-few e.count e.reply (passes-formed e (record-passes x h))).0)

slot-fits : (x : List ℕ) → count_fits (look_told (slot_of x)).found
unfolding slot_of
slot-fits x = go (all_blank x) (eqb (get_or x 0 0) FF) (is_record x) refl
  where
    go : (b s r : Bool) → is_record x ≡ r → count_fits (look_told (pick b blank (pick s spoiled (pick r (holds (fields_of x)) foreign)))).found
    go true s r e = omega arith
    go false true r e = omega arith
    go false false true e = record-fits x e
    go false false false e = omega arith

pub look-fits : (s : List ℕ) (k : ℕ) → count_fits (look_of s k).found
unfolding look_of
look-fits s k = go (size_allowed s && ltb k (slots s))
  where
    go : (b : Bool) → count_fits (pick b (look_told (slot_of (slot_at s k))) (bare (Refused (fault 12)))).found
    go true = slot-fits (slot_at s k)
    go false = omega arith
