-- In steps: no two of the stores told go to one place, so that steps made of them leave what making them in order leaves, and that is told is made.
-- Assumes nothing.
use mathlib.Core.Path.{◌≡◌, refl, sym, ap, subst, ◌∙◌}
use mathlib.Core.Bool.{Bool, true, false}
use mathlib.Core.List.{List, []}
use Prim.Native.Nat.{ℕ, ◌+◌, ◌*◌, ◌<◌}
use native.Mathlib.Omega.{arith}
use lib.Dec.{eqb}
use lib.ListN.{length, take}
use lib.Seq.{take_all}
use Rattle.frame.specs.Pick.{pick}
use Rattle.sheet.specs.declared.tell.SaveStores.{SaveStores}
use Rattle.sheet.specs.Record.{Entry, length_of}
use Rattle.sheet.specs.Slots.{next}
use Rattle.sheet.specs.Stores.{Store, ◌puts◌, made, stores}
use Rattle.sheet.specs.Save.{save_fault, Saves}
use Rattle.sheet.specs.StoresTold.{TellsStores, stores_told}
use Rattle.sheet.proofs.Storing.{stores-length}
use Rattle.sheet.proofs.StorePlaces.{Places, places-take, places-all}
use Rattle.promises_card.specs.Sheet.OneSave.{stores_of, Count}
use Rattle.promises_card.specs.Sheet.InSteps.{Stepped, stores_in, InSteps}
use Rattle.promises_card.proofs.Sheet.OneOutcome.{sheet-outcome}
use Rattle.promises_card.proofs.Sheet.OneSave.{one-save}
use Rattle.promises_card.proofs.Sheet.Telling.{told-stores-are}
use Rattle.promises_card.proofs.Sheet.ToldIsMade.{told-is-made}
use Rattle.promises_card.proofs.Sheet.AtOnce.{Apart, apart-all, apart-take, steps-made, steps-can, steps_first}
use Rattle.std.specs.Prelude.{Result}
use Rattle.frame.specs.declared.faults.Fault.{Fault}

module _ (s : List ℕ) (e : Entry) (told : SaveStores) (tells : TellsStores s e told) where
  -- the stores told are those of a save that may make them all
  abbrev all : ℕ
  all = length_of e + 2

  as-saved : stores_of s e all ≡ stores_told told
  as-saved = go (eqb (save_fault s e) 0) ∙ sym (told-stores-are s e told tells)
    where
      go : (b : Bool) → pick b (take all (stores (32 * next s) e)) [] ≡ pick b (stores (32 * next s) e) []
      go true = take_all all (stores (32 * next s) e) (rw stores-length (omega arith))
      go false = refl

  counted : Count s (stores_of s e all) (sheet-outcome.save s e all).some.0 (sheet-outcome.save s e all).some.1
  counted = one-save.count s e all (sheet-outcome.save s e all).some.0 (sheet-outcome.save s e all).some.1 (sheet-outcome.save s e all).allowed

  pub told-apart : Apart (stores_told told)
  told-apart = subst Apart as-saved (apart-all (stores_of s e all) counted.once)

  pub told-inside : Places (λ n. n < length s) (stores_told told)
  told-inside =
      subst (Places (λ n. n < length s)) as-saved (places-all (λ n. n < length s) (stores_of s e all) (0 puts 0) counted.inside)

  module _ (steps : List (List Store)) (parted : stores_in steps ≡ stores_told told) (j : ℕ) where
    abbrev many : ℕ
    many = length (stores_in (take j steps))

    first : stores_in (take j steps) ≡ take many (stores_told told)
    first = steps_first j steps ∙ ap (take many) parted

    apart-so : Apart (stores_in (take j steps))
    apart-so = subst Apart (sym first) (apart-take many (stores_told told) told-apart)

    inside-so : Places (λ n. n < length s) (stores_in (take j steps))
    inside-so = subst (Places (λ n. n < length s)) (sym first) (places-take (λ n. n < length s) many (stores_told told) told-inside)

    leaves-so : (t : List ℕ) → Stepped s (take j steps) t → (answer : Result ℕ Fault) (u : List ℕ) → Saves s e many answer u → t ≡ u
    leaves-so t Made-so answer u x =
        steps-made Made-so apart-so inside-so ∙ ap (made s) first ∙ told-is-made.leaves s e told tells many answer u x

    can-so : (t : List ℕ) × Stepped s (take j steps) t
    can-so = steps-can (take j steps) s apart-so inside-so

pub in-steps : InSteps
in-steps = record { leaves = leaves-so; can = can-so }
