-- What is told of a save: its number, how many stores, the slot and the stores, by what speaks against the save. Assumes nothing.
use mathlib.Core.Path.{◌≡◌, refl, sym, ap, ◌∙◌}
use mathlib.Core.Bool.{Bool, true, false}
use mathlib.Core.List.{List, []}
use Prim.Native.Nat.{ℕ, ◌+◌, ◌*◌}
use borrow.Author.Tests.{eq-eqb}
use lib.Dec.{eqb}
use lib.ListN.{take}
use lib.Seq.{take-nil}
use Rattle.frame.specs.Pick.{pick}
use Rattle.frame.proofs.Answers.{number_is}
use Rattle.sheet.specs.declared.tell.SaveStores.{SaveStores}
use Rattle.sheet.specs.Record.{Entry, length_of}
use Rattle.sheet.specs.Slots.{next}
use Rattle.sheet.specs.Stores.{Store, made, stores, after}
use Rattle.sheet.specs.Save.{save_fault}
use Rattle.sheet.specs.StoresTold.{telling, refusing, save_told, TellsStores, stores_told}
use Rattle.sheet.proofs.Storing.{stores-length}
use Rattle.sheet.proofs.Refusals.{Clear, clear, clear-fault}
use Rattle.sheet.proofs.Rows.{told-stores}

module _ (s : List ℕ) (e : Entry) (told : SaveStores) (tells : TellsStores s e told) where
  abbrev pub fault : ℕ
  fault = save_fault s e

  abbrev pub answer_by : Bool → SaveStores
  answer_by b = pick b (telling (next s) (stores 0 e)) (refusing fault)

  pub told_is : told ≡ answer_by (eqb fault 0)
  unfolding save_told
  told_is = tells.answers

  pub told-number-is : told.number ≡ fault
  told-number-is =
      ap (λ (a : SaveStores). a.number) told_is
      ∙ number_is (telling (next s) (stores 0 e)) refusing (λ (a : SaveStores). a.number) refl (λ f. refl) fault

  pub told-count-is : told.count ≡ pick (eqb fault 0) (length_of e + 2) 0
  told-count-is = ap (λ (a : SaveStores). a.count) told_is ∙ go (eqb fault 0)
    where
      go : (b : Bool) → (answer_by b).count ≡ pick b (length_of e + 2) 0
      go true = stores-length 0 e
      go false = refl

  pub told-stores-are : stores_told told ≡ pick (eqb fault 0) (stores (32 * next s) e) []
  told-stores-are = ap stores_told tells.answers ∙ told-stores s e

  -- So the first of them make what the save makes.
  pub first_made : (k : ℕ) → made s (take k (stores_told told)) ≡ pick (eqb fault 0) (after s e k) s
  first_made k = ap (λ (ps : List Store). made s (take k ps)) told-stores-are ∙ go (eqb fault 0)
    where
      go : (b : Bool) → made s (take k (pick b (stores (32 * next s) e) [])) ≡ pick b (after s e k) s
      go true = unfold after in refl
      go false = unfold made in ap (made s) (take-nil k)

  -- A save that is not refused.
  pub not-refused : told.number ≡ 0 → Clear s e
  not-refused z = clear s e (sym told-number-is ∙ z)

  module _ (c : Clear s e) where
    no-fault : eqb fault 0 ≡ true
    no-fault = eq-eqb fault 0 (clear-fault s e c)

    pub slot_is : told.slot ≡ next s
    slot_is = ap (λ (a : SaveStores). a.slot) (told_is ∙ ap answer_by no-fault)

    pub count-is : told.count ≡ length_of e + 2
    count-is = told-count-is ∙ ap (λ (b : Bool). pick b (length_of e + 2) 0) no-fault

    pub stores-are : stores_told told ≡ stores (32 * next s) e
    stores-are = told-stores-are ∙ ap (λ (b : Bool). pick b (stores (32 * next s) e) []) no-fault
