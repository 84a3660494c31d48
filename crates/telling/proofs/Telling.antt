-- What is told of a save, by what the save would answer: the number of the refusal alone, or the stores. Assumes nothing.
use mathlib.Core.Path.{◌≡◌, sym, ap, ◌∙◌}
use mathlib.Core.Bool.{Bool, true, false, not}
use mathlib.Core.List.{List, [], ◌∷◌, ◌++◌}
use Prim.Native.Nat.{ℕ, ◌≤◌}
use borrow.Author.Tests.{ne_eqb}
use lib.Dec.{eqb, leb}
use Rattle.std.specs.Prelude.{Ok, Err}
use Rattle.frame.specs.declared.faults.Fault.{Fault}
use Rattle.frame.specs.Pick.{pick}
use Rattle.frame.specs.Faults.{◌gives◌, number_of, fault, verdict}
use Rattle.frame.proofs.Verdicts.{was-refused}
use Rattle.frame.proofs.Numbers.{first_small, own_number}
use Rattle.sheet.specs.declared.tell.SaveStores.{SaveStores}
use Rattle.sheet.specs.Record.{Entry, checks}
use Rattle.sheet.specs.Slots.{size_allowed, slots, next}
use Rattle.sheet.specs.Stores.{stores}
use Rattle.sheet.specs.Save.{into_fault, save_fault}
use Rattle.sheet.specs.StoresTold.{telling, refusing, save_told, TellsStores}

-- the numbers of a save's refusals are in the table
save-small : (s : List ℕ) (e : Entry) → save_fault s e ≤ 38
unfolding save_fault into_fault
save-small s e = first_small (not (size_allowed s) gives 12 ∷ checks e ++ leb (slots s) (next s) gives 13 ∷ []) tt

module _ (s : List ℕ) (e : Entry) where
  abbrev would : SaveStores
  would = telling (next s) (stores 0 e)

  -- the stores
  pub tells-stores : (told : SaveStores) → verdict (save_fault s e) would ≡ Ok told → TellsStores s e told
  unfolding save_told
  tells-stores told is = record { answers = go (eqb (save_fault s e) 0) is }
    where
      go : (t : Bool) → pick t (Ok would) (Err (fault (save_fault s e))) ≡ Ok told → told ≡ pick t would (refusing (save_fault s e))
      go true is = cc
      go false is = absurd (cc)

  -- the refusal
  pub tells-refusal : (f : Fault) → verdict (save_fault s e) would ≡ Err f → TellsStores s e (refusing (number_of f))
  unfolding save_told
  tells-refusal f is =
      let w = was-refused (save_fault s e) would f is in
      let own : number_of f ≡ save_fault s e = ap number_of w.1 ∙ own_number (save_fault s e) w.0 (save-small s e) in
      record { answers = ap refusing own ∙ sym (ap (λ (t : Bool). pick t would (refusing (save_fault s e))) (ne_eqb (save_fault s e) 0 w.0)) }
