-- The numbers of a save's tests are in the table of faults, so that its answer has the number of what refuses it. Assumes nothing.
use mathlib.Core.Path.{◌≡◌, refl, ap, ◌∙◌}
use mathlib.Core.Bool.{not}
use mathlib.Core.List.{List, [], ◌∷◌, ◌++◌}
use Prim.Native.Nat.{ℕ, ◌≤◌}
use lib.Dec.{leb}
use Rattle.std.specs.Prelude.{Result}
use Rattle.frame.specs.declared.faults.Fault.{Fault}
use Rattle.frame.specs.Faults.{◌gives◌, verdict}
use Rattle.frame.proofs.Numbers.{first_small, verdict_number}
use Rattle.sheet.specs.Record.{Entry, checks}
use Rattle.sheet.specs.Slots.{size_allowed, slots, next}
use Rattle.sheet.specs.Save.{into_fault, save_fault, Saves, saved_number}

pub save-small : (s : List ℕ) (e : Entry) → save_fault s e ≤ 38
unfolding save_fault into_fault
save-small s e = first_small (not (size_allowed s) gives 12 ∷ checks e ++ leb (slots s) (next s) gives 13 ∷ []) tt

pub save-number : (s : List ℕ) (e : Entry) (made : ℕ) → saved_number (verdict (save_fault s e) made) ≡ save_fault s e
save-number s e made = verdict_number saved_number (λ _. refl) (λ _. refl) (save_fault s e) made (save-small s e)

pub answer-number : (s : List ℕ) (e : Entry) (may : ℕ) (answer : Result ℕ Fault) (t : List ℕ) → Saves s e may answer t → saved_number answer ≡ save_fault s e
answer-number s e may answer t x = ap saved_number x.answers ∙ save-number s e _
