-- Told is made: by whether the save is refused, the first stores told are those of the save. Assumes nothing.
use mathlib.Core.Path.{◌≡◌, refl, sym, ap, subst, ◌∙◌}
use mathlib.Core.Logic.{◌≢◌}
use mathlib.Core.Bool.{Bool, true, false}
use mathlib.Core.List.{List, [], ◌++◌, map}
use Prim.Native.Nat.{ℕ, zero, suc, ◌+◌, ◌-◌, ◌*◌, ◌≤◌, min}
use native.Mathlib.Omega.{arith}
use borrow.Author.Tests.{ne_eqb}
use lib.Dec.{eqb}
use lib.ListN.{length, get_or, replicate, length-map}
use lib.Seq.{get_or-append-add}
use Rattle.frame.specs.Pick.{pick}
use Rattle.sheet.specs.declared.tell.SaveStores.{SaveStores}
use Rattle.sheet.specs.Record.{Entry, length_of}
use Rattle.sheet.specs.Slots.{next}
use Rattle.sheet.specs.Stores.{Store, stores}
use Rattle.sheet.specs.Save.{save_fault, Saves, stores_made}
use Rattle.sheet.specs.StoresTold.{zeros_behind, refusing, TellsStores, stores_told}
use Rattle.sheet.proofs.Storing.{stores-length}
use Rattle.sheet.proofs.TakenSlot.{good-short}
use Rattle.sheet.proofs.SaveNumbers.{answer-number}
use Rattle.promises_card.specs.Sheet.ToldIsMade.{ToldIsMade}
use Rattle.promises_card.proofs.Sheet.Telling.{told_is, told-number-is, told-count-is, told-stores-are, first_made, not-refused, count-is, answer_by}
use Rattle.std.specs.Prelude.{Result, Ok, Err}
use Rattle.frame.specs.declared.faults.Fault.{Fault}
use Rattle.frame.specs.Faults.{fault}

-- A row of zeros has 0 wherever it is read, and a told row behind what it tells.
zero-at : (m i : ℕ) → get_or {A = ℕ} (replicate m 0) i 0 ≡ 0
zero-at zero i = refl
zero-at (suc m) zero = refl
zero-at (suc m) (suc i) = zero-at m i

zero-behind : (xs : List ℕ) (i : ℕ) → length xs ≤ i → get_or (zeros_behind xs) i 0 ≡ 0
zero-behind xs i h =
    let zeros : List ℕ = replicate (19 - length xs) 0 in
    let j = i - length xs in
    let there : i ≡ length xs + j = omega arith in
    ap (λ (n : ℕ). get_or (xs ++ zeros) n 0) there ∙ get_or-append-add xs zeros j 0 ∙ zero-at (19 - length xs) j

module _ (s : List ℕ) (e : Entry) (told : SaveStores) (tells : TellsStores s e told) where
  abbrev refusal : ℕ
  refusal = save_fault s e

  stores-count : (k : ℕ) (answer : Result ℕ Fault) (t : List ℕ) → Saves s e k answer t → stores_made answer ≡ min k told.count
  stores-count k answer t x =
      ap stores_made x.answers ∙ go (eqb refusal 0) ∙ ap (min k) (sym (told-count-is s e told tells))
    where
      go : (b : Bool) → stores_made (pick b (Ok (min k (length_of e + 2))) (Err (fault refusal))) ≡ min k (pick b (length_of e + 2) 0)
      go true = refl
      go false = omega arith

  length-told : length (stores_told told) ≡ told.count
  length-told = ap length (told-stores-are s e told tells) ∙ go (eqb refusal 0) ∙ sym (told-count-is s e told tells)
    where
      go : (b : Bool) → length (pick b (stores (32 * next s) e) []) ≡ pick b (length_of e + 2) 0
      go true = stores-length (32 * next s) e
      go false = refl

  few-or-many : told.number ≡ 0 → (11 ≤ told.count) × (told.count ≤ 19)
  few-or-many z =
      let c = not-refused s e told tells z in
      let all : told.count ≡ length_of e + 2 = count-is s e told tells c in
      let short : length_of e ≤ 17 = good-short e c.good in
      (omega arith, omega arith)

  -- the rows, by what is told
  abbrev Zeros : SaveStores → Type 0
  Zeros a = (i : ℕ) → a.count ≤ i → (get_or a.places i 0 ≡ 0) × (get_or a.bytes i 0 ≡ 0)

  zeros-told : Zeros told
  zeros-told = subst Zeros (sym (told_is s e told tells)) (go (eqb refusal 0))
    where
      row : (f : Store → ℕ) (i : ℕ) → length (stores 0 e) ≤ i → get_or (zeros_behind (map f (stores 0 e))) i 0 ≡ 0
      row f i h = zero-behind (map f (stores 0 e)) i (rw length-map h)

      go : (b : Bool) → Zeros (answer_by s e told tells b)
      go true i h = (row (λ (p : Store). p.place) i h, row (λ (p : Store). p.byte) i h)
      go false i h = (zero-at 19 i, zero-at 19 i)

  refused-told : told.number ≢ 0 → told ≡ refusing told.number
  refused-told h =
      let is = told-number-is s e told tells in
      told_is s e told tells ∙ ap (answer_by s e told tells) (ne_eqb refusal 0 (λ z. h (is ∙ z))) ∙ ap refusing (sym is)

pub told-is-made : ToldIsMade
told-is-made =
    record {
      leaves = λ s e told tells k answer t x. first_made s e told tells k ∙ sym x.leaves;
      number = λ s e told tells k answer t x.
          answer-number s e k answer t x ∙ sym (told-number-is s e told tells);
      answers = stores-count;
      all_told = length-told;
      how_many = few-or-many;
      zeros = zeros-told;
      refused = refused-told;
    }
