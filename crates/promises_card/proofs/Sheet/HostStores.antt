-- Demand 3 of a host that stores itself: told is made, so each told save is a save, and a history of them is a history of saves. Assumes nothing.
use mathlib.Core.Path.{◌≡◌, refl, sym, ◌∙◌}
use mathlib.Core.Logic.{◌↔◌}
use mathlib.Core.Bool.{Bool, true, false}
use mathlib.Core.List.{List}
use Prim.Native.Nat.{ℕ, ◌+◌, ◌≤◌, min}
use native.Mathlib.Omega.{arith}
use lib.Dec.{eqb}
use Rattle.frame.specs.Pick.{pick}
use Rattle.frame.proofs.Numbers.{verdict_number}
use Rattle.sheet.specs.Record.{Entry, length_of, passes}
use Rattle.sheet.specs.Save.{save_fault, saved_number}
use Rattle.sheet.proofs.SaveNumbers.{save-small}
use Rattle.promises_card.specs.Sheet.History.{TakesSheet, History, begun, saved, SheetAfter, blank_sheet, closed_in, broken_in}
use Rattle.promises_card.specs.Sheet.HostStores.{ToldSave, HostTakes, HostHistory, untouched, stored, as_save, as_saves, HostStores}
use Rattle.promises_card.proofs.Sheet.Telling.{told-number-is, told-count-is, first_made}
use Rattle.promises_card.proofs.Sheet.ListAndFull.{list-and-full}
use Rattle.std.specs.Prelude.{Ok, Err}
use Rattle.frame.specs.Faults.{fault}

-- One told save is a save.
module _ (s : List ℕ) (x : ToldSave) (t : List ℕ) (m : HostTakes s x t) where
  abbrev e : Entry
  e = x.entry

  abbrev refusal : ℕ
  refusal = save_fault s e

  abbrev cut : ℕ
  cut = x.cut

  answer-is : (as_save x).answer ≡ pick (eqb refusal 0) (Ok (min cut (length_of e + 2))) (Err (fault refusal))
  answer-is =
      (λ i. pick (eqb (told-number-is s e x.told m.tells i) 0) (Ok (min cut (told-count-is s e x.told m.tells i)))
      (Err (fault (told-number-is s e x.told m.tells i))))
      ∙ go (eqb refusal 0)
    where
      go : (b : Bool) → pick b (Ok (min cut (pick b (length_of e + 2) 0))) (Err (fault refusal)) ≡ pick b (Ok (min cut (length_of e + 2))) (Err (fault refusal))
      go true = refl
      go false = refl

  pub is-save : TakesSheet s (as_save x) t
  is-save = record { answers = answer-is; leaves = m.makes ∙ first_made s e x.told m.tells cut }

-- The number told is the one that the save is answered.
number-told : (s : List ℕ) (x : ToldSave) (t : List ℕ) → HostTakes s x t → saved_number (as_save x).answer ≡ x.told.number
number-told s x t m =
    let small : x.told.number ≤ 38 = omega (arith, told-number-is s x.entry x.told m.tells, save-small s x.entry) in
    verdict_number saved_number (λ _. refl) (λ _. refl) x.told.number (min x.cut x.told.count) small

history-of : {from : List ℕ} {h : List ToldSave} {t : List ℕ} → HostHistory from h t → History from (as_saves h) t
history-of untouched = begun
history-of (stored {s = s} {t = t} x h m) = saved (as_save x) (history-of h) (is-save s x t m)

after-of : (n : ℕ) → n ≤ 2048 → (h : List ToldSave) (s : List ℕ) → HostHistory (blank_sheet n) h s → SheetAfter n (as_saves h) s
after-of n few h s hist = record { allowed = few; history = history-of hist }

full-of : (n : ℕ) → n ≤ 2048 → (h : List ToldSave) (s : List ℕ) → HostHistory (blank_sheet n) h s → (x : ToldSave) (t : List ℕ) → HostTakes s x t
    → passes x.entry ≡ true → (x.told.number ≡ 13) ↔ (closed_in (as_saves h) + broken_in (as_saves h) ≡ n)
full-of n few h s hist x t m good =
    let both = list-and-full.full n (as_saves h) s (after-of n few h s hist) (as_save x) t (is-save s x t m) good in
    let told = number-told s x t m in
    (λ q. both.0 (told ∙ q), λ q. sym told ∙ both.1 q)

pub host-stores : HostStores
host-stores =
    record {
      history = λ from h t. history-of;
      list = λ n few h s hist x t m. list-and-full.list n (as_saves h) s (after-of n few h s hist) (as_save x) t (is-save s x t m);
      whole = λ n few h s hist. list-and-full.whole n (as_saves h) s (after-of n few h s hist);
      full = full-of;
      stays = λ n few h s hist later t more. list-and-full.stays n (as_saves h) s (after-of n few h s hist) (as_saves later) t (history-of more);
    }
