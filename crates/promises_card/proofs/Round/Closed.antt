-- Of the tries of a round all but the latest closed their records: one that made fewer stores than all its own used the allowance up. Assumes nothing.
use mathlib.Core.Path.{◌≡◌, refl, sym, ap, ◌∙◌}
use mathlib.Core.Logic.{◌≢◌}
use mathlib.Core.Bool.{Bool, true, false}
use mathlib.Core.List.{List, [], ◌∷◌, map}
use Prim.Native.Nat.{ℕ, ◌+◌, ◌<◌, ◌≤◌, min}
use native.Mathlib.Omega.{arith}
use borrow.Author.Tests.{eqb-false}
use lib.Dec.{eqb}
use Rattle.frame.specs.Pick.{pick}
use Rattle.sheet.specs.Record.{length_of}
use Rattle.sheet.specs.Save.{save_fault, saved_number, stores_made}
use Rattle.sheet.proofs.SaveNumbers.{save-small, answer-number}
use Rattle.summary.specs.declared.Summary.{Summary}
use Rattle.summary.specs.declared.Kept.{Kept}
use Rattle.summary.specs.Updated.{with_record}
use Rattle.summary.specs.Calls.{kept_of, keep_fault, closes_record}
use Rattle.promises_card.specs.Sheet.History.{Save, TakesSheet, History}
use Rattle.promises_card.specs.Sheet.History as history
use Rattle.promises_card.specs.Summary.Chain.{Step, Goes, Chain}
use Rattle.promises_card.specs.Summary.Chain as chain
use Rattle.promises_card.proofs.Summary.Kept.{step-small}
use Rattle.promises_card.specs.Round.Tries.{Try, try_save, try_step, stores_in_tries, number_of, Rules, none_yet, next}
use Rattle.std.specs.Prelude.{Ok, Err}
use Rattle.frame.specs.Faults.{fault}

-- what a save can have answered: so many stores as it was given or has, or a refusal by a number of the table
pub data Real (x : Try) : Type 0 where
  made : x.number ≡ 0 → x.stores ≡ min x.given (length_of x.entry + 2) → Real x
  refused : x.number ≢ 0 → x.number ≤ 38 → x.stores ≡ 0 → Real x

pub data AllReal : List Try → Type 0 where
  none_real : AllReal []
  one_real : {h : List Try} {x : Try} → Real x → AllReal h → AllReal (x ∷ h)

save-real : (s : List ℕ) (x : Save) (t : List ℕ) → TakesSheet s x t → Real (try_save x)
save-real s x t m = go (eqb (save_fault s x.entry) 0) refl m.answers
  where
    go : (b : Bool) → eqb (save_fault s x.entry) 0 ≡ b
        → x.answer ≡ pick b (Ok (min x.allowance (length_of x.entry + 2))) (Err (fault (save_fault s x.entry))) → Real (try_save x)
    go true h a = made (ap saved_number a) (ap stores_made a)
    go false h a =
        let number = answer-number s x.entry x.allowance x.answer t m in
        refused (λ z. eqb-false (save_fault s x.entry) 0 h (sym number ∙ z)) (omega (arith, number, save-small s x.entry)) (ap stores_made a)

pub history-real : {from : List ℕ} {h : List Save} {t : List ℕ} → History from h t → AllReal (map try_save h)
history-real history.begun = none_real
history-real (history.saved {s = s} {t = t} x before m) = one_real (save-real s x t m) (history-real before)

step-real : (s : List ℕ) (page : Summary) (x : Step) (t : List ℕ) → Goes s page x t → Real (try_step x)
step-real s page x t m = go (eqb (keep_fault s page x.entry) 0) refl m.answers
  where
    go : (b : Bool) → eqb (keep_fault s page x.entry) 0 ≡ b
        → x.answer
        ≡ pick b (kept_of (pick (closes_record x.entry x.allowance) (with_record x.entry page) page) (min x.allowance (length_of x.entry + 2)) 0)
        (kept_of page 0 (keep_fault s page x.entry))
        → Real (try_step x)
    go true h a = made (ap (λ (k : Kept). k.number) a) (ap (λ (k : Kept). k.count) a)
    go false h a =
        refused (λ z. eqb-false (keep_fault s page x.entry) 0 h (sym (ap (λ (k : Kept). k.number) a) ∙ z)) (step-small s page x t m)
        (ap (λ (k : Kept). k.count) a)

pub chain-real : {from : List ℕ} {begin : Summary} {h : List Step} {t : List ℕ} {page : Summary} → Chain from begin h t page → AllReal (map try_step h)
chain-real chain.begun = none_real
chain-real (chain.kept {s = s} {t = t} {page = page} x before m) = one_real (step-real s page x t m) (chain-real before)

-- all closed
pub data AllClosed : List Try → Type 0 where
  none_closed : AllClosed []
  one-closed : {h : List Try} {x : Try} → x.stores ≡ length_of x.entry + 2 → x.number ≡ 0 → AllClosed h → AllClosed (x ∷ h)

pub closed-before : (allowance : ℕ) (h : List Try) → Rules allowance h → AllReal h → number_of h ≡ 0 → stores_in_tries h < allowance → AllClosed h
unfolding stores_in_tries
closed-before allowance [] none_yet none_real n l = none_closed
closed-before allowance (x ∷ h) (next y rules before left given) (one_real (made z s) real) n l =
    let all : x.stores ≡ length_of x.entry + 2 = omega (arith, given, s, l) in
    one-closed {x = x} all z (closed-before allowance h rules real before left)
closed-before allowance (x ∷ h) (next y rules before left given) (one_real (refused z few s) real) n l = absurd (z n)
