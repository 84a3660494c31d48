-- Demand 3 stands, by what became of each save: one that its summary did not refuse is one of the sheet's own. A chain follows by induction. Assumes nothing.
use mathlib.Core.Path.{◌≡◌, refl, sym, ap, ◌∙◌}
use mathlib.Core.Logic.{◌≢◌}
use mathlib.Core.Bool.{Bool, true, false, ◌||◌}
use mathlib.Core.List.{List, ◌∷◌}
use Prim.Native.Nat.{ℕ, ◌+◌, ◌≤◌, min}
use native.Mathlib.Omega.{arith}
use borrow.Author.Tests.{ne_eqb}
use lib.Dec.{eqb}
use Rattle.frame.specs.Pick.{pick}
use Rattle.sheet.specs.Record.{length_of}
use Rattle.sheet.specs.Stores.{after}
use Rattle.sheet.specs.Save.{save_fault, Saves}
use Rattle.sheet.proofs.Refusals.{refuses, makes}
use Rattle.summary.specs.declared.Summary.{Summary}
use Rattle.summary.specs.declared.Kept.{Kept}
use Rattle.summary.specs.Handed.{handed_fault}
use Rattle.promises_card.specs.Sheet.History.{History}
use Rattle.promises_card.specs.Summary.Chain.{Step, Goes, Chain, summary_refused, saved_as, as_save, saves_tried}
use Rattle.promises_card.specs.Summary.Chain as chain
use Rattle.promises_card.specs.Sheet.History as history
use Rattle.promises_card.specs.Summary.DemandThreeStands.{DemandThreeStands}
use Rattle.promises_card.proofs.Summary.Kept.{HandedFault, by_37, by-24, by-none, handed-fault, Became, summary_bad, save_bad, closed, short, became, save-number}
use Rattle.std.specs.Prelude.{Result, Ok, Err}
use Rattle.frame.specs.declared.faults.Fault.{Fault}
use Rattle.frame.specs.Faults.{fault}

-- whether a number is one of the two
not-two : (n : ℕ) → n ≤ 14 → (eqb n 37 || eqb n 24) ≡ false
not-two n h = simp (ne_eqb n 37 (omega arith), ne_eqb n 24 (omega arith))

is-two : (page : Summary) → (handed_fault page ≡ 0 → ⊥) → ((eqb (handed_fault page) 37 || eqb (handed_fault page) 24) ≡ true) × (handed_fault page ≢ 13)
is-two page some = go (handed-fault page)
  where
    go : HandedFault page → ((eqb (handed_fault page) 37 || eqb (handed_fault page) 24) ≡ true) × (handed_fault page ≢ 13)
    go (by_37 m n) = (ap (λ (k : ℕ). eqb k 37 || eqb k 24) n, λ q. omega arith)
    go (by-24 m o n) = (ap (λ (k : ℕ). eqb k 37 || eqb k 24) n, λ q. omega arith)
    go (by-none m o n) = absurd (some n)

number_is : (x : Step) (k : Kept) → x.answer ≡ k → summary_refused x ≡ (eqb k.number 37 || eqb k.number 24)
number_is x k h = ap (λ (a : Kept). eqb a.number 37 || eqb a.number 24) h

apart : {A : Type 0} → ◌≡◌ {A = Bool} true false → A
apart e = let z : ◌≡◌ {A = ℕ} 0 1 = cc in absurd (omega arith)

pub one_of : (s : List ℕ) (page : Summary) (x : Step) (t : List ℕ) → Goes s page x t → summary_refused x ≡ false
    → Saves s x.entry x.allowance (saved_as x.answer) t
one_of s page x t g passed = go (became s page x t g)
  where
    saves : (a : Result ℕ Fault) (u : List ℕ) → Saves s x.entry x.allowance a u → saved_as x.answer ≡ a → t ≡ u
        → Saves s x.entry x.allowance (saved_as x.answer) t
    saves a u m p q = record { answers = p ∙ m.answers; leaves = q ∙ m.leaves }

    go : Became s page x t → Saves s x.entry x.allowance (saved_as x.answer) t
    go (summary_bad some a q) = apart (sym (number_is x _ a ∙ (is-two page some).0) ∙ passed)
    go (save_bad h some a q) =
        let n = save_fault s x.entry in
        saves (Err (fault n)) s (refuses s x.entry x.allowance n refl (ne_eqb n 0 some))
        (ap saved_as a ∙ ap (λ (b : Bool). pick b (Ok 0) (Err (fault n))) (ne_eqb n 0 some)) q
    go (closed h f l a q) =
        let m : length_of x.entry + 2 ≡ min x.allowance (length_of x.entry + 2) = omega arith in
        saves (Ok (min x.allowance (length_of x.entry + 2))) (after s x.entry x.allowance) (makes s x.entry x.allowance f)
        (ap saved_as a ∙ ap Ok m) q
    go (short h f l a q) =
        let m : x.allowance ≡ min x.allowance (length_of x.entry + 2) = omega arith in
        saves (Ok (min x.allowance (length_of x.entry + 2))) (after s x.entry x.allowance) (makes s x.entry x.allowance f)
        (ap saved_as a ∙ ap Ok m) q

pub refused-of : (s : List ℕ) (page : Summary) (x : Step) (t : List ℕ) → Goes s page x t → summary_refused x ≡ true → (t ≡ s) × (x.answer.number ≢ 13)
refused-of s page x t g told = go (became s page x t g)
  where
    go : Became s page x t → (t ≡ s) × (x.answer.number ≢ 13)
    go (summary_bad some a q) = (q, λ n. (is-two page some).1 (sym (ap (λ (k : Kept). k.number) a) ∙ n))
    go (save_bad h some a q) = apart (sym told ∙ number_is x _ a ∙ not-two (save_fault s x.entry) (save-number s x.entry))
    go (closed h f l a q) = apart (sym told ∙ number_is x _ a)
    go (short h f l a q) = apart (sym told ∙ number_is x _ a)

history-of : {from : List ℕ} {begin : Summary} {h : List Step} {t : List ℕ} {page : Summary} → Chain from begin h t page → History from (saves_tried h) t
unfolding saves_tried
history-of chain.begun = history.begun
history-of {from} (chain.kept {h = h} {s = s} {t = t} {page = before} x c g) = go (summary_refused x) refl (history-of c)
  where
    go : (b : Bool) → summary_refused x ≡ b → History from (saves_tried h) s → History from (pick b (saves_tried h) (as_save x ∷ saves_tried h)) t
    go true r rest = rw (refused-of s before x t g r).0 rest
    go false r rest = history.saved (as_save x) rest (one_of s before x t g r)

pub demand-three-stands : DemandThreeStands
demand-three-stands = record { one = one_of; refused = refused-of; history = λ from begin h t page c. history-of c }
