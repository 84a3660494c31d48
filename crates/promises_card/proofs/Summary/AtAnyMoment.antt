-- At any moment, by induction on the chain: a closed record is one more in the list and brings the summary up to date; every other save leaves the list
-- and the summary. A sheet's list has at most 2,048 records, so its summary is never refused. Assumes nothing.
use mathlib.Core.Path.{◌≡◌, refl, sym, ap, ◌∙◌}
use mathlib.Core.Logic.{◌≢◌}
use mathlib.Core.Bool.{Bool, true, false}
use mathlib.Core.List.{List, [], ◌∷◌, ◌++◌, append-nil}
use Prim.Native.Nat.{ℕ, ◌+◌, ◌<◌, ◌≤◌}
use native.Mathlib.Omega.{arith}
use borrow.Author.Tests.{eqb-true, eqb-false}
use lib.Dec.{eqb}
use lib.ListN.{length}
use Rattle.sheet.proofs.FewRecords.{few-records}
use Rattle.sheet.specs.Record.{length_of}
use Rattle.sheet.specs.Slots.{Slot, spoiled, holds, record_in, size_allowed, length_allowed, slots, slot_at, slot_of, list_of, next}
use Rattle.sheet.specs.Stores.{after}
use Rattle.summary.specs.declared.Summary.{Summary}
use Rattle.summary.specs.declared.Kept.{Kept}
use Rattle.summary.specs.Worked.{summary_of}
use Rattle.summary.specs.Handed.{handed_fault}
use Rattle.summary.specs.Updated.{with_record}
use Rattle.summary.proofs.OneRecordMore.{summary-more}
use Rattle.sheet.proofs.Seen.{few-slots}
use Rattle.summary.proofs.Shaped.{handed-worked}
use Rattle.promises_card.specs.Summary.Chain.{Step, Goes, Chain}
use Rattle.promises_card.specs.Summary.Chain as chain
use Rattle.promises_card.specs.Summary.AtAnyMoment.{AtAnyMoment}
use Rattle.sheet.proofs.SaveMade as made-law
use Rattle.sheet.proofs.Refusals.{Clear, clear}
use Rattle.promises_card.proofs.Summary.Kept.{Became, summary_bad, save_bad, closed, short, became, save-number}

-- the list after a save that was made
module _ (s : List ℕ) (x : Step) (t : List ℕ) (c : Clear s x.entry) (q : t ≡ after s x.entry x.allowance) where
  told : (y : Slot) → slot_of (slot_at (after s x.entry x.allowance) (next s)) ≡ y → list_of t ≡ list_of s ++ record_in y
  told y h = ap list_of q ∙ made-law.list-told s x.entry x.allowance c.good c.left ∙ ap (λ (z : Slot). list_of s ++ record_in z) h

  grows : length_of x.entry + 2 ≤ x.allowance → list_of t ≡ list_of s ++ x.entry ∷ []
  grows l = told (holds x.entry) (made-law.closes s x.entry x.allowance c.good c.left x.minute_fits l)

  stays : x.allowance < length_of x.entry + 2 → list_of t ≡ list_of s
  stays l = go (eqb x.allowance 0) refl
    where
      go : (b : Bool) → eqb x.allowance 0 ≡ b → list_of t ≡ list_of s
      go true e = ap list_of (q ∙ made-law.untouched s x.entry x.allowance c.good c.left (eqb-true x.allowance 0 e))
      go false e =
          let some = eqb-false x.allowance 0 e in
          told spoiled (made-law.breaks s x.entry x.allowance c.good c.left (omega arith) l) ∙ append-nil (list_of s)

  as_long : length t ≡ length s
  as_long = ap length q ∙ made-law.as_long s x.entry x.allowance c.good c.left

summary-is : (x : Step) (k : Kept) → x.answer ≡ k → x.answer.summary ≡ k.summary
summary-is x k h = ap (λ (a : Kept). a.summary) h

one-step : (s : List ℕ) (page : Summary) (x : Step) (t : List ℕ) → page ≡ summary_of (list_of s) → Became s page x t → x.answer.summary ≡ summary_of (list_of t)
one-step s page x t e (summary_bad some a q) = summary-is x _ a ∙ e ∙ ap (λ (u : List ℕ). summary_of (list_of u)) (sym q)
one-step s page x t e (save_bad h some a q) = summary-is x _ a ∙ e ∙ ap (λ (u : List ℕ). summary_of (list_of u)) (sym q)
one-step s page x t e (closed h f l a q) =
    summary-is x _ a ∙ ap (with_record x.entry) e ∙ sym (summary-more (list_of s) x.entry)
    ∙ ap summary_of (sym (grows s x t (clear s x.entry f) q l))
one-step s page x t e (short h f l a q) = summary-is x _ a ∙ e ∙ ap summary_of (sym (stays s x t (clear s x.entry f) q l))

long-step : (s : List ℕ) (page : Summary) (x : Step) (t : List ℕ) → Became s page x t → length t ≡ length s
long-step s page x t (summary_bad some a q) = ap length q
long-step s page x t (save_bad h some a q) = ap length q
long-step s page x t (closed h f l a q) = as_long s x t (clear s x.entry f) q
long-step s page x t (short h f l a q) = as_long s x t (clear s x.entry f) q

equals-of : {from : List ℕ} {h : List Step} {t : List ℕ} {page : Summary} → Chain from (summary_of (list_of from)) h t page → page ≡ summary_of (list_of t)
equals-of chain.begun = refl
equals-of (chain.kept {s = s} {t = t} {page = before} x c g) = one-step s before x t (equals-of c) (became s before x t g)

long_of : {from : List ℕ} {begin : Summary} {h : List Step} {t : List ℕ} {page : Summary} → Chain from begin h t page → length t ≡ length from
long_of chain.begun = refl
long_of (chain.kept {s = s} {t = t} {page = before} x c g) = long-step s before x t (became s before x t g) ∙ long_of c

never-of : (from : List ℕ) → size_allowed from ≡ true → (h : List Step) (s : List ℕ) (page : Summary) → Chain from (summary_of (list_of from)) h s page
    → (x : Step) (t : List ℕ) → Goes s page x t → (x.answer.number ≢ 37) × (x.answer.number ≢ 24)
never-of from sized h s page c x t g =
    let sized-s : size_allowed s ≡ true = ap length_allowed (long_of c) ∙ sized in
    let few : length (list_of s) ≤ 1_000_000 = omega (arith, few-records s (slots s), few-slots s sized-s) in
    let clean : handed_fault page ≡ 0 = ap handed_fault (equals-of c) ∙ handed-worked (list_of s) few in
    go clean (became s page x t g)
  where
    number_is : (k : Kept) → x.answer ≡ k → k.number ≤ 14 → (x.answer.number ≢ 37) × (x.answer.number ≢ 24)
    number_is k a l =
        let n : x.answer.number ≡ k.number = ap (λ (y : Kept). y.number) a in
        (λ e. omega arith, λ e. omega arith)

    go : handed_fault page ≡ 0 → Became s page x t → (x.answer.number ≢ 37) × (x.answer.number ≢ 24)
    go clean (summary_bad some a q) = absurd (some clean)
    go clean (save_bad h some a q) = number_is _ a (save-number s x.entry)
    go clean (closed h f l a q) = number_is _ a (omega arith)
    go clean (short h f l a q) = number_is _ a (omega arith)

pub at-any-moment : AtAnyMoment
at-any-moment = record { equals = λ from sized h t page c. equals-of c; never = never-of }
