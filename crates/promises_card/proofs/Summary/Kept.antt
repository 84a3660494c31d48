-- What becomes of a save with its summary, told apart once: refused by its summary, or one of the sheet's own saves with the same answer, which brings
-- the summary up to date exactly where it closed its record. Assumes nothing.
use mathlib.Core.Path.{◌≡◌, refl, ap, ◌∙◌}
use mathlib.Core.Bool.{Bool, true, false, not}
use mathlib.Core.List.{List}
use Prim.Native.Nat.{ℕ, ◌+◌, ◌<◌, ◌≤◌, min}
use native.Mathlib.Omega.{arith}
use borrow.Author.Tests.{eqb-true, eqb-false, leb-true, leb-false}
use lib.Dec.{eqb, ltb, leb}
use Rattle.frame.specs.Pick.{pick}
use Rattle.frame.specs.Line.{formed}
use Rattle.frame.specs.Faults.{first_of}
use Rattle.sheet.specs.Record.{Entry, checks, passes, length_of}
use Rattle.sheet.specs.Slots.{size_allowed, slots, next}
use Rattle.sheet.specs.Stores.{after}
use Rattle.sheet.specs.Save.{save_fault}
use Rattle.sheet.proofs.Refusals.{save-fault}
use Rattle.sheet.proofs.SaveNumbers.{save-small}
use Rattle.summary.specs.declared.Summary.{Summary}
use Rattle.summary.specs.Handed.{misshapen, over, handed_fault}
use Rattle.summary.specs.Updated.{with_record}
use Rattle.summary.specs.Calls.{kept_of, keep_fault, closes_record}
use Rattle.frame.proofs.Answers.{number_is}
use Rattle.frame.proofs.Tables.{pick-case}
use Rattle.summary.specs.declared.Kept.{Kept}
use Rattle.promises_card.specs.Summary.Chain.{Step, Goes}

-- the numbers of the sheet's save
checks-small : (e : Entry) → first_of (checks e) ≤ 14
checks-small e = unfold first_of in go (ltb 15 e.settings) (ltb 999 e.address) (not (formed e.count e.reply))
  where
    go : (a b c : Bool) → pick a 10 (pick b 11 (pick c 14 0)) ≤ 14
    go true b c = omega arith
    go false true c = omega arith
    go false false true = omega arith
    go false false false = omega arith

pub save-number : (s : List ℕ) (e : Entry) → save_fault s e ≤ 14
save-number s e = rw (save-fault s e) (go (size_allowed s) (passes e) (leb (slots s) (next s)))
  where
    go : (a b c : Bool) → pick a (pick b (pick c 13 0) (first_of (checks e))) 12 ≤ 14
    go true true true = omega arith
    go true true false = omega arith
    go true false c = checks-small e
    go false b c = omega arith

-- the number of a summary that is refused
pub data HandedFault (page : Summary) : Type 0 where
  by_37 : misshapen page ≡ true → handed_fault page ≡ 37 → HandedFault page
  by-24 : misshapen page ≡ false → over page ≡ true → handed_fault page ≡ 24 → HandedFault page
  by-none : misshapen page ≡ false → over page ≡ false → handed_fault page ≡ 0 → HandedFault page

pub handed-fault : (page : Summary) → HandedFault page
handed-fault page = go (misshapen page) (over page) refl refl
  where
    number : (m o : Bool) → misshapen page ≡ m → over page ≡ o → handed_fault page ≡ pick m 37 (pick o 24 0)
    number m o e f = unfold handed_fault in simp (e, f)

    go : (m o : Bool) → misshapen page ≡ m → over page ≡ o → HandedFault page
    go true o e f = by_37 e (number true o e f)
    go false true e f = by-24 e f (number false true e f)
    go false false e f = by-none e f (number false false e f)

-- the number of a save with its summary is in the table of faults
handed-small : (page : Summary) → handed_fault page ≤ 38
handed-small page = go (handed-fault page)
  where
    go : HandedFault page → handed_fault page ≤ 38
    go (by_37 m n) = omega (arith, n)
    go (by-24 m o n) = omega (arith, n)
    go (by-none m o n) = omega (arith, n)

keep-small : (s : List ℕ) (page : Summary) (e : Entry) → keep_fault s page e ≤ 38
unfolding keep_fault
keep-small s page e = pick-case (λ (n : ℕ). n ≤ 38) (eqb (handed_fault page) 0) (save-small s e) (handed-small page)

pub step-small : (s : List ℕ) (page : Summary) (x : Step) (t : List ℕ) → Goes s page x t → x.answer.number ≤ 38
step-small s page x t g =
    let is : x.answer.number ≡ keep_fault s page x.entry = ap (λ (k : Kept). k.number) g.answers
    ∙ number_is (kept_of (pick (closes_record x.entry x.allowance) (with_record x.entry page) page) (min x.allowance (length_of x.entry + 2)) 0) (kept_of page 0)
    (λ (k : Kept). k.number) refl (λ _. refl) (keep_fault s page x.entry) in
    omega (arith, is, keep-small s page x.entry)

-- what became of it
pub data Became (s : List ℕ) (page : Summary) (x : Step) (t : List ℕ) : Type 0 where
  -- refused by its summary
  summary_bad : (handed_fault page ≡ 0 → ⊥) → x.answer ≡ kept_of page 0 (handed_fault page) → t ≡ s → Became s page x t
  -- refused by the sheet
  save_bad : handed_fault page ≡ 0 → (save_fault s x.entry ≡ 0 → ⊥) → x.answer ≡ kept_of page 0 (save_fault s x.entry) → t ≡ s → Became s page x t
  -- made, all its stores or fewer
  closed : handed_fault page ≡ 0 → save_fault s x.entry ≡ 0 → length_of x.entry + 2 ≤ x.allowance
      → x.answer ≡ kept_of (with_record x.entry page) (length_of x.entry + 2) 0 → t ≡ after s x.entry x.allowance → Became s page x t
  short : handed_fault page ≡ 0 → save_fault s x.entry ≡ 0 → x.allowance < length_of x.entry + 2
      → x.answer ≡ kept_of page x.allowance 0 → t ≡ after s x.entry x.allowance → Became s page x t

pub became : (s : List ℕ) (page : Summary) (x : Step) (t : List ℕ) → Goes s page x t → Became s page x t
became s page x t g = by-summary (eqb (handed_fault page) 0) refl
  where
    fault-is : (b : Bool) → eqb (handed_fault page) 0 ≡ b → keep_fault s page x.entry ≡ pick b (save_fault s x.entry) (handed_fault page)
    fault-is b h = unfold keep_fault in ap (λ (u : Bool). pick u (save_fault s x.entry) (handed_fault page)) h

    answer-by : (n : ℕ) (b : Bool) → keep_fault s page x.entry ≡ n → eqb n 0 ≡ b
        → x.answer ≡ pick b (kept_of (pick (closes_record x.entry x.allowance) (with_record x.entry page) page) (min x.allowance (length_of x.entry + 2)) 0) (kept_of page 0 n)
    answer-by n b f h =
        g.answers
        ∙ ap (λ (k : ℕ). pick (eqb k 0) (kept_of (pick (closes_record x.entry x.allowance) (with_record x.entry page) page) (min x.allowance (length_of x.entry + 2)) 0) (kept_of page 0 k)) f
        ∙ ap (λ (u : Bool). pick u (kept_of (pick (closes_record x.entry x.allowance) (with_record x.entry page) page) (min x.allowance (length_of x.entry + 2)) 0) (kept_of page 0 n)) h

    left_by : (n : ℕ) (b : Bool) → keep_fault s page x.entry ≡ n → eqb n 0 ≡ b → t ≡ pick b (after s x.entry x.allowance) s
    left_by n b f h =
        g.leaves ∙ ap (λ (k : ℕ). pick (eqb k 0) (after s x.entry x.allowance) s) f ∙ ap (λ (u : Bool). pick u (after s x.entry x.allowance) s) h

    by-stores : handed_fault page ≡ 0 → save_fault s x.entry ≡ 0 → keep_fault s page x.entry ≡ 0 → (b : Bool) → closes_record x.entry x.allowance ≡ b → Became s page x t
    by-stores h f k true c =
        let l = leb-true (length_of x.entry + 2) x.allowance c in
        let m : min x.allowance (length_of x.entry + 2) ≡ length_of x.entry + 2 = omega arith in
        closed h f l
        (answer-by 0 true k refl ∙ ap (λ (u : Bool). kept_of (pick u (with_record x.entry page) page) (min x.allowance (length_of x.entry + 2)) 0) c
        ∙ ap (λ (i : ℕ). kept_of (with_record x.entry page) i 0) m)
        (left_by 0 true k refl)
    by-stores h f k false c =
        let l = leb-false (length_of x.entry + 2) x.allowance c in
        let m : min x.allowance (length_of x.entry + 2) ≡ x.allowance = omega arith in
        short h f l
        (answer-by 0 true k refl ∙ ap (λ (u : Bool). kept_of (pick u (with_record x.entry page) page) (min x.allowance (length_of x.entry + 2)) 0) c
        ∙ ap (λ (i : ℕ). kept_of page i 0) m)
        (left_by 0 true k refl)

    by-save : handed_fault page ≡ 0 → keep_fault s page x.entry ≡ save_fault s x.entry → (b : Bool) → eqb (save_fault s x.entry) 0 ≡ b → Became s page x t
    by-save h k true q =
        let f = eqb-true (save_fault s x.entry) 0 q in
        by-stores h f (k ∙ f) (closes_record x.entry x.allowance) refl
    by-save h k false q =
        save_bad h (eqb-false (save_fault s x.entry) 0 q) (answer-by (save_fault s x.entry) false k q) (left_by (save_fault s x.entry) false k q)

    by-summary : (b : Bool) → eqb (handed_fault page) 0 ≡ b → Became s page x t
    by-summary true q = by-save (eqb-true (handed_fault page) 0 q) (fault-is true q) (eqb (save_fault s x.entry) 0) refl
    by-summary false q =
        summary_bad (eqb-false (handed_fault page) 0 q) (answer-by (handed_fault page) false (fault-is false q) q) (left_by (handed_fault page) false (fault-is false q) q)
