-- 37 and 24 both ways, by which of the two names the summary; the number of a save is then that one, or one of the sheet's own, which are smaller. Assumes nothing.
use mathlib.Core.Path.{◌≡◌, refl, sym, ap, ◌∙◌}
use mathlib.Core.Logic.{◌⊎◌, inl, inr, ◌↔◌}
use mathlib.Core.Bool.{Bool, true, false, ◌||◌}
use mathlib.Core.List.{List}
use Prim.Native.Nat.{ℕ, ◌+◌, ◌*◌, ◌<◌, ◌≤◌}
use native.Mathlib.Omega.{arith}
use borrow.Author.Tests.{ltb-true, ltb-false}
use lib.Dec.{ltb}
use Rattle.frame.specs.Pick.{pick}
use Rattle.sheet.specs.Record.{Entry}
use Rattle.sheet.specs.Save.{save_fault}
use Rattle.summary.specs.declared.Line.{Line}
use Rattle.summary.specs.declared.Summary.{Summary}
use Rattle.summary.specs.declared.Kept.{Kept}
use Rattle.summary.specs.declared.Made.{Made}
use Rattle.summary.specs.Line.{pair_by, pair_of}
use Rattle.summary.specs.Handed.{misshapen}
use Rattle.summary.specs.Calls.{keep_fault, SavesWith}
use Rattle.summary.specs.Joined.{unkept, join_over, JoinsSummaries}
use Rattle.summary.proofs.Saved.{fault-handed, fault-save}
use Rattle.summary.proofs.JoinTests.{fault-by}
use Rattle.promises_card.specs.Summary.InOrder.{Ordered}
use Rattle.promises_card.specs.Summary.Refused.{FewEnough, RefusedExactly}
use Rattle.promises_card.proofs.Summary.Kept.{HandedFault, by_37, by-24, by-none, handed-fault, save-number}
use Rattle.promises_card.proofs.Summary.Shape.{apart, right-ordered, ordered-right, few-over, over-few}
use Rattle.promises_card.proofs.Summary.FirstFault.{kept-number}
use Rattle.promises_card.proofs.Summary.JoinPassed.{number_is}

module _ (sheet : List ℕ) (s : Summary) (e : Entry) (allowance : ℕ) (answer : Kept) (t : List ℕ) (m : SavesWith sheet s e allowance answer t) where
  said : answer.number ≡ keep_fault sheet s e
  said = ap (λ (a : Kept). a.number) m.answers ∙ kept-number _ s (keep_fault sheet s e) refl

  own : (n : ℕ) → n ≡ save_fault sheet e → n ≤ 14
  own n q = omega (arith, q, save-number sheet e)

  shape_of : (answer.number ≡ 37) ↔ (Ordered s → ⊥)
  shape_of = by (handed-fault s)
    where
      by : HandedFault s → (answer.number ≡ 37) ↔ (Ordered s → ⊥)
      by (by_37 bad q) = (λ n o. apart (sym bad ∙ ordered-right s o), λ no. said ∙ fault-handed sheet s e 37 q (λ z. omega arith))
      by (by-24 good bad q) =
          (λ n o. omega (arith, sym n ∙ said ∙ fault-handed sheet s e 24 q (λ z. omega arith)), λ no. absurd (no (right-ordered s good)))
      by (by-none good few q) =
          (λ n o. omega (arith, n, own answer.number (said ∙ fault-save sheet s e (save_fault sheet e) q refl)), λ no. absurd (no (right-ordered s good)))

  counts_of : (answer.number ≡ 24) ↔ (Ordered s × (FewEnough s → ⊥))
  counts_of = by (handed-fault s)
    where
      by : HandedFault s → (answer.number ≡ 24) ↔ (Ordered s × (FewEnough s → ⊥))
      by (by_37 bad q) =
          (λ n. absurd (omega (arith, sym n ∙ said ∙ fault-handed sheet s e 37 q (λ z. omega arith))), λ both. apart (sym bad ∙ ordered-right s both.0))
      by (by-24 good bad q) =
          let o = right-ordered s good in
          (λ n. (o, λ f. apart (sym bad ∙ few-over s o f)), λ both. said ∙ fault-handed sheet s e 24 q (λ z. omega arith))
      by (by-none good few q) = (
        λ n. absurd (omega (arith, n, own answer.number (said ∙ fault-save sheet s e (save_fault sheet e) q refl))),
        λ both. absurd (both.1 (over-few s both.0 few)),
      )

join-shape-of : (a b : Summary) (r : Made) → JoinsSummaries a b r → (r.number ≡ 37) ↔ (Ordered a × Ordered b → ⊥)
join-shape-of a b r j = go (misshapen a) (misshapen b) refl refl
  where
    fault : (m : Bool) → (misshapen a || misshapen b) ≡ m → r.number ≡ pick m 37 (pick (unkept a b) 25 (pick (join_over a b) 24 0))
    fault m h = ap (λ (x : Made). x.number) j.answers ∙ number_is a b ∙ fault-by a b m (unkept a b) (join_over a b) h refl refl

    small : (u o : Bool) → pick u 25 (pick o 24 0) ≤ 25
    small true o = omega arith
    small false true = omega arith
    small false false = omega arith

    go : (x y : Bool) → misshapen a ≡ x → misshapen b ≡ y → (r.number ≡ 37) ↔ (Ordered a × Ordered b → ⊥)
    go true y p q =
        (λ n o. apart (sym p ∙ ordered-right a o.0), λ no. fault true (ap (λ (t : Bool). t || misshapen b) p))
    go false true p q =
        (λ n o. apart (sym q ∙ ordered-right b o.1), λ no. fault true (ap (λ (t : Bool). t || misshapen b) p ∙ q))
    go false false p q =
        let n-is = fault false (ap (λ (t : Bool). t || misshapen b) p ∙ q) in
        (λ n o. omega (arith, n, n-is, small (unkept a b) (join_over a b)), λ no. absurd (no (right-ordered a p, right-ordered b q)))

by-address-of : (l m : Line) → l.settings < 0x10000 → m.settings < 0x10000
    → (pair_of l < pair_of m) ↔ ((l.address < m.address) ⊎ ((l.address ≡ m.address) × (l.settings < m.settings)))
unfolding pair_of pair_by
by-address-of l m a b = (λ h. go h (ltb l.address m.address) refl, back)
  where
    go : l.address * 0x10000 + l.settings < m.address * 0x10000 + m.settings → (t : Bool) → ltb l.address m.address ≡ t
        → (l.address < m.address) ⊎ ((l.address ≡ m.address) × (l.settings < m.settings))
    go h true q = inl (ltb-true l.address m.address q)
    go h false q =
        let high = ltb-false l.address m.address q in
        inr (omega (arith, h, high, a, b), omega (arith, h, high, a, b))

    back : (l.address < m.address) ⊎ ((l.address ≡ m.address) × (l.settings < m.settings))
        → l.address * 0x10000 + l.settings < m.address * 0x10000 + m.settings
    back (inl h) = omega (arith, h, a, b)
    back (inr (e, h)) = omega (arith, e, h)

pub refused-exactly : RefusedExactly
refused-exactly = record { shape = shape_of; counts = counts_of; join_shape = join-shape-of; by_address = by-address-of }
