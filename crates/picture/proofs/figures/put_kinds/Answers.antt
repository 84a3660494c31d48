-- `picture::figures::put_kinds` meets its contract: what was put so far, and the kinds that are left, are the whole. Assumes nothing.
use mathlib.Core.Path.{◌≡◌, refl, sym, ap, ◌∙◌}
use mathlib.Core.List.{List, [], ◌++◌, append-nil, append_assoc}
use Prim.Native.Nat.{ℕ, suc, ◌+◌, ◌-◌, ◌<◌, ◌≤◌}
use native.Mathlib.Numerals.{add-one}
use native.Mathlib.Omega.{arith}
use lib.ListN.{get_or}
use Rattle.putting.specs.declared.Text.{Text}
use Rattle.putting.specs.Adds.{Adds}
use Rattle.putting.proofs.Added.{then, text-is, at_most, nothing_added}
use Rattle.picture.specs.Page.{kind_text, kinds_text}
use Rattle.picture.proofs.figures.put_kinds.Invariants.{Kinded}
use Rattle.picture.proofs.figures.put_kinds.Goals as goal

next-kind : (counts : List ℕ) (k : ℕ) → k < 16 → kinds_text counts k (16 - k) ≡ kind_text (get_or counts k 0) k ++ kinds_text counts (k + 1) (16 - (k + 1))
next-kind counts k h =
    let e : 16 - k ≡ suc (16 - (k + 1)) = omega arith in
    ap (kinds_text counts k) e ∙ (unfold kinds_text in ap (λ (j : ℕ). kind_text (get_or counts k 0) k ++ kinds_text counts j (16 - (k + 1))) (sym (add-one k)))

no_kind : (counts : List ℕ) (k : ℕ) → 16 ≤ k → kinds_text counts k (16 - k) ≡ []
no_kind counts k h =
    let e : 16 - k ≡ 0 = omega arith in
    ap (kinds_text counts k) e ∙ (unfold kinds_text in refl)

module _ (before : Text) (counts : List ℕ) (after : Text) (k : ℕ) (f : Kinded before counts after k) (low : 1 ≤ k) (near : k < 16) where
  more : (next : Text) → Adds (kind_text (get_or counts k 0) k) 44 after next → Kinded before counts next (k + 1)
  more next put =
      record {
        so_far = omega arith;
        text = f.text ++ kind_text (get_or counts k 0) k;
        put = at_most (omega arith) (then f.put put);
        whole = append_assoc f.text (kind_text (get_or counts k 0) k) (kinds_text counts (k + 1) (16 - (k + 1)))
            ∙ ap (λ (t : List ℕ). f.text ++ t) (sym (next-kind counts k near))
            ∙ f.whole;
      }

pub loop-k-init : goal.loop-k-init
loop-k-init c = record { so_far = omega arith; text = []; put = nothing_added refl; whole = refl }

pub loop-k-preserved : goal.loop-k-preserved
loop-k-preserved c = more _ _ _ _ c.loop-k.invariant (omega arith) (omega arith) _ c.put_kind.ensures

pub returns : goal.returns
returns c =
    let l = c.loop-k in
    let none = no_kind c.args.counts l.k (omega arith) in
    let all = sym (append-nil l.invariant.text) ∙ ap (λ (t : List ℕ). l.invariant.text ++ t) (sym none) ∙ l.invariant.whole in
    at_most (omega (arith, l.invariant.so_far)) (text-is all l.invariant.put)
