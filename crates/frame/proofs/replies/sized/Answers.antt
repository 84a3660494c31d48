-- `frame::replies::sized` meets its contract: counts of 40 and 56 bits have no pad bits, so their bytes say whether the form is right; of any
-- other the definition's last test applies. Assumes nothing.
use Rattle.std.proofs.Common.{◌≡◌, refl, sym, ap, ◌∙◌, Bool, true, false, not, List, ℕ, length, arith}
use borrow.Author.Tests.{eq-eqb, ne_eqb}
use lib.Dec.{eqb, lit≤}
use Rattle.frame.specs.Faults.{fault}
use Rattle.frame.specs.Pick.{pick}
use Rattle.frame.specs.Line.{formed}
use Rattle.frame.specs.Inside.Packed.{form_fault}
use Rattle.frame.proofs.Refusals.{filled}
use Rattle.frame.proofs.replies.sized.Goals.{then-count-eq0, else-count-eq0}
use Rattle.frame.proofs.replies.sized.Goals as goal

flip : (b : Bool) → ◌≡◌ {A = ℕ} (pick b 0 14) (pick (not b) 14 0)
flip true = refl
flip false = refl

of-40 : (s : List ℕ) → pick (eqb (length s) 5) 0 14 ≡ form_fault 40 s
unfolding form_fault
of-40 s = rw (filled 40 s (lit≤ tt) refl) (flip (eqb (length s) 5))

of-56 : (s : List ℕ) → pick (eqb (length s) 7) 0 14 ≡ form_fault 56 s
unfolding form_fault
of-56 s = rw (filled 56 s (lit≤ tt) refl) (flip (eqb (length s) 7))

turn : (b : Bool) (x : ℕ) → pick b x 14 ≡ pick (not b) 14 x
turn true x = refl
turn false x = refl

of_other : (count : ℕ) (s : List ℕ) → (count ≡ 40 → ⊥) → (count ≡ 56 → ⊥) → pick (formed count s) (pick (eqb count 0) 1 2) 14 ≡ form_fault count s
unfolding form_fault
of_other count s a b = rw (ne_eqb count 40 a, ne_eqb count 56 b) (turn (formed count s) (pick (eqb count 0) 1 2))

-- a number that is no 0 refuses by its fault
module _ (n m : ℕ) (is : m ≡ n) (some : m ≡ 0 → ⊥) where
  refused : (fault m ≡ fault n) × (n ≡ 0 → ⊥)
  refused = (ap fault is, λ none. some (is ∙ none))

pub returns-in_default : goal.returns-in_default
returns-in_default c =
    rw c.if-count-eq40.true (refused (form_fault 40 c.args.reply.now) 14 (rw (ne_eqb _ _ c.in_default.ensures.cases) at (of-40 c.args.reply.now)) (λ z. omega arith))

pub returns-then-count-eq40 : goal.returns-then-count-eq40
returns-then-count-eq40 c =
    let whole = c.in-Some.ensures.cases in
    record { bytes = whole.same; sized = rw c.if-count-eq40.true (sym (rw (eq-eqb _ _ whole.long) at (of-40 c.args.reply.now))) }

pub returns-in_default-as_array : goal.returns-in_default-as_array
returns-in_default-as_array c =
    rw c.if-count-eq56.true
    (refused (form_fault 56 c.args.reply.now) 14 (rw (ne_eqb _ _ c.in_default-as_array.ensures.cases) at (of-56 c.args.reply.now)) (λ z. omega arith))

pub returns-then-count-eq56 : goal.returns-then-count-eq56
returns-then-count-eq56 c =
    let whole = c.in-Some-as_array.ensures.cases in
    record { bytes = whole.same; sized = rw c.if-count-eq56.true (sym (rw (eq-eqb _ _ whole.long) at (of-56 c.args.reply.now))) }

pub returns-then-not-formed : goal.returns-then-not-formed
returns-then-not-formed c =
    let a = c.args in
    refused (form_fault a.count a.reply.now) 14 (rw (sym c.formed.ensures ∙ c.if-not-formed.true) at (of_other a.count a.reply.now c.if-count-eq40.false c.if-count-eq56.false))
    (λ z. omega arith)

pub returns : goal.returns
returns c =
    let a = c.args in
    let e = rw (sym c.formed.ensures ∙ c.if-not-formed.false) at (of_other a.count a.reply.now c.if-count-eq40.false c.if-count-eq56.false) in
    elim c.if-count-eq0.branch [
      | then-count-eq0 w ↦
          let one = refused (form_fault a.count a.reply.now) 1 (rw (eq-eqb _ _ w.if-count-eq0.true) at e) (λ z. omega arith) in
          (w.result-is ∙ one.0, one.1)
      | else-count-eq0 w ↦
          let two = refused (form_fault a.count a.reply.now) 2 (rw (ne_eqb _ _ w.if-count-eq0.false) at e) (λ z. omega arith) in
          (w.result-is ∙ two.0, two.1)
    ]
