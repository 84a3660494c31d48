-- An answer by the number of what refuses it: it is the value exactly where the number is 0, and else the fault of the number. Assumes nothing.
use mathlib.Core.Path.{◌≡◌, refl, sym, ap, ◌∙◌}
use mathlib.Core.Bool.{Bool, true, false}
use Prim.Native.Nat.{ℕ}
use borrow.Author.Tests.{eqb-true, ne_eqb, eq-eqb}
use lib.Dec.{eqb}
use Rattle.std.specs.Prelude.{Result, Ok, Err}
use Rattle.frame.specs.declared.faults.Fault.{Fault}
use Rattle.frame.specs.Pick.{pick}
use Rattle.frame.specs.Faults.{fault, verdict}

-- where the number is not 0, its fault
pub is-refused : {A : Type 0} (n : ℕ) (a : A) → (n ≡ 0 → ⊥) → verdict n a ≡ Err (fault n)
is-refused n a some = rw (ne_eqb n 0 some)

-- where it is the value, the number is 0
pub was-passed : {A : Type 0} (n : ℕ) (a b : A) → verdict n a ≡ Ok b → n ≡ 0
was-passed n a b is = go (eqb n 0) refl is
  where
    go : (t : Bool) → eqb n 0 ≡ t → pick t (Ok a) (Err (fault n)) ≡ Ok b → n ≡ 0
    go true e is = eqb-true n 0 e
    go false e is = cc

-- where it is a fault, the number is not 0, and the fault is the number's
pub was-refused : {A : Type 0} (n : ℕ) (a : A) (f : Fault) → verdict n a ≡ Err f → (n ≡ 0 → ⊥) × (f ≡ fault n)
was-refused n a f is = go (eqb n 0) refl is
  where
    go : (t : Bool) → eqb n 0 ≡ t → pick t (Ok a) (Err (fault n)) ≡ Err f → (n ≡ 0 → ⊥) × (f ≡ fault n)
    go true e is = cc
    go false e is = ((λ z. absurd (no (sym e ∙ eq-eqb n 0 z))), cc)
      where
        no : false ≡ true → ⊥
        no h = cc
