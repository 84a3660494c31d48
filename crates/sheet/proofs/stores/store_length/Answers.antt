-- `sheet::stores::store_length` meets its contract: none, one or both of its stores are the first of the two. Assumes nothing.
use mathlib.Core.Path.{◌≡◌, sym, ap, ◌∙◌}
use mathlib.Core.List.{List, [], ◌∷◌}
use Prim.Native.Nat.{ℕ, ◌+◌}
use native.Mathlib.Omega.{arith}
use lib.ListN.{take, set}
use lib.Seq.{take_all}
use Rattle.sheet.specs.Stores.{Store, ◌puts◌, made}
use Rattle.sheet.proofs.stores.store_length.Goals as goal
use Rattle.sheet.proofs.stores.store_length.Goals.{then-many-gt0, else-many-gt0}

abbrev both : (at size : ℕ) → List Store
both at size = (at + 1) puts size ∷ at puts 0 ∷ []

pub returns-then-many-gt1 : goal.returns-then-many-gt1
unfolding made
returns-then-many-gt1 c =
    let a = c.args in
    let first : c.if-many-gt0.sheet ≡ set a.sheet.now (a.at + 1) a.size =
    elim c.if-many-gt0.branch [ then-many-gt0 w ↦ w.sheet-is ∙ w.store.ensures | else-many-gt0 w ↦ absurd (omega arith) ] in
    c.store-then-many-gt1.ensures
    ∙ ap (λ (l : List ℕ). set l a.at 0) first
    ∙ ap (made a.sheet.now) (sym (take_all a.many (both a.at a.size) (omega arith)))

pub returns-else-many-gt1 : goal.returns-else-many-gt1
unfolding made
returns-else-many-gt1 c =
    let a = c.args in
    elim c.if-many-gt0.branch [
      | then-many-gt0 w ↦
          let one : 1 ≡ a.many = omega arith in
          w.sheet-is ∙ w.store.ensures ∙ ap (λ (n : ℕ). made a.sheet.now (take n (both a.at a.size))) one
      | else-many-gt0 w ↦
          let none : 0 ≡ a.many = omega arith in
          w.sheet-is ∙ ap (λ (n : ℕ). made a.sheet.now (take n (both a.at a.size))) none
    ]
