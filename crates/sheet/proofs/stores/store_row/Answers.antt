-- `sheet::stores::store_row` meets its contract: after i turns the sheet is the one after the first i stores of the row, or after all that are wanted. Assumes nothing.
use mathlib.Core.Path.{◌≡◌, sym, ap, ◌∙◌}
use mathlib.Core.List.{List}
use Prim.Native.Nat.{ℕ, ◌+◌, ◌<◌, ◌≤◌, min}
use native.Mathlib.Omega.{arith}
use lib.ListN.{length, take, get_or, set}
use Rattle.sheet.specs.Stores.{Store, ◌puts◌, made, ascending}
use Rattle.sheet.proofs.Storing.{made_more, ascending-length, ascending-at}
use Rattle.sheet.proofs.stores.store_row.Goals as goal
use Rattle.sheet.proofs.stores.store_row.Goals.{then-i-many, else-i-many}

-- a turn that stores
stored : (s₀ s t : List ℕ) (at i many : ℕ) (row : List ℕ) → i < many → many ≤ length row → s ≡ made s₀ (take (min i many) (ascending at row))
    → t ≡ set s (at + i) (get_or row i 0) → t ≡ made s₀ (take (min (i + 1) many) (ascending at row))
stored s₀ s t at i many row h l before now =
    let d : Store = 0 puts 0 in
    let ps = ascending at row in
    let so_far : min i many ≡ i = omega arith in
    let further : i + 1 ≡ min (i + 1) many = omega arith in
    now
    ∙ ap (λ (x : List ℕ). set x (at + i) (get_or row i 0)) (before ∙ ap (λ (n : ℕ). made s₀ (take n ps)) so_far)
    ∙ ap (λ (x : Store). set (made s₀ (take i ps)) x.place x.byte) (sym (ascending-at at row i d (omega arith)))
    ∙ sym (made_more s₀ ps i d (rw ascending-length (omega arith)))
    ∙ ap (λ (n : ℕ). made s₀ (take n ps)) further

-- and one that does not
enough : (s₀ s : List ℕ) (i j many : ℕ) (ps : List Store) → many ≤ i → many ≤ j → s ≡ made s₀ (take (min i many) ps) → s ≡ made s₀ (take (min j many) ps)
enough s₀ s i j many ps h k before =
    let same : min i many ≡ min j many = omega arith in
    before ∙ ap (λ (n : ℕ). made s₀ (take n ps)) same

pub loop-i-init : goal.loop-i-init
unfolding made
loop-i-init c =
    let a = c.args in
    let none : 0 ≡ min 0 a.many = omega arith in
    ap (λ (n : ℕ). made a.sheet.now (take n (ascending a.at a.row.now))) none

pub loop-i-preserved : goal.loop-i-preserved
loop-i-preserved c =
    let l = c.loop-i in
    let a = c.args in
    elim c.if-i-many.branch [
      | then-i-many w ↦
          stored a.sheet.now l.sheet c.if-i-many.sheet a.at l.i a.many a.row.now w.if-i-many.true (omega arith) l.invariant
          (w.sheet-is ∙ w.store.ensures)
      | else-i-many w ↦
          w.sheet-is
          ∙ enough a.sheet.now l.sheet l.i (l.i + 1) a.many (ascending a.at a.row.now) w.if-i-many.false (omega arith) l.invariant
    ]

pub returns : goal.returns
returns c =
    let a = c.args in
    let l = c.loop-i in
    let all : min l.i a.many ≡ a.many = omega arith in
    l.invariant ∙ ap (λ (n : ℕ). made a.sheet.now (take n (ascending a.at a.row.now))) all
