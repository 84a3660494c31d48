-- `areas::checking::is_area` meets its contract, limit by limit. Assumes nothing.
use Rattle.std.proofs.Common.{arith, refl, sym, ap, ◌∙◌, ◌≡◌, ℕ, List, length, Bool, true, false}
use Rattle.std.proofs.Math.Dec.{leb, eqb}
use Rattle.std.proofs.lemmas.Bool.{lt-leb, le-leb, eqb-true, eqb-false}
use Rattle.areas.proofs.Joining.{area-by}
use Rattle.areas.proofs.checking.is_area.Goals.{then-is_empty-via-then-is_empty, then-is_empty-via-else-is_empty+then-part-gt30}
use Rattle.areas.proofs.checking.is_area.Goals as goal

-- by whether a part is empty
none : (s : List ℕ) (b : Bool) → b ≡ eqb (length s) 0 → b ≡ true → leb 1 (length s) ≡ false
none s b e t =
    let z : length s ≡ 0 = eqb-true _ _ (sym e ∙ t) in
    lt-leb _ _ (omega arith)

some : (s : List ℕ) (b : Bool) → b ≡ eqb (length s) 0 → b ≡ false → leb 1 (length s) ≡ true
some s b e f =
    let other : length s ≡ 0 → ⊥ = eqb-false _ _ (sym e ∙ f) in
    le-leb _ _ (omega arith)

pub returns-then-is_empty : goal.returns-then-is_empty
returns-then-is_empty c =
    let s = c.args.part.now in
    elim c.then-is_empty.branch [
      | then-is_empty-via-then-is_empty w ↦ sym (area-by s false _ _ _ (none s c.is_empty.result c.is_empty.ensures w.if-is_empty.true) refl refl refl)
      | then-is_empty-via-else-is_empty+then-part-gt30 w ↦
          sym (area-by s true false _ _ (some s c.is_empty.result c.is_empty.ensures w.if-is_empty.false) (lt-leb _ _ w.if-part-gt30.true) refl refl)
    ]

pub returns-then-sums-le10000 : goal.returns-then-sums-le10000
returns-then-sums-le10000 c =
    let s = c.args.part.now in
    let t = c.totals-sums in
    sym
    (area-by s true true true (leb t.result.tenths 500) (some s c.is_empty.result c.is_empty.ensures c.if-is_empty.false) (le-leb _ _ c.if-part-gt30.false)
    (ap (λ (n : ℕ). leb n 10000) (sym t.ensures.0) ∙ le-leb _ _ c.if-sums-le10000.true) (ap (λ (n : ℕ). leb n 500) (sym t.ensures.1)))

pub returns-else-sums-le10000 : goal.returns-else-sums-le10000
returns-else-sums-le10000 c =
    let s = c.args.part.now in
    let t = c.totals-sums in
    lt-leb _ _ c.if-sums-le10000.false
    ∙ sym
    (area-by s true true false _ (some s c.is_empty.result c.is_empty.ensures c.if-is_empty.false) (le-leb _ _ c.if-part-gt30.false)
    (ap (λ (n : ℕ). leb n 10000) (sym t.ensures.0) ∙ lt-leb _ _ c.if-sums-le10000.false) refl)
