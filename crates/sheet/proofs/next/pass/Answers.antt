-- `sheet::next::pass` meets its contract: at each turn the slot sought among the first slots is the one sought among the first k of them, since those passed
-- are blank. Assumes nothing.
use mathlib.Core.Path.{◌≡◌, sym, ap, ◌∙◌}
use mathlib.Core.Bool.{Bool, true}
use mathlib.Core.List.{List}
use Prim.Native.Nat.{ℕ, ◌≤◌, ◌+◌, ◌-◌, ◌*◌}
use native.Mathlib.Omega.{arith}
use lib.ListN.{drop, take}
use Rattle.sheet.specs.Bytes.{all_blank}
use Rattle.sheet.specs.Slots.{next_up_to}
use Rattle.sheet.proofs.LastUsed.{next_past}
use Rattle.sheet.proofs.next.pass.Goals as goal

-- whether the last slots of the first k are blank, as the code asks it
whole : (s : List ℕ) (many k : ℕ) (r : Bool) → r ≡ all_blank (take (32 * (k - many) + 32 * many - 32 * (k - many)) (drop (32 * (k - many)) s))
    → r ≡ all_blank (take (32 * many) (drop (32 * (k - many)) s))
whole s many k r e =
    let all : 32 * (k - many) + 32 * many - 32 * (k - many) ≡ 32 * many = omega arith in
    rw all at e

-- where they are, they are passed
turn : (s : List ℕ) (many k : ℕ) → many ≤ k → all_blank (take (32 * many) (drop (32 * (k - many)) s)) ≡ true → next_up_to s k ≡ next_up_to s (k - many)
turn s many k h e =
    let back : k ≡ k - many + many = omega arith in
    ap (next_up_to s) back ∙ next_past s (k - many) many e

pub loop-k-preserved : goal.loop-k-preserved
loop-k-preserved g c =
    let s = c.args.sheet.now in
    let l = c.loop-k in
    let many = g.row.MANY in (
      omega arith,
      omega arith,
      l.invariant.2 ∙ turn s many l.k (omega arith) (sym (whole s many l.k c.blank.result c.blank.ensures) ∙ c.if-not-blank.false),
    )

pub returns-then-not-blank : goal.returns-then-not-blank
returns-then-not-blank g c =
    let l = c.loop-k in
    record {
      fewer = omega arith;
      not_lower = omega arith;
      same = l.invariant.2;
      used = λ more. sym (whole c.args.sheet.now g.row.MANY l.k c.blank.result c.blank.ensures) ∙ c.if-not-blank.true;
    }

pub returns : goal.returns
returns g c =
    let l = c.loop-k in
    record { fewer = omega arith; not_lower = omega arith; same = l.invariant.2; used = λ more. absurd (omega arith) }
