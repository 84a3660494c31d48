-- `areas::planning::propose` meets its contract: at each turn the plan is the areas taken and those that are yet to be taken. Assumes nothing.
use mathlib.Core.Path.{◌≡◌, sym, ap, ◌∙◌}
use mathlib.Core.Bool.{Bool, true, false}
use mathlib.Core.List.{List, [], ◌∷◌, ◌++◌, append_assoc, append-nil}
use Prim.Native.Nat.{ℕ, suc, ◌≤◌, ◌<◌, ◌-◌, ◌+◌}
use native.Mathlib.Numerals.{add-one}
use native.Mathlib.Omega.{arith}
use borrow.Author.Tests.{ne_eqb}
use lib.Dec.{eqb}
use lib.ListN.{length, take, drop, set, replicate, length-set, length-drop, take-append-drop}
use lib.Seq.{take-suc-set, drop-set-lt, length-take-le, drop-drop, take_all, set-get_or}
use Rattle.std.proofs.Common.{Option, Some, None}
use Rattle.frame.specs.Pick.{pick}
use Rattle.areas.specs.declared.Plan.{Plan}
use Rattle.areas.specs.Plan.{first_area, greedy, rest, plan_told}
use Rattle.areas.proofs.Cutting.{greedy-step, rest-step, greedy-stop, rest-stop}
use Rattle.areas.proofs.planning.propose.Goals.{else-loop-size-test, then-loop-size-test+then-n-eq0}
use Rattle.areas.proofs.planning.propose.Goals as goal

-- The areas taken are all, and these transmitters are left over.
abbrev Done : (s sizes : List ℕ) (k : ℕ) (left : List ℕ) → Type 0
Done s sizes k left = (k ≤ 8) × (greedy 8 s ≡ take k sizes) × (rest 8 s ≡ left)

-- what is told of the areas taken, once no more are
told : (s sizes left : List ℕ) (k areas : ℕ) (b : Bool) → length sizes ≡ 8 → drop k sizes ≡ replicate (8 - k) 0 → areas ≡ k → Done s sizes k left
    → b ≡ eqb (length left) 0
    → ◌≡◌ {A = Option Plan} (pick b (Some (record { sizes = sizes; areas = areas; number = 0 })) None)
    (pick (eqb (length (rest 8 s)) 0) (Some (plan_told (greedy 8 s))) None)
told s sizes left k areas b long zeros is done empty =
    let many : length (take k sizes) ≡ k = length-take-le k sizes (omega (arith, done.0)) in
    let count : k ≡ length (greedy 8 s) = sym (ap length done.1 ∙ many) in
    let row : sizes ≡ greedy 8 s ++ replicate (8 - length (greedy 8 s)) 0 =
    sym (take-append-drop k sizes) ∙ (λ i. sym done.1 i ++ (zeros ∙ ap (λ (m : ℕ). replicate (8 - m) 0) count) i) in
    let nothing : b ≡ eqb (length (rest 8 s)) 0 = empty ∙ ap (λ (l : List ℕ). eqb (length l) 0) (sym done.2) in
    let size : areas ≡ length (greedy 8 s) = is ∙ count in
    λ i. pick (nothing i) (Some (record { sizes = row i; areas = size i; number = 0 })) None

-- one more area: the places behind it are still 0
behind : (sizes : List ℕ) (k n : ℕ) → k < 8 → drop k sizes ≡ replicate (8 - k) 0 → drop (k + 1) (set sizes k n) ≡ replicate (8 - (k + 1)) 0
behind sizes k n h e =
    let left : 8 - k ≡ suc (8 - (k + 1)) = omega arith in
    drop-set-lt (k + 1) sizes k n (omega arith) ∙ sym (drop-drop 1 k sizes) ∙ ap (drop 1) (e ∙ ap (λ (m : ℕ). replicate m 0) left)

taken : (s sizes left : List ℕ) (k n : ℕ) → k < 8 → length sizes ≡ 8 → n ≡ first_area left → eqb n 0 ≡ false
    → greedy 8 s ≡ take k sizes ++ greedy (8 - k) left
    → greedy 8 s ≡ take (k + 1) (set sizes k n) ++ greedy (8 - (k + 1)) (drop n left)
taken s sizes left k n h long e z all =
    let fewer : 8 - k ≡ suc (8 - (k + 1)) = omega arith in
    let front : take (k + 1) (set sizes k n) ≡ take k sizes ++ n ∷ [] = ap (λ (m : ℕ). take m (set sizes k n)) (add-one k) ∙ take-suc-set sizes k n (omega arith) in
    let next = ap (λ (j : ℕ). greedy j left) fewer ∙ greedy-step left n (8 - (k + 1)) e z in
    all ∙ ap (λ (g : List ℕ). take k sizes ++ g) next
    ∙ sym (append_assoc (take k sizes) (n ∷ []) (greedy (8 - (k + 1)) (drop n left)))
    ∙ ap (λ (g : List ℕ). g ++ greedy (8 - (k + 1)) (drop n left)) (sym front)

over : (s left : List ℕ) (k n : ℕ) → k < 8 → n ≡ first_area left → eqb n 0 ≡ false → rest 8 s ≡ rest (8 - k) left
    → rest 8 s ≡ rest (8 - (k + 1)) (drop n left)
over s left k n h e z all =
    let fewer : 8 - k ≡ suc (8 - (k + 1)) = omega arith in
    all ∙ ap (λ (j : ℕ). rest j left) fewer ∙ rest-step left n (8 - (k + 1)) e z

-- with no area left to take
full : (s sizes left : List ℕ) (k : ℕ) → k ≡ 8 → greedy 8 s ≡ take k sizes ++ greedy (8 - k) left → rest 8 s ≡ rest (8 - k) left → Done s sizes k left
unfolding greedy rest
full s sizes left k e all last =
    let none : 8 - k ≡ 0 = omega arith in (
      omega arith,
      all ∙ ap (λ (j : ℕ). take k sizes ++ greedy j left) none ∙ append-nil (take k sizes),
      last ∙ ap (λ (j : ℕ). rest j left) none,
    )

-- where the next area takes nothing
stopped : (s sizes left : List ℕ) (k : ℕ) → k < 8 → first_area left ≡ 0 → greedy 8 s ≡ take k sizes ++ greedy (8 - k) left → rest 8 s ≡ rest (8 - k) left
    → Done s sizes k left
stopped s sizes left k h e all last =
    let fewer : 8 - k ≡ suc (8 - (k + 1)) = omega arith in (
      omega arith,
      all ∙ ap (λ (g : List ℕ). take k sizes ++ g) (ap (λ (j : ℕ). greedy j left) fewer ∙ greedy-stop left (8 - (k + 1)) e) ∙ append-nil (take k sizes),
      last ∙ ap (λ (j : ℕ). rest j left) fewer ∙ rest-stop left (8 - (k + 1)) e,
    )

-- what an area leaves
tail : (n : ℕ) (s : List ℕ) → take (length s - n) (drop n s) ≡ drop n s
tail n s = take_all (length s - n) (drop n s) (omega (arith, length-drop n s))

pub loop-size-preserved : goal.loop-size-preserved
loop-size-preserved c =
    let s = c.args.site.now in
    let l = c.loop-size in
    let n = c.first_area-n in
    let some : eqb n.result 0 ≡ false = ne_eqb _ _ c.if-n-eq0.false in (
      omega arith,
      length-set l.size-items l.size-index n.result ∙ l.invariant.1,
      behind l.size-items l.size-index n.result (omega arith) l.invariant.2,
      taken s l.size-items l.left.now l.size-index n.result (omega arith) l.invariant.1 n.ensures.0 some l.invariant.3
          ∙ ap (λ (r : List ℕ). take (l.size-index + 1) (set l.size-items l.size-index n.result) ++ greedy (8 - (l.size-index + 1)) r) (sym (tail n.result l.left.now)),
      over s l.left.now l.size-index n.result (omega arith) n.ensures.0 some l.invariant.4
          ∙ ap (rest (8 - (l.size-index + 1))) (sym (tail n.result l.left.now)),
    )

pub returns-then-is_empty : goal.returns-then-is_empty
returns-then-is_empty c =
    let s = c.args.site.now in
    let l = c.loop-size in
    let i = l.invariant in
    let empty = sym c.if-is_empty.true ∙ c.is_empty.ensures in
    elim c.loop-size-test.branch [
      | else-loop-size-test w ↦
          rw w.sizes-is
          (told s l.size-items l.left.now l.size-index l.areas true i.1 i.2 i.0 (full s l.size-items l.left.now l.size-index (omega arith) i.3 i.4) empty)
      | then-loop-size-test+then-n-eq0 w ↦
          rw w.sizes-is
          ((λ j. Some (record { sizes = set-get_or l.size-items l.size-index 0 j; areas = l.areas; number = 0 }))
          ∙ told s l.size-items l.left.now l.size-index l.areas true i.1 i.2 i.0
          (stopped s l.size-items l.left.now l.size-index (omega arith) (sym w.first_area-n.ensures.0 ∙ w.if-n-eq0.true) i.3 i.4) empty)
    ]

pub returns-else-is_empty : goal.returns-else-is_empty
returns-else-is_empty c =
    let s = c.args.site.now in
    let l = c.loop-size in
    let i = l.invariant in
    let empty = sym c.if-is_empty.false ∙ c.is_empty.ensures in
    elim c.loop-size-test.branch [
      | else-loop-size-test w ↦
          told s l.size-items l.left.now l.size-index l.areas false i.1 i.2 i.0 (full s l.size-items l.left.now l.size-index (omega arith) i.3 i.4) empty
      | then-loop-size-test+then-n-eq0 w ↦
          told s l.size-items l.left.now l.size-index l.areas false i.1 i.2 i.0
          (stopped s l.size-items l.left.now l.size-index (omega arith) (sym w.first_area-n.ensures.0 ∙ w.if-n-eq0.true) i.3 i.4) empty
    ]
