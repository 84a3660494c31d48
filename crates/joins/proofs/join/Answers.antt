-- `joins::join` meets its contract: each return is the case of its tests, and past them the lines are added up.
use mathlib.Core.Path.{◌≡◌, sym, ap, ◌∙◌}
use mathlib.Core.Bool.{Bool, true, false}
use Prim.Native.Nat.{ℕ, ◌≤◌}
use native.Mathlib.Omega.{arith}
use lib.ListN.{length}
use Rattle.std.proofs.Common.{rules}
use Rattle.std.specs.Prelude.{Ok}
use Rattle.frame.specs.Pick.{pick}
use Rattle.frame.specs.Faults.{verdict}
use Rattle.summary.specs.declared.Summary.{Summary}
use Rattle.summary.specs.Line.{page}
use Rattle.summary.specs.Handed.{misshapen, lines_over}
use Rattle.summary.specs.Joined.{join_lines, join_page, join_fault}
use Rattle.summary.specs.Sound.{Sound}
use Rattle.summary.proofs.HandedIn.{sound-handed}
use Rattle.summary.proofs.JoinTests.{first-37, second-37, pairs-25, first-25, second-25, first-24, second-24, third-24, few-of}
use Rattle.joins.proofs.join.Goals.{then-misshapen-via-then-misshapen, then-misshapen-via-else-misshapen+then-misshapen-2, then-count_pairs-gt30-via-then-count_pairs-gt30, then-count_pairs-gt30-via-else-count_pairs-gt30+then-a-gt0, then-count_pairs-gt30-via-else-count_pairs-gt30+else-a-gt0+then-b-gt0, then-lines_over-via-then-lines_over, then-lines_over-via-else-lines_over+then-lines_over-2}
use Rattle.joins.proofs.join.Goals as goal

-- a test that refuses
refuse : (a b : Summary) (n : ℕ) → join_fault a b ≡ n → verdict n (join_page a b) ≡ verdict (join_fault a b) (join_page a b)
refuse a b n f = ap (λ (k : ℕ). verdict k (join_page a b)) (sym f)

pub returns-then-misshapen : goal.returns-then-misshapen
returns-then-misshapen c =
    let a = c.args.a in
    let b = c.args.b in
    let fault : join_fault a b ≡ 37 =
    elim c.then-misshapen.branch [
      | then-misshapen-via-then-misshapen w ↦ first-37 a b (sym c.misshapen.ensures ∙ w.if-misshapen.true)
      | then-misshapen-via-else-misshapen+then-misshapen-2 w ↦ second-37 a b (sym w.misshapen-else-misshapen.ensures ∙ w.if-misshapen-2.true)
    ] in
    refuse a b 37 fault

pub count_pairs-requires-clause-sound : goal.count_pairs-requires-clause-sound
count_pairs-requires-clause-sound c =
    let long : length c.args.a.lines ≡ 30 = search rules in sound-handed c.args.a long (sym c.misshapen.ensures ∙ c.if-misshapen.false)

pub count_pairs-requires-clause-sound_2 : goal.count_pairs-requires-clause-sound_2
count_pairs-requires-clause-sound_2 c =
    let long : length c.args.b.lines ≡ 30 = search rules in sound-handed c.args.b long (sym c.misshapen-else-misshapen.ensures ∙ c.if-misshapen-2.false)

pub returns-then-count_pairs-gt30 : goal.returns-then-count_pairs-gt30
returns-then-count_pairs-gt30 c =
    let a = c.args.a in
    let b = c.args.b in
    let t1 : misshapen a ≡ false = sym c.misshapen.ensures ∙ c.if-misshapen.false in
    let t2 : misshapen b ≡ false = sym c.misshapen-else-misshapen.ensures ∙ c.if-misshapen-2.false in
    let fault : join_fault a b ≡ 25 =
    elim c.then-count_pairs-gt30.branch [
      | then-count_pairs-gt30-via-then-count_pairs-gt30 w ↦ pairs-25 a b t1 t2 (omega (arith, c.count_pairs.ensures, w.if-count_pairs-gt30.true))
      | then-count_pairs-gt30-via-else-count_pairs-gt30+then-a-gt0 w ↦ first-25 a b t1 t2 w.if-a-gt0.true
      | then-count_pairs-gt30-via-else-count_pairs-gt30+else-a-gt0+then-b-gt0 w ↦ second-25 a b t1 t2 w.if-b-gt0.true
    ] in
    refuse a b 25 fault

pub returns-then-lines_over : goal.returns-then-lines_over
returns-then-lines_over c =
    let a = c.args.a in
    let b = c.args.b in
    let t1 : misshapen a ≡ false = sym c.misshapen.ensures ∙ c.if-misshapen.false in
    let t2 : misshapen b ≡ false = sym c.misshapen-else-misshapen.ensures ∙ c.if-misshapen-2.false in
    let t3 : length (join_lines a b) ≤ 30 = omega (arith, c.count_pairs.ensures, c.if-count_pairs-gt30.false) in
    let fault : join_fault a b ≡ 24 =
    elim c.then-lines_over.branch [
      | then-lines_over-via-then-lines_over w ↦ first-24 a b t1 t2 t3 c.if-a-gt0.false c.if-b-gt0.false (sym c.lines_over.ensures ∙ w.if-lines_over.true)
      | then-lines_over-via-else-lines_over+then-lines_over-2 w ↦
          second-24 a b t1 t2 t3 c.if-a-gt0.false c.if-b-gt0.false (sym c.lines_over.ensures ∙ w.if-lines_over.false)
          (sym w.lines_over-else-lines_over.ensures ∙ w.if-lines_over-2.true)
    ] in
    refuse a b 24 fault

pub add_lines-joined-requires : goal.add_lines-joined-requires
add_lines-joined-requires c =
    let a = c.args.a in
    let b = c.args.b in
    let long-a : length a.lines ≡ 30 = search rules in
    let long-b : length b.lines ≡ 30 = search rules in
    let sa : Sound a = sound-handed a long-a (sym c.misshapen.ensures ∙ c.if-misshapen.false) in
    let sb : Sound b = sound-handed b long-b (sym c.misshapen-else-misshapen.ensures ∙ c.if-misshapen-2.false) in
    record {
      first = sa;
      second = sb;
      few_first = few-of a sa.few (sym c.lines_over.ensures ∙ c.if-lines_over.false);
      few_second = few-of b sb.few (sym c.lines_over-else-lines_over.ensures ∙ c.if-lines_over-2.false);
      pairs = omega (arith, c.count_pairs.ensures, c.if-count_pairs-gt30.false);
    }

-- the join that was added up
joined_is : (a b joined : Summary) → joined ≡ page a.others (join_lines a b) → a.others ≤ 0 → joined ≡ join_page a b
joined_is a b joined e none = let none-left : a.others ≡ 0 = omega arith in e ∙ ap (λ (n : ℕ). page n (join_lines a b)) none-left

last-24 : (a b : Summary) → misshapen a ≡ false → misshapen b ≡ false → length (join_lines a b) ≤ 30 → a.others ≤ 0 → b.others ≤ 0 → lines_over a ≡ false → lines_over b ≡ false
    → (joined : Summary) → joined ≡ page a.others (join_lines a b) → (o : Bool) → lines_over joined ≡ o → join_fault a b ≡ pick o 24 0
last-24 a b t1 t2 t3 u v t6 t7 joined e o h = third-24 a b t1 t2 t3 u v t6 t7 o (ap lines_over (sym (joined_is a b joined e u)) ∙ h)

pub returns-then-lines_over-3 : goal.returns-then-lines_over-3
returns-then-lines_over-3 c =
    let fault =
    last-24 c.args.a c.args.b (sym c.misshapen.ensures ∙ c.if-misshapen.false) (sym c.misshapen-else-misshapen.ensures ∙ c.if-misshapen-2.false)
    (omega (arith, c.count_pairs.ensures, c.if-count_pairs-gt30.false)) c.if-a-gt0.false c.if-b-gt0.false (sym c.lines_over.ensures ∙ c.if-lines_over.false)
    (sym c.lines_over-else-lines_over.ensures ∙ c.if-lines_over-2.false) c.add_lines-joined.result c.add_lines-joined.ensures true
    (sym c.lines_over-2.ensures ∙ c.if-lines_over-3.true) in
    refuse c.args.a c.args.b 24 fault

pub returns : goal.returns
returns c =
    let none =
    last-24 c.args.a c.args.b (sym c.misshapen.ensures ∙ c.if-misshapen.false) (sym c.misshapen-else-misshapen.ensures ∙ c.if-misshapen-2.false)
    (omega (arith, c.count_pairs.ensures, c.if-count_pairs-gt30.false)) c.if-a-gt0.false c.if-b-gt0.false (sym c.lines_over.ensures ∙ c.if-lines_over.false)
    (sym c.lines_over-else-lines_over.ensures ∙ c.if-lines_over-2.false) c.add_lines-joined.result c.add_lines-joined.ensures false
    (sym c.lines_over-2.ensures ∙ c.if-lines_over-3.false) in
    ap Ok (joined_is c.args.a c.args.b c.add_lines-joined.result c.add_lines-joined.ensures c.if-a-gt0.false) ∙ refuse c.args.a c.args.b 0 none
