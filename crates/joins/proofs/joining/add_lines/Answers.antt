-- `joins::joining::add_lines` meets its contract. The invariant: the lines stored are the first of the two rows merged, and the rest is left of the rows.
use mathlib.Core.Path.{◌≡◌, refl, sym, ap, ◌∙◌}
use mathlib.Core.List.{List, ◌∷◌}
use Prim.Native.Nat.{ℕ, ◌+◌, ◌≤◌}
use native.Mathlib.Omega.{arith}
use lib.ListN.{length, drop, set, length-drop, length-take}
use Rattle.std.proofs.lemmas.Grind.{common_steps}
use Rattle.summary.specs.declared.Line.{Line}
use Rattle.summary.specs.declared.Summary.{Summary}
use Rattle.summary.specs.Line.{page}
use Rattle.summary.specs.Handed.{lines_of}
use Rattle.summary.proofs.LineAdded.{page-is}
use Rattle.joins.specs.Inside.Joining.{Joinable, merged}
use Rattle.joins.proofs.Merging.{Merging, none-merged, place-free, one-merged, all_done, few-lines, few-rest, join-merged}
use Rattle.joins.proofs.joining.add_lines.Goals.{in-Less, in-Greater, in-Equal}
use Rattle.joins.proofs.joining.add_lines.Goals as goal

small : (a b : Summary) → Joinable a b → length (merged (lines_of a) (lines_of b)) ≤ 30
small a b h = omega (arith, h.pairs, ap length (join-merged a b h.second))

-- a line stored, and what is left of the rows
grown : (all out : List Line) (at : ℕ) (ls ms : List Line) → Merging all out at ls ms → length all ≤ 30 → (x : Line) (ls' ms' : List Line)
    → merged ls ms ≡ x ∷ merged ls' ms' → (out' l m : List Line) → out' ≡ set out at x → l ≡ ls' → m ≡ ms' → Merging all out' (at + 1) l m
grown all out at ls ms g few x ls' ms' next out' l m stored left right = rw (stored, left, right) (one-merged all out at ls ms g few x ls' ms' next)

pub loop-left-init : goal.loop-left-init
loop-left-init c =
    let a = c.args.a in
    let b = c.args.b in
    record {
      so_far = none-merged (lines_of a) (lines_of b) _ (ap (λ (s : Summary). s.lines) c.blank.ensures);
      few = omega (arith, length-take {A = Line}, c.requires.first.few, c.requires.second.few);
      few_first = few-lines a c.requires.first c.requires.few_first;
      few_second = few-lines b c.requires.second c.requires.few_second;
    }

pub bounds-lines-at : goal.bounds-lines-at
bounds-lines-at c = place-free _ _ _ _ _ c.loop-left.invariant.so_far (small c.args.a c.args.b c.requires) _ _ _ (c.in-Less.ensures.first refl).1

pub bounds-lines-at-in-Greater : goal.bounds-lines-at-in-Greater
bounds-lines-at-in-Greater c =
    place-free _ _ _ _ _ c.loop-left.invariant.so_far (small c.args.a c.args.b c.requires) _ _ _ (c.in-Greater.ensures.second refl).1

pub bounds-lines-at-in-Equal : goal.bounds-lines-at-in-Equal
bounds-lines-at-in-Equal c =
    place-free _ _ _ _ _ c.loop-left.invariant.so_far (small c.args.a c.args.b c.requires) _ _ _ (c.in-Equal.ensures.same refl).1.1

pub loop-left-preserved : goal.loop-left-preserved
loop-left-preserved c =
    let inv = c.loop-left.invariant in
    let room = small c.args.a c.args.b c.requires in
    elim c.match-turn.branch [
      | in-Less w ↦
          let left : c.match-turn.left.now ≡ drop 1 c.loop-left.left.now = grind (arith, common_steps) in
          let right : c.match-turn.right.now ≡ c.loop-left.right.now = grind (arith, common_steps) in
          record {
            so_far = grown _ _ _ _ _ inv.so_far room _ _ _ (w.in-Less.ensures.first refl).1 _ _ _ w.lines-is left right;
            few = omega (arith, inv.few, ap length left, ap length right, length-drop {A = Line});
            few_first = rw left (few-rest _ _ inv.few_first);
            few_second = rw right inv.few_second;
          }
      | in-Greater w ↦
          let left : c.match-turn.left.now ≡ c.loop-left.left.now = grind (arith, common_steps) in
          let right : c.match-turn.right.now ≡ drop 1 c.loop-left.right.now = grind (arith, common_steps) in
          record {
            so_far = grown _ _ _ _ _ inv.so_far room _ _ _ (w.in-Greater.ensures.second refl).1 _ _ _ w.lines-is left right;
            few = omega (arith, inv.few, ap length left, ap length right, length-drop {A = Line});
            few_first = rw left inv.few_first;
            few_second = rw right (few-rest _ _ inv.few_second);
          }
      | in-Equal w ↦
          let left : c.match-turn.left.now ≡ drop 1 c.loop-left.left.now = grind (arith, common_steps) in
          let right : c.match-turn.right.now ≡ drop 1 c.loop-left.right.now = grind (arith, common_steps) in
          record {
            so_far = grown _ _ _ _ _ inv.so_far room _ _ _ (w.in-Equal.ensures.same refl).1.1 _ _ _ (w.lines-is ∙ ap (set c.loop-left.lines c.loop-left.count) w.together.ensures) left right;
            few = omega (arith, inv.few, ap length left, ap length right, length-drop {A = Line});
            few_first = rw left (few-rest _ _ inv.few_first);
            few_second = rw right (few-rest _ _ inv.few_second);
          }
    ]

pub returns : goal.returns
returns c =
    let a = c.args.a in
    let b = c.args.b in
    let all = merged (lines_of a) (lines_of b) in
    let d = all_done all c.loop-left.lines c.loop-left.count c.loop-left.left.now c.loop-left.right.now c.loop-left.invariant.so_far (omega arith) in
    sym (ap (page a.others) (join-merged a b c.requires.second) ∙ page-is a.others c.loop-left.count all c.loop-left.lines (sym d.0) d.1)
