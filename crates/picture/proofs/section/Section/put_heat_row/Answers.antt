-- `picture::section::Section::put_heat_row` meets its contract, by its test: nothing, or the scale and the frame of the line's pair. Assumes nothing.
use mathlib.Core.Path.{◌≡◌, ◌∙◌}
use mathlib.Core.List.{List, [], ◌++◌}
use Prim.Native.Nat.{ℕ, ◌+◌, ◌-◌, ◌<◌, ◌≤◌}
use native.Mathlib.Omega.{arith}
use Rattle.putting.proofs.Added.{then, text-is, at_most, nothing_added}
use borrow.Author.Tests.{lt-ltb, le-ltb}
use Rattle.layers.specs.declared.gauge.Gauged.{Gauged}
use Rattle.picture.specs.Page.{scale_text, frame_text, heat_row}
use Rattle.sheet.specs.Record.{Entry}
use Rattle.sheet.specs.Slots.{list_of}
use Rattle.summary.specs.declared.Line.{Line}
use Rattle.summary.specs.Line.{pair_of}
use Rattle.picture.specs.declared.axis.Axis.{Axis}
use Rattle.picture.proofs.Rooms.{many-are}
use Rattle.picture.proofs.section.Section.put_heat_row.Goals as goal

no-heat : (l : List Entry) (a : Axis) (x : Line) (g : Gauged) → g.warm < g.cold → [] ≡ heat_row l a x g
unfolding heat_row
no-heat l a x g h = simp (lt-ltb g.warm g.cold h)

some-heat : (l : List Entry) (a : Axis) (x : Line) (g : Gauged) (pair tall high : ℕ) → g.cold ≤ g.warm → pair ≡ pair_of x → tall ≡ g.warm - g.cold + 20 → high ≡ g.warm → scale_text 1 x.settings g.warm g.cold ++ frame_text a.begin l pair 1 x.address a.from (high + 10) a.span tall ≡ heat_row l a x g
unfolding heat_row
some-heat l a x g pair tall high h p t q =
    (λ i. scale_text 1 x.settings g.warm g.cold ++ frame_text a.begin l (p i) 1 x.address a.from (q i + 10) a.span (t i))
    ∙ simp (le-ltb g.warm g.cold h)

pub returns-then-g : goal.returns-then-g
returns-then-g c = nothing_added (no-heat (list_of c.args.self.noted.sheet.now) c.args.self.axis c.args.self.line c.args.g c.if-g.true)

pub returns : goal.returns
returns c =
    let s = c.args.self in
    at_most (omega (arith, many-are (list_of s.noted.sheet.now) s.line s.noted.pair s.of_line)) (text-is (some-heat (list_of s.noted.sheet.now) s.axis s.line c.args.g s.noted.pair c.height.result c.from.result c.if-g.false s.of_line c.height.ensures c.from.ensures) (then c.put_scale.ensures c.put_frame.ensures))
