-- `picture::section::Section::put_level_row` meets its contract, by its test: the words, or the scale and the frame of the line's pair. Assumes nothing.
use mathlib.Core.Path.{◌≡◌, ◌∙◌}
use mathlib.Core.List.{List, ◌++◌}
use Prim.Native.Nat.{ℕ, ◌+◌, ◌-◌}
use native.Mathlib.Omega.{arith}
use Rattle.putting.proofs.Added.{then, text-is, at_most}
use borrow.Author.Tests.{eq-eqb, ne_eqb}
use Rattle.listing.specs.Text.{ascii}
use Rattle.picture.specs.Page.{scale_text, frame_text, level_row}
use Rattle.sheet.specs.Record.{Entry}
use Rattle.sheet.specs.Slots.{list_of}
use Rattle.summary.specs.declared.Line.{Line}
use Rattle.summary.specs.Line.{pair_of}
use Rattle.picture.specs.declared.axis.Axis.{Axis}
use Rattle.picture.proofs.Rooms.{many-are}
use Rattle.picture.proofs.section.Section.put_level_row.Goals as goal

no-good : (l : List Entry) (a : Axis) (x : Line) → x.good ≡ 0 → ascii "<p>No reply was good, so no level is drawn.</p>\n" ≡ level_row l a x
unfolding level_row
no-good l a x h = simp (eq-eqb x.good 0 h)

some_good : (l : List Entry) (a : Axis) (x : Line) (pair tall high : ℕ) → (x.good ≡ 0 → ⊥) → pair ≡ pair_of x → tall ≡ x.highest - x.lowest + 2 → high ≡ x.highest → scale_text 0 x.settings x.highest x.lowest ++ frame_text a.begin l pair 0 x.address a.from (high + 1) a.span tall ≡ level_row l a x
unfolding level_row
some_good l a x pair tall high h p t q =
    (λ i. scale_text 0 x.settings x.highest x.lowest ++ frame_text a.begin l (p i) 0 x.address a.from (q i + 1) a.span (t i))
    ∙ simp (ne_eqb x.good 0 h)

pub returns-then-x-eq0 : goal.returns-then-x-eq0
returns-then-x-eq0 c = at_most (omega arith) (text-is (no-good (list_of c.args.self.noted.sheet.now) c.args.self.axis c.args.self.line c.if-x-eq0.true) c.word.ensures)

pub returns : goal.returns
returns c =
    let s = c.args.self in
    at_most (omega (arith, many-are (list_of s.noted.sheet.now) s.line s.noted.pair s.of_line)) (text-is (some_good (list_of s.noted.sheet.now) s.axis s.line s.noted.pair c.height.result c.from.result c.if-x-eq0.false s.of_line c.height.ensures c.from.ensures) (then c.put_scale.ensures c.put_frame.ensures))
