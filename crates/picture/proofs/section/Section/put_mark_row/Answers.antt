-- `picture::section::Section::put_mark_row` meets its contract: the scale and the frame of the line's pair. Assumes nothing.
use mathlib.Core.Path.{◌≡◌, ap}
use mathlib.Core.List.{List, ◌++◌}
use Prim.Native.Nat.{ℕ}
use native.Mathlib.Omega.{arith}
use Rattle.putting.proofs.Added.{then, text-is, at_most}
use Rattle.layers.specs.Layers.{number_of}
use Rattle.picture.specs.Page.{scale_text, frame_text, mark_row}
use Rattle.sheet.specs.Record.{Entry}
use Rattle.sheet.specs.Slots.{list_of}
use Rattle.summary.specs.declared.Line.{Line}
use Rattle.summary.specs.Line.{pair_of}
use Rattle.picture.specs.declared.axis.Axis.{Axis}
use Rattle.picture.proofs.Rooms.{many-are}
use Rattle.picture.proofs.section.Section.put_mark_row.Goals as goal

a-row : (l : List Entry) (a : Axis) (x : Line) (layer pair : ℕ) → pair ≡ pair_of x → scale_text layer 0 0 0 ++ frame_text a.begin l pair layer x.address a.from 0 a.span 1 ≡ mark_row l a x layer
unfolding mark_row
a-row l a x layer pair p = ap (λ (j : ℕ). scale_text layer 0 0 0 ++ frame_text a.begin l j layer x.address a.from 0 a.span 1) p

pub returns : goal.returns
returns c =
    let s = c.args.self in
    at_most (omega (arith, many-are (list_of s.noted.sheet.now) s.line s.noted.pair s.of_line)) (text-is (a-row (list_of s.noted.sheet.now) s.axis s.line (number_of c.args.layer) s.noted.pair s.of_line) (then c.put_scale.ensures c.put_frame.ensures))
