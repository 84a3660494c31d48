-- `picture::section::Section::put` meets its contract: its parts are put one after another, all of the line's pair. Assumes nothing.
use mathlib.Core.Path.{◌≡◌, ap, ◌∙◌}
use mathlib.Core.List.{List, ◌++◌}
use Prim.Native.Nat.{ℕ}
use native.Mathlib.Omega.{arith}
use Rattle.putting.proofs.Added.{then, text-is, at_most}
use mathlib.Core.Bool.{false}
use Rattle.sheet.specs.Record.{Entry}
use Rattle.sheet.specs.Slots.{list_of}
use Rattle.summary.specs.declared.Line.{Line}
use Rattle.summary.specs.Line.{pair_of}
use Rattle.summary.specs.Worked.{entries_of_pair}
use Rattle.listing.specs.Text.{ascii}
use Rattle.layers.specs.declared.gauge.Gauged.{Gauged}
use Rattle.layers.specs.Drawing.{layer_text}
use Rattle.layers.specs.Gauged.{gauged_of}
use Rattle.picture.specs.declared.axis.Axis.{Axis}
use Rattle.picture.specs.Page.{heading_text, rows_text, figures_text, section_text}
use Rattle.picture.proofs.Rooms.{many-are}
use Rattle.picture.proofs.section.Section.put.Goals as goal

section-is : (l : List Entry) (a : Axis) (x : Line) (pair : ℕ) (g : Gauged) → pair ≡ pair_of x → g ≡ gauged_of (entries_of_pair pair l) → heading_text x ++ rows_text l a x g ++ figures_text a.begin x g ++ ascii "<details><summary>faulty replies one by one</summary><ul>" ++ layer_text a.begin 5 false (entries_of_pair pair l) ++ ascii "</ul></details></section>\n" ≡ section_text l a x
unfolding section_text
section-is l a x pair g p q =
    let h : g ≡ gauged_of (entries_of_pair (pair_of x) l) = q ∙ ap (λ (j : ℕ). gauged_of (entries_of_pair j l)) p in
    λ i. heading_text x ++ rows_text l a x (h i) ++ figures_text a.begin x (h i) ++ ascii "<details><summary>faulty replies one by one</summary><ul>" ++ layer_text a.begin 5 false (entries_of_pair (p i) l) ++ ascii "</ul></details></section>\n"

pub returns : goal.returns
returns c =
    let s = c.args.self in
    let l = list_of s.noted.sheet.now in
    at_most (omega (arith, many-are l s.line s.noted.pair s.of_line)) (text-is (section-is l s.axis s.line s.noted.pair c.gauge-g.result s.of_line c.gauge-g.ensures) (then (then (then (then (then c.put_heading.ensures c.put_rows.ensures) c.put_figures.ensures) c.word.ensures) c.put_parts.ensures) c.word-2.ensures))
