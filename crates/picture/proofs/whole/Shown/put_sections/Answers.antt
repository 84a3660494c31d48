-- `picture::whole::Shown::put_sections` meets its contract: what was put so far, and the sections of the lines that are left, are the whole; so is their room.
-- Assumes nothing.
use mathlib.Core.Path.{◌≡◌, refl, sym, ap, ◌∙◌}
use mathlib.Core.List.{List, [], ◌∷◌, ◌++◌, append-nil, append_assoc}
use Prim.Native.Nat.{ℕ, zero, suc, ◌+◌, ◌*◌, ◌<◌, ◌≤◌}
use native.Mathlib.Numerals.{add-one}
use native.Mathlib.Omega.{arith}
use lib.ListN.{length, get_or, drop}
use lib.Seq.{drop-cons}
use Rattle.sheet.specs.Record.{Entry}
use Rattle.sheet.specs.Slots.{list_of}
use Rattle.summary.specs.declared.Line.{Line}
use Rattle.summary.specs.Line.{pair_of, blank_line}
use Rattle.summary.specs.Worked.{entries_of_pair}
use Rattle.putting.specs.declared.Text.{Text}
use Rattle.putting.specs.Adds.{Adds}
use Rattle.putting.proofs.Added.{then, text-is, at_most, nothing_added}
use Rattle.picture.specs.Page.{section_text, sections_text}
use Rattle.picture.specs.Inside.Room.{room_of}
use Rattle.picture.specs.declared.axis.Axis.{Axis}
use Rattle.picture.proofs.whole.Shown.put_sections.Invariants.{Sectioned}
use Rattle.picture.proofs.whole.Shown.put_sections.Goals as goal

next-line : (ls : List Line) (i : ℕ) → i < length ls → drop i ls ≡ get_or ls i blank_line ∷ drop (i + 1) ls
next-line ls i h = drop-cons ls i blank_line h ∙ ap (λ (j : ℕ). get_or ls i blank_line ∷ drop j ls) (sym (add-one i))

no_line : (ls : List Line) (i : ℕ) → length ls ≤ i → drop i ls ≡ []
no_line [] zero h = refl
no_line [] (suc i) h = refl
no_line (x ∷ ls) zero h = absurd (omega arith)
no_line (x ∷ ls) (suc i) h = no_line ls i (omega arith)

text-next : (l : List Entry) (a : Axis) (x : Line) (xs : List Line) → sections_text l a (x ∷ xs) ≡ section_text l a x ++ sections_text l a xs
unfolding sections_text
text-next l a x xs = refl

text-none : (l : List Entry) (a : Axis) → sections_text l a [] ≡ []
unfolding sections_text
text-none l a = refl

room_next : (l : List Entry) (x : Line) (xs : List Line) → room_of l (x ∷ xs) ≡ 4600 + 624 * length (entries_of_pair (pair_of x) l) + room_of l xs
unfolding room_of
room_next l x xs = refl

module _ (before : Text) (l : List Entry) (a : Axis) (lines : List Line) (after : Text) (i : ℕ) (f : Sectioned before l a lines after i) (inside : i < length lines) where
  abbrev line : Line
  line = get_or lines i blank_line

  abbrev rest : List Line
  rest = drop (i + 1) lines

  next-room : room_of l (drop i lines) ≡ 4600 + 624 * length (entries_of_pair (pair_of line) l) + room_of l rest
  next-room = ap (room_of l) (next-line lines i inside) ∙ room_next l line rest

  enough : before.at + room_of l lines ≤ length before.out.now → after.at + (4600 + 624 * length (entries_of_pair (pair_of line) l)) ≤ length after.out.now
  enough h = omega (arith, next-room, f.room, f.put.ends, f.put.within, f.put.keeps)

  more : (next : Text) → Adds (section_text l a line) (4600 + 624 * length (entries_of_pair (pair_of line) l)) after next → Sectioned before l a lines next (i + 1)
  more next put =
      record {
        most = f.most + (4600 + 624 * length (entries_of_pair (pair_of line) l));
        text = f.text ++ section_text l a line;
        put = then f.put put;
        room = omega (arith, next-room, f.room);
        whole = append_assoc f.text (section_text l a line) (sections_text l a rest)
            ∙ ap (λ (t : List ℕ). f.text ++ t) (sym (ap (sections_text l a) (next-line lines i inside) ∙ text-next l a line rest))
            ∙ f.whole;
      }

pub loop-line-init : goal.loop-line-init
loop-line-init c = record { most = 0; text = []; put = nothing_added refl; room = omega arith; whole = refl }

pub put_section-requires : goal.put_section-requires
put_section-requires c = enough _ _ _ _ _ _ c.loop-line.invariant (omega arith) c.requires

pub loop-line-preserved : goal.loop-line-preserved
loop-line-preserved c = more _ _ _ _ _ _ c.loop-line.invariant (omega arith) _ c.put_section.ensures

pub returns : goal.returns
returns c =
    let f = c.loop-line.invariant in
    let a = c.args in
    let l = list_of a.self.sheet.now in
    let none = no_line a.lines.now c.loop-line.line-index (omega arith) in
    let end : f.text ≡ sections_text l a.self.axis a.lines.now = sym (append-nil f.text) ∙ ap (λ (t : List ℕ). f.text ++ t) (sym (ap (sections_text l a.self.axis) none ∙ text-none l a.self.axis)) ∙ f.whole in
    at_most (omega (arith, f.room)) (text-is end f.put)
