-- `picture::whole::Shown::put_sections` meets its contract: what was put so far, and the sections of the lines that are left, are the whole; so is their room.
-- Assumes nothing.
use mathlib.Core.Path.{◌≡◌}
use mathlib.Core.List.{List, ◌++◌}
use Prim.Native.Nat.{ℕ, ◌+◌}
use lib.ListN.{drop}
use Rattle.sheet.specs.Record.{Entry}
use Rattle.sheet.specs.Slots.{list_of}
use Rattle.summary.specs.declared.Line.{Line}
use Rattle.putting.specs.declared.Text.{Text}
use Rattle.putting.specs.Adds.{Adds}
use Rattle.picture.specs.Page.{sections_text}
use Rattle.picture.specs.Inside.Room.{room_of}
use Rattle.picture.specs.declared.axis.Axis.{Axis}
use Rattle.picture.proofs.whole.Shown.put_sections.Given as goal

pub record Sectioned (before : Text) (l : List Entry) (a : Axis) (lines : List Line) (after : Text) (i : ℕ) : Type 0 where
  pub most : ℕ
  pub text : List ℕ
  pub put : Adds text most before after
  pub room : most + room_of l (drop i lines) ≡ room_of l lines
  pub whole : text ++ sections_text l a (drop i lines) ≡ sections_text l a lines

abbrev pub invariant-loop-line : goal.invariant-loop-line
invariant-loop-line l = Sectioned l.initial.text (list_of l.self.sheet.now) l.self.axis l.lines l.text l.line-index
