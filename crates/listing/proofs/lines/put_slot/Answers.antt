-- `listing::lines::put_slot` meets its contract: each case puts the line that the look's answer tells, which is the slot's. Assumes nothing.
use mathlib.Core.Path.{◌≡◌, sym, ap, ◌∙◌}
use mathlib.Core.List.{[]}
use mathlib.Core.Logic.{◌⊎◌, inl, inr}
use native.Mathlib.Omega.{arith}
use Rattle.frame.specs.declared.faults.Fault.{Fault}
use Rattle.sheet.specs.declared.Found.{Found}
use Rattle.sheet.specs.declared.Found.TheVariants.{Blank, Spoiled, Foreign, Record, Refused}
use Rattle.listing.specs.Lines.{slot_line}
use Rattle.sheet.proofs.Seen.{seen-bits}
use Rattle.putting.proofs.Added.{text-is, at_most, nothing_added}
use Rattle.listing.proofs.Seen.{line_found, seen-line, seen-records}
use Rattle.listing.proofs.lines.put_slot.Goals.{After-look-looked, in-Blank, in-Spoiled, in-Foreign, in-Record}
use Rattle.listing.proofs.lines.put_slot.Goals as goal

pub put_line-requires-clause-count_bound : goal.put_line-requires-clause-count_bound
put_line-requires-clause-count_bound c =
    seen-bits c.args.sheet.now c.args.slot c.look-looked.result c.requires.sheet_value c.requires.slot_bound c.look-looked.ensures c.in-Record.head c.in-Record.is

-- the line that the look tells, by the case that the match saw
line-is : (l : After-look-looked) → (f : Found) → l.look-looked.result.found ≡ f → line_found l.args.slot f l.look-looked.result.reply ≡ slot_line l.args.sheet.now l.args.slot
line-is l f e =
    ap (λ (g : Found). line_found l.args.slot g l.look-looked.result.reply) (sym e)
    ∙ seen-line l.args.sheet.now l.args.slot l.look-looked.result l.requires.sheet_value l.requires.slot_bound l.look-looked.ensures

no-line : (l : After-look-looked) → (l.look-looked.result.found ≡ Blank) ⊎ ((f : Fault) × l.look-looked.result.found ≡ Refused f) → [] ≡ slot_line l.args.sheet.now l.args.slot
no-line l (inl e) = line-is l Blank e
no-line l (inr (f, e)) = line-is l (Refused f) e

pub returns-clause-puts : goal.returns-clause-puts
returns-clause-puts c =
    let l = (goal.at.returns-clause-puts c).After-look-looked in
    elim c.match-looked.branch [
      | in-Blank w ↦ rw w.text-is (nothing_added (no-line l w.in-Blank.is))
      | in-Spoiled w ↦ rw w.text-is (at_most (omega arith) (text-is (line-is l Spoiled w.in-Spoiled.is) w.put_other.ensures))
      | in-Foreign w ↦ rw w.text-is (at_most (omega arith) (text-is (line-is l Foreign w.in-Foreign.is) w.put_other-in-Foreign.ensures))
      | in-Record w ↦ rw w.text-is (text-is (line-is l (Record w.in-Record.head) w.in-Record.is) w.put_line.ensures)
    ]

pub returns-clause-records_value : goal.returns-clause-records_value
returns-clause-records_value c =
    c.records_in.ensures ∙ seen-records c.args.sheet.now c.args.slot c.look-looked.result c.requires.sheet_value c.requires.slot_bound c.look-looked.ensures
