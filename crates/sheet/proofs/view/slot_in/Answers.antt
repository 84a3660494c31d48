-- `sheet::view::slot_in` meets its contract: a slot that is counted and there reads as its 32 bytes do, and any other is refused. Assumes nothing.
use mathlib.Core.Path.{◌≡◌, sym, ap, ◌∙◌}
use Prim.Native.Nat.{ℕ, ◌-◌, ◌+◌, ◌*◌}
use native.Mathlib.Omega.{arith}
use lib.ListN.{take, drop}
use Rattle.sheet.specs.Look.{part_of}
use Rattle.sheet.proofs.view.Spans.{seen-part, seen-uncounted, seen-short}
use Rattle.sheet.proofs.view.slot_in.Goals as goal
use Rattle.sheet.proofs.view.slot_in.Goals.{else-slot-sheet-via-then-slot-sheet+else-slot-sheet-2, else-slot-sheet-via-else-slot-sheet}

pub returns-then-slot-sheet-2 : goal.returns-then-slot-sheet-2
returns-then-slot-sheet-2 c =
    let s = c.args.sheet.bytes.now in
    let k = c.args.slot in
    let all : 32 * k + 32 - 32 * k ≡ 32 = omega arith in record {
      answers = c.read_slot.ensures
          ∙ ap (λ (n : ℕ). part_of (take n (drop (32 * k) s))) all
          ∙ sym (seen-part s c.args.sheet.slots k c.if-slot-sheet.true);
    }

pub returns-else-slot-sheet : goal.returns-else-slot-sheet
returns-else-slot-sheet c =
    let s = c.args.sheet.bytes.now in
    let n = c.args.sheet.slots in
    let k = c.args.slot in record {
      answers = c.bare.ensures
          ∙ sym (elim c.else-slot-sheet.branch [
            | else-slot-sheet-via-then-slot-sheet+else-slot-sheet-2 w ↦ seen-short s n k w.if-slot-sheet-2.false
            | else-slot-sheet-via-else-slot-sheet w ↦ seen-uncounted s n k w.if-slot-sheet.false
          ]);
    }
