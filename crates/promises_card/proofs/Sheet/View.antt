-- Each case is the definition after the tests that stand in it. Assumes nothing.
use mathlib.Core.Path.{◌≡◌, refl, sym, ap, ◌∙◌}
use mathlib.Core.Bool.{Bool, true, false}
use mathlib.Core.List.{List}
use Prim.Native.Nat.{ℕ}
use denote.Ref.{Bor}
use lib.ListN.{length}
use Rattle.sheet.specs.declared.view.Sheet.{Sheet}
use Rattle.frame.specs.Pick.{pick}
use Rattle.sheet.specs.Slots.{size_allowed, slots}
use Rattle.sheet.specs.View.{Counts, slots_counted, seen_of, slots_for, counted_number, slots_told}
use Rattle.sheet.proofs.view.Spans.{opened-seen, seen-there, seen-uncounted, seen-short}
use Rattle.promises_card.specs.Sheet.View.{SheetView}
use Rattle.std.specs.Prelude.{Result, Ok, Err}
use Rattle.frame.specs.declared.faults.Fault.{Fault}
use Rattle.frame.specs.Faults.{fault}

pair : (a b : Sheet) → a.bytes ≡ b.bytes → a.slots ≡ b.slots → a ≡ b
pair a b e f = λ i. record { bytes = e i; slots = f i }

-- what is counted, by whether the size is allowed
count-is : (s : List ℕ) (answer : Result ℕ Fault) (t : Bool) → Counts s answer → size_allowed s ≡ t → answer ≡ pick t (Ok (slots s)) (Err (fault 12))
unfolding slots_counted
count-is s answer t c e = c.answers ∙ ap (λ (b : Bool). pick b (Ok (slots s)) (Err (fault 12))) e

pub sheet-view : SheetView
sheet-view =
    record {
      opened = λ lent view slot seen looked opens sees looks.
          sees.answers ∙ ap (λ (x : Bor (List ℕ)). seen_of x.now view.slots slot) opens.bytes
          ∙ ap (λ (n : ℕ). seen_of lent.now n slot) opens.slots ∙ opened-seen lent.now slot ∙ sym looks.answers;
      there = λ bytes count slot seen sees near inside. sees.answers ∙ seen-there bytes count slot near inside;
      beyond_count = λ bytes count slot seen sees far. sees.answers ∙ seen-uncounted bytes count slot far;
      beyond_bytes = λ bytes count slot seen sees far. sees.answers ∙ seen-short bytes count slot far;
      counted = λ s answer c e. let is = count-is s answer true c e in (ap counted_number is, ap slots_told is);
      not_counted = λ s answer c e. let is = count-is s answer false c e in (ap counted_number is, ap slots_told is);
      count-slots = λ s. record { same = λ a b p q. p.answers ∙ sym q.answers; some = _; allowed = record { answers = refl } };
      open_view = λ lent.
          record { same = λ a b p q. pair a b (p.bytes ∙ sym q.bytes) (p.slots ∙ sym q.slots); some = record { bytes = lent; slots = slots_for (length lent.now) }; allowed = record { bytes = refl; slots = refl } };
      slot-in = λ bytes count slot. record { same = λ a b p q. p.answers ∙ sym q.answers; some = _; allowed = record { answers = refl } };
    }
