-- A layer of some records and of more of them; and the records of a pair, one slot more. Assumes nothing.
use mathlib.Core.Path.{◌≡◌, refl, sym, ap, ◌∙◌}
use mathlib.Core.Bool.{Bool, false}
use mathlib.Core.List.{List, [], ◌∷◌, ◌++◌, append-nil, append_assoc}
use Prim.Native.Nat.{ℕ, ◌+◌, ◌<◌}
use native.Mathlib.Omega.{arith}
use borrow.Author.Tests.{eq-eqb, ne_eqb, le-ltb}
use lib.Dec.{ltb}
use Rattle.std.specs.Option.{is_some}
use Rattle.frame.specs.Pick.{pick}
use Rattle.sheet.specs.Record.{Entry}
use Rattle.sheet.specs.Slots.{slot_at, slot_of, record_in, list_up_to}
use Rattle.summary.specs.Worked.{pair_in, reply_in, entries_of_pair}
use Rattle.sheet.proofs.Seen.{list-more}
use Rattle.summary.proofs.PairFigures.{pair-append}
use Rattle.calendar.specs.declared.counting.Day.{Day}
use Rattle.layers.specs.Drawing.{value_in, point_text, alarm_mark, fault_mark, mark_text, part_text, line_goes_on, layer_text}
use Rattle.layers.specs.Inside.Noted.{IsOne}
use Rattle.layers.specs.Inside.Layers.{joined_after}
use Rattle.std.specs.Prelude.{Option, Result, Ok, Err}
use Rattle.frame.specs.declared.faults.Fault.{Fault}
use Rattle.frame.specs.declared.Reading.{Reading}

pub layer-append : (b : Option Day) (n : ℕ) (j : Bool) (l m : List Entry) → layer_text b n j (l ++ m) ≡ layer_text b n j l ++ layer_text b n (joined_after n j l) m
unfolding layer_text joined_after
layer-append b n j [] m = refl
layer-append b n j (e ∷ l) m =
    ap (λ (t : List ℕ). part_text b n j e ++ t) (layer-append b n (line_goes_on n e) l m)
    ∙ sym (append_assoc (part_text b n j e) (layer_text b n (line_goes_on n e) l) (layer_text b n (joined_after n (line_goes_on n e) l) m))

pub joined-append : (n : ℕ) (j : Bool) (l m : List Entry) → joined_after n j (l ++ m) ≡ joined_after n (joined_after n j l) m
unfolding joined_after
joined-append n j [] m = refl
joined-append n j (e ∷ l) m = joined-append n (line_goes_on n e) l m

-- a layer of one record, and of none
pub layer-one : (b : Option Day) (n : ℕ) (j : Bool) (e : Entry) → layer_text b n j (e ∷ []) ≡ part_text b n j e
unfolding layer_text
layer-one b n j e = append-nil (part_text b n j e)

pub joined-one : (n : ℕ) (j : Bool) (e : Entry) → joined_after n j (e ∷ []) ≡ line_goes_on n e
unfolding joined_after
joined-one n j e = refl

pub layer-none : (b : Option Day) (n : ℕ) (j : Bool) → layer_text b n j [] ≡ []
unfolding layer_text
layer-none b n j = refl

pub joined-none : (n : ℕ) (j : Bool) → joined_after n j [] ≡ j
unfolding joined_after
joined-none n j = refl

-- a layer above the last, of any records: it has no line, no marks and no words
mark-beyond : (b : Option Day) (n minute : ℕ) (r : Result Reading Fault) → 5 < n → mark_text b n minute r ≡ []
unfolding alarm_mark fault_mark
mark-beyond b n minute (Ok r) h = simp (ne_eqb n 3 (λ e. omega arith), ne_eqb n 4 (λ e. omega arith))
mark-beyond b n minute (Err f) h = simp (ne_eqb n 2 (λ e. omega arith), ne_eqb n 5 (λ e. omega arith))

part-beyond : (b : Option Day) (n : ℕ) (j : Bool) (e : Entry) → 5 < n → part_text b n j e ≡ []
unfolding part_text
part-beyond b n j e h = simp (le-ltb n 2 (omega arith)) (mark-beyond b n e.minute (reply_in e) h)

pub layer-beyond : (b : Option Day) (n : ℕ) (j : Bool) (l : List Entry) → 5 < n → layer_text b n j l ≡ []
unfolding layer_text
layer-beyond b n j [] h = refl
layer-beyond b n j (e ∷ l) h =
    let part = part-beyond b n j e h in
    let rest = layer-beyond b n (line_goes_on n e) l h in
    λ i. part i ++ rest i

-- a record of the pair, and one of another
pub of_pair : (k : ℕ) (e : Entry) → pair_in e ≡ k → entries_of_pair k (e ∷ []) ≡ e ∷ []
unfolding entries_of_pair
of_pair k e h = simp (eq-eqb (pair_in e) k h)

pub of_other : (k : ℕ) (e : Entry) → (pair_in e ≡ k → ⊥) → entries_of_pair k (e ∷ []) ≡ []
unfolding entries_of_pair
of_other k e h = simp (ne_eqb (pair_in e) k h)

pub of_none : (k : ℕ) → entries_of_pair k [] ≡ []
unfolding entries_of_pair
of_none k = refl

-- the records of a pair, one slot more
pub pair-more : (k : ℕ) (s : List ℕ) (i : ℕ) → entries_of_pair k (list_up_to s (i + 1)) ≡ entries_of_pair k (list_up_to s i) ++ entries_of_pair k (record_in (slot_of (slot_at s i)))
pair-more k s i = ap (entries_of_pair k) (list-more s i) ∙ pair-append k (list_up_to s i) (record_in (slot_of (slot_at s i)))

-- what one record adds, by its minute and what its reply reads as; and what none adds
module _ (b : Option Day) (n : ℕ) (j : Bool) (m : List Entry) where
  pub one-text : (minute : ℕ) (reply : Result Reading Fault) → IsOne m minute reply → pick (ltb n 2) (point_text j minute (value_in n reply)) (mark_text b n minute reply) ≡ layer_text b n j m
  unfolding part_text
  one-text minute reply h =
      (λ i. pick (ltb n 2) (point_text j (h.minute-is i) (value_in n (h.reply-is i))) (mark_text b n (h.minute-is i) (h.reply-is i)))
      ∙ sym (ap (layer_text b n j) h.is ∙ layer-one b n j h.entry)

  pub one-joined : (minute : ℕ) (reply : Result Reading Fault) → IsOne m minute reply → pick (ltb n 2) (is_some (value_in n reply)) false ≡ joined_after n j m
  unfolding line_goes_on
  one-joined minute reply h =
      ap (λ (r : Result Reading Fault). pick (ltb n 2) (is_some (value_in n r)) false) h.reply-is ∙ sym (ap (joined_after n j) h.is ∙ joined-one n j h.entry)

  pub none-text : m ≡ [] → [] ≡ layer_text b n j m
  none-text e = sym (ap (layer_text b n j) e ∙ layer-none b n j)

  pub none-joined : m ≡ [] → j ≡ joined_after n j m
  none-joined e = sym (ap (joined_after n j) e ∙ joined-none n j)
