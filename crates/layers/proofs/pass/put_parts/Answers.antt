-- `layers::pass::put_parts` meets its contract: after i turns the parts of the pair's records in the first i noted slots were added. Assumes nothing.
use mathlib.Core.Path.{◌≡◌, sym, ap, ◌∙◌}
use mathlib.Core.Bool.{Bool, false}
use mathlib.Core.List.{List, ◌++◌}
use Prim.Native.Nat.{ℕ, ◌+◌, ◌-◌, ◌*◌, ◌≤◌}
use native.Mathlib.Omega.{arith}
use lib.ListN.{length, get_or}
use Rattle.sheet.specs.Slots.{list_of}
use Rattle.summary.specs.Worked.{entries_of_pair}
use Rattle.std.specs.Prelude.{Option}
use Rattle.putting.specs.declared.Text.{Text}
use Rattle.putting.specs.Adds.{Adds}
use Rattle.putting.proofs.Added.{then, text-is, at_most, nothing_added}
use Rattle.calendar.specs.declared.counting.Day.{Day}
use Rattle.layers.specs.Layers.{number_of}
use Rattle.layers.specs.Drawing.{layer_text}
use Rattle.layers.specs.Inside.Layers.{joined_after}
use Rattle.layers.specs.Inside.Noted.{own_in, own_up_to}
use Rattle.layers.proofs.Drawn.{layer-append, joined-append, layer-none, joined-none, one-text, one-joined, none-text, none-joined}
use Rattle.layers.proofs.MoreNoted.{own-none, own-more, own-count, own-grows}
use Rattle.layers.proofs.pass.put_parts.Invariants.{Layered}
use Rattle.layers.proofs.pass.put_parts.Goals.{in-Some, in_default}
use Rattle.layers.proofs.pass.put_parts.Goals as goal

module _ (begin : Option Day) (layer pair : ℕ) (s own : List ℕ) (i slot : ℕ) (e : slot ≡ get_or own i 0) where
  more-text : layer_text begin layer false (own_up_to s pair own i) ++ layer_text begin layer (joined_after layer false (own_up_to s pair own i)) (own_in s pair slot) ≡ layer_text begin layer false (own_up_to s pair own (i + 1))
  more-text =
      ap (λ (k : ℕ). layer_text begin layer false (own_up_to s pair own i) ++ layer_text begin layer (joined_after layer false (own_up_to s pair own i)) (own_in s pair k)) e
      ∙ sym (ap (layer_text begin layer false) (own-more s pair own i) ∙ layer-append begin layer false (own_up_to s pair own i) (own_in s pair (get_or own i 0)))

  more-joined : joined_after layer (joined_after layer false (own_up_to s pair own i)) (own_in s pair slot) ≡ joined_after layer false (own_up_to s pair own (i + 1))
  more-joined =
      ap (λ (k : ℕ). joined_after layer (joined_after layer false (own_up_to s pair own i)) (own_in s pair k)) e
      ∙ sym (ap (joined_after layer false) (own-more s pair own i) ∙ joined-append layer false (own_up_to s pair own i) (own_in s pair (get_or own i 0)))

  more_room : length (own_up_to s pair own (i + 1)) ≡ length (own_up_to s pair own i) + length (own_in s pair slot)
  more_room = own-count s pair own i ∙ ap (λ (k : ℕ). length (own_up_to s pair own i) + length (own_in s pair k)) (sym e)

  -- one slot more
  module _ (before text : Text) (joined : Bool) (f : Layered before s own pair layer begin text joined i) where
    more : (after : Text) (goes : Bool) → Adds (layer_text begin layer joined (own_in s pair slot)) (104 * length (own_in s pair slot)) text after → goes ≡ joined_after layer joined (own_in s pair slot) → Layered before s own pair layer begin after goes (i + 1)
    more after goes adds on =
        record {
          parts = at_most (omega (arith, more_room)) (text-is more-text (then f.parts (text-is (ap (λ (j : Bool). layer_text begin layer j (own_in s pair slot)) f.goes_on) adds)));
          goes_on = on ∙ ap (λ (j : Bool). joined_after layer j (own_in s pair slot)) f.goes_on ∙ more-joined;
        }

-- the same of values that are equal
moved : (before : Text) (s own : List ℕ) (pair layer : ℕ) (begin : Option Day) (text after : Text) (joined goes : Bool) (i : ℕ) → text ≡ after → joined ≡ goes → Layered before s own pair layer begin after goes i → Layered before s own pair layer begin text joined i
moved before s own pair layer begin text after joined goes i p q f = rw (p, q) f

pub loop-slot-init : goal.loop-slot-init
loop-slot-init c =
    let a = c.args in
    let x = a.noted in
    let n = number_of a.layer in
    record {
      parts = nothing_added (sym (ap (layer_text a.begin n false) (own-none x.sheet.now x.pair x.own.now) ∙ layer-none a.begin n false));
      goes_on = sym (ap (joined_after n false) (own-none x.sheet.now x.pair x.own.now) ∙ joined-none n false);
    }

pub record_of-requires : goal.record_of-requires
record_of-requires c =
    let near = c.args.noted.noted.within c.loop-slot.slot-index (omega arith) in
    record { sheet_value = c.args.noted.sheet_value; slot_bound = rw c.from.ensures near }

pub put_part-joined-requires : goal.put_part-joined-requires
put_part-joined-requires c =
    let l = c.loop-slot in
    let a = c.args in
    let x = a.noted in
    let s = x.sheet.now in
    let own = x.own.now in
    let left = length own - (l.slot-index + 1) in
    let all : l.slot-index + 1 + left ≡ length own = omega arith in
    let grows : length (own_up_to s x.pair own (l.slot-index + 1)) ≤ length (entries_of_pair x.pair (list_of s)) = rw (← x.noted.records, ← all) (own-grows s x.pair own (l.slot-index + 1) left) in
    let one = ap length c.in-Some.ensures.is in
    let room = more_room a.begin (number_of a.layer) x.pair s own l.slot-index c.from.result c.from.ensures in
    let parts = l.invariant.parts in
    omega (arith, parts.ends, parts.within, parts.keeps, c.requires)

pub loop-slot-preserved : goal.loop-slot-preserved
loop-slot-preserved c =
    let l = c.loop-slot in
    let a = c.args in
    let x = a.noted in
    let n : ℕ = number_of a.layer in
    let s : List ℕ = x.sheet.now in
    let own : List ℕ = x.own.now in
    elim c.match-record_of.branch [
      | in-Some w ↦
          (
          let one = w.in-Some.ensures in
          let long = ap length one.is in
          moved _ _ _ _ _ _ _ _ _ _ (l.slot-index + 1) w.text-is w.joined-is
          (
          more a.begin n x.pair s own l.slot-index c.from.result c.from.ensures _ _ _ l.invariant _ w.put_part-joined.result
          (at_most (omega arith) (text-is (one-text a.begin n l.joined _ _ _ one) w.put_part-joined.ensures.adds))
          (w.put_part-joined.ensures.joined_value ∙ one-joined a.begin n l.joined _ _ _ one)
          )
          )
      | in_default w ↦
          (
          let none = w.in_default.ensures in
          moved _ _ _ _ _ _ _ _ _ _ (l.slot-index + 1) w.text-is w.joined-is
          (
          more a.begin n x.pair s own l.slot-index c.from.result c.from.ensures _ _ _ l.invariant _ l.joined
          (nothing_added (none-text a.begin n l.joined _ none))
          (none-joined a.begin n l.joined _ none)
          )
          )
    ]

pub returns : goal.returns
returns c =
    let l = c.loop-slot in
    let x = c.args.noted in
    let all : l.slot-index ≡ length x.own.now = omega arith in
    rw (ap (own_up_to x.sheet.now x.pair x.own.now) all ∙ x.noted.records) at l.invariant.parts
