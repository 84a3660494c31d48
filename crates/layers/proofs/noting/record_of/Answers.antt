-- `layers::noting::record_of` meets its contract: what the look found is the slot's record, or none, and it is of the pair or of another. Assumes nothing.
use mathlib.Core.Path.{◌≡◌, refl, sym, ap, ◌∙◌}
use mathlib.Core.List.{List, [], ◌∷◌}
use Prim.Native.Nat.{ℕ, ◌≤◌}
use lib.ListN.{take}
use Rattle.frame.specs.Line.{bytes_for}
use Rattle.sheet.specs.declared.Found.{Found}
use Rattle.sheet.specs.declared.Found.TheVariants.{Blank, Spoiled, Foreign, Record, Refused}
use Rattle.sheet.specs.declared.Head.{Head}
use Rattle.sheet.specs.Record.{Entry}
use Rattle.sheet.specs.Slots.{slot_at, slot_of, record_in}
use Rattle.sheet.specs.Look.{entry_with, record_told}
use Rattle.summary.specs.Line.{pair_by}
use Rattle.summary.specs.Worked.{pair_in, entries_of_pair}
use Rattle.sheet.proofs.Seen.{seen-bits, seen-record}
use Rattle.layers.specs.Inside.Noted.{own_in}
use Rattle.layers.proofs.Drawn.{of_pair, of_other, of_none}
use Rattle.layers.proofs.noting.record_of.Goals.{After-look-looked, After-pair_of}
use Rattle.layers.proofs.noting.record_of.Goals as goal

-- what the look tells, by what it found
told-none : (f : Found) (reply : List ℕ) → ((h : Head) → f ≡ Record h → ⊥) → record_told f reply ≡ []
told-none (Record h) reply not = absurd (not h refl)
told-none Blank reply not = refl
told-none Spoiled reply not = refl
told-none Foreign reply not = refl
told-none (Refused n) reply not = refl

module _ (l : After-look-looked) where
  abbrev s : List ℕ
  s = l.args.sheet.now

  bits : (h : Head) → l.look-looked.result.found ≡ Record h → h.count ≤ 64
  bits = seen-bits s l.args.slot l.look-looked.result l.requires.sheet_value l.requires.slot_bound l.look-looked.ensures

  held : record_told l.look-looked.result.found l.look-looked.result.reply ≡ record_in (slot_of (slot_at s l.args.slot))
  held = seen-record s l.args.slot l.look-looked.result l.requires.sheet_value l.requires.slot_bound l.look-looked.ensures

  entry : Head → Entry
  entry h = entry_with h (take (bytes_for h.count) l.look-looked.result.reply)

  own-is : (h : Head) → l.look-looked.result.found ≡ Record h → own_in s l.args.pair l.args.slot ≡ entries_of_pair l.args.pair (entry h ∷ [])
  unfolding entry
  own-is h e = sym (ap (entries_of_pair l.args.pair) (ap (λ (f : Found). record_told f l.look-looked.result.reply) (sym e) ∙ held))

  pair_is : (h : Head) (n : ℕ) → n ≡ pair_by h.address h.settings → n ≡ pair_in (entry h)
  unfolding pair_in entry
  pair_is h n e = e

pub returns-in_default : goal.returns-in_default
returns-in_default c =
    let l = (goal.at.returns-in_default c).After-look-looked in
    sym (ap (entries_of_pair c.args.pair) (held l)) ∙ ap (entries_of_pair c.args.pair) (told-none _ _ c.in_default.not-Record) ∙ of_none c.args.pair

pub returns-then-pair_of-pair : goal.returns-then-pair_of-pair
returns-then-pair_of-pair c =
    let l = (goal.at.returns-then-pair_of-pair c).After-look-looked in
    let h = c.in-Record.head in
    own-is l h c.in-Record.is ∙ of_other c.args.pair (entry l h) (λ q. c.if-pair_of-pair.true (pair_is l h _ c.pair_of.ensures ∙ q))

pub read-requires : goal.read-requires
read-requires c = bits (goal.at.read-requires c).After-look-looked c.in-Record.head c.in-Record.is

pub returns : goal.returns
returns c =
    let l = (goal.at.returns c).After-look-looked in
    let h = c.in-Record.head in
    record {
      entry = entry l h;
      is = own-is l h c.in-Record.is ∙ of_pair c.args.pair (entry l h) (sym (pair_is l h _ c.pair_of.ensures) ∙ c.if-pair_of-pair.false);
      minute-is = unfold entry in refl;
      reply-is = unfold entry in c.read.ensures;
    }
