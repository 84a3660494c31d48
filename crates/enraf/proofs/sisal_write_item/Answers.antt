-- `enraf::sisal_write_item` meets its contract: each return is the list of tests by what they gave, and what was stored is the record. Assumes
-- nothing.
use mathlib.Core.Path.{◌≡◌, refl, sym, ap, ◌∙◌}
use mathlib.Core.Bool.{Bool, true, false, ◌&&◌}
use mathlib.Core.List.{List}
use mathlib.Core.Logic.{◌⊎◌, inl, inr}
use Prim.Native.Nat.{ℕ, ◌+◌, ◌≤◌, ◌<◌}
use native.Mathlib.Omega.{arith}
use borrow.Author.Tests.{lt-ltb, le-ltb, lt-leb}
use lib.Dec.{leb}
use lib.ListN.{length}
use borrow.Author.Rules.{rules}
use Rattle.putting.proofs.Added.{then, text-is}
use Rattle.enraf.specs.Inside.{kind_number}
use Rattle.enraf.specs.Item.{Item, item_of, alone, is_letter, kind_fits, text_fits, tail_of}
use Rattle.enraf.specs.Record.{item_record}
use Rattle.enraf.specs.Writing.{write_fault, done}
use Rattle.enraf.proofs.ByTests.{kind-fits-by, text-by, write-fault-by}
use Rattle.enraf.proofs.SixKinds.{fits-kind}
use Rattle.enraf.proofs.Written.{refuses, writes, record-long, left}
use Rattle.enraf.proofs.sisal_write_item.Goals.{Else-not-fits}
use Rattle.enraf.proofs.sisal_write_item.Goals as goal

-- an address beyond its digits
no-address : (i : Item) (out : List ℕ) → (9 < i.ciu) ⊎ (i.ciu ≤ 9 × 99 < i.gauge) → write_fault i out ≡ 31
no-address i out (inl wide) = write-fault-by i out true _ _ _ (lt-ltb _ _ wide) refl refl refl
no-address i out (inr (small, wide)) = write-fault-by i out false true _ _ (le-ltb _ _ small) (lt-ltb _ _ wide) refl refl

-- a number that names no kind
no-part : (a b : Bool) → (a && b && false) ≡ false
no-part true true = refl
no-part true false = refl
no-part false b = refl

no-number : (a c d : Bool) → (a && false && c && d) ≡ false
no-number true c d = refl
no-number false c d = refl

no-kind : (n error : ℕ) (d : List ℕ) → (n < 1) ⊎ (6 < n) → kind_fits n error d ≡ false
no-kind n error d (inl low) = kind-fits-by n error d false _ _ _ (lt-leb _ _ low) refl refl refl
no-kind n error d (inr high) = kind-fits-by n error d (leb alone n) false _ _ refl (lt-leb _ _ high) refl refl ∙ no-number (leb alone n) _ _

no-text : (i : Item) → (i.kind < 1) ⊎ (6 < i.kind) → text_fits i ≡ false
no-text i none =
    text-by i (is_letter i.first) (is_letter i.second) false refl refl (no-kind i.kind i.error i.characters none) ∙ no-part (is_letter i.first) (is_letter i.second)

-- the text is the same, whatever the addresses, and by the kind that the number names
same-text : (ciu gauge first second k n error : ℕ) (d : List ℕ) → k ≡ n
    → text_fits (item_of ciu gauge first second n error d) ≡ text_fits (item_of 0 0 first second k error d)
unfolding text_fits
same-text ciu gauge first second k n error d e = ap (λ (m : ℕ). is_letter first && is_letter second && kind_fits m error d) (sym e)

-- past the tests of the text
module _ (c : Else-not-fits) where
  abbrev item : Item
  item =
      let a = c.args in
      item_of a.ciu a.gauge a.first a.second a.kind a.error a.characters.now

  fitting : text_fits item ≡ true
  fitting =
      let a = c.args in
      same-text a.ciu a.gauge a.first a.second _ a.kind a.error a.characters.now c.in-Ok.ensures ∙ sym c.fits.ensures ∙ c.if-not-fits.false

  kind-fits : kind_fits (kind_number c.in-Ok.kind) c.args.error c.args.characters.now ≡ true
  kind-fits =
      let a = c.args in
      fits-kind (item_of 0 0 a.first a.second (kind_number c.in-Ok.kind) a.error a.characters.now) (sym c.fits.ensures ∙ c.if-not-fits.false)

pub returns-then-ciu-gt9 : goal.returns-then-ciu-gt9
returns-then-ciu-gt9 c =
    let a = c.args in
    let i = item_of a.ciu a.gauge a.first a.second a.kind a.error a.characters.now in
    refuses i a.out.now 31 c.refusal.result (no-address i a.out.now c.then-ciu-gt9.either) refl c.refusal.ensures

pub returns-in_default : goal.returns-in_default
returns-in_default c =
    let a = c.args in
    let i = item_of a.ciu a.gauge a.first a.second a.kind a.error a.characters.now in
    let f = write-fault-by i a.out.now false false false _ (le-ltb _ _ c.if-ciu-gt9.false) (le-ltb _ _ c.if-gauge-gt99.false) (no-text i c.in_default.ensures) refl in
    refuses i a.out.now 32 c.refusal-in_default.result f refl c.refusal-in_default.ensures

pub returns-then-not-fits : goal.returns-then-not-fits
returns-then-not-fits c =
    let a = c.args in
    let i = item_of a.ciu a.gauge a.first a.second a.kind a.error a.characters.now in
    let text = same-text a.ciu a.gauge a.first a.second _ a.kind a.error a.characters.now c.in-Ok.ensures ∙ sym c.fits.ensures ∙ c.if-not-fits.true in
    let f = write-fault-by i a.out.now false false false _ (le-ltb _ _ c.if-ciu-gt9.false) (le-ltb _ _ c.if-gauge-gt99.false) text refl in
    refuses i a.out.now 32 c.refusal-then-not-fits.result f refl c.refusal-then-not-fits.ensures

pub tail_size-size-requires : goal.tail_size-size-requires
tail_size-size-requires c = kind-fits c

pub returns-then-out-size : goal.returns-then-out-size
returns-then-out-size c =
    let a = c.args in
    let at = (goal.at.returns-then-out-size c).Else-not-fits in
    let i = item at in
    let long = record-long i in
    let size = c.tail_size-size.ensures.0 ∙ ap (λ (n : ℕ). length (tail_of n a.error a.characters.now)) c.in-Ok.ensures in
    let short : length a.out.now < length (item_record i) = omega arith in
    let f = write-fault-by i a.out.now false false true true (le-ltb _ _ c.if-ciu-gt9.false) (le-ltb _ _ c.if-gauge-gt99.false) (fitting at) (lt-ltb _ _ short) in
    refuses i a.out.now 33 c.refusal-then-out-size.result f refl c.refusal-then-out-size.ensures

pub put_tail-requires-clause-characters_value : goal.put_tail-requires-clause-characters_value
put_tail-requires-clause-characters_value c = kind-fits (goal.at.put_tail-requires-clause-characters_value c).Else-not-fits

pub returns : goal.returns
returns c =
    let a = c.args in
    let at = (goal.at.returns c).Else-not-fits in
    let i = item at in
    let out = a.out.now in
    let long = record-long i in
    let size = c.tail_size-size.ensures.0 ∙ ap (λ (n : ℕ). length (tail_of n a.error a.characters.now)) c.in-Ok.ensures in
    let room : length (item_record i) ≤ length out = omega arith in
    let whole : 10 + c.tail_size-size.result ≡ length (item_record i) = omega arith in
    let f = write-fault-by i out false false true false (le-ltb _ _ c.if-ciu-gt9.false) (le-ltb _ _ c.if-gauge-gt99.false) (fitting at) (le-ltb _ _ room) in
    let tail = text-is (ap (λ (n : ℕ). tail_of n a.error a.characters.now) c.in-Ok.ensures) c.put_tail.ensures in
    writes i out _ _ f (ap (λ (n : ℕ). done n 0) whole) ((search rules) ∙ left i _ _ _ refl room (then c.put_head.ensures tail) c.put_end.ensures)
