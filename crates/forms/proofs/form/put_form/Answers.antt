-- `forms::form::put_form` meets its contract: what was put so far, and the form from the place on with the numbers that are left, are the whole.
-- Assumes nothing.
use mathlib.Core.Path.{◌≡◌, refl, sym, ap, ◌∙◌}
use mathlib.Core.List.{List, [], ◌∷◌, ◌++◌, append-nil, append_assoc}
use Prim.Native.Nat.{ℕ, ◌+◌, ◌<◌}
use native.Mathlib.Nat.{add-zero}
use native.Mathlib.Omega.{arith}
use lib.ListN.{length, get_or, drop, length-drop}
use lib.Seq.{get_or-drop, drop-drop}
use denote.Bor.{Bor}
use Rattle.listing.specs.Text.{in_decimal}
use Rattle.putting.specs.declared.Text.{Text}
use Rattle.putting.specs.Adds.{Adds}
use Rattle.listing.proofs.Numbers.{few-digits}
use Rattle.putting.proofs.Added.{then, text-is, at_most, nothing_added}
use Rattle.forms.specs.Form.{fill}
use Rattle.forms.proofs.Forms.{fill-number, fill-other, fill-used_up, fill_end}
use Rattle.forms.proofs.form.put_form.Invariants.{Filled}
use Rattle.forms.proofs.form.put_form.Goals.{in-Some, in_default, in_default-via-in_default, in_default-via-in-Some+else-byte-eq126}
use Rattle.forms.proofs.form.put_form.Goals as goal

module _ (before : Text) (form numbers : List ℕ) (text : Text) (left : List ℕ) (i : ℕ) (f : Filled before form numbers text left i) where
  -- the first number that is left, where one is
  module _ (n : ℕ) (rest : List ℕ) (first : left ≡ n ∷ rest) where
    here : n ≡ get_or numbers f.n 0
    here =
        sym (ap (λ (l : List ℕ). get_or l 0 0) first) ∙ ap (λ (l : List ℕ). get_or l 0 0) f.left-is ∙ get_or-drop f.n numbers 0 0
        ∙ ap (λ (k : ℕ). get_or numbers k 0) (add-zero f.n)

    fewer : f.n < length numbers
    fewer = omega (arith, f.numbers_left, ap length first, ap length f.left-is, length-drop f.n numbers)

    -- one number more
    more-number : (after : Text) → fill (drop i form) left ≡ in_decimal n ++ fill (drop (i + 1) form) rest → Adds (in_decimal n) 10 text after → Filled before form numbers after rest (i + 1)
    more-number after opens adds =
        record {
          n = f.n + 1;
          numbers_left = omega (arith, fewer);
          left-is = sym (ap (drop 1) first) ∙ ap (drop 1) f.left-is ∙ drop-drop 1 f.n numbers;
          filled = f.filled ++ in_decimal n;
          adds = at_most (omega arith) (then f.adds adds);
          whole = append_assoc f.filled (in_decimal n) (fill (drop (i + 1) form) rest) ∙ ap (λ (l : List ℕ). f.filled ++ l) (sym opens) ∙ f.whole;
        }

  -- one byte more
  more_byte : (after : Text) → fill (drop i form) left ≡ get_or form i 0 ∷ fill (drop (i + 1) form) left → Adds (get_or form i 0 ∷ []) 1 text after → Filled before form numbers after left (i + 1)
  more_byte after opens adds =
      record {
        n = f.n;
        numbers_left = f.numbers_left;
        left-is = f.left-is;
        filled = f.filled ++ get_or form i 0 ∷ [];
        adds = at_most (omega arith) (then f.adds adds);
        whole = append_assoc f.filled (get_or form i 0 ∷ []) (fill (drop (i + 1) form) left) ∙ ap (λ (l : List ℕ). f.filled ++ l) (sym opens) ∙ f.whole;
      }

pub loop-byte-init : goal.loop-byte-init
loop-byte-init c = record { n = 0; numbers_left = omega arith; left-is = refl; filled = []; adds = nothing_added refl; whole = refl }

pub put_number-requires : goal.put_number-requires
put_number-requires c =
    let f = c.loop-byte.invariant in
    let first = c.in-Some.ensures.cases.0 in
    let is = here _ _ _ _ _ _ f _ _ first in
    let less = fewer _ _ _ _ _ _ f _ _ first in
    let few = few-digits 9 c.in-Some.n.now (omega (arith, c.type_inv.numbers f.n)) in
    omega (arith, f.adds.ends, f.adds.within, f.adds.keeps)

-- the same of values that are equal
moved : (before : Text) (form numbers : List ℕ) (text after : Text) (left rest : List ℕ) (i : ℕ) → text ≡ after → left ≡ rest → Filled before form numbers after rest i → Filled before form numbers text left i
moved before form numbers text after left rest i p q f = rw (p, q) f

pub loop-byte-preserved : goal.loop-byte-preserved
loop-byte-preserved c =
    let l = c.loop-byte in
    let f = l.invariant in
    let form : List ℕ = c.args.form.now in
    let near : l.byte-index < length form = c.loop-byte-test.true in
    elim c.match-split_first.branch [
      | in-Some w ↦
          (
          let first : l.left.now ≡ w.in-Some.n.now ∷ w.in-Some.rest.now = w.in-Some.ensures.cases.0 in
          moved _ _ _ _ _ _ w.in-Some.rest.now (l.byte-index + 1) w.text-is (ap (λ (r : Bor (List ℕ)). r.now) w.left-is)
          (
          more-number _ _ _ _ _ _ f _ _ first _
          (fill-number form l.left.now l.byte-index near _ _ w.if-byte-eq126.true first)
          w.put_number.ensures
          )
          )
      | in_default w ↦
          (
          let byte : fill (drop l.byte-index form) l.left.now ≡ get_or form l.byte-index 0 ∷ fill (drop (l.byte-index + 1) form) l.left.now =
          elim w.in_default.branch [
            | in_default-via-in_default w' ↦ fill-used_up form l.left.now l.byte-index near w'.in_default.ensures.cases
            | in_default-via-in-Some+else-byte-eq126 w' ↦ fill-other form l.left.now l.byte-index near w'.if-byte-eq126.false
          ] in
          moved _ _ _ _ _ _ l.left.now (l.byte-index + 1) w.text-is (ap (λ (r : Bor (List ℕ)). r.now) w.left-is)
          (more_byte _ _ _ _ _ _ f _ byte w.byte.ensures)
          )
    ]

pub returns : goal.returns
returns c =
    let f = c.loop-byte.invariant in
    let a = c.args in
    let end : f.filled ≡ fill a.form.now a.numbers.now = sym (append-nil f.filled) ∙ ap (λ (t : List ℕ). f.filled ++ t) (sym (fill_end a.form.now _ c.loop-byte.byte-index (omega arith))) ∙ f.whole in
    at_most (omega arith) (text-is end f.adds)
