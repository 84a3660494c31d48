-- `listing::text::put_number` meets its contract. The loop puts the digits from the last forward: those put so far, `tail`, stand from the place i
-- on, and the digits that are left to put, with the tail after them, are those of the number. Assumes nothing.
use mathlib.Core.Path.{◌≡◌, refl, sym, ap, ◌∙◌}
use mathlib.Core.List.{List, [], ◌∷◌, ◌++◌, append-nil, append_assoc}
use Prim.Native.Nat.{ℕ, ◌+◌, ◌-◌, ◌/◌, ◌%◌}
use native.Mathlib.Omega.{arith}
use lib.ListN.{length, set}
use lib.Seq.{sets}
use Rattle.std.proofs.Math.Seq.{length-sets}
use Rattle.listing.specs.Text.{in_decimal}
use Rattle.listing.proofs.Numbers.{few-digits, last_digits, all-digits, one-last, no-last}
use Rattle.putting.proofs.Putting.{set_front}
use Rattle.listing.proofs.text.put_number.Goals as goal

pub loop-i-init : goal.loop-i-init
loop-i-init c =
    let n = c.args.n in
    let at = c.args.text.now.at in
    let many : at + c.digits_in.result - at ≡ length (in_decimal n) = omega (arith, c.digits_in.ensures) in
    record {
      tail = [];
      digits = append-nil (last_digits (at + c.digits_in.result - at) n) ∙ ap (λ (k : ℕ). last_digits k n) many ∙ all-digits n;
      behind = omega arith;
      place = omega arith;
      same = refl;
      stays = refl;
      filled = refl;
    }

pub loop-i-preserved : goal.loop-i-preserved
loop-i-preserved c =
    let f = c.loop-i.invariant in
    let left = c.loop-i.left in
    let i = c.loop-i.i in
    let before = c.args.text.now in
    let at = before.at in
    let d = 48 + left % 10 in
    let more : i - at ≡ i - 1 - at + 1 = omega arith in
    let back : i ≡ i - 1 + 1 = omega arith in
    let one = ap (λ (k : ℕ). last_digits k left) more ∙ one-last (i - 1 - at) left in
    record {
      tail = d ∷ f.tail;
      digits = sym (append_assoc (last_digits (i - 1 - at) (left / 10)) (d ∷ []) f.tail) ∙ ap (λ (l : List ℕ). l ++ f.tail) (sym one) ∙ f.digits;
      behind = omega arith;
      place = omega (arith, f.place);
      same = f.same;
      stays = f.stays;
      filled = ap (λ (o : List ℕ). set o (i - 1) d) f.filled ∙ set_front f.tail before.out.now (i - 1) i d back;
    }

pub returns : goal.returns
returns c =
    let f = c.loop-i.invariant in
    let n = c.args.n in
    let before = c.args.text.now in
    let first : c.loop-i.i ≡ before.at = omega (arith, f.behind) in
    let none : c.loop-i.i - before.at ≡ 0 = omega (arith, f.behind) in
    let whole : f.tail ≡ in_decimal n =
    ap (λ (l : List ℕ). l ++ f.tail) (sym (ap (λ (k : ℕ). last_digits k c.loop-i.left) none ∙ no-last c.loop-i.left)) ∙ f.digits in
    record {
      same = f.same;
      keeps = ap length f.filled ∙ length-sets before.out.now c.loop-i.i f.tail;
      ends = ap (λ (k : ℕ). before.at + k) c.digits_in.ensures;
      leaves = f.filled ∙ ap (λ (k : ℕ). sets before.out.now k f.tail) first ∙ ap (sets before.out.now before.at) whole;
      within = few-digits 9 n (omega (arith, c.ranges.n));
    }
