-- `frame::replies::unfit` meets its contract: each return rewrites with its tests; the digits of an address are compared as one number of 12
-- bits. Assumes nothing.
use mathlib.Core.Path.{◌≡◌, refl, sym, ap, ◌∙◌}
use mathlib.Core.Bool.{true, false, ◌&&◌}
use Prim.Native.Nat.{ℕ, ◌+◌, ◌*◌, ◌/◌, ◌%◌, ◌^◌, ◌≤◌}
use native.Mathlib.Nat.{mod-lt}
use native.Mathlib.Omega.{arith}
use lib.Dec.{eqb, lit<}
use lib.Pow.{shr-shr}
use Rattle.frame.specs.Line.{field, three_decimal, three_digits}
use Rattle.frame.specs.Inside.Packed.{three_of}
use Rattle.frame.proofs.Three.{in-twelve, matches, differs}
use Rattle.frame.proofs.Shifts.{without-start, with-start}
use Rattle.frame.proofs.replies.unfit.Goals as goal

-- the three digits from bit 4 on
twelve : (n : ℕ) → n / 2 ^ 49 % 4096 ≡ field n 4 7 * 256 + field n 8 11 * 16 + field n 12 15
twelve n = rw (← shr-shr n 49 8, ← shr-shr n 49 4) (in-twelve (n / 2 ^ 49))

module _ (n address : ℕ) (small : address ≤ 999) where
  other-address : (n / 2 ^ 49 % 4096 ≡ three_of address → ⊥) → (three_decimal n 4 && eqb (three_digits n 4) address) ≡ false
  other-address e =
      differs (field n 4 7) (field n 8 11) (field n 12 15) address small (mod-lt (n / 2 ^ 57) (lit< tt)) (mod-lt (n / 2 ^ 53) (lit< tt)) (mod-lt (n / 2 ^ 49) (lit< tt))
      (λ same. e (twelve n ∙ same))

  same_address : n / 2 ^ 49 % 4096 ≡ three_of address → (three_decimal n 4 && eqb (three_digits n 4) address) ≡ true
  same_address e =
      matches (field n 4 7) (field n 8 11) (field n 12 15) address small (mod-lt (n / 2 ^ 57) (lit< tt)) (mod-lt (n / 2 ^ 53) (lit< tt)) (mod-lt (n / 2 ^ 49) (lit< tt))
      (sym (twelve n) ∙ e)

pub returns-then-n-lt-BIT_1 : goal.returns-then-n-lt-BIT_1
returns-then-n-lt-BIT_1 c = rw (without-start c.args.n c.if-n-lt-BIT_1.true) (refl, λ z. omega arith)

pub returns-then-n-three_of : goal.returns-then-n-three_of
returns-then-n-three_of c =
    let a = c.args in
    rw (with-start a.n c.if-n-lt-BIT_1.false (omega arith), other-address a.n a.address c.requires (λ e. c.if-n-three_of.true (e ∙ sym (c.three_of.ensures ∙ ap three_of c.from.ensures))))
    (refl, λ z. omega arith)

pub returns-then-not-parity_right : goal.returns-then-not-parity_right
returns-then-not-parity_right c =
    let a = c.args in
    rw (with-start a.n c.if-n-lt-BIT_1.false (omega arith), same_address a.n a.address c.requires (c.if-n-three_of.false ∙ c.three_of.ensures ∙ ap three_of c.from.ensures), sym c.parity_right.ensures ∙ c.if-not-parity_right.true)
    (refl, λ z. omega arith)

pub returns : goal.returns
returns c =
    let a = c.args in
    rw (with-start a.n c.if-n-lt-BIT_1.false (omega arith), same_address a.n a.address c.requires (c.if-n-three_of.false ∙ c.three_of.ensures ∙ ap three_of c.from.ensures), sym c.parity_right.ensures ∙ c.if-not-parity_right.false)
