-- `frame::read_poll` meets its contract: the two bytes are the top of the line, and each return is the answer by the tests that led there. Assumes nothing.
use Rattle.std.proofs.Common.{◌≡◌, sym, ap, ◌∙◌, true, false, List, ℕ, ◌*◌, ◌^◌, ◌<◌, ◌≤◌, length, Some, None, arith}
use Rattle.std.specs.Int.{w16, from_be_bytes}
use Rattle.std.specs.Array.{IsWholeChunk}
use borrow.Author.Tests.{eq-eqb, ne_eqb}
use lib.Dec.{eqb}
use lib.ListN.{get_or-eq_default}
use Rattle.frame.specs.Line.{line, bit, field, three_decimal, three_digits}
use Rattle.frame.specs.Poll.{poll_fault, poll_of, poll_at}
use Rattle.frame.specs.Inside.Packed.{three_by}
use Rattle.frame.proofs.Three.{was-bad, was-good}
use Rattle.frame.proofs.Shifts.{without-start, with-start}
use Rattle.frame.proofs.read_poll.Goals as goal
use Rattle.std.specs.Prelude.{Ok, Err}
use Rattle.frame.specs.Faults.{fault}

-- the line of two bytes
two-line : (s bytes : List ℕ) → IsWholeChunk s bytes 2 → from_be_bytes w16 bytes * 2 ^ 48 ≡ line s
unfolding line
two-line s bytes h =
    rw h.same
    (omega
    (arith, h.long, get_or-eq_default s 0 {n = 2} (omega (arith, h.long)), get_or-eq_default s 0 {n = 3} (omega (arith, h.long)), get_or-eq_default s 0 {n = 4} (omega (arith, h.long)), get_or-eq_default s 0 {n = 5} (omega (arith, h.long)), get_or-eq_default s 0 {n = 6} (omega (arith, h.long)), get_or-eq_default s 0 {n = 7} (omega (arith, h.long))))

-- the answer by the tests made
module _ (s : List ℕ) where
  not-two : eqb (length s) 2 ≡ false → Err (fault 16) ≡ poll_of s
  unfolding poll_of poll_fault
  not-two e = simp e

  module _ (e : eqb (length s) 2 ≡ true) where
    no_start : eqb (bit (line s) 1) 0 ≡ true → Err (fault 16) ≡ poll_of s
    unfolding poll_of poll_fault
    no_start e1 = rw (e, e1)

    module _ (e1 : eqb (bit (line s) 1) 0 ≡ false) where
      no-digits : three_decimal (line s) 5 ≡ false → Err (fault 16) ≡ poll_of s
      unfolding poll_of poll_fault
      no-digits e5 = rw (e, e1, e5)

      asked : three_decimal (line s) 5 ≡ true → Ok (poll_at (line s)) ≡ poll_of s
      unfolding poll_of poll_fault
      asked e5 = rw (e, e1, e5)

-- a line whose number is n begins with a 1 or not, and what its digits from bit 5 on read as
module _ {n : ℕ} {l : ℕ} (is : n ≡ l) where
  begins : 2 ^ 63 ≤ n → n < 2 ^ 64 → eqb (bit l 1) 0 ≡ false
  begins h w = rw (← is) (with-start n h w)

  begins-not : n < 2 ^ 63 → eqb (bit l 1) 0 ≡ true
  begins-not h = rw (← is) (without-start n h)

  is-bad : None ≡ three_by n 48 → three_decimal l 5 ≡ false
  unfolding three_by
  is-bad e = was-bad (field l 5 8) (field l 9 12) (field l 13 16) (ap (λ (k : ℕ). three_by k 48) (sym is) ∙ sym e)

  is-good : (m : ℕ) → Some m ≡ three_by n 48 → (three_decimal l 5 ≡ true) × (three_digits l 5 ≡ m)
  unfolding three_by
  is-good m e = was-good (field l 5 8) (field l 9 12) (field l 13 16) m (ap (λ (k : ℕ). three_by k 48) (sym is) ∙ sym e)

pub returns-in_default : goal.returns-in_default
returns-in_default c = record { answers = not-two _ (ne_eqb _ _ c.in_default.ensures.1) }

pub returns-then-n-lt-BIT_1 : goal.returns-then-n-lt-BIT_1
returns-then-n-lt-BIT_1 c =
    let s = c.args.poll.now in
    let whole = c.in-Ok.ensures.1 in
    let is : c.from-n.result * 2 ^ 48 ≡ line s = ap (λ (n : ℕ). n * 2 ^ 48) (c.from-n.ensures ∙ c.from_be_bytes.ensures) ∙ two-line s c.in-Ok.bytes whole in
    record { answers = no_start s (eq-eqb _ _ whole.long) (begins-not is c.if-n-lt-BIT_1.true) }

pub returns-in_default-three : goal.returns-in_default-three
returns-in_default-three c =
    let s = c.args.poll.now in
    let whole = c.in-Ok.ensures.1 in
    let is : c.from-n.result * 2 ^ 48 ≡ line s = ap (λ (n : ℕ). n * 2 ^ 48) (c.from-n.ensures ∙ c.from_be_bytes.ensures) ∙ two-line s c.in-Ok.bytes whole in
    record { answers = no-digits s (eq-eqb _ _ whole.long) (begins is c.if-n-lt-BIT_1.false (omega (arith, c.from-n.ensures, c.from_be_bytes.type_inv))) (is-bad is c.in_default-three.ensures.value) }

pub returns : goal.returns
returns c =
    let s = c.args.poll.now in
    let whole = c.in-Ok.ensures.1 in
    let is : c.from-n.result * 2 ^ 48 ≡ line s = ap (λ (n : ℕ). n * 2 ^ 48) (c.from-n.ensures ∙ c.from_be_bytes.ensures) ∙ two-line s c.in-Ok.bytes whole in
    let good = is-good is c.in-Some.address c.in-Some.ensures.value in
    record { answers = rw (← good.1, is) (asked s (eq-eqb _ _ whole.long) (begins is c.if-n-lt-BIT_1.false (omega (arith, c.from-n.ensures, c.from_be_bytes.type_inv))) good.0) }
