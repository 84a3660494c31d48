-- Polls both ways: the sixteen bits are their parts, written and read.
use mathlib.Core.Path.{◌≡◌, refl, sym, ap, subst, ◌∙◌}
use mathlib.Core.Bool.{Bool, true, false, not}
use mathlib.Core.List.{List, ◌++◌}
use Prim.Native.Nat.{ℕ, ◌+◌, ◌/◌, ◌%◌, ◌^◌, ◌<◌, ◌≤◌}
use native.Mathlib.Omega.{arith}
use lib.Dec.{eqb}
use lib.ListN.{length, take, drop}
use lib.Seq.{take_at}
use borrow.Author.Tests.{le-ltb, eqb-true, not-false}
use Rattle.frame.specs.declared.Poll.{Poll}
use Rattle.frame.specs.Pick.{pick}
use Rattle.frame.specs.Line.{line, field, bit, put, mark, first_bytes, three_digits, three_decimal}
use Rattle.frame.specs.Faults.{first_of, fault}
use Rattle.frame.specs.Poll.{poll_fault, poll_at, poll_of, poll_line, write_poll_fault, ReadsPoll}
use Rattle.promises_frame.specs.Bits.{AreBytes}
use Rattle.promises_frame.specs.WrittenAgain.{SamePoll}
use Rattle.promises_frame.specs.Calls.{PollLeft}
use Rattle.promises_frame.proofs.Cases.{by_le, not-0, stable}
use Rattle.promises_frame.proofs.Fields.{same-within}
use Rattle.promises_frame.proofs.Digits.{mark-lt, mark-1, bit-lt, mark-bit, three, reads_three, three-small, same_digits}
use Rattle.promises_frame.proofs.Bytes.{bits-written, bit-line}
use Rattle.promises_frame.proofs.Lines.{length-first_bytes, line-first_bytes, first_bytes-line, same_first}
use Rattle.std.specs.Prelude.{Result, Ok, Err}
use Rattle.frame.specs.declared.faults.Fault.{Fault}

-- The parts of a poll's line.
record Parts (n raise reset x y z : ℕ) : Type 0 where
  start : bit n 1 ≡ 1
  unused : bit n 2 ≡ 0
  at-3 : bit n 3 ≡ raise
  at-4 : bit n 4 ≡ reset
  hundreds : field n 5 8 ≡ x
  tens : field n 9 12 ≡ y
  ones : field n 13 16 ≡ z
  short : n < 2 ^ 64
  clear : n % 2 ^ 48 ≡ 0

parts : (n p q x y z : ℕ) → n ≡ put 1 1 + put p 3 + put q 4 + (put x 8 + put y 12 + put z 16) → p < 2 → q < 2 → x ≤ 9 → y ≤ 9
    → z ≤ 9 → Parts n p q x y z
parts n p q x y z e hp hq hx hy hz = omega arith

poll-parts : (address : ℕ) (raise reset : Bool) → address ≤ 999
    → Parts (poll_line address raise reset) (mark raise) (mark reset) (address / 100) (address / 10 % 10) (address % 10)
poll-parts address raise reset h =
    let t = three address h in
    parts (poll_line address raise reset) (mark raise) (mark reset) (address / 100) (address / 10 % 10) (address % 10) refl (mark-lt raise) (mark-lt reset) t.0 t.1 t.2

-- The bit that a poll does not use is written as 0.
pub unused-bit : (address : ℕ) (raise reset : Bool) → address ≤ 999 → bit (poll_line address raise reset) 2 ≡ 0
unused-bit address raise reset h = (poll-parts address raise reset h).unused

-- What a write leaves first in a long enough buffer.
no-fault : (address : ℕ) (out : List ℕ) → address ≤ 999 → 2 ≤ length out → write_poll_fault address out ≡ 0
unfolding write_poll_fault first_of
no-fault address out h k = rw (le-ltb 999 address h, le-ltb (length out) 2 k)

pub left-first : (p : Poll) → p.address ≤ 999 → (bytes : List ℕ) (left : PollLeft p bytes)
    → (left.said ≡ Ok 2) × (bytes ≡ first_bytes 2 (poll_line p.address p.raise p.reset))
left-first p h bytes left =
    let f = no-fault p.address left.out h left.long_enough in
    let n : ℕ = poll_line p.address p.raise p.reset in
    let is : left.after ≡ first_bytes 2 n ++ drop 2 left.out = left.call.leaves ∙ rw f in
    (left.call.answers ∙ rw f, left.first ∙ ap (take 2) is ∙ take_at (first_bytes 2 n) (drop 2 left.out) 2 (length-first_bytes 2 n (omega arith)))

-- Written, then read.
clear-fault : (s : List ℕ) (n : ℕ) → length s ≡ 2 → line s ≡ n → bit n 1 ≡ 1 → three_decimal n 5 ≡ true → poll_fault s ≡ 0
unfolding poll_fault first_of
clear-fault s n l e b d = rw (l, e, b, d)

same-poll : (p : Poll) (address : ℕ) (raise reset : Bool) → address ≡ p.address → raise ≡ p.raise → reset ≡ p.reset
    → ◌≡◌ {A = Poll} (record { address = address; raise = raise; reset = reset }) p
same-poll p address raise reset a b c = λ i. record { address = a i; raise = b i; reset = c i }

read_back : (p : Poll) → p.address ≤ 999 → poll_of (first_bytes 2 (poll_line p.address p.raise p.reset)) ≡ Ok p
unfolding poll_of
read_back p h =
    let n : ℕ = poll_line p.address p.raise p.reset in
    let of = poll-parts p.address p.raise p.reset h in
    let e : line (first_bytes 2 n) ≡ n = line-first_bytes 2 n (omega arith) of.short of.clear in
    let d = reads_three n 5 p.address h of.hundreds of.tens of.ones in
    let f = clear-fault (first_bytes 2 n) n (length-first_bytes 2 n (omega arith)) e of.start d.0 in
    rw (f, e)
    (ap Ok (same-poll p (three_digits n 5) (eqb (bit n 3) 1) (eqb (bit n 4) 1) d.1
    (ap (λ (x : ℕ). eqb x 1) of.at-3 ∙ mark-1 p.raise)
    (ap (λ (x : ℕ). eqb x 1) of.at-4 ∙ mark-1 p.reset)))

pub poll-then-read : (p : Poll) → p.address ≤ 999 → (bytes : List ℕ) (left : PollLeft p bytes) → (got : Result Poll Fault)
    → ReadsPoll bytes got → (left.said ≡ Ok 2) × (got ≡ Ok p)
poll-then-read p h bytes left got r =
    let l = left-first p h bytes left in
    (l.0, r.answers ∙ ap poll_of l.1 ∙ read_back p h)

-- Accepted: what the tests say, and that the poll is the one at the line.
three-tests : (a b c : Bool) → ◌≡◌ {A = ℕ} (pick a 16 (pick b 16 (pick c 16 0))) 0 → (a ≡ false) × (b ≡ false) × (c ≡ false)
three-tests true b c e = absurd (omega arith)
three-tests false true c e = absurd (omega arith)
three-tests false false true e = absurd (omega arith)
three-tests false false false e = (refl, refl, refl)

accepted : (s : List ℕ) → poll_fault s ≡ 0 → (length s ≡ 2) × (eqb (bit (line s) 1) 0 ≡ false) × (three_decimal (line s) 5 ≡ true)
unfolding poll_fault first_of
accepted s e =
    let t = three-tests (not (eqb (length s) 2)) (eqb (bit (line s) 1) 0) (not (three_decimal (line s) 5)) e in
    (eqb-true (length s) 2 (not-false (eqb (length s) 2) t.0), t.1, not-false (three_decimal (line s) 5) t.2)

asked-if : (f : ℕ) (q p : Poll) → Ok p ≡ pick (eqb f 0) (Ok q) (Err (fault f)) → (f ≡ 0) × (q ≡ p)
asked-if f q p = go (eqb f 0) refl
  where
    go : (b : Bool) → eqb f 0 ≡ b → Ok p ≡ pick b (Ok q) (Err (fault f)) → (f ≡ 0) × (q ≡ p)
    go true k e = (eqb-true f 0 k, cc)
    go false k e = let z : ◌≡◌ {A = ℕ} 0 1 = cc in absurd (omega arith)

-- The poll at a line, written again: the same bits but bit 2.
module _ (n : ℕ) (start : eqb (bit n 1) 0 ≡ false) (dec : three_decimal n 5 ≡ true) where
  abbrev again : ℕ
  again = poll_line (three_digits n 5) (eqb (bit n 3) 1) (eqb (bit n 4) 1)

  again-parts : Parts again (mark (eqb (bit n 3) 1)) (mark (eqb (bit n 4) 1)) (three_digits n 5 / 100) (three_digits n 5 / 10 % 10) (three_digits n 5 % 10)
  again-parts = poll-parts (three_digits n 5) (eqb (bit n 3) 1) (eqb (bit n 4) 1) (three-small n 5 dec)

  again-bits : (i : ℕ) → 1 ≤ i → i ≤ 16 → ¬ (i ≡ 2) → bit again i ≡ bit n i
  again-bits i lo hi free =
      by_le i 1 (λ h. at 1 (omega arith) (again-parts.start ∙ sym (not-0 (bit n 1) (bit-lt n 1) start))) λ a.
      by_le i 2 (λ h. absurd (free (omega arith))) λ b.
      by_le i 3 (λ h. at 3 (omega arith) (again-parts.at-3 ∙ mark-bit n 3)) λ c.
      by_le i 4 (λ h. at 4 (omega arith) (again-parts.at-4 ∙ mark-bit n 4)) λ d.
      same-within again n 5 16 i i d (omega arith) hi (omega arith)
      (same_digits n again 5 (three_digits n 5) (omega arith) dec refl again-parts.hundreds again-parts.tens again-parts.ones)
    where
      at : (k : ℕ) → k ≡ i → bit again k ≡ bit n k → bit again i ≡ bit n i
      at k e h = subst (λ (x : ℕ). bit again x ≡ bit n x) e h

-- Its bytes beside those that were read.
again-bytes : (s : List ℕ) → AreBytes s
    → (two : length s ≡ 2) (start : eqb (bit (line s) 1) 0 ≡ false) (dec : three_decimal (line s) 5 ≡ true)
    → SamePoll s (first_bytes 2 (again (line s) start dec))
again-bytes s ok two start dec =
    let n : ℕ = line s in
    let w : ℕ = again n start dec in
    let bits : (i : ℕ) → 1 ≤ i → i ≤ 16 → ¬ (i ≡ 2) → bit w i ≡ bit n i = again-bits n start dec in
    record {
      same_bits = λ i lo hi free. bits-written 2 w i (omega arith) lo hi ∙ bits i lo hi free ∙ bit-line s ok i lo (omega arith);
      as-we-write = bits-written 2 w 2 (omega arith) (omega arith) (omega arith) ∙ (again-parts n start dec).unused;
      same_whole = λ e.
          let second : bit w 2 ≡ bit n 2 = (again-parts n start dec).unused ∙ sym (bit-line s ok 2 (omega arith) (omega arith) ∙ e) in
          same_first 2 n w (omega arith) (λ i lo hi. stable (bit w i) (bit n i) (λ no. no (bits i lo hi (λ is. no (subst (λ (x : ℕ). bit w x ≡ bit n x) (sym is) second)))))
          ∙ ap (λ (k : ℕ). first_bytes k n) (sym two) ∙ first_bytes-line s ok (omega arith);
    }

pub poll-again : (s : List ℕ) → AreBytes s → (p : Poll) → ReadsPoll s (Ok p) → (again : List ℕ) → PollLeft p again → SamePoll s again
unfolding poll_of
poll-again s ok p r bytes left =
    let n : ℕ = line s in
    let is = asked-if (poll_fault s) (poll_at n) p r.answers in
    let t = accepted s is.0 in
    let l = left-first (poll_at n) (three-small n 5 t.2) bytes (subst (λ (q : Poll). PollLeft q bytes) (sym is.1) left) in
    subst (SamePoll s) (sym l.1) (again-bytes s ok t.0 t.1 t.2)
