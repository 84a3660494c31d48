-- `frame::write_poll` meets its contract: a refusal leaves the output, and the two bytes stored are those of the poll's line. Assumes nothing.
use mathlib.Core.Path.{◌≡◌, ap}
use mathlib.Core.List.{List, [], ◌∷◌, ◌++◌}
use Prim.Native.Nat.{ℕ, ◌*◌, ◌/◌, ◌%◌, ◌^◌}
use native.Mathlib.Omega.{arith}
use borrow.Author.Tests.{lt-ltb, le-ltb}
use lib.ListN.{drop}
use Rattle.frame.specs.Line.{field, first_bytes}
use Rattle.frame.specs.Poll.{poll_line, write_poll_fault}
use Rattle.frame.proofs.write_poll.Goals as goal

-- the two bytes of a word that stands at the top of a line
two_bytes : (w n : ℕ) → w * 2 ^ 48 ≡ n → (w / 256 % 256 ∷ w % 256 ∷ []) ≡ first_bytes 2 n
unfolding first_bytes
two_bytes w n e =
    let high : w / 256 % 256 ≡ field n 1 8 = omega arith in
    let low : w % 256 ≡ field n 9 16 = omega arith in
    rw (high, low)

pub returns-then-address-gt999 : goal.returns-then-address-gt999
unfolding write_poll_fault
returns-then-address-gt999 c = record { answers = simp (lt-ltb _ _ c.if-address-gt999.true); leaves = simp (lt-ltb _ _ c.if-address-gt999.true) }

pub returns-then-out-lt2 : goal.returns-then-out-lt2
unfolding write_poll_fault
returns-then-out-lt2 c =
    record { answers = simp (le-ltb _ _ c.if-address-gt999.false, lt-ltb _ _ c.if-out-lt2.true); leaves = simp (le-ltb _ _ c.if-address-gt999.false, lt-ltb _ _ c.if-out-lt2.true) }

pub returns : goal.returns
unfolding write_poll_fault
returns c =
    let a = c.args in
    let known = le-ltb _ _ c.if-address-gt999.false in
    let room = le-ltb _ _ c.if-out-lt2.false in
    record {
      answers = simp (known, room);
      leaves = simp (known, room) (rw (c.copy_from_slice.ensures.after, c.to_be_bytes.ensures) (ap (λ (s : List ℕ). s ++ drop 2 a.out.now) (two_bytes c.word.result (poll_line a.address a.raise a.reset) c.word.ensures)));
    }
