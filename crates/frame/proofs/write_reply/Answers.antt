-- `frame::write_reply` meets its contract: a refusal leaves the output, and the bytes stored are those of the reply's line. Assumes nothing.
use mathlib.Core.Path.{◌≡◌, ap, ◌∙◌}
use mathlib.Core.Bool.{Bool, false, true}
use mathlib.Core.List.{List, ◌++◌}
use Prim.Native.Nat.{ℕ}
use native.Mathlib.Omega.{arith}
use borrow.Author.Tests.{lt-ltb, le-ltb, ne_eqb}
use lib.Dec.{ltb}
use lib.ListN.{length, drop}
use Rattle.frame.specs.declared.Reading.{Reading}
use Rattle.frame.specs.Pick.{pick}
use Rattle.frame.specs.Line.{first_bytes}
use Rattle.frame.specs.Reply.{WritesReply, write_reply_fault, reply_line, size_for}
use Rattle.frame.proofs.write_reply.Goals.{After-size_for-size}
use Rattle.frame.proofs.write_reply.Goals as goal
use Rattle.std.specs.Prelude.{Ok, Err}
use Rattle.frame.specs.Faults.{fault}

-- a refusal leaves the output; a success leaves the bytes of the line before what followed them
module _ (settings address : ℕ) (r : Reading) (out : List ℕ) where
  refused : (f : ℕ) → write_reply_fault settings address r out ≡ f → (f ≡ 0 → ⊥) → WritesReply settings address r out (Err (fault f)) out
  refused f e some = record { answers = rw e (simp (ne_eqb _ _ some)); leaves = rw e (simp (ne_eqb _ _ some)) }

  written : (after : List ℕ) → write_reply_fault settings address r out ≡ 0 → after ≡ first_bytes (size_for r) (reply_line settings address r) ++ drop (size_for r) out
      → WritesReply settings address r out (Ok (size_for r)) after
  written after e is = record { answers = rw e; leaves = rw e is }

  module _ (e10 : ltb 15 settings ≡ false) (e11 : ltb 999 address ≡ false) where
    short : ltb (length out) (size_for r) ≡ true → write_reply_fault settings address r out ≡ 15
    unfolding write_reply_fault
    short e15 = rw (e10, e11, e15)

    enough : ltb (length out) (size_for r) ≡ false → write_reply_fault settings address r out ≡ 0
    unfolding write_reply_fault
    enough e15 = rw (e10, e11, e15)

-- the size asked for is the reply's
size_is : (c : After-size_for-size) → c.size_for-size.result ≡ size_for c.args.reading
size_is c = c.size_for-size.ensures ∙ ap (λ (b : Bool). pick b 5 7) c.is_absent-short.ensures

pub returns-then-settings-gt15 : goal.returns-then-settings-gt15
unfolding write_reply_fault
returns-then-settings-gt15 c =
    let a = c.args in
    refused a.settings a.address a.reading a.out.now 10 (simp (lt-ltb _ _ c.if-settings-gt15.true)) (omega arith)

pub returns-then-address-gt999 : goal.returns-then-address-gt999
unfolding write_reply_fault
returns-then-address-gt999 c =
    let a = c.args in
    refused a.settings a.address a.reading a.out.now 11 (simp (le-ltb _ _ c.if-settings-gt15.false, lt-ltb _ _ c.if-address-gt999.true)) (omega arith)

pub returns-then-out-size : goal.returns-then-out-size
returns-then-out-size c =
    let a = c.args in
    refused a.settings a.address a.reading a.out.now 15
    (short a.settings a.address a.reading a.out.now (le-ltb _ _ c.if-settings-gt15.false) (le-ltb _ _ c.if-address-gt999.false) (lt-ltb (length a.out.now) (size_for a.reading) (rw (← size_is (goal.at.returns-then-out-size c).After-size_for-size) c.if-out-size.true)))
    (omega arith)

pub returns : goal.returns
returns c =
    let a = c.args in
    let size = size_is (goal.at.returns c).After-size_for-size in
    let none = enough a.settings a.address a.reading a.out.now (le-ltb _ _ c.if-settings-gt15.false) (le-ltb _ _ c.if-address-gt999.false) (le-ltb (length a.out.now) (size_for a.reading) (rw (← size) c.if-out-size.false)) in
    let n = c.whole_line in
    let is : c.store.new.out ≡ first_bytes (size_for a.reading) (reply_line a.settings a.address a.reading) ++ drop (size_for a.reading) a.out.now =
    c.store.ensures
    ∙ ap (λ (t : Bool). first_bytes (pick t 5 7) n.result ++ drop (pick t 5 7) a.out.now) c.is_absent-short.ensures
    ∙ ap (λ (w : ℕ). first_bytes (size_for a.reading) w ++ drop (size_for a.reading) a.out.now) n.ensures in
    rw size (written a.settings a.address a.reading a.out.now c.store.new.out none is)
