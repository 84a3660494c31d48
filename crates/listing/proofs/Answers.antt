-- What a call that writes a text answers: each law is the contract at the tests that the call made. Assumes nothing.
use mathlib.Core.Path.{◌≡◌, refl, sym, ap, ◌∙◌}
use mathlib.Core.Bool.{Bool, true, false}
use mathlib.Core.List.{List, ◌++◌}
use Prim.Native.Nat.{ℕ, ◌<◌, ◌≤◌, ◌+◌}
use native.Mathlib.Nat.{zero-add}
use native.Mathlib.Omega.{arith}
use borrow.Author.Tests.{lt-ltb, le-ltb}
use lib.Dec.{eqb}
use lib.ListN.{length, drop, length-append}
use Rattle.frame.proofs.Fronts.{front}
use Rattle.listing.specs.Calls.{Writes, write_fault}
use Rattle.putting.specs.Puts.{Puts}
use Rattle.std.specs.Prelude.{Result, Ok, Err}
use Rattle.frame.specs.declared.faults.Fault.{Fault}
use Rattle.frame.specs.Faults.{fault}

-- what was asked is not there
pub refused-12 : (needed : ℕ) (text out : List ℕ) (there : Bool) → there ≡ false → Writes there needed text out (Err (fault 12)) out
unfolding write_fault
refused-12 needed text out there e = record { answers = simp e; leaves = simp e }

-- the output is too short
pub refused-15 : (needed : ℕ) (text out : List ℕ) (there : Bool) → there ≡ true → length out < needed → Writes there needed text out (Err (fault 15)) out
unfolding write_fault
refused-15 needed text out there e short = record { answers = simp (e, lt-ltb (length out) needed short); leaves = simp (e, lt-ltb (length out) needed short) }

-- the text was put first in the output
pub written : (needed most : ℕ) (text out after : List ℕ) (end : ℕ) (there : Bool) → there ≡ true → needed ≤ length out → length text ≤ length out → Puts text most out 0 end after → Writes there needed text out (Ok end) after
unfolding write_fault
written needed most text out after end there e long fits put =
    let size : end ≡ length text = put.ends ∙ zero-add (length text) in
    let left : after ≡ text ++ drop (length text) out = put.leaves ∙ front text out fits in
    record {
      answers = simp (e, le-ltb (length out) needed long) (ap Ok size);
      leaves = simp (e, le-ltb (length out) needed long) left;
    }

-- a part that is the text was handed over
pub handed : (text part out after : List ℕ) (answer : Result ℕ Fault) (there : Bool) → there ≡ true → part ≡ text → Writes true (length part) part out answer after → Writes there (length text) text out answer after
handed text part out after answer there e same_text writes = rw (e, ← same_text) writes

-- what was written fits the output
pub bytes_fit : (there : Bool) (needed : ℕ) (text out after : List ℕ) (answer : Result ℕ Fault) (n : ℕ) → Writes there needed text out answer after → answer ≡ Ok n → n ≤ length after
bytes_fit there needed text out after answer n writes said = go (eqb (write_fault there needed out) 0) refl
  where
    go : (t : Bool) → eqb (write_fault there needed out) 0 ≡ t → n ≤ length after
    go true e =
        let answered : Ok n ≡ Ok (length text) = sym said ∙ writes.answers ∙ simp e in
        let size : n ≡ length text = cc in
        let left : after ≡ text ++ drop (length text) out = writes.leaves ∙ simp e in
        let long : length after ≡ length text + length (drop (length text) out) = ap length left ∙ length-append text (drop (length text) out) in
        omega arith
    go false e =
        let answered : Ok n ≡ Err (fault (write_fault there needed out)) = sym said ∙ writes.answers ∙ simp e in
        let z : ◌≡◌ {A = ℕ} 0 1 = cc in
        absurd (omega arith)
