-- First fault: document 01's table of numbers, the orders in which it is asked, and what it is to give the first that applies.
use Rattle.std.specs.Prelude.{◌≡◌, Bool, true, false, not, ◌&&◌, ◌||◌, List, [], ◌∷◌, ℕ, ◌<◌, eqb, ltb, length, get_or}
use Rattle.frame.specs.declared.Reading.{Reading}
use Rattle.frame.specs.Pick.{pick}
use Rattle.frame.specs.Line.{line, bit, formed, three_decimal, three_digits}
use Rattle.frame.specs.Level.{level_of, fill_clear, no_chart, above_largest}
use Rattle.frame.specs.Temperature.{is_bad}
use Rattle.frame.specs.Faults.{Test, ◌gives◌}
use Rattle.frame.specs.Poll.{ReadsPoll, WritesPoll, poll_number, written_number}
use Rattle.frame.specs.Reply.{ReadsReply, WritesReply, mode_in, heat_in, parity_right, size_for, reply_number}
use Rattle.std.specs.Prelude.{Result}
use Rattle.frame.specs.declared.faults.Fault.{Fault}
use Rattle.frame.specs.declared.Poll.{Poll}

-- Whether a number of a table applies.
abbrev pub applies : List Test → ℕ → Bool
applies [] number = false
applies (t ∷ ts) number = pick (eqb t.number number) t.applies (applies ts number)

-- The number given is that of the first in the order that applies, and 0 where none does.
pub record FirstThatApplies (table : List Test) (order : List ℕ) (number : ℕ) : Type 0 where
  pub none : ((k : ℕ) → k < length order → applies table (get_or order k 0) ≡ false) → number ≡ 0
  pub first : (k : ℕ) → k < length order → applies table (get_or order k 0) ≡ true
      → ((j : ℕ) → j < k → applies table (get_or order j 0) ≡ false)
      → number ≡ get_or order k 0

-- The lines of the table that bear on a reply that is read, and the order that they are asked in.
abbrev pub reply_table : (settings address count : ℕ) → List ℕ → List Test
reply_table settings address count s =
    eqb count 0 gives 1
    ∷ (not (eqb count 40) && not (eqb count 56)) gives 2
    ∷ eqb (bit (line s) 1) 0 gives 3
    ∷ not (three_decimal (line s) 4 && eqb (three_digits (line s) 4) address) gives 4
    ∷ not (parity_right settings s) gives 5
    ∷ not (fill_clear (line s) (mode_in settings).fill) gives 6
    ∷ no_chart (level_of (mode_in settings) (line s)) gives 7
    ∷ above_largest (mode_in settings) (level_of (mode_in settings) (line s)) gives 8
    ∷ is_bad (heat_in settings count (line s)) gives 9
    ∷ ltb 15 settings gives 10
    ∷ ltb 999 address gives 11
    ∷ not (formed count s) gives 14
    ∷ []

abbrev pub reply_order : List ℕ
reply_order = 10 ∷ 11 ∷ 14 ∷ 1 ∷ 2 ∷ 3 ∷ 4 ∷ 5 ∷ 6 ∷ 7 ∷ 8 ∷ 9 ∷ []

-- A reply that is written, a poll that is read, and a poll that is written.
abbrev pub write_table : (settings address size : ℕ) → List ℕ → List Test
write_table settings address size out =
    ltb 15 settings gives 10 ∷ ltb 999 address gives 11 ∷ ltb (length out) size gives 15 ∷ []

abbrev pub poll_table : List ℕ → List Test
poll_table s = (not (eqb (length s) 2) || eqb (bit (line s) 1) 0 || not (three_decimal (line s) 5)) gives 16 ∷ []

pub record FirstFault : Type 0 where
  pub read-reply : (settings address count : ℕ) (s : List ℕ) (got : Result Reading Fault) → ReadsReply settings address count s got
      → FirstThatApplies (reply_table settings address count s) reply_order (reply_number got)
  pub write-reply : (settings address : ℕ) (r : Reading) (out after : List ℕ) (said : Result ℕ Fault) → WritesReply settings address r out said after
      → FirstThatApplies (write_table settings address (size_for r) out) (10 ∷ 11 ∷ 15 ∷ []) (written_number said)
  pub read-poll : (s : List ℕ) (got : Result Poll Fault) → ReadsPoll s got
      → FirstThatApplies (poll_table s) (16 ∷ []) (poll_number got)
  pub write-poll : (address : ℕ) (raise reset : Bool) (out after : List ℕ) (said : Result ℕ Fault) → WritesPoll address raise reset out said after
      → FirstThatApplies (write_table 0 address 2 out) (11 ∷ 15 ∷ []) (written_number said)
  -- Of one table in one order, two numbers cannot both be the first.
  pub one_number : (table : List Test) (order : List ℕ) (a b : ℕ)
      → FirstThatApplies table order a → FirstThatApplies table order b
      → a ≡ b
