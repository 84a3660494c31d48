-- Document 02, request 02: which digit was unreadable. Fault 7 names the place of the first digit in no chart, counted from 0 at the top.
use Rattle.std.specs.Prelude.{◌≡◌, Bool, List, [], ◌∷◌, ℕ, zero, suc, ◌+◌, ◌/◌, ◌%◌, ◌^◌, ◌<◌, ◌≤◌, eqb, length, get_or}
use Rattle.frame.specs.Charts.{Chart, size_of}
use Rattle.frame.specs.Level.{Mode, lost, width_of, read_row, level_of, mode_of}
use Rattle.frame.specs.Line.{line}
use Rattle.frame.specs.Pick.{pick}
use Rattle.frame.specs.Reply.{ReadsReply, mode_in, reply_number}
use Rattle.std.specs.Prelude.{Result, Err}
use Rattle.frame.specs.declared.faults.Fault.{Fault}
use Rattle.frame.specs.declared.faults.Fault.TheVariants.{InNoChart}
use Rattle.frame.specs.declared.Reading.{Reading}
use Rattle.frame.specs.Faults.{number_of, place_named, fault}

-- A code stands in a chart, at some place.
pub record InChart (c : Chart) (code : ℕ) : Type 0 where
  pub place : ℕ
  pub within : place < size_of c
  pub here : get_or c.codes place 0 ≡ code

-- The chart of digit k of a row, counted from 0 at the top, and its code in the bits of the row.
unfoldable pub chart_at : List Chart → ℕ → Chart
chart_at [] k = record { width = 0; codes = [] }
chart_at (c ∷ cs) zero = c
chart_at (c ∷ cs) (suc k) = chart_at cs k

unfoldable pub code_at : List Chart → ℕ → ℕ → ℕ
code_at [] bits k = 0
code_at (c ∷ cs) bits zero = bits / 2 ^ width_of cs % 2 ^ c.width
code_at (c ∷ cs) bits (suc k) = code_at cs bits k

-- Digit k is the first in no chart: its code is in no place of its chart, and each digit above it is in its own.
pub record FirstUnreadable (row : List Chart) (bits k : ℕ) : Type 0 where
  pub within : k < length row
  pub none : InChart (chart_at row k) (code_at row bits k) → ⊥
  pub above : (j : ℕ) → j < k → InChart (chart_at row j) (code_at row bits j)

-- The digit that a place p names, where the row begins at place `at`.
pub record Named (row : List Chart) (bits at p : ℕ) : Type 0 where
  pub digit : ℕ
  pub place : p ≡ at + digit
  pub first : FirstUnreadable row bits digit

-- A reply that names a place, and the place.
pub record NamesPlace (settings : ℕ) (reply : List ℕ) (got : Result Reading Fault) : Type 0 where
  pub place : ℕ
  pub named : got ≡ Err (InNoChart place)
  pub level : level_of (mode_in settings) (line reply) ≡ lost place

-- A chart with every code of its width. Such are the chart of the first digit in each mode, and that of the sixteenths.
abbrev pub EveryCode : Chart → Type 0
EveryCode c = (code : ℕ) → code < 2 ^ c.width → InChart c code

-- The last place that can be named, by the mode's number: the inches in mode 0, for the sixteenths below them have every code; in the others the
-- last digit.
abbrev pub last_named : ℕ → ℕ
last_named mode = pick (eqb mode 0) 2 (pick (eqb mode 1) 3 4)

-- A line whose level bits, in this mode, name this place.
pub record CanBeNamed (m : Mode) (p : ℕ) : Type 0 where
  pub bits : ℕ
  pub fits : bits < 2 ^ 64
  pub named : level_of m bits ≡ lost p

pub record UnreadableDigit : Type 0 where
  -- Of any row of charts, whatever stood above it: the place named is that of the first digit in no chart, and of no other.
  pub first : (row : List Chart) (bits : ℕ) (odd : Bool) (sofar at k : ℕ) → FirstUnreadable row bits k → read_row row bits odd sofar at ≡ lost (at + k)
  pub only : (row : List Chart) (bits : ℕ) (odd : Bool) (sofar at p : ℕ) → read_row row bits odd sofar at ≡ lost p → Named row bits at p
  -- A reply with fault 7 names its place, one that names a place has fault 7 and such a level, and no other refusal is 7: a refusal by the number alone, whose
  -- place is 0, is none by 7, and one whose number is 7 names the very place at which its level is lost.
  pub seven : (settings address count : ℕ) (reply : List ℕ) (got : Result Reading Fault) → ReadsReply settings address count reply got → reply_number got ≡ 7
      → NamesPlace settings reply got
  pub place : (settings address count : ℕ) (reply : List ℕ) (got : Result Reading Fault) → ReadsReply settings address count reply got → (p : ℕ) → got ≡ Err (InNoChart p)
      → (reply_number got ≡ 7) × (level_of (mode_in settings) (line reply) ≡ lost p)
  pub others : (settings address count : ℕ) (reply : List ℕ) → (n : ℕ) → ReadsReply settings address count reply (Err (fault n)) → n ≡ 7 → ⊥
  pub names : (settings address count : ℕ) (reply : List ℕ) → (f : Fault) → ReadsReply settings address count reply (Err f) → number_of f ≡ 7
      → (f ≡ InNoChart (place_named f)) × (level_of (mode_in settings) (line reply) ≡ lost (place_named f))
  -- The first digit of every mode has all codes, so it is never named, and the place is one of the mode's digits.
  pub never_the_first : (settings address count : ℕ) (reply : List ℕ) (p : ℕ) → ReadsReply settings address count reply (Err (InNoChart p))
      → (1 ≤ p) × (p < length (mode_in settings).row)
  -- Of any row, a digit whose chart has every code of its width is never named.
  pub every_code : (row : List Chart) (bits : ℕ) (odd : Bool) (sofar at k : ℕ) → EveryCode (chart_at row k) → read_row row bits odd sofar at ≡ lost (at + k) → ⊥
  -- So the place is 1 or 2 in mode 0, 1 to 3 in mode 1, 1 to 4 in modes 2 and 3; and each of these is some line's.
  pub possible : (settings address count : ℕ) (reply : List ℕ) (p : ℕ) → ReadsReply settings address count reply (Err (InNoChart p))
      → (1 ≤ p) × (p ≤ last_named (settings % 4))
  pub each_occurs : (mode p : ℕ) → 1 ≤ p → p ≤ last_named mode → CanBeNamed (mode_of mode) p
