-- The board's calls, said once: a call with what it is handed, its answer, and what its record says of the rows before and after it. The records are a
-- parameter: those of today (`today`), which the code is proved against, and those of the board as it was before request 11 (`as_it_was`).
use Rattle.std.specs.Prelude.{◌≡◌, List, ℕ}
use Rattle.board.specs.declared.Heard.{Heard}
use Rattle.board.specs.declared.Looked.{Looked}
use Rattle.board.specs.declared.Row.{Row}
use Rattle.board.specs.Calls.{Enrols, Hears, Removes, LooksUp, PollsRow, heard_as, refused_look}
use Rattle.promises_order.specs.OldBoard.{OldEnrols, OldHears, OldRemoves, OldLooksUp, OldPollsRow}

pub record Records : Type 1 where
  pub enrols : List Row → ℕ → ℕ → ℕ → ℕ → List Row → Type 0
  pub hears : List Row → ℕ → ℕ → ℕ → List ℕ → Heard → List Row → Type 0
  pub removes : List Row → ℕ → ℕ → List Row → Type 0
  pub looks_up : List Row → ℕ → Looked → Type 0
  pub polls_row : List Row → ℕ → ℕ → ℕ → List ℕ → ℕ → List ℕ → Type 0

abbrev pub today : Records
today = record { enrols = Enrols; hears = Hears; removes = Removes; looks_up = LooksUp; polls_row = PollsRow }

abbrev pub as_it_was : Records
as_it_was = record { enrols = OldEnrols; hears = OldHears; removes = OldRemoves; looks_up = OldLooksUp; polls_row = OldPollsRow }

-- A call: enrolling, hearing, removing, looking a row up, and writing a row's poll.
pub data Call : Type 0 where
  enrol : (settings address gauge : ℕ) → Call
  hear : (minute address count : ℕ) (reply : List ℕ) → Call
  remove : (address : ℕ) → Call
  look_up : (address : ℕ) → Call
  poll : (address raise reset : ℕ) (out : List ℕ) → Call

-- All that it answers: of a poll the number and the bytes of the output after it.
abbrev pub Answer : Call → Type 0
Answer (enrol settings address gauge) = ℕ
Answer (hear minute address count reply) = Heard
Answer (remove address) = ℕ
Answer (look_up address) = Looked
Answer (poll address raise reset out) = ℕ × List ℕ

-- It answers so and takes these rows to those, as its record says. A look and a poll leave the rows as they are.
abbrev pub Does : Records → List Row → (c : Call) → Answer c → List Row → Type 0
Does calls rows (enrol settings address gauge) answer after = calls.enrols rows settings address gauge answer after
Does calls rows (hear minute address count reply) answer after = calls.hears rows minute address count reply answer after
Does calls rows (remove address) answer after = calls.removes rows address answer after
Does calls rows (look_up address) answer after = calls.looks_up rows address answer × (after ≡ rows)
Does calls rows (poll address raise reset out) answer after = calls.polls_row rows address raise reset out answer.0 answer.1 × (after ≡ rows)

-- The number in an answer.
abbrev pub number_answered : (c : Call) → Answer c → ℕ
number_answered (enrol settings address gauge) answer = answer
number_answered (hear minute address count reply) answer = answer.number
number_answered (remove address) answer = answer
number_answered (look_up address) answer = answer.number
number_answered (poll address raise reset out) answer = answer.0

-- The answer that is 38 and nothing else: place 0, a look's number alone, and a poll's output as it was.
abbrev pub refused38 : (c : Call) → Answer c
refused38 (enrol settings address gauge) = 38
refused38 (hear minute address count reply) = heard_as 38 0
refused38 (remove address) = 38
refused38 (look_up address) = refused_look 38
refused38 (poll address raise reset out) = (38, out)

-- The calls that move no row: all but enrolling and removing.
abbrev pub MovesNone : Call → Type 0
MovesNone (enrol settings address gauge) = ⊥
MovesNone (hear minute address count reply) = Unit {0}
MovesNone (remove address) = ⊥
MovesNone (look_up address) = Unit {0}
MovesNone (poll address raise reset out) = Unit {0}
