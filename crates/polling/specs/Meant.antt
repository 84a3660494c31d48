-- Our request 16, obligation 3 and the readings: what is drawn for one try, and what every pattern of the state means by its pace.
use Rattle.std.specs.Prelude.{Bool, false, not, ◌||◌, List, [], ◌++◌, ℕ, eqb, leb, ltb, length, get_or, replicate}
use Rattle.frame.specs.Pick.{pick}
use Rattle.frame.specs.Line.{first_bytes}
use Rattle.frame.specs.Poll.{poll_line}
use Rattle.lines.specs.declared.SoFar.{SoFar}
use Rattle.lines.specs.SoFar as lines
use Rattle.drawing.specs.Pulses.{drawing}
use Rattle.round.specs.declared.Polled.{Polled}
use Rattle.round.specs.Calls.{most_replies}
use Rattle.polling.specs.declared.Pace.{Pace}
use Rattle.polling.specs.declared.Polling.{Polling}
use Rattle.polling.specs.Beginning.{no_entry}

-- The round is over: `at` is not below its count, or it counts more than 30 replies.
abbrev pub is_over : Polling → Bool
is_over w = ltb most_replies w.round.count || leb w.round.count w.at

-- The reply whose turn it is. While the round is not over there is one; what stands for no entry at all is never asked.
abbrev pub turn_of : Polling → Polled
turn_of w = get_or w.round.replies w.at no_entry

-- A poll of an address, raise and reset 0, drawn as request 15 draws it. An address above 999 has no poll.
unfoldable pub poll_drawn : Pace → ℕ → List ℕ
poll_drawn p address = pick (ltb 999 address) [] (drawing p.low p.still 16 (first_bytes 2 (poll_line address false false)))

-- What is drawn for one try: `delay` idle samples, then the poll.
unfoldable pub try_drawn : Pace → ℕ → List ℕ
try_drawn p address = replicate p.delay 0 ++ poll_drawn p address

-- The same round, at the same transmitter.
abbrev pub turn_by : Polling → SoFar → (passed tried listening : ℕ) → Polling
turn_by w heard passed tried listening =
    record { round = w.round; lines = heard; passed = passed; at = w.at; tried = tried; listening = listening }

-- So many samples of this try are drawn, and the lines are at rest.
abbrev pub draws : Polling → ℕ → Polling
draws w passed = turn_by w lines.rest_state passed w.tried 0

-- So many samples have been heard after the poll, and left the lines so.
abbrev pub listens : Polling → SoFar → ℕ → Polling
listens w heard passed = turn_by w heard passed w.tried 1

-- A round that is over is left as it stands. `listening` other than 0 is listening, and a lines' state that no call leaves is request 01's spoiled one. While
-- it draws the lines are at rest whatever stands there; all of delay and poll drawn, or more, is a poll drawn: listening, nothing passed.
unfoldable pub meant : Pace → Polling → Polling
meant p w =
    pick (is_over w) w
    (pick (not (eqb w.listening 0)) (listens w (lines.meant w.lines) w.passed)
    (pick (leb (length (try_drawn p (turn_of w).address)) w.passed) (listens w lines.rest_state 0) (draws w w.passed)))
