-- Our request 16, obligation 1: a round is begun from the board.
use Rattle.std.specs.Prelude.{List, [], ◌∷◌, ◌++◌, map, ℕ, ◌-◌, length, replicate}
use Rattle.frame.specs.Pick.{pick}
use Rattle.frame.specs.Line.{first_bytes, bytes_for}
use Rattle.board.specs.declared.Row.{Row}
use Rattle.board.specs.Row.{is_free}
use Rattle.lines.specs.SoFar.{rest_state}
use Rattle.round.specs.declared.Polled.{Polled}
use Rattle.round.specs.declared.Round.{Round}
use Rattle.round.specs.Calls.{most_replies}
use Rattle.polling.specs.declared.Polling.{Polling}

-- A reply of so many bits, in 8 bytes; `bytes` of them are lent.
abbrev pub polled : (minute address settings unused count : ℕ) → List ℕ → Polled
polled minute address settings unused count reply =
    record { minute = minute; count = count; bytes = bytes_for count; address = address; settings = settings; unused = unused; reply = reply }

-- A reply of 0 bits has 0 bytes and eight zeros.
abbrev pub unanswered : (minute address settings unused : ℕ) → Polled
unanswered minute address settings unused = polled minute address settings unused 0 (first_bytes 8 0)

-- An entry that is no reply is all zeros.
abbrev pub no_reply : Polled
no_reply = unanswered 0 0 0 0

abbrev pub no_entry : Polled
no_entry = polled 0 0 0 0 0 []

-- The rows in use. On a board that is kept in order they stand in address order.
unfoldable pub used_rows : List Row → List Row
used_rows [] = []
used_rows (row ∷ rows) = pick (is_free row) (used_rows rows) (row ∷ used_rows rows)

-- Its reply before it is polled: the row's address and settings, the minute given, and 0 bits.
abbrev pub reply_for : ℕ → Row → Polled
reply_for minute row = unanswered minute row.address row.settings 0

-- Replies from the front of a round, and no reply behind them.
abbrev pub round_by : List Polled → Round
round_by replies = record { replies = replies ++ replicate (most_replies - length replies) no_reply; count = length replies }

-- A round of these replies, none polled yet: the first one's delay and poll are to be drawn.
abbrev pub begun_with : List Polled → Polling
begun_with replies = record { round = round_by replies; lines = rest_state; passed = 0; at = 0; tried = 0; listening = 0 }

unfoldable pub beginning : ℕ → List Row → Polling
beginning minute board = begun_with (map (reply_for minute) (used_rows board))

-- Nothing begun: all zeros.
unfoldable pub nothing_begun : Polling
nothing_begun = begun_with []
