-- Fit to save: of a round that began from a board whose rows hold what an enrolment takes, whatever the lines did and wherever it stands, no reply is refused for what it
-- is.
use Rattle.std.specs.Prelude.{◌≡◌, true, List, [], ◌∷◌, ℕ, ◌<◌, ◌≤◌, get_or}
use Rattle.board.specs.declared.Heard.{Heard}
use Rattle.board.specs.declared.Row.{Row}
use Rattle.board.specs.Row.{is_in_use}
use Rattle.board.specs.Rows.{board_of}
use Rattle.board.specs.Calls.{Hears}
use Rattle.summary.specs.declared.Summary.{Summary}
use Rattle.round.specs.declared.Polled.{Polled}
use Rattle.round.specs.declared.Rounded.{Rounded}
use Rattle.round.specs.declared.RoundedPage.{RoundedPage}
use Rattle.round.specs.Replies.{lent_by}
use Rattle.round.specs.Calls.{SavesRound, SavesRoundWith}
use Rattle.polling.specs.declared.Begun.{Begun}
use Rattle.polling.specs.declared.Pace.{Pace}
use Rattle.polling.specs.declared.Polling.{Polling}
use Rattle.polling.specs.Beginning.{no_entry}
use Rattle.polling.specs.Calls.{BeginsPolling}
use Rattle.promises_polling.specs.History.{any, Verdict, History}

-- Each row in use has settings and an address that an enrolment takes.
abbrev pub Enrolled : List Row → Type 0
Enrolled [] = 0 ≤ 0
Enrolled (row ∷ rows) = (is_in_use row ≡ true → (row.settings ≤ 15) × (row.address ≤ 999)) × Enrolled rows

-- None of the numbers that tell of a reply not fit to be saved, or of a round of too many.
pub record NotUnfit (number : ℕ) : Type 0 where
  pub settings : number ≡ 10 → ⊥
  pub address : number ≡ 11 → ⊥
  pub form : number ≡ 14 → ⊥
  pub many : number ≡ 23 → ⊥

-- A round that some calls have left of one that was begun from such a board.
pub record Left (rows : List Row) (end : Polling) : Type 0 where
  pub enrolled : Enrolled (board_of rows)
  pub minute : ℕ
  pub answer : Begun
  pub begins : BeginsPolling rows minute answer
  pub pace : Pace
  pub drawn : List ℕ
  pub taken : List ℕ
  pub told : List Verdict
  pub calls : History pace any answer.polling drawn taken told end

abbrev pub reply_at : Polling → ℕ → Polled
reply_at w i = get_or w.round.replies i no_entry

pub record FitToSave : Type 0 where
  pub saved : (rows : List Row) (end : Polling) → Left rows end
      → (sheet : List ℕ) (allowance : ℕ) (answer : Rounded) (left : List ℕ) → SavesRound sheet end.round allowance answer left → NotUnfit answer.number
  pub saved_with : (rows : List Row) (end : Polling) → Left rows end
      → (sheet : List ℕ) (s : Summary) (allowance : ℕ) (answer : RoundedPage) (left : List ℕ) → SavesRoundWith sheet s end.round allowance answer left
      → NotUnfit answer.number
  -- And each reply is one that the board hears, the board it began from or any other such board.
  pub heard : (rows : List Row) (end : Polling) → Left rows end → (i : ℕ) → i < end.round.count
      → (board : List Row) → Enrolled (board_of board) → (minute : ℕ) (answer : Heard) (after : List Row)
      → Hears board minute (reply_at end i).address (reply_at end i).count (lent_by (reply_at end i)) answer after
      → NotUnfit answer.number
