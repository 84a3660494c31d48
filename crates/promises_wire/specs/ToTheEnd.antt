-- It can happen by the calls of request 16: whatever is sensed after its polls, a round is run to its end from every board in order.
use Rattle.std.specs.Prelude.{◌≡◌, true, false, List, [], ◌∷◌, ◌++◌, ℕ, suc, ◌^◌, ◌<◌, ◌≤◌, length, take}
use Rattle.board.specs.declared.Row.{Row}
use Rattle.board.specs.Rows.{board_of}
use Rattle.board.specs.Order.{in_address_order}
use Rattle.lines.specs.SoFar.{rest_state}
use Rattle.lines.specs.Hearing.{MessageTold}
use Rattle.round.specs.Saving.{Page, none}
use Rattle.polling.specs.declared.Pace.{Pace}
use Rattle.polling.specs.declared.Polling.{Polling}
use Rattle.polling.specs.Pace.{bad_pace}
use Rattle.polling.specs.Beginning.{used_rows}
use Rattle.polling.specs.Meant.{is_over}
use Rattle.polling.specs.Listening.{settled_by, listen}
use Rattle.promises_wire.specs.Expected.{Morning}
use Rattle.promises_wire.specs.Month.{morning, Month}
use Rattle.promises_wire.specs.Running.{Stood, Enrolled, RanSo}
use Rattle.promises_wire.specs.InTime.{OnItsWay}

-- What comes after each poll of a round: of the rows in use, counted from 0, and of a row's polls, counted from 0, the minute, and the samples that are there to be sensed.
abbrev pub Comes : Type 0
Comes = ℕ → ℕ → Stood

-- As many samples as a try may take, be they all idle.
abbrev pub Enough : Pace → Comes → Type 0
Enough p comes = (row tried : ℕ) → ((comes row tried).minute < 2 ^ 32) × (p.longest ≤ length (comes row tried).samples)

-- What stands of each row in turn: of what came after one of its polls, the samples up to the one that settled the try.
pub data StandsFrom (p : Pace) : Comes → List Stood → Type 0 where
  none_stands : {comes : Comes} → StandsFrom p comes []
  one_stands : {comes : Comes} {xs : List Stood} (x : Stood) (tried : ℕ) (told : MessageTold) (taken : ℕ) → tried < p.tries
      → listen p rest_state 0 (comes 0 tried).samples ≡ settled_by told taken
      → x.samples ≡ take taken (comes 0 tried).samples → x.minute ≡ (comes 0 tried).minute
      → StandsFrom p (λ row. comes (suc row)) xs
      → StandsFrom p comes (x ∷ xs)

-- A round that is over.
pub record Over (p : Pace) (rows : List Row) (stood : List Stood) : Type 0 where
  pub end : Polling
  pub way : OnItsWay p rows stood [] end
  pub over : is_over end ≡ true
  pub ran : RanSo p rows stood end

pub record ToTheEnd : Type 0 where
  -- Whatever comes.
  pub whatever : (p : Pace) → bad_pace p ≡ false → (rows : List Row) → in_address_order (board_of rows) ≡ true → Enrolled (used_rows (board_of rows))
      → (comes : Comes) → Enough p comes → (stood : List Stood) × StandsFrom p comes stood × Over p rows stood
  -- Saved, with any allowance and wherever it stands, it is a morning more of any month.
  pub saved : (n : ℕ) (ms : List Morning) (sheet : List ℕ) (page : Page) → Month n ms sheet page
      → (p : Pace) (rows : List Row) (stood : List Stood) (w : Polling) (ran : RanSo p rows stood w) (allowance : ℕ)
      → (after : List ℕ) × Month n (ms ++ morning ran.polls allowance ∷ []) after none
