-- The saves that a round tried: what each was asked and what it answered, and the rules by which a round goes on and stops.
use Rattle.std.specs.Prelude.{◌≡◌, ◌≢◌, ◌⊎◌, List, [], ◌∷◌, ◌++◌, ℕ, ◌+◌, ◌-◌, ◌^◌, ◌<◌, eqb}
use Rattle.frame.specs.Pick.{pick}
use Rattle.sheet.specs.Record.{Entry, length_of}
use Rattle.sheet.specs.Save.{saved_number, stores_made}
use Rattle.promises_card.specs.Sheet.History.{Save}
use Rattle.promises_card.specs.Sheet.ListAndFull.{Begins}
use Rattle.promises_card.specs.Summary.Chain.{Step}

-- A save of a reply: its record, how many stores it might make, how many it made, and its refusal, 0 if none.
pub record Try : Type 0 where
  pub entry : Entry
  pub given : ℕ
  pub stores : ℕ
  pub number : ℕ

abbrev pub try_save : Save → Try
try_save x = record { entry = x.entry; given = x.allowance; stores = stores_made x.answer; number = saved_number x.answer }

-- The same of a save that keeps a summary.
abbrev pub try_step : Step → Try
try_step x = record { entry = x.entry; given = x.allowance; stores = x.answer.count; number = x.answer.number }

-- Of tries, the latest first: how many closed their record, the sum of their stores, and the refusal of the latest.
unfoldable pub closed_of : List Try → ℕ
closed_of [] = 0
closed_of (x ∷ h) = closed_of h + pick (eqb x.stores (length_of x.entry + 2)) 1 0

unfoldable pub stores_in_tries : List Try → ℕ
stores_in_tries [] = 0
stores_in_tries (x ∷ h) = stores_in_tries h + x.stores

abbrev pub number_of : List Try → ℕ
number_of [] = 0
number_of (x ∷ h) = x.number

-- Their replies, and their answers as stores and number, the oldest first.
unfoldable pub replies_of : List Try → List Entry
replies_of [] = []
replies_of (x ∷ h) = replies_of h ++ x.entry ∷ []

unfoldable pub answers_of : List Try → List (ℕ × ℕ)
answers_of [] = []
answers_of (x ∷ h) = answers_of h ++ (x.stores, x.number) ∷ []

-- Each was tried because none before it was refused and stores were left, and was given what was left.
pub data Rules (allowance : ℕ) : List Try → Type 0 where
  none_yet : Rules allowance []
  next : {h : List Try} (x : Try) → Rules allowance h → number_of h ≡ 0 → stores_in_tries h < allowance → x.given ≡ allowance - stores_in_tries h
      → Rules allowance (x ∷ h)

-- A round of these replies tried these saves and was answered so. The tries are a beginning of its replies; and it stopped because all were tried, the
-- latest was refused, or the stores were used up.
pub record WentSo (allowance : ℕ) (replies : List Entry) (tries : List Try) (closed stores number : ℕ) : Type 0 where
  pub begins : Begins (replies_of tries) replies
  pub rules : Rules allowance tries
  pub closed_are : closed ≡ closed_of tries
  pub stores-are : stores ≡ stores_in_tries tries
  pub number_is : number ≡ number_of tries
  pub stops : (replies_of tries ≡ replies) ⊎ ((number ≢ 0) ⊎ (stores ≡ allowance))

-- Replies as a host hands them in: their minutes have 32 bits.
pub data Dated : List Entry → Type 0 where
  none_dated : Dated []
  one_dated : {e : Entry} {es : List Entry} → e.minute < 2 ^ 32 → Dated es → Dated (e ∷ es)
