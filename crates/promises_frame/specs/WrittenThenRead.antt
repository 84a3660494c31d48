-- Written, then read: what a call leaves is read as exactly what was written.
use Rattle.std.specs.Prelude.{◌≡◌, List, ℕ, ◌≤◌}
use Rattle.frame.specs.declared.Poll.{Poll}
use Rattle.frame.specs.declared.Reading.{Reading}
use Rattle.frame.specs.Poll.{ReadsPoll}
use Rattle.frame.specs.Reply.{ReadsReply, mode_in, is1800, count_for, size_for}
use Rattle.promises_frame.specs.Temperatures.{InRange}
use Rattle.promises_frame.specs.Calls.{ReplyLeft, PollLeft}
use Rattle.std.specs.Prelude.{Result, Ok}
use Rattle.frame.specs.declared.faults.Fault.{Fault}

-- What a reply can say: settings up to 15, an address up to 999, a level up to the mode's largest, a temperature within the type's range.
-- The alarms are free.
pub record CanSay (settings address : ℕ) (r : Reading) : Type 0 where
  pub settings_in : settings ≤ 15
  pub address_in : address ≤ 999
  pub level_in : r.level ≤ (mode_in settings).largest
  pub temperature_in : InRange (is1800 settings) r.temperature

pub record WrittenThenRead : Type 0 where
  -- The first 5 bytes as 40 bits, or the first 7 as 56, are read at the same settings and address as that reading.
  pub reply : (settings address : ℕ) (r : Reading) → CanSay settings address r
      → (bytes : List ℕ) (left : ReplyLeft settings address r bytes)
      → (got : Result Reading Fault) → ReadsReply settings address (count_for r) bytes got
      → (left.said ≡ Ok (size_for r)) × (got ≡ Ok r)
  -- The same of a poll, with every address up to 999, raise and reset.
  pub poll : (p : Poll) → p.address ≤ 999
      → (bytes : List ℕ) (left : PollLeft p bytes)
      → (got : Result Poll Fault) → ReadsPoll bytes got
      → (left.said ≡ Ok 2) × (got ≡ Ok p)
