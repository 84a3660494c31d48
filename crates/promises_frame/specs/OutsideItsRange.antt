-- Outside its range: how a level or a temperature that a reply cannot say is read once it was written.
use Rattle.std.specs.Prelude.{◌≡◌, List, ℕ, ◌≤◌, ◌<◌}
use Rattle.frame.specs.declared.Reading.{Reading}
use Rattle.frame.specs.Reply.{ReadsReply, mode_in, is1800, count_for}
use Rattle.promises_frame.specs.Temperatures.{read_back}
use Rattle.promises_frame.specs.Calls.{ReplyLeft}
use Rattle.std.specs.Prelude.{Result, Ok, Err}
use Rattle.frame.specs.declared.faults.Fault.{Fault}
use Rattle.frame.specs.declared.faults.Fault.TheVariants.{InNoChart}

-- The reading with the temperature that its own is read back as.
abbrev pub reading_back : ℕ → Reading → Reading
reading_back settings r =
    record { level = r.level; temperature = read_back (is1800 settings) r.temperature; alarm1 = r.alarm1; alarm0 = r.alarm0 }

pub record OutsideItsRange : Type 0 where
  -- A level above the mode's largest, written, reads as fault 7 at place 1: its ones digit, the second from the top, is in no chart.
  pub level : (settings address : ℕ) (r : Reading) → settings ≤ 15 → address ≤ 999 → (mode_in settings).largest < r.level
      → (bytes : List ℕ) → ReplyLeft settings address r bytes
      → (got : Result Reading Fault) → ReadsReply settings address (count_for r) bytes got
      → got ≡ Err (InNoChart 1)
  -- Any temperature is read as `read_back` says: beyond the range as the nearer end (1900), or as above and below (1800).
  pub temperature : (settings address : ℕ) (r : Reading) → settings ≤ 15 → address ≤ 999 → r.level ≤ (mode_in settings).largest
      → (bytes : List ℕ) → ReplyLeft settings address r bytes
      → (got : Result Reading Fault) → ReadsReply settings address (count_for r) bytes got
      → got ≡ Ok (reading_back settings r)
