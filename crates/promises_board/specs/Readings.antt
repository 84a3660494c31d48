-- The last good reading: a good hearing is what the next look tells, and a faulty one keeps it. Said by the answers of the calls alone, of any five
-- calls.
use Rattle.std.specs.Prelude.{◌≡◌, true, List, ℕ}
use Rattle.frame.specs.declared.Reading.{Reading}
use Rattle.frame.specs.Reply.{ReadsReply}
use Rattle.board.specs.declared.Heard.{Heard}
use Rattle.board.specs.declared.Looked.{Looked}
use Rattle.board.specs.declared.Row.{Row}
use Rattle.board.specs.Gauge.{gauge_told}
use Rattle.board.specs.Row.{none, good, never, at, more, sets_fault}
use Rattle.board.specs.Calls.{heard_as, last_told, minute_told}
use Rattle.promises_order.specs.Calls.{Records}
use Rattle.std.specs.Prelude.{Ok}

-- A reading that the frame makes of this reply, by these settings, for this address.
pub record Reads (settings address count : ℕ) (reply : List ℕ) : Type 0 where
  pub reading : Reading
  pub accepted : ReadsReply settings address count reply (Ok reading)

pub record BoardReadings (calls : Records) : Type 0 where
  -- A hearing that answered 0, then a look: the reading of that reply, by the row's settings, with its minute, fault 0, no faulty
  -- reply counted, and this minute as the one it was last heard.
  pub heard : (rows after : List Row) (minute address count place : ℕ) (reply : List ℕ) (told : Looked)
      → calls.hears rows minute address count reply (heard_as 0 place) after → calls.looks_up after address told
      → (told.number ≡ 0) × (told.fault ≡ 0) × (told.place ≡ 0) × (told.faulty ≡ 0) × (minute_told told ≡ at minute)
      × ((read : Reads told.settings address count reply) → last_told told ≡ good read.reading minute)
  -- There is such a reading.
  pub accepted : (rows after : List Row) (minute address count place : ℕ) (reply : List ℕ) (told : Looked)
      → calls.hears rows minute address count reply (heard_as 0 place) after → calls.looks_up after address told → Reads told.settings address count reply
  -- A look, a hearing that answered 1 to 9 or 26, and a look again: the same settings and the same last good reading, the fault, the place that was
  -- answered with it, one faulty reply more, and this minute as the one it was last heard.
  pub kept : (rows after : List Row) (minute address count fault place : ℕ) (reply : List ℕ) (before told : Looked) → sets_fault fault ≡ true
      → calls.looks_up rows address before → calls.hears rows minute address count reply (heard_as fault place) after → calls.looks_up after address told
      → (told.number ≡ 0) × (told.fault ≡ fault) × (told.place ≡ place) × (told.faulty ≡ more before.faulty) × (minute_told told ≡ at minute)
      × (told.settings ≡ before.settings) × (last_told told ≡ last_told before)
  -- A row that was enrolled has no reading and fault 0, and the gauge that was given.
  pub started : (rows after : List Row) (settings address gauge : ℕ) (told : Looked) → calls.enrols rows settings address gauge 0 after → calls.looks_up after address told
      → (told.number ≡ 0) × (told.fault ≡ 0) × (told.settings ≡ settings) × (last_told told ≡ none)
      × (told.place ≡ 0) × (told.faulty ≡ 0) × (minute_told told ≡ never) × (told.gauge ≡ gauge_told gauge)
  -- What the calls of another transmitter do leaves its look as it was.
  pub hear_apart : (rows after : List Row) (minute address other count : ℕ) (reply : List ℕ) (answer : Heard) (before told : Looked)
      → (other ≡ address → ⊥) → calls.looks_up rows address before → calls.hears rows minute other count reply answer after → calls.looks_up after address told → told ≡ before
  pub enrol_apart : (rows after : List Row) (settings address gauge other answer : ℕ) (before told : Looked) → (other ≡ address → ⊥)
      → calls.looks_up rows address before → calls.enrols rows settings other gauge answer after → calls.looks_up after address told → told ≡ before
  pub remove_apart : (rows after : List Row) (address other answer : ℕ) (before told : Looked) → (other ≡ address → ⊥) → calls.looks_up rows address before
      → calls.removes rows other answer after → calls.looks_up after address told → told ≡ before
