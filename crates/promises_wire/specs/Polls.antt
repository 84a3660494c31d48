-- A poll as a depot knows it: what was asked, what was sensed on the two lines after it, and what the bits that these tell are read as.
use Rattle.std.specs.Prelude.{◌≡◌, true, false, List, [], ◌∷◌, map, ℕ, ◌^◌, ◌<◌, ◌≤◌}
use Rattle.frame.specs.Line.{formed}
use Rattle.frame.specs.Reply.{ReadsReply}
use Rattle.sheet.specs.Record.{Entry, entry_of}
use Rattle.lines.specs.Sample.{sample_of}
use Rattle.lines.specs.Timing.{Timing, bad_timing}
use Rattle.promises_frame.specs.Bits.{AreBytes}
use Rattle.promises_lines.specs.History.{Said, bits_of}
use Rattle.promises_lines.specs.Runs.{Run, spelled, InRuns, by_runs}
use Rattle.std.specs.Prelude.{Result}
use Rattle.frame.specs.declared.faults.Fault.{Fault}
use Rattle.frame.specs.declared.Reading.{Reading}

-- The timing numbers by which the answer is heard, the transmitter's settings, the minute, and the address that was polled.
pub record Asked : Type 0 where
  pub timing : Timing
  pub settings : ℕ
  pub minute : ℕ
  pub address : ℕ
  pub timing-fine : bad_timing timing ≡ false
  pub settings_in : settings ≤ 15
  pub minute_fits : minute < 2 ^ 32
  pub address_in : address ≤ 999

-- The samples that were taken after it, and the runs that they are.
pub record Sensed : Type 0 where
  pub samples : List ℕ
  pub runs : List Run
  pub apart : InRuns runs
  pub spells : map sample_of samples ≡ spelled runs

-- The first that is told: the bits of a message, and none where nothing is told, or a spoiled message.
abbrev pub bits_told_first : List Said → List ℕ
bits_told_first [] = []
bits_told_first (s ∷ more) = s.bits

abbrev pub bits_sensed : Timing → List Run → List ℕ
bits_sensed t runs = bits_told_first (by_runs t [] runs)

-- The bits sensed, in the bytes that hold them, and what the frame reads these as.
pub record SensedAndRead (q : Asked) (x : Sensed) : Type 0 where
  pub count : ℕ
  pub bytes : List ℕ
  pub are_bytes : AreBytes bytes
  pub in-form : formed count bytes ≡ true
  pub bits_are : bits_of count bytes ≡ bits_sensed q.timing x.runs
  pub says : Result Reading Fault
  pub reads : ReadsReply q.settings q.address count bytes says

pub record Poll : Type 0 where
  pub asked : Asked
  pub sensed : Sensed
  pub read : SensedAndRead asked sensed

-- The record of so many bits in these bytes, and that of a poll.
abbrev pub entry_for : Asked → ℕ → List ℕ → Entry
entry_for q count bytes = entry_of q.settings q.minute q.address count bytes

abbrev pub poll_entry : Poll → Entry
poll_entry p = entry_for p.asked p.read.count p.read.bytes
