-- Document 01, "The board": one row. It holds an address, settings, the last good reading with its minute, and the last fault.
use Rattle.std.specs.Prelude.{Bool, not, ◌&&◌, ◌||◌, ℕ, ◌+◌, eqb, leb, ltb, ℤ, pos}
use Rattle.frame.specs.declared.Reading.{Reading}
use Rattle.frame.specs.Kinds.{kind_of, tenths_of, reading_by}
use Rattle.frame.specs.Pick.{pick}
use Rattle.frame.specs.Line.{mark}
use Rattle.board.specs.declared.Row.{Row}

-- The last good reading with its minute, or none yet.
pub data Last : Type 0 where
  none : Last
  good : Reading → ℕ → Last

-- A row is free or in use.
abbrev pub is_free : Row → Bool
is_free row = eqb row.used 0

abbrev pub is_in_use : Row → Bool
is_in_use row = not (is_free row)

-- The last good reading that six numbers tell of; kind 0 is none yet.
abbrev pub last_by : (kind : ℕ) (tenths : ℤ) (level alarm1 alarm0 minute : ℕ) → Last
last_by kind tenths level alarm1 alarm0 minute = pick (eqb kind 0) none (good (reading_by kind tenths level alarm1 alarm0) minute)

-- The last good reading of a row.
abbrev pub last_of : Row → Last
last_of row = last_by row.kind row.tenths row.level row.alarm1 row.alarm0 row.minute

-- A row has three parts. Whose it is, with its sensor profile and mark in `gauge`, set by enrolling and removing.
pub record Owner : Type 0 where
  pub used : ℕ
  pub address : ℕ
  pub settings : ℕ
  pub gauge : ℕ

-- The last good reading in numbers.
pub record KeptReading : Type 0 where
  pub minute : ℕ
  pub level : ℕ
  pub tenths : ℤ
  pub kind : ℕ
  pub alarm1 : ℕ
  pub alarm0 : ℕ

-- What came of the hearings since: the last fault, 0 for none, with the place of the unreadable digit beside fault 7; the number of faulty
-- replies since the last good one or since enrolment; and the minute it was last heard.
pub record Since : Type 0 where
  pub fault : ℕ
  pub place : ℕ
  pub faulty : ℕ
  pub heard : ℕ

abbrev pub row_by : Owner → KeptReading → Since → Row
row_by o k s =
    record {
      minute = k.minute;
      address = o.address;
      level = k.level;
      tenths = k.tenths;
      settings = o.settings;
      fault = s.fault;
      used = o.used;
      kind = k.kind;
      alarm1 = k.alarm1;
      alarm0 = k.alarm0;
      heard = s.heard;
      faulty = s.faulty;
      place = s.place;
      gauge = o.gauge;
    }

abbrev pub owner_of : Row → Owner
owner_of row = record { used = row.used; address = row.address; settings = row.settings; gauge = row.gauge }

abbrev pub reading_kept : Row → KeptReading
reading_kept row = record { minute = row.minute; level = row.level; tenths = row.tenths; kind = row.kind; alarm1 = row.alarm1; alarm0 = row.alarm0 }

abbrev pub since_of : Row → Since
since_of row = record { fault = row.fault; place = row.place; faulty = row.faulty; heard = row.heard }

-- Nobody's row, and that of a transmitter as it is enrolled.
abbrev pub nobody : Owner
nobody = record { used = 0; address = 0; settings = 0; gauge = 0 }

abbrev pub enrolled : ℕ → ℕ → ℕ → Owner
enrolled settings address gauge = record { used = 1; address = address; settings = settings; gauge = gauge }

-- A last good reading as it is kept. No reading is all zeros.
abbrev pub kept_as : Last → KeptReading
kept_as none = record { minute = 0; level = 0; tenths = pos 0; kind = 0; alarm1 = 0; alarm0 = 0 }
kept_as (good r minute) =
    record {
      minute = minute;
      level = r.level;
      tenths = tenths_of r.temperature;
      kind = kind_of r.temperature;
      alarm1 = mark r.alarm1;
      alarm0 = mark r.alarm0;
    }

-- Nothing heard yet: fault 0, count 0, and no minute.
abbrev pub unheard : Since
unheard = record { fault = 0; place = 0; faulty = 0; heard = 0 }

-- Document 02, request 09: the count stays at 65,535 when it gets there.
abbrev pub more : ℕ → ℕ
more faulty = pick (ltb faulty 65535) (faulty + 1) 65535

-- The same with this last fault and its place, 0 where it has none, and this count.
abbrev pub fault_of : Since → ℕ → ℕ → ℕ → Since
fault_of s fault place faulty = record { fault = fault; place = place; faulty = faulty; heard = s.heard }

-- The place that a row tells of: that of the unreadable digit beside fault 7, 0 beside any other, whatever stands in the row.
abbrev pub place_told : Row → ℕ
place_told row = pick (eqb row.fault 7) row.place 0

-- A free row as a removal leaves it: address, settings and gauge 0, no reading, fault 0. It is all zeros.
abbrev pub free_row : Row
free_row = row_by nobody (kept_as none) unheard

-- The row that an enrolment starts: in use, with the gauge that was given, no reading and fault 0.
abbrev pub new_row : ℕ → ℕ → ℕ → Row
new_row settings address gauge = row_by (enrolled settings address gauge) (kept_as none) unheard

-- The row, heard at a minute: that of the latest hearing, good or faulty, even if the clock went back.
abbrev pub heard_at : Row → ℕ → Row
heard_at row minute =
    row_by (owner_of row) (reading_kept row) (record { fault = row.fault; place = row.place; faulty = row.faulty; heard = minute })

-- The minute a row was last heard, or none: enrolling and removing leave neither a reading nor a fault, and every hearing leaves one of them.
pub data Minute : Type 0 where
  never : Minute
  at : ℕ → Minute

abbrev pub minute_by : (kind fault heard : ℕ) → Minute
minute_by kind fault heard = pick (eqb kind 0 && eqb fault 0) never (at heard)

abbrev pub heard_of : Row → Minute
heard_of row = minute_by row.kind row.fault row.heard

-- The minute as it is told: 0 where there is none.
abbrev pub heard_told : Row → ℕ
heard_told row = pick (eqb row.kind 0 && eqb row.fault 0) 0 row.heard

-- Hearing a good reply sets reading, minute and fault 0, no place, and count 0.
abbrev pub with_reading : Row → Reading → ℕ → Row
with_reading row r minute = row_by (owner_of row) (kept_as (good r minute)) (fault_of (since_of row) 0 0 0)

-- A faulty reply sets only that row's fault, with its place, and is counted.
abbrev pub with_fault : Row → ℕ → ℕ → Row
with_fault row fault place = row_by (owner_of row) (reading_kept row) (fault_of (since_of row) fault place (more row.faulty))

-- Faults 1 to 9 are those that a row's fault is set to, and so is 26, which acts on a row as 9 does.
unfoldable pub sets_fault : ℕ → Bool
sets_fault number = eqb number 26 || leb 1 number && leb number 9
