-- Document 01's bench checks marked *, as one table. Each is asked of whole replies, both ways: the bits as they are written, and what they read as.
use Rattle.std.specs.Prelude.{◌≡◌, false, List, [], ◌∷◌, map, ℕ, ◌+◌, ◌*◌, ℤ}
use Rattle.frame.specs.declared.Reading.{Reading}
use Rattle.frame.specs.declared.Temperature.{Temperature}
use Rattle.frame.specs.declared.Temperature.TheVariants.{Degrees, Absent}
use Rattle.frame.specs.Line.{field, put, first_bytes}
use Rattle.frame.specs.Level.{mode_of, last_bit_of}
use Rattle.frame.specs.Temperature.{signed}
use Rattle.frame.specs.Reply.{count_for, size_for, parity_for, reply_line, reply_of}
use Rattle.std.specs.Prelude.{Result, Ok, Err}
use Rattle.frame.specs.declared.faults.Fault.{Fault}
use Rattle.frame.specs.Faults.{fault}

-- A reading without alarms.
abbrev pub unalarmed : ℕ → Temperature → Reading
unalarmed level t = record { level = level; temperature = t; alarm1 = false; alarm0 = false }

-- The checks: the digit bits of a level in a mode, or the fault that they read as; bits 40 to 55 of a temperature of a 1900; the bytes of a whole
-- reply, or the fault that they read as.
pub data Check : Type 0 where
  level : (mode value bits : ℕ) → Check
  level_fault : (mode bits number : ℕ) → Check
  degrees : (tenths : ℤ) (bits : ℕ) → Check
  reply : (settings address : ℕ) (r : Reading) (bytes : List ℕ) → Check
  reply-fault : (settings address count : ℕ) (bytes : List ℕ) (number : ℕ) → Check

pub record Outcome : Type 0 where
  pub written : List ℕ
  pub read : Result Reading Fault

-- The bytes of a reply from address 0 with the bits given, its start and its parity set. The settings' other bits are 0: a 1900, even parity.
abbrev pub around : (settings size bits : ℕ) → List ℕ
around settings size bits =
    first_bytes size (put 1 1 + bits + put (parity_for settings (first_bytes size (put 1 1 + bits))) (8 * size))

-- What the definitions say.
abbrev pub found : Check → Outcome
found (level mode value bits) =
    record {
      written = field (reply_line mode 0 (unalarmed value Absent)) (mode_of mode).first (last_bit_of (mode_of mode)) ∷ [];
      read = reply_of mode 0 40 (around mode 5 (put bits (last_bit_of (mode_of mode))));
    }
found (level_fault mode bits number) = record { written = []; read = reply_of mode 0 40 (around mode 5 (put bits (last_bit_of (mode_of mode)))) }
found (degrees tenths bits) =
    record { written = field (reply_line 0 0 (unalarmed 0 (Degrees tenths))) 40 55 ∷ []; read = reply_of 0 0 56 (around 0 7 (put bits 55)) }
found (reply settings address r bytes) =
    record { written = first_bytes (size_for r) (reply_line settings address r); read = reply_of settings address (count_for r) bytes }
found (reply-fault settings address count bytes number) = record { written = []; read = reply_of settings address count bytes }

-- What the document says.
abbrev pub wanted : Check → Outcome
wanted (level mode value bits) = record { written = bits ∷ []; read = Ok (unalarmed value Absent) }
wanted (level_fault mode bits number) = record { written = []; read = Err (fault number) }
wanted (degrees tenths bits) = record { written = bits ∷ []; read = Ok (unalarmed 0 (Degrees tenths)) }
wanted (reply settings address r bytes) = record { written = bytes; read = Ok r }
wanted (reply-fault settings address count bytes number) = record { written = []; read = Err (fault number) }

-- Modes 1 decimal, 0 fractional, 2 and 3 metres.
abbrev pub starred : List Check
starred =
    level 1 2999 0b011_1000_0000_0000 ∷ level 1 3000 0b010_1000_0000_0000
    ∷ level 0 ((5 * 12 + 11) * 16 + 15) 0b000_0111_0000_0000 ∷ level 0 ((6 * 12 + 0) * 16 + 0) 0b000_0101_0000_0000
    ∷ level 2 9999 0b0_1000_0000_0000_0000 ∷ level 2 10000 0b1_1000_0000_0000_0000 ∷ level 2 19999 0b1_0000_0000_0000_0000
    ∷ level 3 32699 0b10_0100_0101_1000_0000 ∷ level_fault 3 0b10_0100_0100_1000_0000 8
    ∷ degrees (signed false 123) 0b1011_0001_0010_0011
    ∷ reply 1 7 (unalarmed 3000 Absent) (0x80 ∷ 0x0e ∷ 0x50 ∷ 0x00 ∷ 0x00 ∷ [])
    ∷ reply-fault 1 7 40 (0x80 ∷ 0x0e ∷ 0x50 ∷ 0x00 ∷ 0x01 ∷ []) 5
    ∷ []

pub record BenchChecks : Type 0 where
  pub every_one : map found starred ≡ map wanted starred
