-- Document 02, request 01: what was heard so far, handed from one call to the next. The bits stand as on a line, bit 1 highest, 0 after the count.
-- All zeros is the beginning.
use Rattle.std.specs.Prelude.{Bool, ◌&&◌, ◌||◌, not, ℕ, ◌-◌, ◌%◌, ◌^◌, eqb, leb}
use Rattle.frame.specs.Pick.{pick, within}
use Rattle.lines.specs.declared.SoFar.{SoFar}
use Rattle.lines.specs.Timing.{too_long}

abbrev pub so_far : (bits run count line fault : ℕ) → SoFar
so_far bits run count line fault = record { bits = bits; run = run; count = count; line = line; fault = fault }

-- Nothing is open. The time before the first sample counts as idle, so this is also how every message leaves the lines.
abbrev pub rest_state : SoFar
rest_state = so_far 0 0 0 0 0

-- A message is spoiled, to be reported by this number; the idle run has come so far.
abbrev pub spoilt_by : (number run : ℕ) → SoFar
spoilt_by number run = so_far 0 run 0 0 number

-- A message is open: it has a bit, or is spoiled.
abbrev pub is_open : SoFar → Bool
is_open s = not (eqb s.count 0 && eqb s.fault 0)

-- What a call leaves: the lines at rest; idle after a bit; in a run of marks or of spaces; a spoiled message.
abbrev pub has_no_bits : SoFar → Bool
has_no_bits s = eqb s.bits 0 && eqb s.count 0

abbrev pub pads_clear : SoFar → Bool
pads_clear s = leb s.count 64 && eqb (s.bits % 2 ^ (64 - s.count)) 0

abbrev pub is_rest : SoFar → Bool
is_rest s = eqb s.fault 0 && eqb s.line 0 && has_no_bits s && eqb s.run 0

abbrev pub is_between : SoFar → Bool
is_between s = eqb s.fault 0 && eqb s.line 0 && leb 1 s.count && pads_clear s && within 1 9999 s.run

abbrev pub is_in_run : SoFar → Bool
is_in_run s = eqb s.fault 0 && within 1 2 s.line && pads_clear s && within 1 too_long s.run

abbrev pub is_spoilt : SoFar → Bool
is_spoilt s = within 21 22 s.fault && eqb s.line 0 && has_no_bits s && leb s.run 9999

unfoldable pub legal : SoFar → Bool
legal s = is_rest s || is_between s || is_in_run s || is_spoilt s

-- A state that no call leaves is heard as a spoiled message of which no idle has come yet.
unfoldable pub meant : SoFar → SoFar
meant s = pick (legal s) s (spoilt_by 21 0)
