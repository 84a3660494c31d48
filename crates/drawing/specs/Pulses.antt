-- Our request 15: a message as samples, one byte each, in the alphabet of request 01: 0 idle, 1 mark low, 2 space low.
use Rattle.std.specs.Prelude.{Bool, ◌||◌, not, List, [], ◌∷◌, ◌++◌, ℕ, zero, suc, ◌-◌, ◌/◌, ◌%◌, ◌^◌, eqb, get_or, replicate}
use Rattle.frame.specs.Pick.{pick, within}

-- Each bit's line is low for `low` samples, 1 to 1,000, and both lines are then still for `still` samples, 1 to 10,000.
abbrev pub bad_pulse : (low still : ℕ) → Bool
bad_pulse low still = not (within 1 1000 low) || not (within 1 10000 still)

-- A mark is 1, a space 2.
abbrev pub low_sample : ℕ → ℕ
low_sample bit = pick (eqb bit 1) 1 2

-- The bit of a message after so many others. Bit 1, after none, is the highest bit of the first byte.
abbrev pub bit_after : List ℕ → ℕ → ℕ
bit_after message before = get_or message (before / 8) 0 / 2 ^ (7 - before % 8) % 2

-- So many bits, each after the one before it.
unfoldable pub bits_after : (before count : ℕ) → List ℕ → List ℕ
bits_after before zero message = []
bits_after before (suc count) message = bit_after message before ∷ bits_after (suc before) count message

-- Every bit is drawn alike, the last one too: its line low, then idle.
unfoldable pub drawn : (low still : ℕ) → List ℕ → List ℕ
drawn low still [] = []
drawn low still (bit ∷ bits) = replicate low (low_sample bit) ++ replicate still 0 ++ drawn low still bits

-- The whole drawing, from bit 1 on.
abbrev pub drawing : (low still count : ℕ) → List ℕ → List ℕ
drawing low still count message = drawn low still (bits_after 0 count message)
