-- Document 02, request 01: samples heard one after another, up to the one that closes a message.
use Rattle.std.specs.Prelude.{List, [], ◌∷◌, ℕ, ◌+◌, eqb}
use Rattle.frame.specs.Pick.{pick}
use Rattle.frame.specs.Line.{first_bytes}
use Rattle.lines.specs.declared.SoFar.{SoFar}
use Rattle.lines.specs.Sample.{sample_of}
use Rattle.lines.specs.Timing.{Timing}
use Rattle.lines.specs.SoFar.{rest_state}
use Rattle.lines.specs.Step.{after, closes}

-- What is told: nothing, a message of so many bits, or a spoiled message by its number, with no bits.
pub data MessageTold : Type 0 where
  nothing : MessageTold
  message : (count bits : ℕ) → MessageTold
  spoiled : (number : ℕ) → MessageTold

abbrev pub told_of : SoFar → MessageTold
told_of s = pick (eqb s.fault 0) (message s.count s.bits) (spoiled s.fault)

-- The paper's number of what is told, its count of bits, and its bits in 8 bytes, bit 1 the highest of the first, 0 after the count.
abbrev pub number_told : MessageTold → ℕ
number_told nothing = 0
number_told (message count bits) = 0
number_told (spoiled number) = number

abbrev pub count_told : MessageTold → ℕ
count_told nothing = 0
count_told (message count bits) = count
count_told (spoiled number) = 0

abbrev pub bytes_told : MessageTold → List ℕ
bytes_told nothing = first_bytes 8 0
bytes_told (message count bits) = first_bytes 8 bits
bytes_told (spoiled number) = first_bytes 8 0

pub record Hearing : Type 0 where
  pub told : MessageTold
  pub left : SoFar
  pub taken : ℕ

abbrev pub hearing : MessageTold → SoFar → ℕ → Hearing
hearing told left taken = record { told = told; left = left; taken = taken }

-- The same after so many samples more.
abbrev pub later : ℕ → Hearing → Hearing
later n h = hearing h.told h.left (n + h.taken)

-- The hearing stops after the sample that closes a message, and then all is as at the beginning.
unfoldable pub hear : Timing → SoFar → List ℕ → Hearing
hear t s [] = hearing nothing s 0
hear t s (x ∷ xs) =
    pick (closes t (after t s (sample_of x))) (hearing (told_of (after t s (sample_of x))) rest_state 1) (later 1 (hear t (after t s (sample_of x)) xs))
