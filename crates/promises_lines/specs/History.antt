-- Calls one after another, in whatever batches the host has: each with the same timing numbers and the state that the last one left.
use Rattle.std.specs.Prelude.{◌&&◌, List, [], ◌∷◌, ◌++◌, ℕ, zero, suc, eqb, take}
use Rattle.frame.specs.Pick.{pick}
use Rattle.lines.specs.declared.SoFar.{SoFar}
use Rattle.lines.specs.declared.LinesTold.{LinesTold}
use Rattle.lines.specs.Timing.{Timing}
use Rattle.lines.specs.Calls.{HearsLines}
use Rattle.promises_frame.specs.Bits.{bit_at}

-- What was told: the number of a report and no bits, or the bits of a message, the first one first.
pub record Said : Type 0 where
  pub number : ℕ
  pub bits : List ℕ

-- The first bits of bytes, bit 1 the highest of the first byte.
unfoldable pub bits_of : ℕ → List ℕ → List ℕ
bits_of zero bytes = []
bits_of (suc k) bytes = bits_of k bytes ++ bit_at bytes (suc k) ∷ []

abbrev pub said : LinesTold → Said
said a = record { number = a.number; bits = bits_of a.count a.message }

-- A call that answers neither a number nor a bit has told nothing.
abbrev pub tellings : LinesTold → List Said
tellings a = pick (eqb a.number 0 && eqb a.count 0) [] (said a ∷ [])

-- A history: the samples taken, put end to end, what was told, and the state at the end. The latest call comes last.
pub data History (t : Timing) (from : SoFar) : List ℕ → List Said → SoFar → Type 0 where
  begun : History t from [] [] from
  called : {samples : List ℕ} {told : List Said} {s : SoFar} (batch : List ℕ) (answer : LinesTold)
      → History t from samples told s → HearsLines s t.least t.most t.gap batch answer
      → History t from (samples ++ take answer.taken batch) (told ++ tellings answer) answer.so_far
