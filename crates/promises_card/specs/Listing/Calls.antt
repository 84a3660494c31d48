-- What a call of the listing wrote: the bytes that stand first in the output after a call that refused nothing, whatever stood there before.
use Rattle.std.specs.Prelude.{◌≡◌, List, ℕ, take}
use Rattle.frame.specs.Poll.{written_number}
use Rattle.std.specs.Prelude.{Result, Ok, Err}
use Rattle.frame.specs.declared.faults.Fault.{Fault}

-- How many bytes an answer says were written.
abbrev pub bytes_said : Result ℕ Fault → ℕ
bytes_said (Ok n) = n
bytes_said (Err f) = 0

-- A call whose contract is `allows` was lent `out`, answered `said` and left `after`; `text` is what it wrote.
pub record Wrote (allows : List ℕ → Result ℕ Fault → List ℕ → Type 0) (text : List ℕ) : Type 0 where
  pub out : List ℕ
  pub after : List ℕ
  pub said : Result ℕ Fault
  pub call : allows out said after
  pub accepted : written_number said ≡ 0
  pub first : text ≡ take (bytes_said said) after
