-- In form: a message that is handed over has 1 to 64 bits, its bytes are those of a reply as it is lent, and reading them never gives 14 or 1.
use Rattle.std.specs.Prelude.{◌≡◌, true, false, List, ℕ, ◌≤◌, take}
use Rattle.frame.specs.Line.{bytes_for, formed}
use Rattle.frame.specs.Reply.{ReadsReply, reply_number}
use Rattle.lines.specs.declared.SoFar.{SoFar}
use Rattle.lines.specs.declared.LinesTold.{LinesTold}
use Rattle.lines.specs.Timing.{timing, bad_timing}
use Rattle.lines.specs.Calls.{HearsLines}
use Rattle.std.specs.Prelude.{Result}
use Rattle.frame.specs.declared.faults.Fault.{Fault}
use Rattle.frame.specs.declared.Reading.{Reading}

-- The bytes that hold the message's bits.
abbrev pub bytes_in : LinesTold → List ℕ
bytes_in a = take (bytes_for a.count) a.message

pub record LinesForm : Type 0 where
  pub formed : (s : SoFar) (least most gap : ℕ) (samples : List ℕ) (a : LinesTold) → bad_timing (timing least most gap) ≡ false
      → HearsLines s least most gap samples a → (a.count ≡ 0 → ⊥)
      → (1 ≤ a.count) × (a.count ≤ 64) × (formed a.count (bytes_in a) ≡ true)
  pub read : (s : SoFar) (least most gap : ℕ) (samples : List ℕ) (a : LinesTold) → bad_timing (timing least most gap) ≡ false
      → HearsLines s least most gap samples a → (a.count ≡ 0 → ⊥)
      → (settings address : ℕ) (r : Result Reading Fault) → ReadsReply settings address a.count (bytes_in a) r
      → (reply_number r ≡ 14 → ⊥) × (reply_number r ≡ 1 → ⊥)
