-- Drawn, then heard, over both calls: what any calls of the one have put down, followed by a gap, is handed over bit for bit by any calls of the other.
use Rattle.std.specs.Prelude.{◌≡◌, false, List, [], ◌∷◌, ◌++◌, ℕ, ◌+◌, ◌-◌, ◌*◌, ◌<◌, ◌≤◌, length, take, replicate}
use Rattle.lines.specs.declared.SoFar.{SoFar}
use Rattle.lines.specs.declared.LinesTold.{LinesTold}
use Rattle.lines.specs.Timing.{Timing, bad_timing}
use Rattle.lines.specs.SoFar.{rest_state}
use Rattle.lines.specs.Calls.{HearsLines}
use Rattle.promises_frame.specs.Bits.{AreBytes, InForm}
use Rattle.promises_lines.specs.History.{Said, bits_of, tellings, History}
use Rattle.promises_lines.specs.Form.{bytes_in}
use Rattle.promises_drawing.specs.Sending.{Sending}

-- A message of one bit or more, drawn to its end with pulses that this ear takes and idle that it does not take for a gap.
pub record Spoken (t : Timing) (low still count : ℕ) (message sent : List ℕ) : Type 0 where
  pub timing_good : bad_timing t ≡ false
  pub pulse_heard : (t.least ≤ low) × (low ≤ t.most)
  pub idle_short : (1 ≤ still) × (still < t.gap)
  pub some : 1 ≤ count
  pub bytes : AreBytes message
  pub in-form : InForm count message
  pub drawn : Sending low still count message sent
  pub to_the_end : length sent ≡ count * (low + still)

pub record DrawnAndHeard : Type 0 where
  -- One message is told, its bits those that were drawn, and the lines are then at rest.
  pub heard : (t : Timing) (low still count : ℕ) (message sent : List ℕ) → Spoken t low still count message sent
      → (told : List Said) (end : SoFar) → History t rest_state (sent ++ replicate t.gap 0) told end
      → (told ≡ record { number = 0; bits = bits_of count message } ∷ []) × (end ≡ rest_state)
  -- The call that tells it hands over the very bytes, at the sample that the gap closes on.
  pub handed : (t : Timing) (low still count : ℕ) (message sent : List ℕ) → Spoken t low still count message sent
      → (earlier batch rest : List ℕ) (s : SoFar) (a : LinesTold) → History t rest_state earlier [] s
      → HearsLines s t.least t.most t.gap batch a → (tellings a ≡ [] → ⊥)
      → earlier ++ take a.taken batch ++ rest ≡ sent ++ replicate t.gap 0
      → (a.number ≡ 0) × (a.count ≡ count) × (bytes_in a ≡ message)
      × (length earlier + a.taken ≡ count * (low + still) - still + t.gap)
