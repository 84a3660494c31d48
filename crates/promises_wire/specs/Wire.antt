-- A reply on the two lines: a reading that a reply can say, its bits drawn as pulses of any lengths that are allowed, after any idle.
use Rattle.std.specs.Prelude.{◌≡◌, List, [], ◌∷◌, ◌++◌, map, ℕ, eqb, replicate}
use Rattle.frame.specs.declared.Reading.{Reading}
use Rattle.frame.specs.Line.{mark}
use Rattle.frame.specs.Reply.{count_for}
use Rattle.lines.specs.Timing.{Timing}
use Rattle.promises_frame.specs.Calls.{ReplyLeft}
use Rattle.promises_frame.specs.WrittenThenRead.{CanSay}
use Rattle.promises_lines.specs.History.{bits_of}
use Rattle.promises_lines.specs.Drawn.{Pulse, drawn, WellDrawn}
use Rattle.promises_wire.specs.Polls.{Asked}

-- A drawing: so many idle samples, and one pulse or more.
pub record Drawing : Type 0 where
  pub quiet : ℕ
  pub first : Pulse
  pub rest : List Pulse

abbrev pub samples_of : Drawing → List ℕ
samples_of d = replicate d.quiet 0 ++ drawn (d.first ∷ d.rest)

-- Bits drawn evenly: each so many samples low, with so much idle between two of them and the gap behind the last.
abbrev pub evenly : (low still gap : ℕ) → List ℕ → List Pulse
evenly low still gap [] = []
evenly low still gap (b ∷ []) = record { is_mark = eqb b 1; low = low; still = gap } ∷ []
evenly low still gap (b ∷ c ∷ bs) = record { is_mark = eqb b 1; low = low; still = still } ∷ evenly low still gap (c ∷ bs)

-- It draws the first bits of these bytes, within the timing.
pub record DrawsBits (t : Timing) (count : ℕ) (bytes : List ℕ) (d : Drawing) : Type 0 where
  pub timed : WellDrawn t d.first d.rest
  pub shows : map (λ p. mark p.is_mark) (d.first ∷ d.rest) ≡ bits_of count bytes

-- A reply as it was sent: a reading that a reply can say at these settings and this address, written by the contract of `write_reply`, and drawn.
pub record Sent : Type 0 where
  pub asked : Asked
  pub reading : Reading
  pub can_say : CanSay asked.settings asked.address reading
  pub bytes : List ℕ
  pub left : ReplyLeft asked.settings asked.address reading bytes
  pub drawing : Drawing
  pub draws : DrawsBits asked.timing (count_for reading) bytes drawing
