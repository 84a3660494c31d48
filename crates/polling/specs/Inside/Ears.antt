-- How the code goes about listening: a try as it stands, and the samples cut at the limit by which the try is settled.
use Rattle.std.specs.Prelude.{◌≡◌, Bool, true, false, ◌&&◌, List, ℕ, ◌+◌, ◌-◌, ◌<◌, ◌^◌, min, max, eqb, ltb, ⊤}
use Rattle.frame.specs.Pick.{pick}
use Rattle.frame.specs.Line.{first_bytes, mark}
use Rattle.lines.specs.declared.SoFar.{SoFar}
use Rattle.lines.specs.declared.LinesTold.{LinesTold}
use Rattle.lines.specs.SoFar.{rest_state, is_rest}
use Rattle.lines.specs.Hearing.{MessageTold, nothing, message, spoiled}
use Rattle.lines.specs.Inside.Safe.{Safe}
use Rattle.round.specs.declared.Polled.{Polled}
use Rattle.polling.specs.declared.Pace.{Pace}
use Rattle.polling.specs.declared.Polling.{Polling}
use Rattle.polling.specs.declared.listening.Told.{Told}
use Rattle.polling.specs.declared.listening.Told.TheVariants.{Silence, Message, Spoiled}
use Rattle.polling.specs.declared.listening.Ear.{Ear}
use Rattle.polling.specs.declared.listening.Ear.TheVariants.{Open, Closed}
use Rattle.polling.specs.Beginning.{polled}
use Rattle.polling.specs.Meant.{is_over, turn_of}
use Rattle.polling.specs.Listening.{Listened, still_going, settled_by, given_up}
use Rattle.polling.specs.Settling.{round_with, LeftByHearing, settled_of}

-- Neither a line is low nor is a message open.
abbrev pub quiet : SoFar → Bool
quiet s = eqb s.line 0 && eqb s.count 0 && eqb s.fault 0

-- A state to listen from: safe to hear with, and quiet only at rest. Every state that a call leaves is one.
pub record Ready (s : SoFar) : Type 0 where
  pub safe : Safe s
  pub quiet_rests : quiet s ≡ true → is_rest s ≡ true

-- The limit by which a try is settled, and how.
abbrev pub limit_of : Pace → SoFar → ℕ
limit_of p s = pick (is_rest s) p.wait p.longest

-- The limit that comes next after so many samples: no try is settled by either before `wait`.
abbrev pub next_limit : Pace → SoFar → (passed : ℕ) → ℕ
next_limit p s passed = pick (ltb passed p.wait) p.wait (limit_of p s)

abbrev pub end_of : SoFar → MessageTold
end_of s = pick (is_rest s) nothing (given_up s)

-- As many samples as come before the limit or reach it, and at least one; and as many of those that there are.
abbrev pub cut_to : (many limit passed : ℕ) → ℕ
cut_to many limit passed = min (max (limit - passed) 1) many

-- What settles a try, in the code's own words; and what the lines told.
abbrev pub told_by : MessageTold → Told
told_by nothing = Silence
told_by (message count bits) = Message count (first_bytes 8 bits)
told_by (spoiled number) = Spoiled number

abbrev pub told_in : LinesTold → Told
told_in t = pick (eqb t.number 0) (Message t.count t.message) (Spoiled t.number)

-- Its number, its count of bits and its bits.
abbrev pub message_in : Told → Bool
message_in Silence = false
message_in (Message count reply) = true
message_in (Spoiled number) = false

abbrev pub number_in : Told → ℕ
number_in Silence = 0
number_in (Message count reply) = 0
number_in (Spoiled number) = number

abbrev pub count_in : Told → ℕ
count_in Silence = 0
count_in (Message count reply) = count
count_in (Spoiled number) = 0

abbrev pub bytes_in : Told → List ℕ
bytes_in Silence = first_bytes 8 0
bytes_in (Message count reply) = reply
bytes_in (Spoiled number) = first_bytes 8 0

-- A try as the code has it.
abbrev pub ear_of : Listened → Ear
ear_of (still_going left taken) = Open left taken
ear_of (settled_by told taken) = Closed (told_by told) taken

-- Where it goes on, the samples heard so far are still a number of 32 bits.
abbrev pub HasRoom : (before : ℕ) → Ear → Type 0
HasRoom before (Open left taken) = before + taken < 2 ^ 32
HasRoom before (Closed told taken) = ⊤

-- The reply, and what is answered, of a try that was answered.
abbrev pub replied_by : (minute : ℕ) → Told → Polled → Polled
replied_by minute told r = polled minute r.address r.settings r.unused (count_in told) (bytes_in told)

abbrev pub stands_as : (minute : ℕ) → Told → Polling → Polling
stands_as minute told w =
    record {
      round = round_with w.round w.at (replied_by minute told (turn_of w));
      lines = rest_state;
      passed = 0;
      at = w.at + 1;
      tried = 0;
      listening = 0;
    }

abbrev pub stands_by : (minute : ℕ) → Told → (taken : ℕ) → Polling → LeftByHearing
stands_by minute told taken w = settled_of (stands_as minute told w) taken w.at 1 (mark (is_over (stands_as minute told w))) (number_in told)
