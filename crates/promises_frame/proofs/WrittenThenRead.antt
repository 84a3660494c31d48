-- Written, then read, and outside its range: the reply that stands first in the buffer is the line of `Sent`, which is read as `Heard` says.
use mathlib.Core.Path.{◌≡◌, ap, ap₂, ◌∙◌}
use mathlib.Core.Bool.{Bool}
use mathlib.Core.List.{List, ◌++◌}
use Prim.Native.Nat.{ℕ, ◌%◌, ◌<◌, ◌≤◌}
use lib.Dec.{eqb}
use lib.ListN.{length, take, drop}
use lib.Seq.{take_at}
use borrow.Author.Tests.{le-ltb}
use Rattle.frame.specs.declared.Reading.{Reading}
use Rattle.frame.specs.declared.Temperature.{Temperature}
use Rattle.frame.specs.Line.{first_bytes}
use Rattle.frame.specs.Faults.{first_of}
use Rattle.frame.specs.Level.{known, lost, level_of}
use Rattle.frame.specs.Temperature.{is_absent}
use Rattle.frame.specs.Reply.{mode_in, is1800, size_for, count_for, reply_fault, reply_of, reply_line, write_reply_fault}
use Rattle.promises_frame.specs.Temperatures.{read_back}
use Rattle.promises_frame.specs.WrittenThenRead.{WrittenThenRead}
use Rattle.promises_frame.specs.OutsideItsRange.{reading_back, OutsideItsRange}
use Rattle.promises_frame.specs.Calls.{ReplyLeft}
use Rattle.promises_frame.proofs.Digits.{mark-1}
use Rattle.promises_frame.proofs.Lines.{length-first_bytes}
use Rattle.promises_frame.proofs.Levels.{fit, level-known, level-lost}
use Rattle.promises_frame.proofs.TemperaturesBack.{in-range}
use Rattle.promises_frame.proofs.ReplySent.{Sent, sent}
use Rattle.promises_frame.proofs.ReplyHeard.{left-to-ask, level-bits, line-sent, heard, heat-sent, size_small}
use Rattle.promises_frame.proofs.Polls.{poll-then-read}
use Rattle.std.specs.Prelude.{Ok, Err}
use Rattle.frame.specs.declared.faults.Fault.TheVariants.{InNoChart}

-- What a write leaves first in a long enough buffer.
no-fault : (settings address : ℕ) (r : Reading) (out : List ℕ) → settings ≤ 15 → address ≤ 999 → size_for r ≤ length out
    → write_reply_fault settings address r out ≡ 0
unfolding write_reply_fault first_of
no-fault settings address r out hs ha k = rw (le-ltb 15 settings hs, le-ltb 999 address ha, le-ltb (length out) (size_for r) k)

pub left-first : (settings address : ℕ) (r : Reading) → settings ≤ 15 → address ≤ 999 → (bytes : List ℕ) (left : ReplyLeft settings address r bytes)
    → (left.said ≡ Ok (size_for r)) × (bytes ≡ first_bytes (size_for r) (reply_line settings address r))
left-first settings address r hs ha bytes left =
    let f = no-fault settings address r left.out hs ha left.long_enough in
    let n : ℕ = reply_line settings address r in
    let is : left.after ≡ first_bytes (size_for r) n ++ drop (size_for r) left.out = left.call.leaves ∙ rw f in
    let size : length (first_bytes (size_for r) n) ≡ size_for r = length-first_bytes (size_for r) n (size_small (is_absent r.temperature)) in
    (left.call.answers ∙ rw f, left.first ∙ ap (take (size_for r)) is ∙ take_at (first_bytes (size_for r) n) (drop (size_for r) left.out) (size_for r) size)

-- A level within its mode: no test applies, and the reading is the one written, with the temperature that it reads back as.
module _ (settings address : ℕ) (r : Reading) (hs : settings ≤ 15) (ha : address ≤ 999) where
  abbrev n : ℕ
  n = reply_line settings address r

  abbrev of : Sent settings address r n
  of = sent settings address r ha

  level-read : r.level ≤ (mode_in settings).largest → level_of (mode_in settings) n ≡ known r.level
  level-read hl = level-known (mode_in settings) (fit (settings % 4)) n r.level (level-bits settings address r n of).0 hl

  no-fault-in : r.level ≤ (mode_in settings).largest → reply_fault settings address (count_for r) (first_bytes (size_for r) n) ≡ 0
  unfolding first_of
  no-fault-in hl =
      left-to-ask settings address (count_for r) (first_bytes (size_for r) n) n (heard settings address r n of hs ha)
      ∙ rw (level-read hl, le-ltb (mode_in settings).largest r.level hl, heat-sent settings address r n of)

  read_as : r.level ≤ (mode_in settings).largest → reply_of settings address (count_for r) (first_bytes (size_for r) n) ≡ Ok (reading_back settings r)
  unfolding reply_of
  read_as hl = rw (no-fault-in hl, line-sent settings address r n of, level-read hl, heat-sent settings address r n of)
      (ap₂ (λ (a b : Bool). Ok (record { level = r.level; temperature = read_back (is1800 settings) r.temperature; alarm1 = a; alarm0 = b }))
      (ap (λ (x : ℕ). eqb x 1) of.top.alarm1 ∙ mark-1 r.alarm1)
      (ap (λ (x : ℕ). eqb x 1) of.top.alarm0 ∙ mark-1 r.alarm0))

  -- A level above its mode's largest: test 7 is the first that applies.
  level-gone : (mode_in settings).largest < r.level → level_of (mode_in settings) n ≡ lost 1
  level-gone hl = level-lost (settings % 4) n r.level (level-bits settings address r n of).0 hl

  fault-out : (mode_in settings).largest < r.level → reply_fault settings address (count_for r) (first_bytes (size_for r) n) ≡ 7
  unfolding first_of
  fault-out hl = left-to-ask settings address (count_for r) (first_bytes (size_for r) n) n (heard settings address r n of hs ha) ∙ rw (level-gone hl)

  refused_as : (mode_in settings).largest < r.level → reply_of settings address (count_for r) (first_bytes (size_for r) n) ≡ Err (InNoChart 1)
  unfolding reply_of
  refused_as hl = rw (fault-out hl, line-sent settings address r n of, level-gone hl)

-- In range, the temperature that is read back is the one that was written.
same-reading : (settings : ℕ) (r : Reading) (t : Temperature) → t ≡ r.temperature
    → ◌≡◌ {A = Reading} (record { level = r.level; temperature = t; alarm1 = r.alarm1; alarm0 = r.alarm0 }) r
same-reading settings r t e = λ i. record { level = r.level; temperature = e i; alarm1 = r.alarm1; alarm0 = r.alarm0 }

pub written-then-read : WrittenThenRead
written-then-read =
    record {
      reply = λ settings address r can bytes left got h.
          let l = left-first settings address r can.settings_in can.address_in bytes left in
          let same = in-range (is1800 settings) r.temperature can.temperature_in in (
            l.0,
            h.answers ∙ ap (reply_of settings address (count_for r)) l.1
                ∙ read_as settings address r can.settings_in can.address_in can.level_in
                ∙ ap Ok (same-reading settings r (read_back (is1800 settings) r.temperature) same),
          );
      poll = poll-then-read;
    }

pub outside-its-range : OutsideItsRange
outside-its-range =
    record {
      level = λ settings address r hs ha hl bytes left got h.
          h.answers ∙ ap (reply_of settings address (count_for r)) (left-first settings address r hs ha bytes left).1 ∙ refused_as settings address r hs ha hl;
      temperature = λ settings address r hs ha hl bytes left got h.
          h.answers ∙ ap (reply_of settings address (count_for r)) (left-first settings address r hs ha bytes left).1 ∙ read_as settings address r hs ha hl;
    }
