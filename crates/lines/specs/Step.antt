-- Document 02, request 01: what one sample does.
use Rattle.std.specs.Prelude.{Bool, ◌&&◌, ℕ, ◌+◌, min, eqb, leb, ltb}
use Rattle.frame.specs.Pick.{pick, within}
use Rattle.frame.specs.Line as frame
use Rattle.lines.specs.declared.SoFar.{SoFar}
use Rattle.lines.specs.Sample.{Sample, idle, mark, space, both, foreign}
use Rattle.lines.specs.Timing.{Timing, too_long}
use Rattle.lines.specs.SoFar.{so_far, spoilt_by, is_open}

-- The pulse that an idle sample ends is one bit more: 1 where the mark line was low, 0 where the space line was.
unfoldable pub with_bit : SoFar → SoFar
with_bit s = so_far (s.bits + frame.put (frame.mark (eqb s.line 1)) (s.count + 1)) 1 (s.count + 1) 0 0

-- A run of marks or spaces with idle before and after is a bit where its length is between least and most; any other length spoils the message, and so
-- does a 65th bit.
unfoldable pub run_ended : (least most : ℕ) → SoFar → SoFar
run_ended least most s = pick (within least most s.run && ltb s.count 64) (with_bit s) (spoilt_by 21 1)

-- One sample more of the idle run after what is open. Where nothing is open nothing is counted.
unfoldable pub longer_idle : SoFar → SoFar
longer_idle s = pick (is_open s) (so_far s.bits (s.run + 1) s.count 0 s.fault) s

-- Idle ends a run of marks or spaces, or goes on.
unfoldable pub after_idle : (least most : ℕ) → SoFar → SoFar
after_idle least most s = pick (eqb s.line 0) (longer_idle s) (run_ended least most s)

-- One line low: it begins a run after idle, or goes on with it; a run that changes line without idle spoils the message. A spoiled one has no idle now.
unfoldable pub after_low : ℕ → SoFar → SoFar
after_low line s =
    pick (eqb s.fault 0)
    (pick (eqb s.line 0) (so_far s.bits 1 s.count line 0)
    (pick (eqb s.line line) (so_far s.bits (min (s.run + 1) too_long) s.count line 0) (spoilt_by 21 0)))
    (spoilt_by s.fault 0)

-- Both lines low spoil the message: 21, but 22 where a byte above 3 has come.
unfoldable pub after_both : ℕ → SoFar → SoFar
after_both number s = spoilt_by (pick (eqb s.fault 22) 22 number) 0

abbrev pub after : Timing → SoFar → Sample → SoFar
after t s idle = after_idle t.least t.most s
after t s mark = after_low 1 s
after t s space = after_low 2 s
after t s both = after_both 21 s
after t s foreign = after_both 22 s

-- An idle run of the gap's length closes what is open.
abbrev pub closes : Timing → SoFar → Bool
closes t s = eqb s.line 0 && leb t.gap s.run
