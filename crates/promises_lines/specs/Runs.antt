-- Runs: the paper's own words, apart from how a sample is heard. Samples are runs of one kind; idle runs of the gap's length part the messages; and what
-- stands between two of them is a message, or spoiled.
use Rattle.std.specs.Prelude.{◌≡◌, Bool, true, false, ◌&&◌, ◌||◌, List, [], ◌∷◌, ◌++◌, map, ℕ, ◌≤◌, leb, length, replicate}
use Rattle.frame.specs.Pick.{pick, within}
use Rattle.lines.specs.declared.SoFar.{SoFar}
use Rattle.lines.specs.Sample.{Sample, idle, mark, space, both, foreign, sample_of}
use Rattle.lines.specs.Timing.{Timing, bad_timing}
use Rattle.lines.specs.SoFar.{rest_state}
use Rattle.promises_lines.specs.History.{Said, History}

pub record Run : Type 0 where
  pub kind : Sample
  pub size : ℕ

-- The samples of runs, one run after another.
unfoldable pub spelled : List Run → List Sample
spelled [] = []
spelled (r ∷ rs) = replicate r.size r.kind ++ spelled rs

-- Every run has a sample, and the next one is of another kind.
abbrev pub Apart : Run → List Run → Type 0
Apart r [] = 1 ≤ r.size
Apart r (q ∷ rs) = (1 ≤ r.size) × (r.kind ≡ q.kind → ⊥)

abbrev pub InRuns : List Run → Type 0
InRuns [] = 0 ≤ 0
InRuns (r ∷ rs) = Apart r rs × InRuns rs

abbrev pub is_idle : Sample → Bool
is_idle idle = true
is_idle mark = false
is_idle space = false
is_idle both = false
is_idle foreign = false

-- The runs since the last gap, the latest first. Idle stands before the first of them: a gap, or the time before the first sample.
abbrev pub idle_last : List Run → Bool
idle_last [] = true
idle_last (r ∷ before) = is_idle r.kind

-- A pulse is a run of marks or of spaces with idle before it, its length between least and most. As the same is asked of the run after it, that one is idle.
abbrev pub pulse_or_idle : Timing → Sample → ℕ → List Run → Bool
pulse_or_idle t idle size before = true
pulse_or_idle t mark size before = idle_last before && within t.least t.most size
pulse_or_idle t space size before = idle_last before && within t.least t.most size
pulse_or_idle t both size before = false
pulse_or_idle t foreign size before = false

unfoldable pub all_pulses : Timing → List Run → Bool
all_pulses t [] = true
all_pulses t (r ∷ before) = all_pulses t before && pulse_or_idle t r.kind r.size before

-- The bits of pulses: a mark is 1, a space 0.
abbrev pub bit_of : Sample → List ℕ
bit_of idle = []
bit_of mark = 1 ∷ []
bit_of space = 0 ∷ []
bit_of both = []
bit_of foreign = []

unfoldable pub bits_in : List Run → List ℕ
bits_in [] = []
bits_in (r ∷ before) = bits_in before ++ bit_of r.kind

unfoldable pub all_idle : List Run → Bool
all_idle [] = true
all_idle (r ∷ before) = all_idle before && is_idle r.kind

-- A byte above 3 came.
abbrev pub is_foreign : Sample → Bool
is_foreign idle = false
is_foreign mark = false
is_foreign space = false
is_foreign both = false
is_foreign foreign = true

unfoldable pub foreign_in : List Run → Bool
foreign_in [] = false
foreign_in (r ∷ before) = foreign_in before || is_foreign r.kind

-- A message has pulses alone, at most 64.
unfoldable pub unspoiled : Timing → List Run → Bool
unspoiled t before = all_pulses t before && leb (length (bits_in before)) 64

-- What the next gap tells: nothing where all was idle, the bits, or once the number of the spoiled message.
unfoldable pub at_gap : Timing → List Run → List Said
at_gap t before =
    pick (all_idle before) []
    (pick (unspoiled t before) (record { number = 0; bits = bits_in before } ∷ [])
    (record { number = pick (foreign_in before) 22 21; bits = [] } ∷ []))

abbrev pub is_gap : Timing → Run → Bool
is_gap t r = is_idle r.kind && leb t.gap r.size

-- What runs tell. The last of them may go on, and tell nothing yet.
unfoldable pub by_runs : Timing → List Run → List Run → List Said
by_runs t before [] = []
by_runs t before (r ∷ rs) = pick (is_gap t r) (at_gap t before ++ by_runs t [] rs) (by_runs t (r ∷ before) rs)

-- Samples as runs.
pub record Grouped (samples : List ℕ) : Type 0 where
  pub runs : List Run
  pub apart : InRuns runs
  pub spells : map sample_of samples ≡ spelled runs

-- Any samples are runs, and what a history from the beginning told is what the runs of its samples tell.
pub record Runs : Type 0 where
  pub grouped : (samples : List ℕ) → Grouped samples
  pub told : (t : Timing) → bad_timing t ≡ false → (runs : List Run) → InRuns runs
      → (samples : List ℕ) → map sample_of samples ≡ spelled runs
      → (told : List Said) (end : SoFar) → History t rest_state samples told end
      → told ≡ by_runs t [] runs
