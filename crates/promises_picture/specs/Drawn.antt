-- What is drawn of a pair is what is listed of it. The records stand in the list's order; what a reply reads as is said by document 01.
use Rattle.std.specs.Prelude.{◌≡◌, Bool, false, List, [], ◌∷◌, ◌++◌, ℕ, suc, ◌+◌, ◌-◌, length}
use Rattle.frame.specs.declared.Reading.{Reading}
use Rattle.frame.specs.declared.Temperature.{Temperature}
use Rattle.frame.specs.declared.Temperature.TheVariants.{Degrees, Above, Below, Absent}
use Rattle.frame.specs.Pick.{pick}
use Rattle.frame.specs.Temperature.{is_plus, magnitude}
use Rattle.sheet.specs.Record.{Entry}
use Rattle.sheet.specs.Slots.{list_of}
use Rattle.summary.specs.Worked.{reply_in, entries_of_pair, faults}
use Rattle.listing.specs.Text.{ascii}
use Rattle.forms.specs.Form.{fill}
use Rattle.calendar.specs.declared.counting.Day.{Day}
use Rattle.forms.specs.Days.{moment_text}
use Rattle.forms.specs.Words.{fault_text}
use Rattle.layers.specs.Drawing.{layer_text}
use Rattle.std.specs.Prelude.{Option, Result, Ok, Err}
use Rattle.frame.specs.declared.faults.Fault.{Fault}
use Rattle.frame.specs.Faults.{number_of, place_named}

-- A point: a minute and a level. The point of a good reply; a faulty one has none.
pub record Point : Type 0 where
  pub minute : ℕ
  pub level : ℕ

abbrev pub point_in : ℕ → Result Reading Fault → List Point
point_in m (Ok r) = record { minute = m; level = r.level } ∷ []
point_in m (Err f) = []

-- That of a temperature stands 8000 higher than its tenths of a degree. One off the scale has none, and a reply without a temperature has none.
abbrev pub heat_at : ℕ → Temperature → List Point
heat_at m (Degrees d) = record { minute = m; level = pick (is_plus d) (8000 + magnitude d) (8000 - magnitude d) } ∷ []
heat_at m Above = []
heat_at m Below = []
heat_at m Absent = []

abbrev pub heat_in : ℕ → Result Reading Fault → List Point
heat_in m (Ok r) = heat_at m r.temperature
heat_in m (Err f) = []

-- The points of some records, in their order.
unfoldable pub points_by : (ℕ → Result Reading Fault → List Point) → List Entry → List Point
points_by at [] = []
points_by at (e ∷ l) = at e.minute (reply_in e) ++ points_by at l

-- The same points in runs: a record without a point ends one run and begins the next.
abbrev pub onto : Point → List (List Point) → List (List Point)
onto p [] = (p ∷ []) ∷ []
onto p (run ∷ runs) = (p ∷ run) ∷ runs

abbrev pub parted : List Point → List (List Point) → List (List Point)
parted [] runs = [] ∷ runs
parted (p ∷ ps) runs = onto p runs

unfoldable pub runs_by : (ℕ → Result Reading Fault → List Point) → List Entry → List (List Point)
runs_by at [] = [] ∷ []
runs_by at (e ∷ l) = parted (at e.minute (reply_in e)) (runs_by at l)

-- A run is drawn as one line: it begins at its first point and goes on to each of the others. A run of no point is not drawn.
unfoldable pub on_to : List Point → List ℕ
on_to [] = []
on_to (p ∷ run) = fill (ascii "L~,~") (p.minute ∷ p.level ∷ []) ++ on_to run

unfoldable pub line_text : List Point → List ℕ
unfolding on_to
line_text [] = []
line_text (p ∷ run) = fill (ascii "M~,~h0") (p.minute ∷ p.level ∷ []) ++ on_to run

unfoldable pub lines_text : List (List Point) → List ℕ
unfolding line_text
lines_text [] = []
lines_text (run ∷ runs) = line_text run ++ lines_text runs

-- All points of some runs, one run after another.
unfoldable pub all_points : List (List Point) → List Point
all_points [] = []
all_points (run ∷ runs) = run ++ all_points runs

-- The mark of a faulty reply stands at its minute, and says when it was and what its fault is.
unfoldable pub faulty_mark_text : Option Day → ℕ → ℕ → ℕ → List ℕ
faulty_mark_text begin m n place =
    fill (ascii "<path d='M~,0v1'><title>") (m ∷ []) ++ moment_text begin m ++ ascii ": " ++ fault_text n place ++ ascii "</title></path>"

abbrev pub mark_in : Option Day → ℕ → Result Reading Fault → List (List ℕ)
mark_in begin m (Ok r) = []
mark_in begin m (Err f) = faulty_mark_text begin m (number_of f) (place_named f) ∷ []

unfoldable pub faulty_marks : Option Day → List Entry → List (List ℕ)
unfolding faulty_mark_text
faulty_marks begin [] = []
faulty_marks begin (e ∷ l) = mark_in begin e.minute (reply_in e) ++ faulty_marks begin l

unfoldable pub joined : List (List ℕ) → List ℕ
joined [] = []
joined (t ∷ ts) = t ++ joined ts

-- The alarms of good replies: each that is on is one mark at its minute.
abbrev pub alarm_in : (Reading → Bool) → ℕ → Result Reading Fault → List (List ℕ)
alarm_in which m (Ok r) = pick (which r) (fill (ascii "<path d='M~,0h1'/>") (m ∷ []) ∷ []) []
alarm_in which m (Err f) = []

unfoldable pub alarms : (Reading → Bool) → List Entry → List (List ℕ)
alarms which [] = []
alarms which (e ∷ l) = alarm_in which e.minute (reply_in e) ++ alarms which l

-- Of every sheet, every pair and every day of minute 0: the line of levels is the runs of the pair's records and nothing else; their points are those of the
-- good replies, each once and in order; there is a break for each faulty reply; the line of temperatures is drawn likewise, broken where there is none; the
-- marks are one for each faulty reply and nothing else; and those of an alarm are one for each good reply that has it, and nothing else.
pub record DrawnAsListed : Type 0 where
  pub line : (b : Option Day) (s : List ℕ) (pair : ℕ) → layer_text b 0 false (entries_of_pair pair (list_of s)) ≡ lines_text (runs_by point_in (entries_of_pair pair (list_of s)))
  pub just : (s : List ℕ) (pair : ℕ) → all_points (runs_by point_in (entries_of_pair pair (list_of s))) ≡ points_by point_in (entries_of_pair pair (list_of s))
  pub breaks : (s : List ℕ) (pair : ℕ) → length (runs_by point_in (entries_of_pair pair (list_of s))) ≡ suc (faults (entries_of_pair pair (list_of s)))
  pub heat : (b : Option Day) (s : List ℕ) (pair : ℕ) → layer_text b 1 false (entries_of_pair pair (list_of s)) ≡ lines_text (runs_by heat_in (entries_of_pair pair (list_of s)))
  pub just_heat : (s : List ℕ) (pair : ℕ) → all_points (runs_by heat_in (entries_of_pair pair (list_of s))) ≡ points_by heat_in (entries_of_pair pair (list_of s))
  pub faulty : (b : Option Day) (s : List ℕ) (pair : ℕ) → layer_text b 2 false (entries_of_pair pair (list_of s)) ≡ joined (faulty_marks b (entries_of_pair pair (list_of s)))
  pub each : (b : Option Day) (s : List ℕ) (pair : ℕ) → length (faulty_marks b (entries_of_pair pair (list_of s))) ≡ faults (entries_of_pair pair (list_of s))
  pub alarm1 : (b : Option Day) (s : List ℕ) (pair : ℕ) → layer_text b 3 false (entries_of_pair pair (list_of s)) ≡ joined (alarms (λ r. r.alarm1) (entries_of_pair pair (list_of s)))
  pub alarm0 : (b : Option Day) (s : List ℕ) (pair : ℕ) → layer_text b 4 false (entries_of_pair pair (list_of s)) ≡ joined (alarms (λ r. r.alarm0) (entries_of_pair pair (list_of s)))
