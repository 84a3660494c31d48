-- What is drawn is what is listed: each part by induction over any records, by what their replies read as; a line that goes on is drawn without the first
-- point's beginning. Assumes nothing.
use mathlib.Core.Path.{◌≡◌, refl, sym, ap, ◌∙◌}
use mathlib.Core.Bool.{Bool, true, false}
use mathlib.Core.List.{List, [], ◌∷◌, ◌++◌, append_assoc}
use Prim.Native.Nat.{ℕ, suc, ◌+◌, ◌≤◌}
use native.Mathlib.Omega.{arith}
use lib.ListN.{length}
use Rattle.std.specs.Option.{is_some}
use Rattle.frame.specs.declared.Reading.{Reading}
use Rattle.frame.specs.declared.Temperature.{Temperature}
use Rattle.frame.specs.declared.Temperature.TheVariants.{Degrees, Above, Below, Absent}
use Rattle.frame.specs.Pick.{pick}
use Rattle.sheet.specs.Record.{Entry}
use Rattle.sheet.specs.Slots.{list_of}
use Rattle.summary.specs.Worked.{reply_in, entries_of_pair, fault_in, faults}
use Rattle.listing.specs.Text.{ascii}
use Rattle.forms.specs.Form.{fill, first, others, choice}
use Rattle.calendar.specs.declared.counting.Day.{Day}
use Rattle.forms.specs.Days.{moment_text}
use Rattle.forms.specs.Words.{fault_text}
use Rattle.layers.specs.Drawing as drawing
use Rattle.layers.specs.Drawing.{nothing, stands, heat_value, value_in, point_text, alarm_mark, fault_mark, part_text, line_goes_on, layer_text}
use Rattle.promises_picture.proofs.EachFault as each
use Rattle.promises_picture.specs.Drawn.{Point, point_in, heat_at, heat_in, points_by, onto, parted, runs_by, on_to, line_text, lines_text, all_points, faulty_mark_text, mark_in, faulty_marks, joined, alarm_in, alarms, DrawnAsListed}
use Rattle.std.specs.Prelude.{Option, Result, Ok, Err}
use Rattle.frame.specs.declared.faults.Fault.{Fault}
use Rattle.frame.specs.Faults.{number_of, place_named}

-- the runs after the first, and the first; a line that is not begun yet, and one that goes on
abbrev first_run : List (List Point) → List Point
first_run [] = []
first_run (run ∷ runs) = run

abbrev later_runs : List (List Point) → List (List Point)
later_runs [] = []
later_runs (run ∷ runs) = runs

begun : Bool → List (List Point) → List ℕ
begun true runs = on_to (first_run runs) ++ lines_text (later_runs runs)
begun false runs = lines_text runs

-- a record at the front, with a point and without
point-step : (j : Bool) (m y : ℕ) (runs : List (List Point)) → point_text j m (stands y) ++ begun true runs ≡ begun j (onto (record { minute = m; level = y }) runs)
unfolding point_text choice first others begun on_to line_text lines_text
point-step true m y [] = sym (append_assoc (fill (ascii "L~,~") (m ∷ y ∷ [])) (on_to []) (lines_text []))
point-step true m y (run ∷ runs) = sym (append_assoc (fill (ascii "L~,~") (m ∷ y ∷ [])) (on_to run) (lines_text runs))
point-step false m y [] = sym (append_assoc (fill (ascii "M~,~h0") (m ∷ y ∷ [])) (on_to []) (lines_text []))
point-step false m y (run ∷ runs) = sym (append_assoc (fill (ascii "M~,~h0") (m ∷ y ∷ [])) (on_to run) (lines_text runs))

gap_step : (j : Bool) (m : ℕ) (runs : List (List Point)) → point_text j m nothing ++ begun false runs ≡ begun j ([] ∷ runs)
unfolding point_text begun on_to line_text lines_text
gap_step true m runs = refl
gap_step false m runs = refl

-- by what its reply reads as
line_step : (j : Bool) (m : ℕ) (reply : Result Reading Fault) (runs : List (List Point)) → point_text j m (value_in 0 reply) ++ begun (is_some (value_in 0 reply)) runs ≡ begun j (parted (point_in m reply) runs)
line_step j m (Ok r) runs = point-step j m r.level runs
line_step j m (Err f) runs = gap_step j m runs

degree-step : (j : Bool) (m : ℕ) (t : Temperature) (runs : List (List Point)) → point_text j m (heat_value t) ++ begun (is_some (heat_value t)) runs ≡ begun j (parted (heat_at m t) runs)
degree-step j m (Degrees d) runs = point-step j m _ runs
degree-step j m Above runs = gap_step j m runs
degree-step j m Below runs = gap_step j m runs
degree-step j m Absent runs = gap_step j m runs

heat-step : (j : Bool) (m : ℕ) (reply : Result Reading Fault) (runs : List (List Point)) → point_text j m (value_in 1 reply) ++ begun (is_some (value_in 1 reply)) runs ≡ begun j (parted (heat_in m reply) runs)
heat-step j m (Ok r) runs = degree-step j m r.temperature runs
heat-step j m (Err f) runs = gap_step j m runs

module _ (b : Option Day) where
  opened : (j : Bool) (e : Entry) (l : List Entry) → layer_text b 0 j (e ∷ l) ≡ point_text j e.minute (value_in 0 (reply_in e)) ++ layer_text b 0 (is_some (value_in 0 (reply_in e))) l
  unfolding layer_text part_text line_goes_on
  opened j e l = refl

  opened-heat : (j : Bool) (e : Entry) (l : List Entry) → layer_text b 1 j (e ∷ l) ≡ point_text j e.minute (value_in 1 (reply_in e)) ++ layer_text b 1 (is_some (value_in 1 (reply_in e))) l
  unfolding layer_text part_text line_goes_on
  opened-heat j e l = refl

  line-of : (j : Bool) (l : List Entry) → layer_text b 0 j l ≡ begun j (runs_by point_in l)
  line-of true [] = unfold layer_text in unfold runs_by in unfold begun in unfold on_to in unfold lines_text in refl
  line-of false [] = unfold layer_text in unfold runs_by in unfold begun in unfold line_text in unfold lines_text in refl
  line-of j (e ∷ l) =
      opened j e l
      ∙ ap (λ (t : List ℕ). point_text j e.minute (value_in 0 (reply_in e)) ++ t) (line-of (is_some (value_in 0 (reply_in e))) l)
      ∙ line_step j e.minute (reply_in e) (runs_by point_in l) ∙ ap (begun j) (unfold runs_by in refl)

  heat-of : (j : Bool) (l : List Entry) → layer_text b 1 j l ≡ begun j (runs_by heat_in l)
  heat-of true [] = unfold layer_text in unfold runs_by in unfold begun in unfold on_to in unfold lines_text in refl
  heat-of false [] = unfold layer_text in unfold runs_by in unfold begun in unfold line_text in unfold lines_text in refl
  heat-of j (e ∷ l) =
      opened-heat j e l
      ∙ ap (λ (t : List ℕ). point_text j e.minute (value_in 1 (reply_in e)) ++ t) (heat-of (is_some (value_in 1 (reply_in e))) l)
      ∙ heat-step j e.minute (reply_in e) (runs_by heat_in l) ∙ ap (begun j) (unfold runs_by in refl)

  pub whole-line : (l : List Entry) → layer_text b 0 false l ≡ lines_text (runs_by point_in l)
  whole-line l = line-of false l ∙ unfold begun in refl

  pub whole-heat : (l : List Entry) → layer_text b 1 false l ≡ lines_text (runs_by heat_in l)
  whole-heat l = heat-of false l ∙ unfold begun in refl

-- the points of the runs; no record has more than one
abbrev OneAtMost : List Point → Type 0
OneAtMost ps = length ps ≤ 1

together-step : (ps : List Point) (runs : List (List Point)) → OneAtMost ps → all_points (parted ps runs) ≡ ps ++ all_points runs
unfolding all_points
together-step [] runs h = refl
together-step (p ∷ []) [] h = refl
together-step (p ∷ []) (run ∷ runs) h = refl
together-step (p ∷ o ∷ ps) runs h = absurd (omega arith)

one-point : (m : ℕ) (reply : Result Reading Fault) → OneAtMost (point_in m reply)
one-point m (Ok r) = omega arith
one-point m (Err f) = omega arith

one-degree : (m : ℕ) (t : Temperature) → OneAtMost (heat_at m t)
one-degree m (Degrees d) = omega arith
one-degree m Above = omega arith
one-degree m Below = omega arith
one-degree m Absent = omega arith

one-heat : (m : ℕ) (reply : Result Reading Fault) → OneAtMost (heat_in m reply)
one-heat m (Ok r) = one-degree m r.temperature
one-heat m (Err f) = omega arith

points-of : (at : ℕ → Result Reading Fault → List Point) → ((m : ℕ) (reply : Result Reading Fault) → OneAtMost (at m reply)) → (l : List Entry) → all_points (runs_by at l) ≡ points_by at l
unfolding runs_by points_by all_points
points-of at one [] = refl
points-of at one (e ∷ l) =
    together-step (at e.minute (reply_in e)) (runs_by at l) (one e.minute (reply_in e))
    ∙ ap (λ (ps : List Point). at e.minute (reply_in e) ++ ps) (points-of at one l)

-- a break for each faulty reply
longer : (m : ℕ) (reply : Result Reading Fault) (runs : List (List Point)) (n : ℕ) → length runs ≡ suc n → length (parted (point_in m reply) runs) ≡ suc (fault_in reply + n)
longer m (Ok r) [] n h = absurd (omega arith)
longer m (Ok r) (run ∷ runs) n h = omega arith
longer m (Err f) runs n h = omega arith

breaks-of : (l : List Entry) → length (runs_by point_in l) ≡ suc (faults l)
unfolding runs_by faults
breaks-of [] = refl
breaks-of (e ∷ l) = longer e.minute (reply_in e) (runs_by point_in l) (faults l) (breaks-of l)

-- the marks
plain : fill (ascii "</title></path>") [] ≡ ascii "</title></path>"
unfolding fill
plain = refl

fault-mark : (b : Option Day) (m n place : ℕ) → fault_mark b 2 m n place ≡ faulty_mark_text b m n place
unfolding fault_mark faulty_mark_text choice first others
fault-mark b m n place =
    ap (λ (t : List ℕ). fill (ascii "<path d='M~,0v1'><title>") (m ∷ []) ++ moment_text b m ++ ascii ": " ++ fault_text n place ++ t) plain

no-mark : (m : ℕ) (r : Reading) → alarm_mark 2 m r ≡ []
unfolding alarm_mark
no-mark m r = refl

mark-step : (b : Option Day) (m : ℕ) (reply : Result Reading Fault) (ts : List (List ℕ)) → drawing.mark_text b 2 m reply ++ joined ts ≡ joined (mark_in b m reply ++ ts)
unfolding joined
mark-step b m (Ok r) ts = ap (λ (t : List ℕ). t ++ joined ts) (no-mark m r)
mark-step b m (Err f) ts =
    ap (λ (t : List ℕ). t ++ joined ts) (fault-mark b m (number_of f) (place_named f)) ∙ ap (λ (s : List (List ℕ)). joined (s ++ ts)) (sym (each.mark-of b m f))

marks-opened : (b : Option Day) (j : Bool) (e : Entry) (l : List Entry) → layer_text b 2 j (e ∷ l) ≡ drawing.mark_text b 2 e.minute (reply_in e) ++ layer_text b 2 false l
unfolding layer_text part_text line_goes_on
marks-opened b j e l = refl

pub marks-of : (b : Option Day) (j : Bool) (l : List Entry) → layer_text b 2 j l ≡ joined (faulty_marks b l)
marks-of b j [] = unfold layer_text in unfold faulty_marks in unfold joined in refl
marks-of b j (e ∷ l) =
    marks-opened b j e l ∙ ap (λ (t : List ℕ). drawing.mark_text b 2 e.minute (reply_in e) ++ t) (marks-of b false l)
    ∙ mark-step b e.minute (reply_in e) (faulty_marks b l) ∙ ap joined (unfold faulty_marks in refl)

each_step : (b : Option Day) (m : ℕ) (reply : Result Reading Fault) (ts : List (List ℕ)) → length (mark_in b m reply ++ ts) ≡ fault_in reply + length ts
each_step b m (Ok r) ts = omega arith
each_step b m (Err f) ts = ap (λ (s : List (List ℕ)). length (s ++ ts)) (each.mark-of b m f) ∙ omega arith

each_of : (b : Option Day) (l : List Entry) → length (faulty_marks b l) ≡ faults l
unfolding faulty_marks faults
each_of b [] = refl
each_of b (e ∷ l) = each_step b e.minute (reply_in e) (faulty_marks b l) ∙ ap (λ (n : ℕ). fault_in (reply_in e) + n) (each_of b l)

-- the alarms, on either layer
one_of : (b : Bool) (t : List ℕ) (ts : List (List ℕ)) → pick b t [] ++ joined ts ≡ joined (pick b (t ∷ []) [] ++ ts)
unfolding joined
one_of true t ts = refl
one_of false t ts = refl

alarm1-step : (b : Option Day) (m : ℕ) (reply : Result Reading Fault) (ts : List (List ℕ)) → drawing.mark_text b 3 m reply ++ joined ts ≡ joined (alarm_in (λ r. r.alarm1) m reply ++ ts)
unfolding alarm_mark fault_mark
alarm1-step b m (Ok r) ts = one_of r.alarm1 (fill (ascii "<path d='M~,0h1'/>") (m ∷ [])) ts
alarm1-step b m (Err f) ts = refl

alarm0-step : (b : Option Day) (m : ℕ) (reply : Result Reading Fault) (ts : List (List ℕ)) → drawing.mark_text b 4 m reply ++ joined ts ≡ joined (alarm_in (λ r. r.alarm0) m reply ++ ts)
unfolding alarm_mark fault_mark
alarm0-step b m (Ok r) ts = one_of r.alarm0 (fill (ascii "<path d='M~,0h1'/>") (m ∷ [])) ts
alarm0-step b m (Err f) ts = refl

alarms-opened : (which : Reading → Bool) (e : Entry) (l : List Entry) → alarm_in which e.minute (reply_in e) ++ alarms which l ≡ alarms which (e ∷ l)
unfolding alarms
alarms-opened which e l = refl

layer3-opened : (b : Option Day) (j : Bool) (e : Entry) (l : List Entry) → layer_text b 3 j (e ∷ l) ≡ drawing.mark_text b 3 e.minute (reply_in e) ++ layer_text b 3 false l
unfolding layer_text part_text line_goes_on
layer3-opened b j e l = refl

layer4-opened : (b : Option Day) (j : Bool) (e : Entry) (l : List Entry) → layer_text b 4 j (e ∷ l) ≡ drawing.mark_text b 4 e.minute (reply_in e) ++ layer_text b 4 false l
unfolding layer_text part_text line_goes_on
layer4-opened b j e l = refl

pub alarm1-of : (b : Option Day) (j : Bool) (l : List Entry) → layer_text b 3 j l ≡ joined (alarms (λ r. r.alarm1) l)
alarm1-of b j [] = unfold layer_text in unfold alarms in unfold joined in refl
alarm1-of b j (e ∷ l) =
    layer3-opened b j e l ∙ ap (λ (t : List ℕ). drawing.mark_text b 3 e.minute (reply_in e) ++ t) (alarm1-of b false l)
    ∙ alarm1-step b e.minute (reply_in e) (alarms (λ r. r.alarm1) l)
    ∙ ap joined (alarms-opened (λ r. r.alarm1) e l)

pub alarm0-of : (b : Option Day) (j : Bool) (l : List Entry) → layer_text b 4 j l ≡ joined (alarms (λ r. r.alarm0) l)
alarm0-of b j [] = unfold layer_text in unfold alarms in unfold joined in refl
alarm0-of b j (e ∷ l) =
    layer4-opened b j e l ∙ ap (λ (t : List ℕ). drawing.mark_text b 4 e.minute (reply_in e) ++ t) (alarm0-of b false l)
    ∙ alarm0-step b e.minute (reply_in e) (alarms (λ r. r.alarm0) l)
    ∙ ap joined (alarms-opened (λ r. r.alarm0) e l)

pub drawn-as-listed : DrawnAsListed
drawn-as-listed =
    record {
      line = λ b s pair. whole-line b (entries_of_pair pair (list_of s));
      just = λ s pair. points-of point_in one-point (entries_of_pair pair (list_of s));
      breaks = λ s pair. breaks-of (entries_of_pair pair (list_of s));
      heat = λ b s pair. whole-heat b (entries_of_pair pair (list_of s));
      just_heat = λ s pair. points-of heat_in one-heat (entries_of_pair pair (list_of s));
      faulty = λ b s pair. marks-of b false (entries_of_pair pair (list_of s));
      each = λ b s pair. each_of b (entries_of_pair pair (list_of s));
      alarm1 = λ b s pair. alarm1-of b false (entries_of_pair pair (list_of s));
      alarm0 = λ b s pair. alarm0-of b false (entries_of_pair pair (list_of s));
    }
