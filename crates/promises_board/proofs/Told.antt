-- What is told of a row is what it holds: a kind and tenths that are told stand for the same temperature, and so do flags and marks.
use mathlib.Core.Path.{◌≡◌, refl, ◌∙◌, ap}
use mathlib.Core.Bool.{Bool, true, false, ◌&&◌}
use Prim.Native.Nat.{ℕ, ◌≤◌}
use native.Mathlib.Omega.{arith}
use borrow.Author.Tests.{ne_eqb}
use lib.Dec.{eqb}
use Rattle.frame.specs.declared.Reading.{Reading}
use Rattle.frame.specs.declared.Temperature.{Temperature}
use Rattle.frame.specs.declared.Temperature.TheVariants.{Degrees, Above, Below, Absent}
use Rattle.frame.specs.Line.{mark}
use Rattle.frame.specs.Pick.{pick}
use Rattle.frame.specs.Kinds.{kind_of, tenths_of, temperature_by, reading_by}
use Rattle.frame.proofs.ToldBack.{reading-back}
use Rattle.board.specs.declared.Looked.{Looked}
use Rattle.board.specs.declared.Row.{Row}
use Rattle.board.specs.Row.{Last, none, good, never, at, heard_of, heard_at, heard_told, kept_as, last_by, last_of, with_reading, with_fault}
use Rattle.board.specs.Calls.{row_told, last_told, minute_told}
use Rattle.promises_board.specs.Calls.{TellsRow}

-- no temperature's kind is 0
a-kind : (t : Temperature) → eqb (kind_of t) 0 ≡ false
a-kind (Degrees d) = refl
a-kind Above = refl
a-kind Below = refl
a-kind Absent = refl

some_back : (r : Reading) (minute : ℕ) → last_by (kind_of r.temperature) (tenths_of r.temperature) r.level (mark r.alarm1) (mark r.alarm0) minute ≡ good r minute
some_back r minute = simp (a-kind, reading-back)

-- a reading kept in numbers comes back
last-back : (last : Last) → let k = kept_as last in last_by k.kind k.tenths k.level k.alarm1 k.alarm0 k.minute ≡ last
last-back none = refl
last-back (good r minute) = some_back r minute

-- the minute that is told is the one that the row holds: its kind is told as 0 just where it is 0
pub kind-zero : (row : Row) → eqb (kept_as (last_of row)).kind 0 ≡ eqb row.kind 0
kind-zero row = go (eqb row.kind 0) refl
  where
    go : (t : Bool) → eqb row.kind 0 ≡ t → eqb (kept_as (pick t none (good (reading_by row.kind row.tenths row.level row.alarm1 row.alarm0) row.minute))).kind 0 ≡ t
    go true e = refl
    go false e = a-kind (temperature_by row.kind row.tenths)

minute-by : (t : Bool) (heard : ℕ) → pick t never (at (pick t 0 heard)) ≡ pick t never (at heard)
minute-by true heard = refl
minute-by false heard = refl

minute-back : (row : Row) → minute_told (row_told row) ≡ heard_of row
minute-back row =
    ap (λ (t : Bool). pick (t && eqb row.fault 0) never (at (heard_told row))) (kind-zero row)
    ∙ minute-by (eqb row.kind 0 && eqb row.fault 0) row.heard

pub tells : (row : Row) (answer : Looked) → answer ≡ row_told row → TellsRow row answer
tells row answer e =
    record {
      number = ap (λ (a : Looked). a.number) e;
      address = ap (λ (a : Looked). a.address) e;
      settings = ap (λ (a : Looked). a.settings) e;
      fault = ap (λ (a : Looked). a.fault) e;
      place = ap (λ (a : Looked). a.place) e;
      faulty = ap (λ (a : Looked). a.faulty) e;
      heard = ap minute_told e ∙ minute-back row;
      reading = ap last_told e ∙ last-back (last_of row);
      gauge = ap (λ (a : Looked). a.gauge) e;
    }

-- a good reading is what the row then holds; a fault keeps what it held
pub reading-held : (row : Row) (r : Reading) (minute : ℕ) → last_of (with_reading row r minute) ≡ good r minute
reading-held row r minute = some_back r minute

pub fault-keeps : (row : Row) (fault place : ℕ) → last_of (with_fault row fault place) ≡ last_of row
fault-keeps row fault place = refl

-- either leaves the minute of the hearing
pub good-minute : (row : Row) (r : Reading) (minute : ℕ) → heard_of (with_reading (heard_at row minute) r minute) ≡ at minute
good-minute row r minute = ap (λ (t : Bool). pick (t && true) never (at minute)) (a-kind r.temperature)

pub fault-minute : (row : Row) (minute fault place : ℕ) → 1 ≤ fault → heard_of (with_fault (heard_at row minute) fault place) ≡ at minute
fault-minute row minute fault place some =
    ap (λ (t : Bool). pick (eqb row.kind 0 && t) never (at minute)) (ne_eqb fault 0 (λ e. omega arith)) ∙ go (eqb row.kind 0)
  where
    go : (t : Bool) → pick (t && false) never (at minute) ≡ at minute
    go true = refl
    go false = refl
