-- No word of the page has a "<" in it: each is a form with numbers, and forms and digits have none. Assumes nothing.
use mathlib.Core.Path.{◌≡◌, refl}
use mathlib.Core.Bool.{Bool, true}
use mathlib.Core.List.{List, [], ◌∷◌, ◌++◌}
use Prim.Native.Nat.{ℕ, zero, suc, ◌-◌, ◌/◌, ◌%◌}
use native.Mathlib.Omega.{arith}
use lib.Dec.{eqb, ltb}
use lib.ListN.{get_or}
use Rattle.std.specs.Prelude.{Option, None, Some}
use Rattle.frame.specs.Pick.{pick}
use Rattle.summary.specs.Line.{no_level}
use Rattle.listing.specs.Text.{ascii, in_decimal}
use Rattle.putting.specs.Digit.{digit}
use Rattle.calendar.specs.declared.counting.Day.{Day}
use Rattle.calendar.specs.Days.{days_from}
use Rattle.forms.specs.Form.{fill, choice}
use Rattle.forms.specs.Days.{two_digits, year_text, month_day_text, date_text, day_text, moment_text}
use Rattle.forms.specs.Words.{level_text, degrees_text, mode_text, type_text, fault_text}
use Rattle.layers.specs.declared.gauge.Gauged.{Gauged}
use Rattle.picture.specs.Page.{bound_text, last_text, heat_text, off_text, kind_text, kinds_text}
use Rattle.promises_picture.specs.Drawn.{Point, on_to, line_text, lines_text}
use Rattle.promises_picture.specs.Reader.{plain}
use Rattle.promises_picture.proofs.Read.{plain-both, plain-pick, plain-none, plain-digit, plain-decimal, plain-fill, plain-choice}

pub record Plain (t : List ℕ) : Type 0 where
  pub is : plain t ≡ true

pub join : {a b : List ℕ} → Plain a → Plain b → Plain (a ++ b)
join {a} {b} p q = record { is = plain-both a b p.is q.is }

pub either : {a b : List ℕ} (t : Bool) → Plain a → Plain b → Plain (pick t a b)
either {a} {b} t p q = record { is = plain-pick t a b p.is q.is }

pub none : Plain []
none = record { is = plain-none }

pub number : (n : ℕ) → Plain (in_decimal n)
number n = record { is = plain-decimal n }

pub filled : (form ns : List ℕ) → plain form ≡ true → Plain (fill form ns)
filled form ns h = record { is = plain-fill form ns h }

pub chosen : (n : ℕ) (forms ns : List ℕ) → plain forms ≡ true → Plain (fill (choice n forms) ns)
chosen n forms ns h = record { is = plain-fill (choice n forms) ns (plain-choice n forms h) }

two : (n : ℕ) → Plain (two_digits n)
unfolding two_digits
two n =
    record { is = plain-both (digit (n / 10 % 10) ∷ []) (digit (n % 10) ∷ []) (plain-digit (n / 10 % 10) (omega arith)) (plain-digit (n % 10) (omega arith)) }

dash : Plain (ascii "-")
unfolding plain
dash = record { is = refl }

comma : Plain (ascii ", ")
unfolding plain
comma = record { is = refl }

colon : Plain (ascii ":")
unfolding plain
colon = record { is = refl }

said-none : Plain (ascii "none")
unfolding plain
said-none = record { is = refl }

to : Plain (ascii " to ")
unfolding plain
to = record { is = refl }

pub a-year : (y : ℕ) → Plain (year_text y)
unfolding year_text
a-year y = either (ltb y 10000) (join (two (y / 100)) (two (y % 100))) (number y)

pub a-month-day : (d : Day) → Plain (month_day_text d)
unfolding month_day_text
a-month-day d = join (join (two d.month) dash) (two d.day)

a-date : (d : Day) → Plain (date_text d)
unfolding date_text
a-date d = join (join (a-year d.year) dash) (a-month-day d)

day-form : plain (ascii "day ~") ≡ true
unfolding plain
day-form = refl

a-day : (begin : Option Day) (n : ℕ) → Plain (day_text begin n)
unfolding day_text
a-day None n = filled (ascii "day ~") (n ∷ []) day-form
a-day (Some d) n = a-date (days_from d n)

pub a-moment : (begin : Option Day) (m : ℕ) → Plain (moment_text begin m)
unfolding moment_text
a-moment begin m = join (join (join (join (a-day begin (m / 1440)) comma) (two (m / 60 % 24))) colon) (two (m % 60))

sixteenths : plain (ascii "~ ft ~ ~/16 in") ≡ true
unfolding plain
sixteenths = refl

hundredths : plain (ascii "~.~~ ft") ≡ true
unfolding plain
hundredths = refl

millimetres : plain (ascii "~.~~~ m") ≡ true
unfolding plain
millimetres = refl

pub a-level : (settings n : ℕ) → Plain (level_text settings n)
unfolding level_text
a-level settings n =
    either
    (eqb (settings % 4) 0)
    (filled (ascii "~ ft ~ ~/16 in") _ sixteenths)
    (either (eqb (settings % 4) 1) (filled (ascii "~.~~ ft") _ hundredths) (filled (ascii "~.~~~ m") _ millimetres))

below : plain (ascii "-~.~ &#176;") ≡ true
unfolding plain
below = refl

above : plain (ascii "~.~ &#176;") ≡ true
unfolding plain
above = refl

pub degrees : (n : ℕ) → Plain (degrees_text n)
unfolding degrees_text
degrees n = either (ltb n 8000) (filled (ascii "-~.~ &#176;") _ below) (filled (ascii "~.~ &#176;") _ above)

modes : plain (ascii "fractional, 1/16 inch|decimal, 1/100 foot|20 m, millimetres|30 m, millimetres") ≡ true
unfolding plain
modes = refl

pub a-mode : (settings : ℕ) → Plain (mode_text settings)
unfolding mode_text
a-mode settings = chosen (settings % 4) _ [] modes

types : plain (ascii "type 1900, even parity|type 1800, even parity|type 1900, odd parity|type 1800, odd parity") ≡ true
unfolding plain
types = refl

pub a-type : (settings : ℕ) → Plain (type_text settings)
unfolding type_text
a-type settings = chosen (settings / 4 % 4) _ [] types

kinds : plain (ascii "no fault|no reply|wrong length|no start bit|wrong address|wrong parity|fill bit set|unreadable digit ~|level out of range|unreadable temperature") ≡ true
unfolding plain
kinds = refl

pub a-fault : (n place : ℕ) → Plain (fault_text n place)
unfolding fault_text
a-fault n place = chosen n _ (place ∷ []) kinds

-- the words of a section's table
pub a-bound : (settings n : ℕ) → Plain (bound_text settings n)
unfolding bound_text
a-bound settings n = either (eqb n no_level) said-none (a-level settings n)

pub a-last : (begin : Option Day) (settings : ℕ) (g : Gauged) → Plain (last_text begin settings g)
unfolding last_text
a-last begin settings g = either (eqb g.last no_level) said-none (join (join (a-level settings g.last) comma) (a-moment begin g.when))

pub a-heat : (g : Gauged) → Plain (heat_text g)
unfolding heat_text
a-heat g = either (ltb g.warm g.cold) said-none (join (join (degrees g.cold) to) (degrees g.warm))

off : plain (ascii "; ~ above the scale|; ~ below the scale") ≡ true
unfolding plain
off = refl

pub off-scale : (which n : ℕ) → Plain (off_text which n)
unfolding off_text
off-scale which n = either (eqb n 0) none (chosen which _ (n ∷ []) off)

many : plain (ascii "; ~ ") ≡ true
unfolding plain
many = refl

a-kind : (n k : ℕ) → Plain (kind_text n k)
unfolding kind_text
a-kind n k = either (eqb n 0) none (join (filled (ascii "; ~ ") (n ∷ []) many) (a-fault (pick (ltb k 10) k 7) (k - 10)))

pub all_kinds : (counts : List ℕ) (k n : ℕ) → Plain (kinds_text counts k n)
unfolding kinds_text
all_kinds counts k zero = none
all_kinds counts k (suc n) = join (a-kind (get_or counts k 0) k) (all_kinds counts (suc k) n)

-- lines
on-form : plain (ascii "L~,~") ≡ true
unfolding plain
on-form = refl

from-form : plain (ascii "M~,~h0") ≡ true
unfolding plain
from-form = refl

going_on : (run : List Point) → Plain (on_to run)
unfolding on_to
going_on [] = none
going_on (p ∷ run) = join (filled (ascii "L~,~") (p.minute ∷ p.level ∷ []) on-form) (going_on run)

a-line : (run : List Point) → Plain (line_text run)
unfolding line_text
a-line [] = none
a-line (p ∷ run) = join (filled (ascii "M~,~h0") (p.minute ∷ p.level ∷ []) from-form) (going_on run)

pub all_lines : (runs : List (List Point)) → Plain (lines_text runs)
unfolding lines_text
all_lines [] = none
all_lines (run ∷ runs) = join (a-line run) (all_lines runs)
