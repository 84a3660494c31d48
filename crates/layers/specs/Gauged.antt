-- What the records of a pair come to: the last level and its minute, the lowest and the highest temperature, and how many replies were of each kind.
use Rattle.std.specs.Prelude.{Option, None, Some, unwrap_or, List, [], ◌∷◌, ℕ, ◌+◌, min, max, ltb, get_or, set, replicate, eqb}
use Rattle.std.specs.Option.{is_some}
use Rattle.frame.specs.declared.Temperature.{Temperature}
use Rattle.frame.specs.declared.Temperature.TheVariants.{Degrees, Above, Below, Absent}
use Rattle.frame.specs.Pick.{pick}
use Rattle.sheet.specs.Record.{Entry}
use Rattle.summary.specs.Worked.{reply_in}
use Rattle.layers.specs.declared.gauge.Gauged.{Gauged}
use Rattle.layers.specs.Drawing.{value_in}
use Rattle.std.specs.Prelude.{Result, Ok, Err}
use Rattle.frame.specs.declared.faults.Fault.{Fault}
use Rattle.frame.specs.declared.Reading.{Reading}
use Rattle.frame.specs.Faults.{number_of, place_named}

-- The count of a reply: 0 of a good one, its number of a refused one, 10 more than its place of an unreadable digit. No place is above 5.
abbrev pub reply_kind : Result Reading Fault → ℕ
reply_kind (Ok r) = 0
reply_kind (Err f) =
    let n = number_of f in
    let place = place_named f in
    pick (eqb n 7) (pick (ltb place 6) (10 + place) 7) (pick (ltb n 10) n 0)

-- The count of a temperature: 16 of one above the scale, 17 of one below it, 18 of any other, and where there is none.
abbrev pub side_of : Temperature → ℕ
side_of (Degrees d) = 18
side_of Above = 16
side_of Below = 17
side_of Absent = 18

abbrev pub side_in : Result Reading Fault → ℕ
side_in (Ok r) = side_of r.temperature
side_in (Err f) = 18

-- One more of a count. It goes no higher than 4,294,967,295, which no sheet comes near.
abbrev pub raised : ℕ → ℕ
raised n = pick (ltb n 0xffffffff) (n + 1) n

abbrev pub one_more : List ℕ → ℕ → List ℕ
one_more counts i = set counts i (raised (get_or counts i 0))

-- Of two temperatures the lower, and the higher, where there is a second.
abbrev pub colder : Option ℕ → ℕ → ℕ
colder None n = n
colder (Some y) n = min y n

abbrev pub warmer : Option ℕ → ℕ → ℕ
warmer None n = n
warmer (Some y) n = max y n

-- With one reply more, and with some records more.
abbrev pub with_reply : Gauged → ℕ → Result Reading Fault → Gauged
with_reply g minute reply =
    record {
      last = unwrap_or (value_in 0 reply) g.last;
      when = pick (is_some (value_in 0 reply)) minute g.when;
      cold = colder (value_in 1 reply) g.cold;
      warm = warmer (value_in 1 reply) g.warm;
      counts = one_more (one_more g.counts (reply_kind reply)) (side_in reply);
    }

unfoldable pub gauged_with : Gauged → List Entry → Gauged
gauged_with g [] = g
gauged_with g (e ∷ l) = gauged_with (with_reply g e.minute (reply_in e)) l

-- Before the first record: no level, and a lowest temperature above the highest.
abbrev pub not_gauged : Gauged
not_gauged = record { last = 0xffff; when = 0; cold = 0xffff; warm = 0; counts = replicate 19 0 }

abbrev pub gauged_of : List Entry → Gauged
gauged_of l = gauged_with not_gauged l
