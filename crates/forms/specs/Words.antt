-- What is said in words: levels and temperatures in people's form, modes, types and faults.
use Rattle.std.specs.Prelude.{List, [], ◌∷◌, ℕ, ◌-◌, ◌/◌, ◌%◌, eqb, ltb}
use Rattle.frame.specs.Pick.{pick}
use Rattle.listing.specs.Text.{ascii}
use Rattle.forms.specs.Form.{fill, choice}

-- A level in its mode's unit: sixteenths of an inch, hundredths of a foot, millimetres.
abbrev pub in_sixteenths : ℕ → List ℕ
in_sixteenths n = fill (ascii "~ ft ~ ~/16 in") (n / 192 ∷ n % 192 / 16 ∷ n % 16 ∷ [])

abbrev pub in_hundredths : ℕ → List ℕ
in_hundredths n = fill (ascii "~.~~ ft") (n / 100 ∷ n / 10 % 10 ∷ n % 10 ∷ [])

abbrev pub in_millimetres : ℕ → List ℕ
in_millimetres n = fill (ascii "~.~~~ m") (n / 1000 ∷ n / 100 % 10 ∷ n / 10 % 10 ∷ n % 10 ∷ [])

unfoldable pub level_text : ℕ → ℕ → List ℕ
level_text settings n = pick (eqb (settings % 4) 0) (in_sixteenths n) (pick (eqb (settings % 4) 1) (in_hundredths n) (in_millimetres n))

-- A temperature in tenths of a degree, 8000 higher: "-12.3 °", the sign of a degree written as the page's text has it.
abbrev pub in_tenths : ℕ → List ℕ
in_tenths n = fill (ascii "~.~ &#176;") (n / 10 ∷ n % 10 ∷ [])

abbrev pub below_zero : ℕ → List ℕ
below_zero n = fill (ascii "-~.~ &#176;") (n / 10 ∷ n % 10 ∷ [])

unfoldable pub degrees_text : ℕ → List ℕ
degrees_text n = pick (ltb n 8000) (below_zero (8000 - n)) (in_tenths (n - 8000))

-- Mode and unit, and the transmitter's type with its parity, by the settings.
unfoldable pub mode_text : ℕ → List ℕ
mode_text settings = fill (choice (settings % 4) (ascii "fractional, 1/16 inch|decimal, 1/100 foot|20 m, millimetres|30 m, millimetres")) []

unfoldable pub type_text : ℕ → List ℕ
type_text settings =
    fill (choice (settings / 4 % 4) (ascii "type 1900, even parity|type 1800, even parity|type 1900, odd parity|type 1800, odd parity")) []

-- A reply's fault, by its number; an unreadable digit with its place.
unfoldable pub fault_text : ℕ → ℕ → List ℕ
fault_text n place =
    fill
    (choice n (ascii "no fault|no reply|wrong length|no start bit|wrong address|wrong parity|fill bit set|unreadable digit ~|level out of range|unreadable temperature"))
    (place ∷ [])
