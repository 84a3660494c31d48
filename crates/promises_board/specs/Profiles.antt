-- Document 02, request 10, and document 000, Table 14: when the temperature of a reply is outside the profile of its row. Said by the two lines of the
-- table, in tenths of a degree, and not by a test.
use Rattle.std.specs.Prelude.{◌≡◌, true, false, ◌||◌, ℕ, ◌%◌, ℤ, pos, neg_ℤ}
use Rattle.std.specs.Int.Signed.{lt_z}
use Rattle.frame.specs.declared.Temperature.{Temperature}
use Rattle.frame.specs.declared.Temperature.TheVariants.{Degrees}
use Rattle.frame.specs.Reply.{is1800}
use Rattle.board.specs.declared.Row.{Row}

-- The bulb that a profile's number names, with its lowest and its highest: -100 to +400 degrees, and -234 to +502.
pub data Bulb : ℕ → ℤ → ℤ → Type 0 where
  copper : Bulb 1 (neg_ℤ (pos 1000)) (pos 4000)
  platinum : Bulb 2 (neg_ℤ (pos 2340)) (pos 5020)

-- The row is of type 1900, carries a profile, and the temperature is a number of degrees below its lowest or above its highest.
pub record OutOfRange (row : Row) (t : Temperature) : Type 0 where
  pub lowest : ℤ
  pub highest : ℤ
  pub degrees : ℤ
  pub of_1900 : is1800 row.settings ≡ false
  pub bulb : Bulb (row.gauge % 4) lowest highest
  pub told : t ≡ Degrees degrees
  pub beyond : (lt_z degrees lowest || lt_z highest degrees) ≡ true

-- A temperature is out of range or not: the cases leave nothing out.
pub data Checked (row : Row) (t : Temperature) : Type 0 where
  out : OutOfRange row t → Checked row t
  not_out : (OutOfRange row t → ⊥) → Checked row t
