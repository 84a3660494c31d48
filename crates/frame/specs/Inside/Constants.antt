-- A level read and written by the constants that a mode's type in `src/modes.rt` carries. A reader of document 01 need not believe this file:
-- that each mode's constants give what the mode says is proved.
use Rattle.std.specs.Prelude.{◌≡◌, Bool, false, ◌&&◌, List, ◌∷◌, ℕ, ◌+◌, ◌-◌, ◌*◌, ◌/◌, ◌%◌, ◌^◌, ◌<◌, ◌≤◌, eqb, leb, length}
use Rattle.std.proofs.Common.{lit≤}
use Rattle.frame.specs.declared.constants.Constants.{Constants}
use Rattle.frame.specs.Pick.{pick}
use Rattle.frame.specs.Charts.{Chart}
use Rattle.frame.specs.Level.{Mode, read_row, width_of, values_of, fill_clear, last_bit_of}
use Rattle.frame.specs.Pairs.{read_pairs, uncounted}
use Rattle.frame.specs.Inside.Packed.{digit_row, level_number, write_up}

abbrev pub fractional : Constants
fractional = record { digits = 4; first = 17; after = 6; largest = 15359; charts = 0x5432; start = false; few_digits = lit≤ tt; from_16 = lit≤ tt; by_17 = lit≤ tt; few_after = lit≤ tt }

abbrev pub decimal_feet : Constants
decimal_feet = record { digits = 4; first = 17; after = 6; largest = 7999; charts = 0x3332; start = false; few_digits = lit≤ tt; from_16 = lit≤ tt; by_17 = lit≤ tt; few_after = lit≤ tt }

abbrev pub metres20 : Constants
metres20 = record { digits = 5; first = 16; after = 5; largest = 19999; charts = 0x33330; start = false; few_digits = lit≤ tt; from_16 = lit≤ tt; by_17 = lit≤ tt; few_after = lit≤ tt }

abbrev pub metres30 : Constants
metres30 = record { digits = 5; first = 16; after = 4; largest = 32699; charts = 0x33331; start = false; few_digits = lit≤ tt; from_16 = lit≤ tt; by_17 = lit≤ tt; few_after = lit≤ tt }

-- The constants of the mode of a number.
abbrev pub constants_by : ℕ → Constants
constants_by k = pick (eqb k 0) fractional (pick (eqb k 1) decimal_feet (pick (eqb k 2) metres20 metres30))

-- The fill bits before the digits, from bit 16 on, and after them, up to bit 37, are 0.
abbrev pub fill_at : ℕ → ℕ → ℕ → Bool
fill_at n first after = eqb (n / 2 ^ (65 - first) % 2 ^ (first - 16)) 0 && eqb (n / 2 ^ 27 % 2 ^ after) 0

abbrev pub digit_bits : ℕ → ℕ → ℕ
digit_bits first after = 38 - first - after

-- The bits of the digits.
abbrev pub cut_at : ℕ → ℕ → ℕ → ℕ
cut_at first after n = n / 2 ^ (27 + after) % 2 ^ digit_bits first after

-- A level read by the constants of a mode: the level, or 2 ^ 16 times the fault, to which 7 adds the place of the digit.
abbrev pub read_by : Constants → ℕ → ℕ
read_by k n =
    pick (fill_at n k.first k.after)
    (level_number k.largest (read_row (digit_row k.charts k.digits) (cut_at k.first k.after n) k.start 0 0))
    (6 * 2 ^ 16)

-- The same two digits at a time, after a digit 0000 where they are odd in number.
abbrev pub read_pairs_by : Constants → ℕ → ℕ
read_pairs_by k n =
    pick (fill_at n k.first k.after)
    (level_number k.largest (uncounted (k.digits % 2) (read_pairs ((k.digits + 1) / 2) (cut_at k.first k.after n) k.start 0 0)))
    (6 * 2 ^ 16)

-- The codes of a level's digits, written from the ones digit up.
abbrev pub codes_by : Constants → ℕ → ℕ
codes_by k v = write_up k.charts k.digits k.start v

-- Such codes in their place, or every digit bit 1 where the level is outside its mode.
abbrev pub placed_at : ℕ → ℕ → ℕ → ℕ → ℕ → ℕ
placed_at v codes first after largest = pick (leb v largest) codes (2 ^ digit_bits first after - 1) * 2 ^ (27 + after)

abbrev pub write_by : Constants → ℕ → ℕ
write_by k v = placed_at v (codes_by k v) k.first k.after k.largest

-- A digit's chart read in four bits.
abbrev pub in_four_bits : Chart → Chart
in_four_bits c = record { width = 4; codes = c.codes }

-- Constants that give what a mode says: the same fill bits, the same digit bits, the same charts, the first digit read straight.
pub record FitsBy (m : Mode) (digits first after most charts : ℕ) (start : Bool) : Type 0 where
  pub top : Chart
  pub rest : List Chart
  pub row : m.row ≡ top ∷ rest
  pub charts_are : digit_row charts digits ≡ in_four_bits top ∷ rest
  pub narrow : 2 ^ top.width ≤ 16
  pub alone : (bits : ℕ) → bits < 2 ^ digit_bits first after → bits / 2 ^ width_of rest < 2 ^ top.width
  pub wide : digit_bits first after ≡ width_of m.row
  pub cut : digit_bits first after ≡ last_bit_of m + 1 - m.first
  pub count : digits ≡ length m.row
  pub last : 27 + after ≡ 64 - last_bit_of m
  pub fill : (n : ℕ) → fill_at n first after ≡ fill_clear n m.fill
  pub largest : most ≡ m.largest
  pub straight : start ≡ false
  pub values : most < values_of (digit_row charts digits)
  pub ends : 4 * digits + (27 + after) ≤ 53

abbrev pub Fits : Mode → Constants → Type 0
Fits m k = FitsBy m k.digits k.first k.after k.largest k.charts k.start
