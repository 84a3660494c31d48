-- A row whose charts have codes, each within its width: it has a value, a digit of it is a place of its chart, and what is written fits its bits. By
-- induction on the row.
use mathlib.Core.Bool.{Bool}
use mathlib.Core.List.{List, [], ◌∷◌}
use Prim.Native.Nat.{ℕ, ◌*◌, ◌/◌, ◌%◌, ◌^◌, ◌<◌}
use native.Mathlib.Omega.{arith}
use native.Mathlib.Nat.{mod-lt, mul-pos, div-lt_iff_lt-mul}
use lib.Arith.{digits_lt}
use lib.Pow.{pow-add}
use lib.ListN.{get_or}
use Rattle.frame.specs.Charts.{Chart, size_of, is_odd, turned, code_of}
use Rattle.frame.specs.Level.{width_of, values_of, write_row}
use Rattle.frame.proofs.Digits.{turned_lt}

pub record Narrow (c : Chart) : Type 0 where
  pub some : 0 < size_of c
  pub within : (i : ℕ) → i < size_of c → get_or c.codes i 0 < 2 ^ c.width

abbrev pub NarrowRow : List Chart → Type 0
NarrowRow [] = Unit {0}
NarrowRow (c ∷ cs) = Narrow c × NarrowRow cs

pub values-pos : (row : List Chart) → NarrowRow row → 0 < values_of row
unfolding values_of
values-pos [] ok = omega arith
values-pos (c ∷ cs) ok = mul-pos ok.0.some (values-pos cs ok.1)

pub code_lt : (c : Chart) → Narrow c → (odd : Bool) (d : ℕ) → d < size_of c → code_of odd c d < 2 ^ c.width
code_lt c ok odd d h = ok.within (turned odd (size_of c) d) (turned_lt odd (size_of c) d h)

pub digit_lt : (c : Chart) (values v : ℕ) → 0 < values → v < size_of c * values → v / values < size_of c
digit_lt c values v p h = (div-lt_iff_lt-mul p).1 h

pub fits : (row : List Chart) → NarrowRow row → (odd : Bool) (v : ℕ) → v < values_of row → write_row row odd v < 2 ^ width_of row
unfolding write_row width_of values_of
fits [] ok odd v h = omega arith
fits (c ∷ cs) ok odd v h =
    let p : 0 < values_of cs = values-pos cs ok.1 in
    let d : ℕ = v / values_of cs in
    rw (pow-add 2 c.width (width_of cs))
    (digits_lt (code_lt c ok.0 odd d (digit_lt c (values_of cs) v p h)) (fits cs ok.1 (is_odd d) (v % values_of cs) (mod-lt v p)))
