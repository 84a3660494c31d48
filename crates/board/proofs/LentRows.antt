-- Where a row lies among those lent, and how many of them count.
use mathlib.Core.Path.{◌≡◌}
use mathlib.Core.List.{List}
use Prim.Native.Nat.{ℕ, ◌*◌, ◌<◌, ◌≤◌, ◌^◌}
use native.Mathlib.Omega.{arith}
use lib.ListN.{length, take, length-take}
use Rattle.board.specs.Inside.ByValue.{rows_that_count}

-- how many bytes a row has
abbrev pub row_bytes : ℕ
row_bytes = 24

-- row i lies within a usize, since the rows have room
pub lies : (i n : ℕ) → i < n → n * row_bytes < 2 ^ 63 → i * row_bytes < 2 ^ 64
lies i n l g = omega arith

pub counted-le : (m : ℕ) → rows_that_count m ≤ m
counted-le m = omega arith

pub length-counted : {A : Type 0} (ys : List A) → length (take 30 ys) ≡ rows_that_count (length ys)
length-counted ys = simp length-take (omega arith)
