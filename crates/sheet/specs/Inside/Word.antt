-- How the code takes a reply out of a slot: the 8 bytes where it can stand are one word. That the bytes of a
-- record are those of `specs/Record.antt` is proved.
use Rattle.std.specs.Prelude.{ℕ, ◌-◌, ◌%◌, ◌^◌}

-- A word of 64 bits with 0 in every bit after the first `count`.
abbrev pub first_bits : ℕ → ℕ → ℕ
first_bits count w = w - w % 2 ^ (64 - count)
