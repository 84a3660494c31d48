-- Document 002, "Calculation of BCC Field": a 7 bit binary sum without carry.
use Rattle.std.specs.Prelude.{List, [], ◌∷◌, ℕ, ◌%◌, ◌^◌}
use Rattle.std.specs.Int.Bits.{bit_xor}

-- A binary sum without carry is exclusive or: here of bytes, after a sum already made.
unfoldable pub sum_after : ℕ → List ℕ → ℕ
sum_after n [] = n
sum_after n (b ∷ bs) = sum_after (bit_xor n b) bs

-- The block check of bytes: seven bits of their sum.
unfoldable pub block_check : List ℕ → ℕ
block_check s = sum_after 0 s % 2 ^ 7
