-- The table of pairs as the code keeps it, word for word: its 512 entries in order, eight to a word, the first of them lowest. Made by
-- `tools/pair-table`. A reader of document 02 need not believe this file: that each of the 512 entries is right is proved.
use Rattle.std.specs.Prelude.{List, [], ◌∷◌, ℕ, ◌+◌, ◌*◌, ◌/◌, ◌%◌, ◌^◌, get_or}
use Rattle.frame.specs.declared.pair_table.Entries.{Entries}

unfoldable pub words : List ℕ
words =
    0x0504060702030100 ∷ 0xffffff08ffffff09 ∷ 0x0e0f0d0c11101213 ∷ 0xffffff0bffffff0a
    ∷ 0x2223212025242627 ∷ 0xffffff1fffffff1e ∷ 0x19181a1b16171514 ∷ 0xffffff1cffffff1d
    ∷ 0x4a4b49484d4c4e4f ∷ 0xffffff47ffffff46 ∷ 0x414042433e3f3d3c ∷ 0xffffff44ffffff45
    ∷ 0x2d2c2e2f2a2b2928 ∷ 0xffffff30ffffff31 ∷ 0x3637353439383a3b ∷ 0xffffff33ffffff32
    ∷ 0x5e5f5d5c61606263 ∷ 0xffffff5bffffff5a ∷ 0xffffffffffffffff ∷ 0xffffffffffffffff
    ∷ 0xffffffffffffffff ∷ 0xffffffffffffffff ∷ 0xffffffffffffffff ∷ 0xffffffffffffffff
    ∷ 0x5554565752535150 ∷ 0xffffff58ffffff59 ∷ 0xffffffffffffffff ∷ 0xffffffffffffffff
    ∷ 0xffffffffffffffff ∷ 0xffffffffffffffff ∷ 0xffffffffffffffff ∷ 0xffffffffffffffff
    ∷ 0x5e5f5d5c61606263 ∷ 0xffffff5bffffff5a ∷ 0x5554565752535150 ∷ 0xffffff58ffffff59
    ∷ 0x414042433e3f3d3c ∷ 0xffffff44ffffff45 ∷ 0x4a4b49484d4c4e4f ∷ 0xffffff47ffffff46
    ∷ 0x19181a1b16171514 ∷ 0xffffff1cffffff1d ∷ 0x2223212025242627 ∷ 0xffffff1fffffff1e
    ∷ 0x3637353439383a3b ∷ 0xffffff33ffffff32 ∷ 0x2d2c2e2f2a2b2928 ∷ 0xffffff30ffffff31
    ∷ 0x0504060702030100 ∷ 0xffffff08ffffff09 ∷ 0xffffffffffffffff ∷ 0xffffffffffffffff
    ∷ 0xffffffffffffffff ∷ 0xffffffffffffffff ∷ 0xffffffffffffffff ∷ 0xffffffffffffffff
    ∷ 0x0e0f0d0c11101213 ∷ 0xffffff0bffffff0a ∷ 0xffffffffffffffff ∷ 0xffffffffffffffff
    ∷ 0xffffffffffffffff ∷ 0xffffffffffffffff ∷ 0xffffffffffffffff ∷ 0xffffffffffffffff ∷ []

abbrev pub word_of : ℕ → ℕ
word_of k = get_or words k 0

-- Eight pairs of codes: their entries with the first digit straight, and those with it turned, which stand 256 entries on.
abbrev pub entries_of : ℕ → Entries
entries_of k = record { straight = word_of k; turned = word_of (32 + k) }

-- What the table holds at an index, the straight entries at 0 to 255 and the turned ones from 256 on.
abbrev pub table_at : ℕ → ℕ
table_at i = word_of (i / 8) / 2 ^ (8 * (i % 8)) % 256
