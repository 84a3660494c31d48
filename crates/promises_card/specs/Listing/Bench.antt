-- Document 01's listing: the record's bytes with one blank slot after it, and the three lines that "list" prints of them.
use Rattle.std.specs.Prelude.{◌≡◌, List, [], ◌∷◌, ◌++◌, ℕ, replicate}
use Rattle.listing.specs.Text.{ascii}
use Rattle.listing.specs.Lines.{listing_of}

-- A slot of 32 bytes that begins with these 16, and a blank one.
abbrev pub bench_sheet : List ℕ
bench_sheet =
    (0x00 ∷ 0x0e ∷ 0x01 ∷ 0x01 ∷ 0x00 ∷ 0x00 ∷ 0x02 ∷ 0x58 ∷ 0x00 ∷ 0x07 ∷ 0x28 ∷ 0x80 ∷ 0x0e ∷ 0x50 ∷ 0x00 ∷ 0x00 ∷ [])
    ++ replicate 16 0xff
    ++ replicate 32 0xff

pub record ListingBench : Type 0 where
  pub three_lines : listing_of bench_sheet ≡ ascii "sheet 2\n0 600 7 3000 - 0 0\nrecords 1\n"
  pub no_slot : listing_of [] ≡ ascii "sheet 0\nrecords 0\n"
  pub one_byte_short : listing_of (replicate 31 0xff) ≡ ascii "fault 12\n"
