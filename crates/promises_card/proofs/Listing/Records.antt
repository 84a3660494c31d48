-- The last line is "records ", the decimal digits of the list's length, and the line's end; the digits read back as the length. Assumes nothing.
use mathlib.Core.Path.{◌≡◌, refl, ◌∙◌}
use mathlib.Core.List.{List, ◌++◌}
use Prim.Native.Nat.{ℕ, ◌<◌, ◌^◌}
use native.Mathlib.Omega.{arith}
use lib.ListN.{length}
use Rattle.sheet.proofs.FewRecords.{few-records}
use Rattle.sheet.specs.Slots.{slots, list_of}
use Rattle.listing.specs.Text.{ascii, in_decimal}
use Rattle.listing.specs.Lines.{count_line, last_line}
use Rattle.sheet.proofs.Seen.{few-slots}
use Rattle.promises_card.specs.Listing.Records.{ListingRecords}
use Rattle.promises_card.proofs.Listing.Written.{wrote, was-there}
use Rattle.promises_card.proofs.Listing.Decimals.{listing-decimals}

last-is : (s : List ℕ) → last_line s ≡ ascii "records " ++ in_decimal (length (list_of s)) ++ ascii "\n"
unfolding count_line
last-is s = refl

pub listing-records : ListingRecords
listing-records =
    record {
      counted = λ s last w.
          let few : length (list_of s) < 10 ^ 10 = omega (arith, few-records s (slots s), few-slots s (was-there _ _ (last_line s) last w)) in
          record { digits = in_decimal (length (list_of s)); text = wrote _ _ (last_line s) last w ∙ last-is s; number = listing-decimals.number (length (list_of s)) few };
    }
