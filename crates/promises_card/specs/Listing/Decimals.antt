-- Numbers in the listing are plain decimal: each byte is a digit, the digits write the number, and no zero stands before them.
use Rattle.std.specs.Prelude.{◌≡◌, ℕ, ◌^◌, ◌≤◌, ◌<◌, length, get_or}
use Rattle.listing.specs.Text.{in_decimal}
use Rattle.promises_card.specs.Listing.Records.{read_after}

pub record ListingDecimals : Type 0 where
  pub digits : (n i : ℕ) → i < length (in_decimal n) → (48 ≤ get_or (in_decimal n) i 0) × (get_or (in_decimal n) i 0 ≤ 57)
  pub number : (n : ℕ) → n < 10 ^ 10 → read_after 0 (in_decimal n) ≡ n
  pub no_zero_first : (n : ℕ) → 10 ≤ n → n < 10 ^ 10 → 48 < get_or (in_decimal n) 0 0
