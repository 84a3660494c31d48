-- How the code searches for the slot that a save goes to: by passing over blank slots from the end, so many at a time. That the search ends
-- at `next` of `specs/Slots.antt` is proved.
use Rattle.std.specs.Prelude.{◌≡◌, false, List, ℕ, ◌+◌, ◌-◌, ◌*◌, ◌≤◌, take, drop}
use Rattle.sheet.specs.Bytes.{all_blank}
use Rattle.sheet.specs.Slots.{next_up_to}

-- Of the first slots some are left, and the slot sought among them is the same. Where as many more are left as are passed at a time, the last so many are
-- not all blank.
pub record StopsAt (sheet : List ℕ) (many from low left : ℕ) : Type 0 where
  pub fewer : left ≤ from
  pub not_lower : low ≤ left
  pub same : next_up_to sheet from ≡ next_up_to sheet left
  pub used : low + many ≤ left → all_blank (take (32 * many) (drop (32 * (left - many)) sheet)) ≡ false
