-- What is said of a card's slots: how many there are, how many of them read as what, and the lowest and the highest minute of its records.
use Rattle.std.specs.Prelude.{ℕ, zero, suc, ◌+◌, min, max, List}
use Rattle.sheet.specs.declared.Found.{Found}
use Rattle.sheet.specs.declared.Found.TheVariants.{Blank, Spoiled, Foreign, Record, Refused}
use Rattle.sheet.specs.Slots.{slots}
use Rattle.sheet.specs.Look.{look_of}
use Rattle.cards.specs.declared.counting.Tally.{Tally}

-- Before the first slot. The lowest minute of no record is above every minute, the highest 0.
abbrev pub no_tally : ℕ → Tally
no_tally n = record { slots = n; records = 0; spoiled = 0; foreign = 0; first = 4294967295; last = 0 }

-- One slot more, by what a look at it answers.
abbrev pub with_slot : Found → Tally → Tally
with_slot Blank t = t
with_slot Spoiled t = record { slots = t.slots; records = t.records; spoiled = t.spoiled + 1; foreign = t.foreign; first = t.first; last = t.last }
with_slot Foreign t = record { slots = t.slots; records = t.records; spoiled = t.spoiled; foreign = t.foreign + 1; first = t.first; last = t.last }
with_slot (Record h) t =
    record { slots = t.slots; records = t.records + 1; spoiled = t.spoiled; foreign = t.foreign; first = min t.first h.minute; last = max t.last h.minute }
with_slot (Refused f) t = t

-- The first k slots, and all. Of a sheet of a size that is not allowed every look is refused, and nothing is counted.
unfoldable pub tally_up_to : List ℕ → ℕ → Tally
tally_up_to s zero = no_tally (slots s)
tally_up_to s (suc k) = with_slot (look_of s k).found (tally_up_to s k)

abbrev pub tally_of : List ℕ → Tally
tally_of s = tally_up_to s (slots s)
