-- What is drawn and read of a faulty reply: the mark and the bar of its number and its place. Proved fault by fault, so that a definition with another mark or
-- bar for one fault fails at that fault, and not because it is written otherwise. Assumes nothing.
use mathlib.Core.Path.{◌≡◌, refl}
use mathlib.Core.List.{[], ◌∷◌}
use Prim.Native.Nat.{ℕ}
use Rattle.std.specs.Prelude.{Option, Err}
use Rattle.calendar.specs.declared.counting.Day.{Day}
use Rattle.frame.specs.declared.faults.Fault.{Fault}
use Rattle.frame.specs.declared.faults.Fault.TheVariants.{Silent, WrongLength, NoStart, WrongAddress, WrongParity, FillSet, InNoChart, OutOfRange, BadTemperature, BadSettings, BadAddress, NoSheet, SheetFull, BadForm, ShortOutput, NoPoll, Unknown, Twice, NoRow, BadTiming, Spoiled, SpoiledByByte, LongRound, LargeCount, ManyPairs, OutsideProfile, ProfileOn1800, RaiseOrReset, BadFraming, BadBlockCheck, BadAddresses, BadItem, ShortItem, LargeSite, NoPlan, WrongPlan, BadSummary, OutOfOrder}
use Rattle.frame.specs.Faults.{number_of, place_named}
use Rattle.promises_picture.specs.Drawn.{faulty_mark_text, mark_in}
use Rattle.promises_picture.specs.OnPage.{bar_of, bar_in}

each : (b : Option Day) (m : ℕ) (f : Fault)
    → (mark_in b m (Err f) ≡ faulty_mark_text b m (number_of f) (place_named f) ∷ []) × (bar_in b m (Err f) ≡ bar_of b m (number_of f) (place_named f))
each b m Silent = (refl, refl)
each b m WrongLength = (refl, refl)
each b m NoStart = (refl, refl)
each b m WrongAddress = (refl, refl)
each b m WrongParity = (refl, refl)
each b m FillSet = (refl, refl)
each b m (InNoChart place) = (refl, refl)
each b m OutOfRange = (refl, refl)
each b m BadTemperature = (refl, refl)
each b m BadSettings = (refl, refl)
each b m BadAddress = (refl, refl)
each b m NoSheet = (refl, refl)
each b m SheetFull = (refl, refl)
each b m BadForm = (refl, refl)
each b m ShortOutput = (refl, refl)
each b m NoPoll = (refl, refl)
each b m Unknown = (refl, refl)
each b m Twice = (refl, refl)
each b m NoRow = (refl, refl)
each b m BadTiming = (refl, refl)
each b m Spoiled = (refl, refl)
each b m SpoiledByByte = (refl, refl)
each b m LongRound = (refl, refl)
each b m LargeCount = (refl, refl)
each b m ManyPairs = (refl, refl)
each b m OutsideProfile = (refl, refl)
each b m ProfileOn1800 = (refl, refl)
each b m RaiseOrReset = (refl, refl)
each b m BadFraming = (refl, refl)
each b m BadBlockCheck = (refl, refl)
each b m BadAddresses = (refl, refl)
each b m BadItem = (refl, refl)
each b m ShortItem = (refl, refl)
each b m LargeSite = (refl, refl)
each b m NoPlan = (refl, refl)
each b m WrongPlan = (refl, refl)
each b m BadSummary = (refl, refl)
each b m OutOfOrder = (refl, refl)

pub mark-of : (b : Option Day) (m : ℕ) (f : Fault) → mark_in b m (Err f) ≡ faulty_mark_text b m (number_of f) (place_named f) ∷ []
mark-of b m f = (each b m f).0

pub bar-read-of : (b : Option Day) (m : ℕ) (f : Fault) → bar_in b m (Err f) ≡ bar_of b m (number_of f) (place_named f)
bar-read-of b m f = (each b m f).1
