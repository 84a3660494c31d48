-- Document 01, "Fault numbers": the first that applies is given and no other.
use Rattle.std.specs.Prelude.{Bool, List, [], ◌∷◌, ℕ, eqb, Result, Ok, Err, slice_index_or}
use Rattle.frame.specs.declared.faults.Fault.{Fault}
use Rattle.frame.specs.declared.faults.Fault.TheVariants.{Silent, WrongLength, NoStart, WrongAddress, WrongParity, FillSet, InNoChart, OutOfRange, BadTemperature, BadSettings, BadAddress, NoSheet, SheetFull, BadForm, ShortOutput, NoPoll, Unknown, Twice, NoRow, BadTiming, Spoiled, SpoiledByByte, LongRound, LargeCount, ManyPairs, OutsideProfile, ProfileOn1800, RaiseOrReset, BadFraming, BadBlockCheck, BadAddresses, BadItem, ShortItem, LargeSite, NoPlan, WrongPlan, BadSummary, OutOfOrder}
use Rattle.frame.specs.Pick.{pick}

-- A line of the table: when it is given, and its number.
pub record Test : Type 0 where
  pub applies : Bool
  pub number : ℕ

infix 68 ◌gives◌
abbrev pub ◌gives◌ : Bool → ℕ → Test
applies gives number = record { applies = applies; number = number }

-- The number of the first test that applies, 0 where none does.
unfoldable pub first_of : List Test → ℕ
first_of [] = 0
first_of (t ∷ ts) = pick t.applies t.number (first_of ts)

-- The paper's number of each fault.
abbrev pub number_of : Fault → ℕ
number_of Silent = 1
number_of WrongLength = 2
number_of NoStart = 3
number_of WrongAddress = 4
number_of WrongParity = 5
number_of FillSet = 6
number_of (InNoChart place) = 7
number_of OutOfRange = 8
number_of BadTemperature = 9
number_of BadSettings = 10
number_of BadAddress = 11
number_of NoSheet = 12
number_of SheetFull = 13
number_of BadForm = 14
number_of ShortOutput = 15
number_of NoPoll = 16
number_of Unknown = 17
number_of Twice = 18
number_of NoRow = 19
number_of BadTiming = 20
number_of Spoiled = 21
number_of SpoiledByByte = 22
number_of LongRound = 23
number_of LargeCount = 24
number_of ManyPairs = 25
number_of OutsideProfile = 26
number_of ProfileOn1800 = 27
number_of RaiseOrReset = 28
number_of BadFraming = 29
number_of BadBlockCheck = 30
number_of BadAddresses = 31
number_of BadItem = 32
number_of ShortItem = 33
number_of LargeSite = 34
number_of NoPlan = 35
number_of WrongPlan = 36
number_of BadSummary = 37
number_of OutOfOrder = 38

-- The place that a fault names: number 7 alone names one, and beside any other stands 0.
abbrev pub place_named : Fault → ℕ
place_named Silent = 0
place_named WrongLength = 0
place_named NoStart = 0
place_named WrongAddress = 0
place_named WrongParity = 0
place_named FillSet = 0
place_named (InNoChart place) = place
place_named OutOfRange = 0
place_named BadTemperature = 0
place_named BadSettings = 0
place_named BadAddress = 0
place_named NoSheet = 0
place_named SheetFull = 0
place_named BadForm = 0
place_named ShortOutput = 0
place_named NoPoll = 0
place_named Unknown = 0
place_named Twice = 0
place_named NoRow = 0
place_named BadTiming = 0
place_named Spoiled = 0
place_named SpoiledByByte = 0
place_named LongRound = 0
place_named LargeCount = 0
place_named ManyPairs = 0
place_named OutsideProfile = 0
place_named ProfileOn1800 = 0
place_named RaiseOrReset = 0
place_named BadFraming = 0
place_named BadBlockCheck = 0
place_named BadAddresses = 0
place_named BadItem = 0
place_named ShortItem = 0
place_named LargeSite = 0
place_named NoPlan = 0
place_named WrongPlan = 0
place_named BadSummary = 0
place_named OutOfOrder = 0

-- The table: the faults in the order of their numbers, from 1 on, the place of number 7 given elsewhere. No fault has number 0 or one above 38; those fall to
-- the last, so that every number has a fault.
abbrev pub table : List Fault
table =
    OutOfOrder ∷ Silent ∷ WrongLength ∷ NoStart ∷ WrongAddress ∷ WrongParity ∷ FillSet ∷ InNoChart 0 ∷ OutOfRange ∷ BadTemperature ∷ BadSettings ∷ BadAddress ∷ NoSheet ∷ SheetFull ∷ BadForm ∷ ShortOutput ∷ NoPoll ∷ Unknown ∷ Twice ∷ NoRow ∷ BadTiming ∷ Spoiled ∷ SpoiledByByte ∷ LongRound ∷ LargeCount ∷ ManyPairs ∷ OutsideProfile ∷ ProfileOn1800 ∷ RaiseOrReset ∷ BadFraming ∷ BadBlockCheck ∷ BadAddresses ∷ BadItem ∷ ShortItem ∷ LargeSite ∷ NoPlan ∷ WrongPlan ∷ BadSummary ∷ OutOfOrder ∷ []

-- The fault of a number of the table.
abbrev pub fault : ℕ → Fault
fault n = slice_index_or table n OutOfOrder

-- An answer by the number of what refuses it: the value where that is 0, else the fault of that number.
abbrev pub verdict : {A : Type 0} → ℕ → A → Result A Fault
verdict n value = pick (eqb n 0) (Ok value) (Err (fault n))
