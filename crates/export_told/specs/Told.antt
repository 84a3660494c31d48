-- How what the calls below answer is told in integers, and which poll, reply, count or slot such an answer stands for. A flag that is told is 0 or 1.
use Rattle.std.specs.Prelude.{List, ℕ, ◌<◌, eqb, pos}
use Rattle.frame.specs.declared.Reading.{Reading}
use Rattle.frame.specs.declared.Poll.{Poll}
use Rattle.frame.specs.Line.{mark}
use Rattle.frame.specs.Pick.{pick}
use Rattle.sheet.specs.declared.Found.{Found}
use Rattle.sheet.specs.declared.Found.TheVariants as found
use Rattle.sheet.specs.declared.Head.{Head}
use Rattle.sheet.specs.declared.Looked.{Looked}
use Rattle.sheet.specs.Look.{found_number}
use Rattle.frame.specs.Kinds.{is_set, kind_of, tenths_of, reading_by}
use Rattle.export_told.specs.declared.PollTold.{PollTold}
use Rattle.export_told.specs.declared.ReplyTold.{ReplyTold}
use Rattle.export_told.specs.declared.Done.{Done}
use Rattle.export_told.specs.declared.SlotTold.{SlotTold}
use Rattle.std.specs.Prelude.{Result, Ok, Err}
use Rattle.frame.specs.declared.faults.Fault.{Fault}
use Rattle.frame.specs.declared.faults.Fault.TheVariants.{InNoChart}
use Rattle.frame.specs.Faults.{fault, number_of, place_named}

-- A poll: its address, raise and reset; beside a refusal all else is 0.
abbrev pub poll_told : Result Poll Fault → PollTold
poll_told (Ok p) = record { address = p.address; raise = mark p.raise; reset = mark p.reset; number = 0 }
poll_told (Err f) = record { address = 0; raise = 0; reset = 0; number = number_of f }

abbrev pub poll_said : PollTold → Poll
poll_said t = record { address = t.address; raise = is_set t.raise; reset = is_set t.reset }

abbrev pub poll_meant : PollTold → Result Poll Fault
poll_meant t = pick (eqb t.number 0) (Ok (poll_said t)) (Err (fault t.number))

-- A reply: its reading with the temperature by kind and tenths, as a row of the board keeps it; beside a refusal all else is 0.
abbrev pub reading_told : Reading → ReplyTold
reading_told r =
    record {
      level = r.level;
      tenths = tenths_of r.temperature;
      kind = kind_of r.temperature;
      alarm1 = mark r.alarm1;
      alarm0 = mark r.alarm0;
      number = 0;
      place = 0;
    }

-- Beside number 7 stands the place of the unreadable digit.
abbrev pub refused_told : ℕ → ℕ → ReplyTold
refused_told number place =
    record { level = 0; tenths = pos 0; kind = 0; alarm1 = 0; alarm0 = 0; number = number; place = place }

abbrev pub reply_told : Result Reading Fault → ReplyTold
reply_told (Ok r) = reading_told r
reply_told (Err f) = refused_told (number_of f) (place_named f)

abbrev pub reply_meant : ReplyTold → Result Reading Fault
reply_meant t =
    pick (eqb t.number 0) (Ok (reading_by t.kind t.tenths t.level t.alarm1 t.alarm0))
    (pick (eqb t.number 7) (Err (InNoChart t.place)) (Err (fault t.number)))

-- The bytes written, the stores made, or the slots that there are; beside a refusal 0.
abbrev pub done : ℕ → ℕ → Done
done count number = record { count = count; number = number }

abbrev pub written_told : Result ℕ Fault → Done
written_told (Ok n) = done n 0
written_told (Err f) = done 0 (number_of f)

abbrev pub written_meant : Done → Result ℕ Fault
written_meant d = pick (eqb d.number 0) (Ok d.count) (Err (fault d.number))

abbrev pub saved_told : Result ℕ Fault → Done
saved_told (Ok n) = done n 0
saved_told (Err f) = done 0 (number_of f)

abbrev pub saved_meant : Done → Result ℕ Fault
saved_meant d = pick (eqb d.number 0) (Ok d.count) (Err (fault d.number))

abbrev pub counted_told : Result ℕ Fault → Done
counted_told (Ok n) = done n 0
counted_told (Err f) = done 0 (number_of f)

abbrev pub counted_meant : Done → Result ℕ Fault
counted_meant d = pick (eqb d.number 0) (Ok d.count) (Err (fault d.number))

-- A slot: its state is 1 blank, 2 spoiled, 3 a record, 4 foreign, and 0 beside a refusal. Only a record says more.
abbrev pub bare_told : List ℕ → ℕ → ℕ → SlotTold
bare_told reply state number =
    record { reply = reply; minute = 0; address = 0; settings = 0; count = 0; state = state; number = number }

abbrev pub found_told : Found → List ℕ → SlotTold
found_told found.Blank reply = bare_told reply 1 0
found_told found.Spoiled reply = bare_told reply 2 0
found_told (found.Record h) reply =
    record { reply = reply; minute = h.minute; address = h.address; settings = h.settings; count = h.count; state = 3; number = 0 }
found_told found.Foreign reply = bare_told reply 4 0
found_told (found.Refused f) reply = bare_told reply 0 (number_of f)

abbrev pub slot_told : Looked → SlotTold
slot_told l = found_told l.found l.reply

abbrev pub head_meant : SlotTold → Head
head_meant t = record { settings = t.settings; minute = t.minute; address = t.address; count = t.count }

abbrev pub state_meant : ℕ → Head → Found
state_meant state head =
    pick (eqb state 1) found.Blank (pick (eqb state 2) found.Spoiled (pick (eqb state 3) (found.Record head) found.Foreign))

abbrev pub slot_meant : SlotTold → Looked
slot_meant t =
    record { found = pick (eqb t.number 0) (state_meant t.state (head_meant t)) (found.Refused (fault t.number)); reply = t.reply }

-- Integers are also read by their number alone: they are what is good, or a refusal by that number. So every number keeps a meaning of its own, one above 38
-- too, which has no fault. With the fault of the number named, what is read is what the integers stand for: `proofs/Kept.antt` of `export` has both laws.
abbrev pub number_read : {A : Type 0} → Result A ℕ → ℕ
number_read (Ok a) = 0
number_read (Err n) = n

abbrev pub named : {A : Type 0} → Result A ℕ → Result A Fault
named (Ok a) = Ok a
named (Err n) = Err (fault n)

abbrev pub poll_read : PollTold → Result Poll ℕ
poll_read t = pick (eqb t.number 0) (Ok (poll_said t)) (Err t.number)

-- What a reply is refused by: a number, and the place beside 7; beside any other number 0.
pub record RefusedAt : Type 0 where
  pub number : ℕ
  pub place : ℕ

abbrev pub refused_at : ℕ → ℕ → RefusedAt
refused_at number place = record { number = number; place = pick (eqb number 7) place 0 }

abbrev pub fault_at : RefusedAt → Fault
fault_at r = pick (eqb r.number 7) (InNoChart r.place) (fault r.number)

abbrev pub reply_read : ReplyTold → Result Reading RefusedAt
reply_read t =
    pick (eqb t.number 0) (Ok (reading_by t.kind t.tenths t.level t.alarm1 t.alarm0)) (Err (refused_at t.number t.place))

abbrev pub reply_number_read : Result Reading RefusedAt → ℕ
reply_number_read (Ok a) = 0
reply_number_read (Err r) = r.number

abbrev pub reply_named : Result Reading RefusedAt → Result Reading Fault
reply_named (Ok a) = Ok a
reply_named (Err r) = Err (fault_at r)

abbrev pub written_read : Done → Result ℕ ℕ
written_read d = pick (eqb d.number 0) (Ok d.count) (Err d.number)

abbrev pub saved_read : Done → Result ℕ ℕ
saved_read d = pick (eqb d.number 0) (Ok d.count) (Err d.number)

abbrev pub counted_read : Done → Result ℕ ℕ
counted_read d = pick (eqb d.number 0) (Ok d.count) (Err d.number)

-- Of a slot what was found is read; the reply bytes stand beside it as they are.
abbrev pub slot_read : SlotTold → Result Found ℕ
slot_read t = pick (eqb t.number 0) (Ok (state_meant t.state (head_meant t))) (Err t.number)

abbrev pub found_number_read : Result Found ℕ → ℕ
found_number_read (Ok f) = found_number f
found_number_read (Err n) = n

abbrev pub found_named : Result Found ℕ → Found
found_named (Ok f) = f
found_named (Err n) = found.Refused (fault n)

-- The bit count of what was found fits one byte. It does whenever `look` finds a record.
abbrev pub count_fits : Found → Type 0
count_fits found.Blank = 0 < 256
count_fits found.Spoiled = 0 < 256
count_fits (found.Record h) = h.count < 256
count_fits found.Foreign = 0 < 256
count_fits (found.Refused f) = 0 < 256
