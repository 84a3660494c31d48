-- The contract of each call for the host: it tells what the call below it answers, by that call's own contract, which also says what is left of what
-- was lent. `proofs/Kept.antt` has the laws that nothing is lost on the way, `proofs/OneOutcome.antt` those that only one outcome is allowed.
use Rattle.std.specs.Prelude.{◌≡◌, List, ℕ, ℤ}
use Rattle.frame.specs.Line.{formed}
use Rattle.frame.specs.Pick.{pick}
use Rattle.frame.specs.Poll.{ReadsPoll, WritesPoll}
use Rattle.frame.specs.Reply.{ReadsReply, WritesReply}
use Rattle.sheet.specs.Record.{entry_of}
use Rattle.sheet.specs.Save.{Saves}
use Rattle.sheet.specs.Look.{Looks}
use Rattle.sheet.specs.View.{Counts}
use Rattle.sheet.specs.declared.tell.SaveStores.{SaveStores}
use Rattle.sheet.specs.StoresTold.{TellsStores}
use Rattle.frame.specs.Kinds.{is_set, reading_by}
use Rattle.export_told.specs.declared.PollTold.{PollTold}
use Rattle.export_told.specs.declared.ReplyTold.{ReplyTold}
use Rattle.export_told.specs.declared.Done.{Done}
use Rattle.export_told.specs.declared.SlotTold.{SlotTold}
use Rattle.export_told.specs.Told.{poll_told, reply_told, written_told, saved_told, counted_told, slot_told}

-- An answer tells what the call below answers: one that its contract allows, told in integers.
pub record Tells {A T : Type 0} (told : A → T) (allowed : A → Type 0) (answer : T) : Type 0 where
  pub below : A
  pub allows : allowed below
  pub tells : answer ≡ told below

-- The form of a reply: 0, or 14.
pub record SisalForm (count : ℕ) (reply : List ℕ) (answer : ℕ) : Type 0 where
  pub answers : answer ≡ pick (formed count reply) 0 14

abbrev pub SisalReadPoll : (poll : List ℕ) (answer : PollTold) → Type 0
SisalReadPoll poll = Tells poll_told (ReadsPoll poll)

abbrev pub SisalWritePoll : (address raise reset : ℕ) (out : List ℕ) (answer : Done) (after : List ℕ) → Type 0
SisalWritePoll address raise reset out answer after =
    Tells written_told (λ below. WritesPoll address (is_set raise) (is_set reset) out below after) answer

abbrev pub SisalReadReply : (settings address count : ℕ) (reply : List ℕ) (answer : ReplyTold) → Type 0
SisalReadReply settings address count reply = Tells reply_told (ReadsReply settings address count reply)

-- The temperature is given by kind and tenths, as a row of the board keeps it: 1 degrees, 2 above, 3 below, any other absent.
abbrev pub SisalWriteReply : (settings address level kind : ℕ) (tenths : ℤ) (alarm1 alarm0 : ℕ) (out : List ℕ) (answer : Done) (after : List ℕ) → Type 0
SisalWriteReply settings address level kind tenths alarm1 alarm0 out answer after =
    Tells written_told (λ below. WritesReply settings address (reading_by kind tenths level alarm1 alarm0) out below after) answer

abbrev pub SisalSave : (sheet : List ℕ) (settings minute address count : ℕ) (reply : List ℕ) (allowance : ℕ) (answer : Done) (after : List ℕ) → Type 0
SisalSave sheet settings minute address count reply allowance answer after =
    Tells saved_told (λ below. Saves sheet (entry_of settings minute address count reply) allowance below after) answer

-- The stores of a save are told in integers by the sheet itself.
abbrev pub SisalSaveStores : (sheet : List ℕ) (settings minute address count : ℕ) (reply : List ℕ) (answer : SaveStores) → Type 0
SisalSaveStores sheet settings minute address count reply = TellsStores sheet (entry_of settings minute address count reply)

abbrev pub SisalLook : (sheet : List ℕ) (slot : ℕ) (answer : SlotTold) → Type 0
SisalLook sheet slot = Tells slot_told (Looks sheet slot)

abbrev pub SisalSlots : (sheet : List ℕ) (answer : Done) → Type 0
SisalSlots sheet = Tells counted_told (Counts sheet)
