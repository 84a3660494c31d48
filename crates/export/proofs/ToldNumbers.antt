-- The number that a host is told is the paper's number of what the call below answers, for every answer, by its cases. So it is that of the answer that the
-- host's integers stand for, whatever a call tells: what they stand for is that answer, by the laws of `Back`.
use mathlib.Core.Path.{◌≡◌, refl, sym, ap, ◌∙◌}
use mathlib.Core.List.{List}
use Prim.Native.Nat.{ℕ, ◌+◌, min}
use lib.IntN.{ℤ}
use Rattle.std.specs.Prelude.{Result, Ok, Err}
use Rattle.frame.specs.declared.Poll.{Poll}
use Rattle.frame.specs.declared.Reading.{Reading}
use Rattle.frame.specs.declared.faults.Fault.{Fault}
use Rattle.frame.specs.Poll.{poll_number, written_number}
use Rattle.frame.specs.Reply.{reply_number}
use Rattle.sheet.specs.declared.Looked.{Looked}
use Rattle.sheet.specs.declared.Found.{Found}
use Rattle.sheet.specs.declared.Found.TheVariants as found
use Rattle.sheet.specs.Save.{saved_number}
use Rattle.sheet.specs.Look.{found_number}
use Rattle.sheet.specs.View.{counted_number}
use Rattle.export_told.specs.Told.{poll_told, reply_told, written_told, saved_told, counted_told, slot_told, found_told}
use Rattle.frame.specs.Kinds.{is_set, reading_by}
use Rattle.frame.specs.Poll.{ReadsPoll, WritesPoll, write_poll_fault}
use Rattle.frame.specs.Reply.{ReadsReply, WritesReply, write_reply_fault, size_for}
use Rattle.sheet.specs.Record.{entry_of, length_of}
use Rattle.sheet.specs.Save.{Saves, save_fault}
use Rattle.sheet.specs.Look.{Looks}
use Rattle.sheet.specs.View.{Counts}
use Rattle.export_told.specs.declared.PollTold.{PollTold}
use Rattle.export_told.specs.declared.ReplyTold.{ReplyTold}
use Rattle.export_told.specs.declared.Done.{Done}
use Rattle.export_told.specs.declared.SlotTold.{SlotTold}
use Rattle.export_told.specs.Told.{poll_meant, reply_meant, written_meant, saved_meant, counted_meant, slot_meant}
use Rattle.export.specs.Calls.{Tells, SisalReadPoll, SisalWritePoll, SisalReadReply, SisalWriteReply, SisalSave, SisalLook, SisalSlots}
use Rattle.export.proofs.Back.{poll-back, reply-back, written_back, saved-back, counted_back, look-back}
use Rattle.export.proofs.Kept.{from}

pub poll-told : (r : Result Poll Fault) → (poll_told r).number ≡ poll_number r
poll-told (Ok p) = refl
poll-told (Err f) = refl

pub reply-told : (r : Result Reading Fault) → (reply_told r).number ≡ reply_number r
reply-told (Ok x) = refl
reply-told (Err f) = refl

pub written-told : (r : Result ℕ Fault) → (written_told r).number ≡ written_number r
written-told (Ok n) = refl
written-told (Err f) = refl

pub saved-told : (r : Result ℕ Fault) → (saved_told r).number ≡ saved_number r
saved-told (Ok n) = refl
saved-told (Err f) = refl

pub counted-told : (r : Result ℕ Fault) → (counted_told r).number ≡ counted_number r
counted-told (Ok n) = refl
counted-told (Err f) = refl

pub slot-told : (l : Looked) → (slot_told l).number ≡ found_number l.found
slot-told l = go l.found
  where
    go : (f : Found) → (found_told f l.reply).number ≡ found_number f
    go found.Blank = refl
    go found.Spoiled = refl
    go (found.Record h) = refl
    go found.Foreign = refl
    go (found.Refused f) = refl

-- So of a call that tells an answer, whichever number its answer has.
pub call-number : {A T : Type 0} (told : A → T) (allowed : A → Type 0) (number : A → ℕ) (of : T → ℕ) {answer : T}
    → ((r : A) → of (told r) ≡ number r) → (t : Tells told allowed answer) → of answer ≡ number t.below
call-number told allowed number of law t = ap of t.tells ∙ law t.below

-- The number among the integers is that of the answer that they stand for, whatever a call tells.
module _ {A T : Type 0} (told : A → T) (meant : T → A) (number : A → ℕ) (of : T → ℕ) (law : (r : A) → of (told r) ≡ number r) where
  pub meant-number : {answer : T} → (allowed : A → Type 0) → ((below : A) → allowed below → meant (told below) ≡ below) → Tells told allowed answer → number (meant answer) ≡ of answer
  meant-number allowed back r = ap number (ap meant r.tells ∙ back r.below r.allows) ∙ sym (call-number told allowed number of law r)

pub read-poll-number : (poll : List ℕ) (answer : PollTold) → SisalReadPoll poll answer → poll_number (poll_meant answer) ≡ answer.number
read-poll-number poll answer =
    meant-number poll_told poll_meant poll_number (λ t. t.number) poll-told (ReadsPoll poll) (λ b r. from poll_told poll_meant r.answers (poll-back poll))

pub write-poll-number : (address raise reset : ℕ) (out : List ℕ) (answer : Done) (after : List ℕ) → SisalWritePoll address raise reset out answer after → written_number (written_meant answer) ≡ answer.number
write-poll-number address raise reset out answer after =
    meant-number written_told written_meant written_number (λ d. d.number) written-told (λ b. WritesPoll address (is_set raise) (is_set reset) out b after)
    (λ b r. from written_told written_meant r.answers (written_back 2 (write_poll_fault address out)))

pub read-reply-number : (settings address count : ℕ) (reply : List ℕ) (answer : ReplyTold) → SisalReadReply settings address count reply answer → reply_number (reply_meant answer) ≡ answer.number
read-reply-number settings address count reply answer =
    meant-number reply_told reply_meant reply_number (λ t. t.number) reply-told (ReadsReply settings address count reply)
    (λ b r. from reply_told reply_meant r.answers (reply-back settings address count reply))

pub write-reply-number : (settings address level kind : ℕ) (tenths : ℤ) (alarm1 alarm0 : ℕ) (out : List ℕ) (answer : Done) (after : List ℕ) → SisalWriteReply settings address level kind tenths alarm1 alarm0 out answer after → written_number (written_meant answer) ≡ answer.number
write-reply-number settings address level kind tenths alarm1 alarm0 out answer after =
    let reading = reading_by kind tenths level alarm1 alarm0 in
    meant-number written_told written_meant written_number (λ d. d.number) written-told (λ b. WritesReply settings address reading out b after)
    (λ b r. from written_told written_meant r.answers (written_back (size_for reading) (write_reply_fault settings address reading out)))

pub save-number : (sheet : List ℕ) (settings minute address count : ℕ) (reply : List ℕ) (allowance : ℕ) (answer : Done) (after : List ℕ) → SisalSave sheet settings minute address count reply allowance answer after → saved_number (saved_meant answer) ≡ answer.number
save-number sheet settings minute address count reply allowance answer after =
    let e = entry_of settings minute address count reply in
    meant-number saved_told saved_meant saved_number (λ d. d.number) saved-told (λ b. Saves sheet e allowance b after)
    (λ b r. from saved_told saved_meant r.answers (saved-back (min allowance (length_of e + 2)) (save_fault sheet e)))

pub look-number : (sheet : List ℕ) (slot : ℕ) (answer : SlotTold) → SisalLook sheet slot answer → found_number (slot_meant answer).found ≡ answer.number
look-number sheet slot answer =
    meant-number slot_told slot_meant (λ l. found_number l.found) (λ t. t.number) slot-told (Looks sheet slot)
    (λ b r. from slot_told slot_meant r.answers (look-back sheet slot))

pub slots-number : (sheet : List ℕ) (answer : Done) → SisalSlots sheet answer → counted_number (counted_meant answer) ≡ answer.number
slots-number sheet answer =
    meant-number counted_told counted_meant counted_number (λ d. d.number) counted-told (Counts sheet)
    (λ b r. from counted_told counted_meant r.answers (counted_back sheet))
