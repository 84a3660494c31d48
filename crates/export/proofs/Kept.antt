-- Nothing is lost on the way to the host: what an answer stands for is an answer of the call below, by that call's own contract, and the number in it is
-- the paper's number. Of any integers the number is that of what is read of them, and this, with its fault named, is what they stand for: both by the cases of
-- the number.
use mathlib.Core.Path.{◌≡◌, refl, sym, ap, subst, ◌∙◌}
use mathlib.Core.Bool.{Bool, true, false}
use mathlib.Core.List.{List}
use Prim.Native.Nat.{ℕ, ◌+◌, ◌≤◌, min}
use borrow.Author.Tests.{eqb-true, eqb-false}
use lib.Dec.{eqb}
use lib.IntN.{ℤ}
use Rattle.frame.specs.Pick.{pick}
use Rattle.frame.specs.Poll.{ReadsPoll, WritesPoll, poll_number, written_number, write_poll_fault}
use Rattle.frame.specs.declared.Reading.{Reading}
use Rattle.frame.specs.Reply.{ReadsReply, WritesReply, reply_number, write_reply_fault, size_for}
use Rattle.sheet.specs.declared.Head.{Head}
use Rattle.sheet.specs.declared.Looked.{Looked}
use Rattle.sheet.specs.declared.Found.TheVariants as found
use Rattle.sheet.specs.Record.{entry_of, length_of}
use Rattle.sheet.specs.Save.{Saves, save_fault, saved_number}
use Rattle.sheet.specs.Look.{Looks, found_number}
use Rattle.sheet.specs.View.{Counts, counted_number}
use Rattle.frame.specs.Kinds.{is_set, reading_by}
use Rattle.export_told.specs.declared.PollTold.{PollTold}
use Rattle.export_told.specs.declared.ReplyTold.{ReplyTold}
use Rattle.export_told.specs.declared.Done.{Done}
use Rattle.export_told.specs.declared.SlotTold.{SlotTold}
use Rattle.export_told.specs.Told.{poll_told, poll_meant, reply_told, reply_meant, written_told, written_meant, saved_told, saved_meant, counted_told, counted_meant, slot_told, slot_meant, state_meant, head_meant, poll_said}
use Rattle.export_told.specs.Told.{number_read, named, poll_read, refused_at, reply_read, reply_number_read, reply_named, written_read, saved_read, counted_read, slot_read, found_number_read, found_named}
use Rattle.export.specs.Calls.{Tells, SisalReadPoll, SisalWritePoll, SisalReadReply, SisalWriteReply, SisalSave, SisalLook, SisalSlots}
use Rattle.export.proofs.Back.{poll-back, reply-back, written_back, saved-back, counted_back, look-back}
use Rattle.std.specs.Prelude.{Result, Ok, Err}
use Rattle.frame.specs.declared.faults.Fault.{Fault}
use Rattle.frame.specs.declared.faults.Fault.TheVariants.{InNoChart}
use Rattle.frame.specs.Faults.{fault}
use Rattle.frame.proofs.Numbers.{own_number}

module _ {A T : Type 0} (told : A → T) (meant : T → A) where
  -- Telling loses nothing of an answer that is equal to one of which it loses nothing.
  pub from : {below is : A} → below ≡ is → meant (told is) ≡ is → meant (told below) ≡ below
  from e back = ap (λ x. meant (told x)) e ∙ back ∙ sym e

  -- What an answer stands for is what the call below answers, where telling loses nothing of it.
  pub kept : (allowed : A → Type 0) {answer : T} → ((below : A) → allowed below → meant (told below) ≡ below) → Tells told allowed answer → allowed (meant answer)
  kept allowed back r = subst allowed (sym (ap meant r.tells ∙ back r.below r.allows)) r.allows

pub read-poll-kept : (poll : List ℕ) (answer : PollTold) → SisalReadPoll poll answer → ReadsPoll poll (poll_meant answer)
read-poll-kept poll answer =
    kept poll_told poll_meant (ReadsPoll poll) (λ b r. from poll_told poll_meant r.answers (poll-back poll))

pub write-poll-kept : (address raise reset : ℕ) (out : List ℕ) (answer : Done) (after : List ℕ) → SisalWritePoll address raise reset out answer after → WritesPoll address (is_set raise) (is_set reset) out (written_meant answer) after
write-poll-kept address raise reset out answer after =
    kept written_told written_meant (λ b. WritesPoll address (is_set raise) (is_set reset) out b after) (λ b r. from written_told written_meant r.answers (written_back 2 (write_poll_fault address out)))

pub read-reply-kept : (settings address count : ℕ) (reply : List ℕ) (answer : ReplyTold) → SisalReadReply settings address count reply answer → ReadsReply settings address count reply (reply_meant answer)
read-reply-kept settings address count reply answer =
    kept reply_told reply_meant (ReadsReply settings address count reply) (λ b r. from reply_told reply_meant r.answers (reply-back settings address count reply))

pub write-reply-kept : (settings address level kind : ℕ) (tenths : ℤ) (alarm1 alarm0 : ℕ) (out : List ℕ) (answer : Done) (after : List ℕ) → SisalWriteReply settings address level kind tenths alarm1 alarm0 out answer after → WritesReply settings address (reading_by kind tenths level alarm1 alarm0) out (written_meant answer) after
write-reply-kept settings address level kind tenths alarm1 alarm0 out answer after =
    let reading = reading_by kind tenths level alarm1 alarm0 in
    kept written_told written_meant (λ b. WritesReply settings address reading out b after) (λ b r. from written_told written_meant r.answers (written_back (size_for reading) (write_reply_fault settings address reading out)))

pub save-kept : (sheet : List ℕ) (settings minute address count : ℕ) (reply : List ℕ) (allowance : ℕ) (answer : Done) (after : List ℕ) → SisalSave sheet settings minute address count reply allowance answer after → Saves sheet (entry_of settings minute address count reply) allowance (saved_meant answer) after
save-kept sheet settings minute address count reply allowance answer after =
    let e = entry_of settings minute address count reply in
    kept saved_told saved_meant (λ b. Saves sheet e allowance b after) (λ b r. from saved_told saved_meant r.answers (saved-back (min allowance (length_of e + 2)) (save_fault sheet e)))

pub look-kept : (sheet : List ℕ) (slot : ℕ) (answer : SlotTold) → SisalLook sheet slot answer → Looks sheet slot (slot_meant answer)
look-kept sheet slot answer =
    kept slot_told slot_meant (Looks sheet slot) (λ b r. from slot_told slot_meant r.answers (look-back sheet slot))

pub slots_kept : (sheet : List ℕ) (answer : Done) → SisalSlots sheet answer → Counts sheet (counted_meant answer)
slots_kept sheet answer =
    kept counted_told counted_meant (Counts sheet) (λ b r. from counted_told counted_meant r.answers (counted_back sheet))

-- What is good has number 0, and what is refused by a number has that number: so has the one of the two that the number picks.
numbered : {A : Type 0} (number : A → ℕ) (good bad : A) (n : ℕ) → number good ≡ 0 → ((n ≡ 0 → ⊥) → number bad ≡ n) → number (pick (eqb n 0) good bad) ≡ n
numbered number good bad n g b = go (eqb n 0) refl
  where
    go : (t : Bool) → eqb n 0 ≡ t → number (pick t good bad) ≡ n
    go true e = g ∙ sym (eqb-true n 0 e)
    go false e = b (eqb-false n 0 e)

-- The number in an answer is the paper's number of what it stands for, where the table has it.
pub poll-meant-number : (t : PollTold) → t.number ≤ 38 → poll_number (poll_meant t) ≡ t.number
poll-meant-number t h = numbered poll_number (Ok (poll_said t)) (Err (fault t.number)) t.number refl (λ some. own_number t.number some h)

refused-number : (place n : ℕ) → (n ≡ 0 → ⊥) → n ≤ 38 → reply_number (pick (eqb n 7) (Err (InNoChart place)) (Err (fault n))) ≡ n
refused-number place n some h = go (eqb n 7) refl
  where
    go : (t : Bool) → eqb n 7 ≡ t → reply_number (pick t (Err (InNoChart place)) (Err (fault n))) ≡ n
    go true e = sym (eqb-true n 7 e)
    go false e = own_number n some h

pub reply-meant-number : (t : ReplyTold) → t.number ≤ 38 → reply_number (reply_meant t) ≡ t.number
reply-meant-number t h =
    numbered reply_number (Ok (reading_by t.kind t.tenths t.level t.alarm1 t.alarm0)) (pick (eqb t.number 7) (Err (InNoChart t.place)) (Err (fault t.number))) t.number refl
    (λ some. refused-number t.place t.number some h)

pub written-meant-number : (d : Done) → d.number ≤ 38 → written_number (written_meant d) ≡ d.number
written-meant-number d h = numbered written_number (Ok d.count) (Err (fault d.number)) d.number refl (λ some. own_number d.number some h)

pub saved-meant-number : (d : Done) → d.number ≤ 38 → saved_number (saved_meant d) ≡ d.number
saved-meant-number d h = numbered saved_number (Ok d.count) (Err (fault d.number)) d.number refl (λ some. own_number d.number some h)

pub counted-meant-number : (d : Done) → d.number ≤ 38 → counted_number (counted_meant d) ≡ d.number
counted-meant-number d h = numbered counted_number (Ok d.count) (Err (fault d.number)) d.number refl (λ some. own_number d.number some h)

-- No state but a refusal's has a number.
state-number : (state : ℕ) (head : Head) → found_number (state_meant state head) ≡ 0
state-number state head = go (eqb state 1) (eqb state 2) (eqb state 3)
  where
    go : (b s r : Bool) → found_number (pick b found.Blank (pick s found.Spoiled (pick r (found.Record head) found.Foreign))) ≡ 0
    go true s r = refl
    go false true r = refl
    go false false true = refl
    go false false false = refl

pub slot-meant-number : (t : SlotTold) → t.number ≤ 38 → found_number (slot_meant t).found ≡ t.number
slot-meant-number t h =
    numbered found_number (state_meant t.state (head_meant t)) (found.Refused (fault t.number)) t.number (state-number t.state (head_meant t))
    (λ some. own_number t.number some h)

-- The number among any integers is that of what is read of them, whether the table has it or not: first where that is a value or a number alone.
read-number : {A : Type 0} (a : A) (n : ℕ) → number_read (pick (eqb n 0) (Ok a) (Err n)) ≡ n
read-number a n = numbered number_read (Ok a) (Err n) n refl (λ some. refl)

pub poll-number : (t : PollTold) → number_read (poll_read t) ≡ t.number
poll-number t = read-number (poll_said t) t.number

pub reply-number : (t : ReplyTold) → reply_number_read (reply_read t) ≡ t.number
reply-number t =
    numbered reply_number_read (Ok (reading_by t.kind t.tenths t.level t.alarm1 t.alarm0)) (Err (refused_at t.number t.place)) t.number refl (λ some. refl)

pub written-number : (d : Done) → number_read (written_read d) ≡ d.number
written-number d = read-number d.count d.number

pub saved-number : (d : Done) → number_read (saved_read d) ≡ d.number
saved-number d = read-number d.count d.number

pub counted-number : (d : Done) → number_read (counted_read d) ≡ d.number
counted-number d = read-number d.count d.number

pub slot-number : (t : SlotTold) → found_number_read (slot_read t) ≡ t.number
slot-number t =
    numbered found_number_read (Ok (state_meant t.state (head_meant t))) (Err t.number) t.number (state-number t.state (head_meant t)) (λ some. refl)

-- With its fault named, what is read of any integers is what they stand for.
named-read : {A : Type 0} (t : Bool) (a : A) (n : ℕ) → pick t (Ok a) (Err (fault n)) ≡ named (pick t (Ok a) (Err n))
named-read true a n = refl
named-read false a n = refl

pub poll-named : (t : PollTold) → poll_meant t ≡ named (poll_read t)
poll-named t = named-read (eqb t.number 0) (poll_said t) t.number

pub reply-named : (t : ReplyTold) → reply_meant t ≡ reply_named (reply_read t)
reply-named t = go (eqb t.number 0)
  where
    refused : (s : Bool) → ◌≡◌ {A = Result Reading Fault} (pick s (Err (InNoChart t.place)) (Err (fault t.number))) (Err (pick s (InNoChart (pick s t.place 0)) (fault t.number)))
    refused true = refl
    refused false = refl

    go : (b : Bool) → let good = reading_by t.kind t.tenths t.level t.alarm1 t.alarm0 in pick b (Ok good) (pick (eqb t.number 7) (Err (InNoChart t.place)) (Err (fault t.number))) ≡ reply_named (pick b (Ok good) (Err (refused_at t.number t.place)))
    go true = refl
    go false = refused (eqb t.number 7)

pub written-named : (d : Done) → written_meant d ≡ named (written_read d)
written-named d = named-read (eqb d.number 0) d.count d.number

pub saved-named : (d : Done) → saved_meant d ≡ named (saved_read d)
saved-named d = named-read (eqb d.number 0) d.count d.number

pub counted-named : (d : Done) → counted_meant d ≡ named (counted_read d)
counted-named d = named-read (eqb d.number 0) d.count d.number

-- Of a slot, the reply bytes stand beside what is read.
pub slot-named : (t : SlotTold) → slot_meant t ≡ record { found = found_named (slot_read t); reply = t.reply }
slot-named t = go (eqb t.number 0)
  where
    go : (b : Bool) → let state = state_meant t.state (head_meant t) in ◌≡◌ {A = Looked} (record { found = pick b state (found.Refused (fault t.number)); reply = t.reply }) (record { found = found_named (pick b (Ok state) (Err t.number)); reply = t.reply })
    go true = refl
    go false = refl
