-- Only one outcome: two answers that a call's contract allows for the same inputs are equal, and so is the memory that they leave. Each follows from the
-- contract of the call below, which fixes its own answer and memory.
use mathlib.Core.Path.{◌≡◌, sym, ap, ◌∙◌}
use mathlib.Core.List.{List}
use Prim.Native.Nat.{ℕ}
use lib.IntN.{ℤ}
use Rattle.frame.specs.Poll.{ReadsPoll, WritesPoll}
use Rattle.frame.specs.Reply.{ReadsReply, WritesReply}
use Rattle.sheet.specs.Record.{entry_of}
use Rattle.sheet.specs.Save.{Saves}
use Rattle.sheet.specs.Look.{Looks}
use Rattle.sheet.specs.View.{Counts}
use Rattle.sheet.specs.declared.tell.SaveStores.{SaveStores}
use Rattle.frame.specs.Kinds.{is_set, reading_by}
use Rattle.export_told.specs.declared.PollTold.{PollTold}
use Rattle.export_told.specs.declared.ReplyTold.{ReplyTold}
use Rattle.export_told.specs.declared.Done.{Done}
use Rattle.export_told.specs.declared.SlotTold.{SlotTold}
use Rattle.export_told.specs.Told.{poll_told, reply_told, written_told, saved_told, counted_told, slot_told}
use Rattle.export.specs.Calls.{Tells, SisalForm, SisalReadPoll, SisalWritePoll, SisalReadReply, SisalWriteReply, SisalSave, SisalSaveStores, SisalLook, SisalSlots}

-- Two answers that tell of the same one are equal.
pub one : {A T : Type 0} (told : A → T) (allowed other : A → Type 0) {a b : T} → ((x y : A) → allowed x → other y → x ≡ y) → Tells told allowed a → Tells told other b → a ≡ b
one told allowed other same x y = x.tells ∙ ap told (same x.below y.below x.allows y.allows) ∙ sym y.tells

pub form-one : (count : ℕ) (reply : List ℕ) (a b : ℕ) → SisalForm count reply a → SisalForm count reply b → a ≡ b
form-one count reply a b x y = x.answers ∙ sym y.answers

pub read-poll-one : (poll : List ℕ) (a b : PollTold) → SisalReadPoll poll a → SisalReadPoll poll b → a ≡ b
read-poll-one poll a b = one poll_told (ReadsPoll poll) (ReadsPoll poll) (λ x y p q. p.answers ∙ sym q.answers)

pub read-reply-one : (settings address count : ℕ) (reply : List ℕ) (a b : ReplyTold) → SisalReadReply settings address count reply a → SisalReadReply settings address count reply b → a ≡ b
read-reply-one settings address count reply a b =
    let reads = ReadsReply settings address count reply in
    one reply_told reads reads (λ x y p q. p.answers ∙ sym q.answers)

pub save-stores-one : (sheet : List ℕ) (settings minute address count : ℕ) (reply : List ℕ) (a b : SaveStores) → SisalSaveStores sheet settings minute address count reply a → SisalSaveStores sheet settings minute address count reply b → a ≡ b
save-stores-one sheet settings minute address count reply a b x y = x.answers ∙ sym y.answers

pub look_one : (sheet : List ℕ) (slot : ℕ) (a b : SlotTold) → SisalLook sheet slot a → SisalLook sheet slot b → a ≡ b
look_one sheet slot a b = one slot_told (Looks sheet slot) (Looks sheet slot) (λ x y p q. p.answers ∙ sym q.answers)

pub slots-one : (sheet : List ℕ) (a b : Done) → SisalSlots sheet a → SisalSlots sheet b → a ≡ b
slots-one sheet a b = one counted_told (Counts sheet) (Counts sheet) (λ x y p q. p.answers ∙ sym q.answers)

pub write-poll-one : (address raise reset : ℕ) (out : List ℕ) (a b : Done) (s t : List ℕ) → SisalWritePoll address raise reset out a s → SisalWritePoll address raise reset out b t → (a ≡ b) × (s ≡ t)
write-poll-one address raise reset out a b s t x y =
    (one written_told (λ w. WritesPoll address (is_set raise) (is_set reset) out w s) (λ w. WritesPoll address (is_set raise) (is_set reset) out w t) (λ v w p q. p.answers ∙ sym q.answers) x y, x.allows.leaves ∙ sym y.allows.leaves)

pub write-reply-one : (settings address level kind : ℕ) (tenths : ℤ) (alarm1 alarm0 : ℕ) (out : List ℕ) (a b : Done) (s t : List ℕ) → SisalWriteReply settings address level kind tenths alarm1 alarm0 out a s → SisalWriteReply settings address level kind tenths alarm1 alarm0 out b t → (a ≡ b) × (s ≡ t)
write-reply-one settings address level kind tenths alarm1 alarm0 out a b s t x y =
    (one written_told (λ w. WritesReply settings address (reading_by kind tenths level alarm1 alarm0) out w s) (λ w. WritesReply settings address (reading_by kind tenths level alarm1 alarm0) out w t) (λ v w p q. p.answers ∙ sym q.answers) x y, x.allows.leaves ∙ sym y.allows.leaves)

pub save-one : (sheet : List ℕ) (settings minute address count : ℕ) (reply : List ℕ) (allowance : ℕ) (a b : Done) (s t : List ℕ) → SisalSave sheet settings minute address count reply allowance a s → SisalSave sheet settings minute address count reply allowance b t → (a ≡ b) × (s ≡ t)
save-one sheet settings minute address count reply allowance a b s t x y =
    (one saved_told (λ w. Saves sheet (entry_of settings minute address count reply) allowance w s) (λ w. Saves sheet (entry_of settings minute address count reply) allowance w t) (λ v w p q. p.answers ∙ sym q.answers) x y, x.allows.leaves ∙ sym y.allows.leaves)
