-- What the calls below can answer comes back from the integers that tell it. All of them answer what is good where their fault number is 0 and else
-- refuse by that number, so one law carries each; a refusal's number is then never 0, and 0 tells of none.
use mathlib.Core.Path.{◌≡◌, refl, sym, ap, ◌∙◌}
use mathlib.Core.Bool.{Bool, true, false, ◌&&◌}
use mathlib.Core.List.{List}
use mathlib.Core.Logic.{◌⊎◌, inl, inr}
use Prim.Native.Nat.{ℕ}
use borrow.Author.Tests.{eqb-false, leb-true, leb-false}
use lib.Dec.{eqb, leb, ltb}
use lib.ListN.{get_or-eq_default}
use Rattle.frame.specs.Line.{line}
use Rattle.frame.specs.Pick.{pick}
use Rattle.frame.specs.Poll.{poll_at, poll_fault, poll_of}
use Rattle.frame.specs.Level.{Level, level_of, place_lost}
use Rattle.frame.specs.Reply.{mode_in, reading_at, reply_fault, refused_by, reply_of}
use Rattle.sheet.specs.declared.Found.TheVariants as found
use Rattle.sheet.specs.Slots.{Slot, blank, spoiled, foreign, holds, slot_of, slot_at, slots, size_allowed}
use Rattle.sheet.specs.Look.{bare, look_told, look_of}
use Rattle.sheet.specs.View.{slots_counted}
use Rattle.frame.proofs.ToldBack.{flag-back, reading-back}
use Rattle.export_told.specs.Told.{poll_told, poll_meant, reply_told, reply_meant, written_told, written_meant, saved_told, saved_meant, counted_told, counted_meant, slot_told, slot_meant}
use Rattle.std.specs.Prelude.{Ok, Err}
use Rattle.frame.specs.declared.faults.Fault.{Fault}
use Rattle.frame.specs.declared.faults.Fault.TheVariants.{InNoChart, OutOfOrder}
use Rattle.frame.specs.Faults.{number_of, table, fault, verdict}
use Rattle.frame.proofs.Numbers.{own_number}

-- An answer comes back where a good one does, and a refusal does by any number but 0.
by-fault : {A T : Type 0} (told : A → T) (meant : T → A) (good : A) (bad : ℕ → A) → meant (told good) ≡ good → ((n : ℕ) → eqb n 0 ≡ false → meant (told (bad n)) ≡ bad n) → (n : ℕ) → meant (told (pick (eqb n 0) good (bad n))) ≡ pick (eqb n 0) good (bad n)
by-fault told meant good bad g b n = go (eqb n 0) refl
  where
    go : (t : Bool) → eqb n 0 ≡ t → meant (told (pick t good (bad n))) ≡ pick t good (bad n)
    go true e = g
    go false e = b n e

-- A number's fault has that number again, and one that the table does not have falls to its last.
number_again : (n : ℕ) → (n ≡ 0 → ⊥) → (number_of (fault n) ≡ n) ⊎ (fault n ≡ OutOfOrder)
number_again n some = go (leb n 38) refl
  where
    go : (b : Bool) → leb n 38 ≡ b → (number_of (fault n) ≡ n) ⊎ (fault n ≡ OutOfOrder)
    go true e = inl (own_number n some (leb-true n 38 e))
    go false e = inr (get_or-eq_default table OutOfOrder {n = n} (leb-false n 38 e))

-- So it comes back from its number, which is never 0, and 7 of number 7 alone.
comes_back : (n : ℕ) → (n ≡ 0 → ⊥) → fault (number_of (fault n)) ≡ fault n
comes_back n some = go (number_again n some)
  where
    go : (number_of (fault n) ≡ n) ⊎ (fault n ≡ OutOfOrder) → fault (number_of (fault n)) ≡ fault n
    go (inl own) = ap fault own
    go (inr last) = ap (λ (f : Fault). fault (number_of f)) last ∙ sym last

apart_from : (m : ℕ) → eqb 38 m ≡ false → (n : ℕ) → (n ≡ 0 → ⊥) → eqb n m ≡ false → eqb (number_of (fault n)) m ≡ false
apart_from m far n some e = go (number_again n some)
  where
    go : (number_of (fault n) ≡ n) ⊎ (fault n ≡ OutOfOrder) → eqb (number_of (fault n)) m ≡ false
    go (inl own) = ap (λ (k : ℕ). eqb k m) own ∙ e
    go (inr last) = ap (λ (f : Fault). eqb (number_of f) m) last ∙ far

pub poll-back : (s : List ℕ) → poll_meant (poll_told (poll_of s)) ≡ poll_of s
unfolding poll_of
poll-back s =
    by-fault poll_told poll_meant (Ok (poll_at (line s))) (λ n. Err (fault n)) (simp flag-back)
    (λ n e. simp (apart_from 0 refl n (eqb-false n 0 e) e, comes_back n (eqb-false n 0 e))) (poll_fault s)

refused-back : (level : Level) (n : ℕ) → eqb n 0 ≡ false → reply_meant (reply_told (Err (refused_by level n))) ≡ Err (refused_by level n)
refused-back level n e = go (eqb n 7) refl
  where
    go : (t : Bool) → eqb n 7 ≡ t → let f = pick t (InNoChart (place_lost level)) (fault n) in reply_meant (reply_told (Err f)) ≡ Err f
    go true q = refl
    go false q = simp (apart_from 0 refl n (eqb-false n 0 e) e, apart_from 7 refl n (eqb-false n 0 e) q, comes_back n (eqb-false n 0 e))

pub reply-back : (settings address count : ℕ) (s : List ℕ) → reply_meant (reply_told (reply_of settings address count s)) ≡ reply_of settings address count s
unfolding reply_of
reply-back settings address count s =
    let level = level_of (mode_in settings) (line s) in
    by-fault reply_told reply_meant (Ok (reading_at settings count (line s))) (λ n. Err (refused_by level n)) (ap Ok (reading-back (reading_at settings count (line s)))) (refused-back level) (reply_fault settings address count s)

pub written_back : (bytes n : ℕ) → written_meant (written_told (verdict n bytes)) ≡ verdict n bytes
written_back bytes n =
    by-fault written_told written_meant (Ok bytes) (λ k. Err (fault k)) refl (λ k e. simp (apart_from 0 refl k (eqb-false k 0 e) e, comes_back k (eqb-false k 0 e))) n

pub saved-back : (stores n : ℕ) → saved_meant (saved_told (verdict n stores)) ≡ verdict n stores
saved-back stores n =
    by-fault saved_told saved_meant (Ok stores) (λ k. Err (fault k)) refl (λ k e. simp (apart_from 0 refl k (eqb-false k 0 e) e, comes_back k (eqb-false k 0 e))) n

pub counted_back : (s : List ℕ) → counted_meant (counted_told (slots_counted s)) ≡ slots_counted s
unfolding slots_counted
counted_back s = go (size_allowed s)
  where
    go : (t : Bool) → let a = pick t (Ok (slots s)) (Err (fault 12)) in counted_meant (counted_told a) ≡ a
    go true = refl
    go false = refl

slot-back : (x : Slot) → slot_meant (slot_told (look_told x)) ≡ look_told x
slot-back blank = refl
slot-back spoiled = refl
slot-back foreign = refl
slot-back (holds e) = refl

pub look-back : (s : List ℕ) (k : ℕ) → slot_meant (slot_told (look_of s k)) ≡ look_of s k
unfolding look_of
look-back s k = go (size_allowed s && ltb k (slots s))
  where
    go : (t : Bool) → let l = pick t (look_told (slot_of (slot_at s k))) (bare (found.Refused (fault 12))) in slot_meant (slot_told l) ≡ l
    go true = slot-back (slot_of (slot_at s k))
    go false = refl
