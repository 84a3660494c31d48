-- Slots in order, by induction on the history: the slots filled so far number the slot that the next save goes to, which is blank; a save that makes a store
-- fills just that one, and any other leaves the sheet as it was. Assumes nothing.
use mathlib.Core.Path.{◌≡◌, refl, sym, ap, ◌∙◌}
use mathlib.Core.Logic.{◌≢◌}
use mathlib.Core.Bool.{Bool, true, false}
use mathlib.Core.List.{List, [], ◌∷◌, ◌++◌, append-nil}
use Prim.Native.Nat.{ℕ, ◌+◌, ◌<◌, ◌≤◌}
use native.Mathlib.Omega.{arith}
use borrow.Author.Tests.{eq-eqb, ne_eqb, eqb-true, eqb-false, lt-ltb}
use lib.Dec.{eqb, ltb}
use lib.ListN.{length, get_or, length-append, get_or-eq_default, get_or-append}
use lib.Seq.{get_or_at}
use Rattle.frame.specs.Pick.{pick}
use Rattle.sheet.specs.Bytes.{all_blank}
use Rattle.sheet.specs.Slots.{Slot, blank, spoiled, holds, slots, slot_at, slot_of, next}
use Rattle.sheet.specs.Save.{stores_made}
use Rattle.promises_frame.proofs.Cases.{by-lt}
use Rattle.promises_card.specs.Sheet.History.{Save, TakesSheet, History, begun, saved, blank_sheet, all_stores}
use Rattle.promises_card.specs.Sheet.SlotsInOrder.{has_slot, slot_of_save, slots_of_saves, SlotsInOrder}
use Rattle.sheet.proofs.LastUsedSlot.{next_le}
use Rattle.sheet.proofs.SaveMade as made-law
use Rattle.promises_card.proofs.Sheet.Fates.{Fate, refused, idle, broken, closed, fate}
use Rattle.promises_card.proofs.Sheet.OneSave.{one-save}
use Rattle.promises_card.proofs.Sheet.ListAndFull.{blank-slots, next-first, slots-of, long-so}

-- A row of slots fills a sheet of n from the first on.
pub record Fills (n : ℕ) (row : List Slot) (s : List ℕ) : Type 0 where
  pub count : length row ≡ next s
  pub each : (j : ℕ) → j < n → slot_of (slot_at s j) ≡ get_or row j blank

-- One slot more at the end of a row changes no other.
other_place : (row : List Slot) (y : Slot) (j : ℕ) → j ≢ length row → get_or (row ++ y ∷ []) j blank ≡ get_or row j blank
other_place row y j apart =
    by-lt j (length row) (λ h. get_or-append row (y ∷ []) blank j h)
    (λ h.
    get_or-eq_default (row ++ y ∷ []) blank (omega (arith, length-append row (y ∷ []))) ∙ sym (get_or-eq_default row blank h))

module _ (n : ℕ) (row : List Slot) (s t : List ℕ) (x : Save) (f : Fills n row s) (m : TakesSheet s x t) where
  abbrev more : List Slot
  more = row ++ pick (has_slot x) (slot_of_save x ∷ []) []

  stays : stores_made x.answer ≡ 0 → t ≡ s → Fills n more t
  stays none q =
      let same : more ≡ row = ap (λ (k : ℕ). row ++ pick (ltb 0 k) (slot_of_save x ∷ []) []) none ∙ append-nil row in
      record {
        count = ap length same ∙ f.count ∙ ap next (sym q);
        each = λ j h. ap (λ (u : List ℕ). slot_of (slot_at u j)) q ∙ f.each j h ∙ ap (λ (r : List Slot). get_or r j blank) (sym same);
      }

  grows : (y : Slot) → slot_of_save x ≡ y → 0 < stores_made x.answer → next t ≡ next s + 1 → slot_of (slot_at t (next s)) ≡ y → Fills n more t
  grows y is some on here =
      let same : more ≡ row ++ y ∷ [] = ap (λ (b : Bool). row ++ pick b (slot_of_save x ∷ []) []) (lt-ltb 0 (stores_made x.answer) some)
      ∙ ap (λ (z : Slot). row ++ z ∷ []) is in
      record {
        count = ap length same ∙ length-append row (y ∷ []) ∙ ap (λ (k : ℕ). k + 1) f.count ∙ sym on;
        each = λ j h. at j h (eqb j (next s)) refl ∙ ap (λ (r : List Slot). get_or r j blank) (sym same);
      }
    where
      at : (j : ℕ) → j < n → (b : Bool) → eqb j (next s) ≡ b → slot_of (slot_at t j) ≡ get_or (row ++ y ∷ []) j blank
      at j h true e =
          let same : j ≡ next s = eqb-true j (next s) e in
          ap (λ (k : ℕ). slot_of (slot_at t k)) same ∙ here ∙ sym (get_or_at row y [] blank j (f.count ∙ sym same))
      at j h false e =
          let apart : j ≢ next s = eqb-false j (next s) e in
          ap slot_of ((one-save.next-slot s x.entry x.allowance x.answer t m).others j apart) ∙ f.each j h
          ∙ sym (other_place row y j (λ q. apart (q ∙ f.count)))

  filled-by : Fate s x.entry x.allowance x.answer t → Fills n more t
  filled-by (refused r a q) = stays (ap stores_made a) q
  filled-by (idle c z a q) = stays (ap stores_made a) (q ∙ made-law.untouched s x.entry x.allowance c.good c.left z)
  filled-by (broken c p l a q) =
      let stores : stores_made x.answer ≡ x.allowance = ap stores_made a in
      let part : slot_of_save x ≡ spoiled = rw (ne_eqb (stores_made x.answer) (all_stores x) (omega arith)) in
      grows spoiled part (omega arith) (ap next q ∙ made-law.next-moves s x.entry x.allowance c.good c.left p)
      (one-save.breaks x s t m (omega arith) (omega arith))
  filled-by (closed c l a q) =
      let stores : stores_made x.answer ≡ all_stores x = ap stores_made a in
      let all : slot_of_save x ≡ holds x.entry = rw (eq-eqb (stores_made x.answer) (all_stores x) stores) in
      grows (holds x.entry) all (omega arith) (ap next q ∙ made-law.next-moves s x.entry x.allowance c.good c.left (omega arith))
      (one-save.closes x s t m stores)

-- A blank sheet, and any history on it.
blank-slot : (x : List ℕ) → all_blank x ≡ true → slot_of x ≡ blank
unfolding slot_of
blank-slot x e = rw e

module _ (n : ℕ) (few : n ≤ 2048) where
  pub fills : {h : List Save} {s : List ℕ} → History (blank_sheet n) h s → Fills n (slots_of_saves h) s
  unfolding slots_of_saves
  fills begun =
      record { count = sym (next-first n few); each = λ j h. blank-slot (slot_at (blank_sheet n) j) (blank-slots n j (omega arith) h) }
  fills (saved {h = h} {s = s} {t = t} x hist m) =
      filled-by n (slots_of_saves h) s t x (fills hist) m (fate s x.entry x.allowance x.answer t m)

pub slots-in-order : SlotsInOrder
slots-in-order =
    record {
      enough = λ n h s a.
          let count = (fills n a.allowed a.history).count in
          let all : slots s ≡ n = slots-of n a.allowed s (long-so n a.allowed h s a.history) in
          omega (arith, next_le s (slots s));
      filled = λ n h s a j near.
          let count = (fills n a.allowed a.history).count in
          let all : slots s ≡ n = slots-of n a.allowed s (long-so n a.allowed h s a.history) in
          (fills n a.allowed a.history).each j (omega (arith, next_le s (slots s)));
      later = λ n h s a j past near. (fills n a.allowed a.history).each j near ∙ get_or-eq_default (slots_of_saves h) blank past;
    }
