-- Records stored one after another on a sheet that was blank. A round of records stores each with the stores that those before it left; a record behind the one at
-- which the round stopped takes no slot, since no store or no slot is left. The summary that is handed in is that of the sheet's list, so it refuses nothing.
use mathlib.Core.Path.{◌≡◌, refl, sym, ap, ◌∙◌}
use mathlib.Core.Bool.{Bool, true, false, ◌&&◌}
use mathlib.Core.List.{List, [], ◌∷◌, ◌++◌, append-nil}
use Prim.Native.Nat.{ℕ, suc, ◌+◌, ◌^◌, ◌<◌, ◌≤◌}
use native.Mathlib.Omega.{arith}
use native.Mathlib.Nat.{add-zero, zero-add}
use borrow.Author.Tests.{eq-eqb, ne_eqb, lt-ltb, le-ltb, le-leb, lt-leb}
use lib.Dec.{leb, ltb}
use lib.ListN.{length}
use Rattle.frame.specs.Pick.{pick}
use Rattle.sheet.specs.Record.{Entry, passes, length_of}
use Rattle.sheet.specs.Slots.{Slot, spoiled, holds, size_allowed, slots, next}
use Rattle.sheet.specs.Save.{save_fault, stores_made, Saves}
use Rattle.sheet.proofs.Refusals.{clear-fault}
use Rattle.promises_frame.proofs.Cases.{by-lt}
use Rattle.promises_card.specs.Sheet.History.{Save, History, begun, saved, blank_sheet, all_stores}
use Rattle.promises_card.specs.Sheet.SlotsInOrder.{has_slot, slot_of_save, slots_of_saves}
use Rattle.promises_card.proofs.Sheet.Fates.{Fate, refused, idle, broken, closed, fate}
use Rattle.promises_card.proofs.Sheet.ListAndFull.{slots-of, long-so, sized}
use Rattle.promises_card.proofs.Sheet.SlotsInOrder.{fills}
use Rattle.std.specs.Prelude.{Result}
use Rattle.frame.specs.declared.faults.Fault.{Fault}

-- A record to be saved, and the stores that it is given.
pub record Order : Type 0 where
  pub entry : Entry
  pub given : ℕ

abbrev pub order : Entry → ℕ → Order
order e given = record { entry = e; given = given }

-- A record that passes the checks, with a minute of 32 bits.
pub record Fit (e : Entry) : Type 0 where
  pub good : passes e ≡ true
  pub minute_fits : e.minute < 2 ^ 32

abbrev pub takes_slot : (n k : ℕ) → Order → Bool
takes_slot n k o = ltb 0 o.given && ltb k n

abbrev pub slot_for : Order → Slot
slot_for o = pick (leb (length_of o.entry + 2) o.given) (holds o.entry) spoiled

-- Saved by the contract of a save, or not tried, where no store or no slot was left for it.
pub data Stored (n : ℕ) : List Order → List ℕ → Type 0 where
  none_yet : Stored n [] (blank_sheet n)
  stored : {os : List Order} {s : List ℕ} (o : Order) (answer : Result ℕ Fault) (t : List ℕ) → Stored n os s → Fit o.entry
      → Saves s o.entry o.given answer t → Stored n (os ++ o ∷ []) t
  skipped : {os : List Order} {s : List ℕ} (o : Order) → Stored n os s → takes_slot n (next s) o ≡ false → Stored n (os ++ o ∷ []) s

-- The slots that records take, from slot k on, of n.
unfoldable pub row_from : (n k : ℕ) → List Order → List Slot
row_from n k [] = []
row_from n k (o ∷ os) = pick (takes_slot n k o) (slot_for o ∷ row_from n (suc k) os) (row_from n k os)

abbrev ending : (n k : ℕ) → Order → List Slot
ending n k o = pick (takes_slot n k o) (slot_for o ∷ []) []

-- One record more at the end takes the slot after those taken.
row_more : (n k : ℕ) (os : List Order) (o : Order) → row_from n k (os ++ o ∷ []) ≡ row_from n k os ++ ending n (k + length (row_from n k os)) o
unfolding row_from
row_more n k [] o = ap (λ (j : ℕ). ending n j o) (sym (add-zero k))
row_more n k (p ∷ os) o = go (takes_slot n k p) (row_more n (suc k) os o) (row_more n k os o)
  where
    go : (b : Bool) → row_from n (suc k) (os ++ o ∷ []) ≡ row_from n (suc k) os ++ ending n (suc k + length (row_from n (suc k) os)) o
        → row_from n k (os ++ o ∷ []) ≡ row_from n k os ++ ending n (k + length (row_from n k os)) o
        → pick b (slot_for p ∷ row_from n (suc k) (os ++ o ∷ [])) (row_from n k (os ++ o ∷ []))
        ≡ pick b (slot_for p ∷ row_from n (suc k) os) (row_from n k os) ++ ending n (k + length (pick b (slot_for p ∷ row_from n (suc k) os) (row_from n k os))) o
    go true e f =
        let place : suc k + length (row_from n (suc k) os) ≡ k + suc (length (row_from n (suc k) os)) = omega arith in
        ap (λ (l : List Slot). slot_for p ∷ l) (e ∙ ap (λ (j : ℕ). row_from n (suc k) os ++ ending n j o) place)
    go false e f = f

and-false : (b : Bool) → b && false ≡ false
and-false true = refl
and-false false = refl

-- What one save adds to the slots filled.
module _ (n : ℕ) (s t : List ℕ) (o : Order) (fit : Fit o.entry) (answer : Result ℕ Fault) (k : ℕ) (all : slots s ≡ n) (at : k ≡ next s) where
  abbrev x : Save
  x = record { entry = o.entry; minute_fits = fit.minute_fits; allowance = o.given; answer = answer }

  abbrev may : ℕ
  may = o.given

  abbrev added : List Slot
  added = pick (has_slot x) (slot_of_save x ∷ []) []

  none-added : stores_made answer ≡ 0 → takes_slot n k o ≡ false → added ≡ ending n k o
  none-added e f = ap (λ (m : ℕ). pick (ltb 0 m) (slot_of_save x ∷ []) []) e ∙ sym (ap (λ (b : Bool). pick b (slot_for o ∷ []) []) f)

  one-added : (y : Slot) → 0 < stores_made answer → 0 < may → next s < slots s → slot_of_save x ≡ y → slot_for o ≡ y → added ≡ ending n k o
  one-added y some allowed left p q =
      let has : has_slot x ≡ true = lt-ltb 0 (stores_made answer) some in
      let gets : takes_slot n k o ≡ true = rw (lt-ltb 0 may allowed, lt-ltb k n (omega arith)) in
      (λ i. pick (has i) (p i ∷ []) []) ∙ sym (λ i. pick (gets i) (q i ∷ []) [])

  -- a record that passes is refused only where no slot is left
  full : size_allowed s ≡ true → (save_fault s o.entry ≡ 0 → ⊥) → takes_slot n k o ≡ false
  full size r =
      by-lt (next s) (slots s) (λ h. absurd (r (clear-fault s o.entry (record { sized = size; good = fit.good; left = h }))))
      (λ h. ap (λ (b : Bool). ltb 0 may && b) (le-ltb k n (omega arith)) ∙ and-false (ltb 0 may))

  adds : size_allowed s ≡ true → Fate s o.entry may answer t → added ≡ ending n k o
  adds size (refused r a q) = none-added (ap stores_made a) (full size r)
  adds size (idle c z a q) = none-added (ap stores_made a) (ap (λ (m : ℕ). ltb 0 m && ltb k n) z)
  adds size (broken c p l a q) =
      let made : stores_made answer ≡ may = ap stores_made a in
      one-added spoiled (omega arith) p c.left (rw (ne_eqb (stores_made answer) (all_stores x) (omega arith))) (rw (lt-leb (all_stores x) may l))
  adds size (closed c l a q) =
      let made : stores_made answer ≡ all_stores x = ap stores_made a in
      one-added (holds o.entry) (omega arith) (omega arith) c.left (rw (eq-eqb (stores_made answer) (all_stores x) made)) (rw (le-leb (all_stores x) may l))

-- A history of saves whose slots are those of the records.
pub record Rowed (n : ℕ) (os : List Order) (s : List ℕ) : Type 0 where
  pub saves : List Save
  pub history : History (blank_sheet n) saves s
  pub row : slots_of_saves saves ≡ row_from n 0 os

module _ (n : ℕ) (few : n ≤ 2048) where
  -- the slots used and those there are
  module _ {os : List Order} {s : List ℕ} (r : Rowed n os s) where
    all_slots : slots s ≡ n
    all_slots = slots-of n few s (long-so n few r.saves s r.history)

    its-size : size_allowed s ≡ true
    its-size = sized n few r.saves s r.history

    used-so : 0 + length (row_from n 0 os) ≡ next s
    used-so = zero-add (length (row_from n 0 os)) ∙ ap length (sym r.row) ∙ (fills n few r.history).count

  pub rowed : {os : List Order} {s : List ℕ} → Stored n os s → Rowed n os s
  unfolding slots_of_saves row_from
  rowed none_yet = record { saves = []; history = begun; row = refl }
  rowed (stored {os = os} {s = s} o answer t st fit m) =
      let r = rowed st in
      let k : ℕ = 0 + length (row_from n 0 os) in
      let all = all_slots r in
      let at : k ≡ next s = used-so r in
      let more = adds n s t o fit answer k all at (its-size r) (fate s o.entry o.given answer t m) in
      record {
        saves = x n s t o fit answer k all at ∷ r.saves;
        history = saved (x n s t o fit answer k all at) r.history m;
        row = (λ i. r.row i ++ more i) ∙ sym (row_more n 0 os o);
      }
  rowed (skipped {os = os} {s = s} o st no_room) =
      let r = rowed st in
      let k : ℕ = 0 + length (row_from n 0 os) in
      let no : takes_slot n k o ≡ false = ap (λ (j : ℕ). takes_slot n j o) (used-so r) ∙ no_room in
      record {
        saves = r.saves;
        history = r.history;
        row = r.row ∙ sym (append-nil (row_from n 0 os)) ∙ ap (λ (b : Bool). row_from n 0 os ++ pick b (slot_for o ∷ []) []) (sym no) ∙ sym (row_more n 0 os o);
      }

  pub size_of : {os : List Order} {s : List ℕ} → Stored n os s → size_allowed s ≡ true
  size_of st = its-size (rowed st)

  -- a record that is refused on this sheet finds no slot, and no other would
  pub no_slot : {os : List Order} {s : List ℕ} → Stored n os s → (e : Entry) → Fit e → (save_fault s e ≡ 0 → ⊥) → n ≤ next s
  no_slot {os} {s} st e fit r =
      let q = rowed st in
      by-lt (next s) (slots s) (λ h. absurd (r (clear-fault s e (record { sized = its-size q; good = fit.good; left = h }))))
      (λ h. omega (arith, all_slots q))
