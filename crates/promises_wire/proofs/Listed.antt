-- The listing of a sheet whose slots are a row from the first on, slot by slot: the lines joined are those of the row, since a blank slot has none, and the
-- list is the row's records. Record by record these are the lines and the records that are expected.
use mathlib.Core.Path.{◌≡◌, refl, sym, ap, ap₂, ◌∙◌}
use mathlib.Core.Bool.{Bool, true, false}
use mathlib.Core.List.{List, [], ◌∷◌, ◌++◌, map, append-nil, append_assoc}
use Prim.Native.Nat.{ℕ, zero, suc, ◌+◌, ◌<◌, ◌≤◌}
use native.Mathlib.Omega.{arith}
use native.Mathlib.Nat.{add-zero, zero-add}
use borrow.Author.Tests.{eqb-true, ltb-false}
use lib.Dec.{leb}
use lib.ListN.{length, get_or}
use Rattle.frame.specs.Pick.{pick}
use Rattle.frame.specs.Reply.{reply_of}
use Rattle.sheet.specs.Record.{Entry, length_of}
use Rattle.sheet.specs.Slots.{Slot, blank, spoiled, holds, record_in, size_allowed, slots, slot_at, slot_of, list_of}
use Rattle.sheet.specs.Save.{stores_made}
use Rattle.listing.specs.Text.{ascii, in_decimal}
use Rattle.listing.specs.Lines.{head_line, record_text, listed_line, lines_up_to, count_line, listing_of}
use Rattle.promises_card.specs.Sheet.History.{Save, all_stores, is_closed, records_of}
use Rattle.promises_card.specs.Sheet.SlotsInOrder.{has_slot, slot_of_save, slots_of_saves}
use Rattle.promises_card.specs.Listing.InOrder.{joined}
use Rattle.promises_card.proofs.Sheet.ListAndFull.{slots-of, long-so, sized, list-and-full}
use Rattle.promises_card.proofs.Sheet.SlotsInOrder.{fills, slots-in-order}
use Rattle.promises_wire.specs.Expected.{KnownSave, stores_for, uncut, expected_line, lines_from, records_from, records_for, listing_for}
use Rattle.promises_wire.proofs.Stored.{Order, Stored, takes_slot, slot_for, row_from, rowed}

-- Lines joined: the first one first.
joined-first : (f : ℕ → List ℕ) (k : ℕ) → joined f (suc k) ≡ f 0 ++ joined (λ j. f (suc j)) k
unfolding joined
joined-first f zero = sym (append-nil (f 0))
joined-first f (suc k) = ap (λ (l : List ℕ). l ++ f (suc k)) (joined-first f k) ∙ append_assoc (f 0) (joined (λ j. f (suc j)) k) (f (suc k))

joined_same : (f g : ℕ → List ℕ) (k : ℕ) → ((j : ℕ) → j < k → f j ≡ g j) → joined f k ≡ joined g k
unfolding joined
joined_same f g zero e = refl
joined_same f g (suc k) e = ap₂ (λ (a b : List ℕ). a ++ b) (joined_same f g k (λ j h. e j (omega arith))) (e k (omega arith))

joined-none : (k : ℕ) → joined (λ j. []) k ≡ []
unfolding joined
joined-none zero = refl
joined-none (suc k) = ap (λ (l : List ℕ). l ++ []) (joined-none k)

-- The lines of a row of slots that begins with slot k, and its records.
abbrev lines_of_row : ℕ → List Slot → List ℕ
lines_of_row k [] = []
lines_of_row k (y ∷ ys) = listed_line k y ++ lines_of_row (suc k) ys

abbrev held : List Slot → List Entry
held [] = []
held (y ∷ ys) = record_in y ++ held ys

row-lines : (row : List Slot) (base k : ℕ) → length row ≤ k → joined (λ j. listed_line (base + j) (get_or row j blank)) k ≡ lines_of_row base row
row-lines [] base k h = joined-none k
row-lines (y ∷ ys) base zero h = absurd (omega arith)
row-lines (y ∷ ys) base (suc k) h =
    joined-first (λ j. listed_line (base + j) (get_or (y ∷ ys) j blank)) k
    ∙ ap₂ (λ (a b : List ℕ). a ++ b) (ap (λ (j : ℕ). listed_line j y) (add-zero base))
    (joined_same (λ j. listed_line (base + suc j) (get_or ys j blank)) (λ j. listed_line (suc base + j) (get_or ys j blank)) k
    (λ j l. let place : base + suc j ≡ suc base + j = omega arith in ap (λ (i : ℕ). listed_line i (get_or ys j blank)) place)
    ∙ row-lines ys (suc base) k (omega arith))

sheet-lines : (s : List ℕ) (row : List Slot) (k : ℕ) → ((j : ℕ) → j < k → slot_of (slot_at s j) ≡ get_or row j blank)
    → lines_up_to s k ≡ joined (λ j. listed_line (0 + j) (get_or row j blank)) k
unfolding lines_up_to joined
sheet-lines s row zero e = refl
sheet-lines s row (suc k) e =
    ap₂ (λ (a b : List ℕ). a ++ b) (sheet-lines s row k (λ j h. e j (omega arith)))
    (ap (listed_line k) (e k (omega arith)) ∙ ap (λ (i : ℕ). listed_line i (get_or row k blank)) (sym (zero-add k)))

-- The records of a history are those of its slots.
held-append : (ys zs : List Slot) → held (ys ++ zs) ≡ held ys ++ held zs
held-append [] zs = refl
held-append (y ∷ ys) zs = ap (λ (l : List Entry). record_in y ++ l) (held-append ys zs) ∙ sym (append_assoc (record_in y) (held ys) (held zs))

one-record : (x : Save) (c b : Bool) → is_closed x ≡ c → has_slot x ≡ b
    → pick c (x.entry ∷ []) [] ≡ held (pick b (pick c (holds x.entry) spoiled ∷ []) [])
one-record x true true p q = refl
one-record x true false p q =
    absurd (omega (arith, eqb-true (stores_made x.answer) (all_stores x) p, ltb-false 0 (stores_made x.answer) q))
one-record x false true p q = refl
one-record x false false p q = refl

records-held : (h : List Save) → records_of h ≡ held (slots_of_saves h)
unfolding records_of slots_of_saves
records-held [] = refl
records-held (x ∷ h) =
    ap₂ (λ (a b : List Entry). a ++ b) (records-held h) (one-record x (is_closed x) (has_slot x) refl refl)
    ∙ sym (held-append (slots_of_saves h) (pick (has_slot x) (slot_of_save x ∷ []) []))

-- What is expected of a record.
abbrev pub known_order : Order → KnownSave
known_order o =
    record {
      entry = o.entry;
      says = reply_of o.entry.settings o.entry.address o.entry.count o.entry.reply;
      given = o.given;
    }

pub stores_as : (o : Order) → length_of o.entry + 2 ≡ stores_for (known_order o)
stores_as o = omega arith

slot-line : (k : ℕ) (o : Order) → listed_line k (slot_for o) ≡ expected_line k (known_order o)
unfolding record_text
slot-line k o = go (leb (length_of o.entry + 2) o.given) (ap (λ (m : ℕ). leb m o.given) (stores_as o))
  where
    go : (b : Bool) → b ≡ uncut (known_order o) → listed_line k (pick b (holds o.entry) spoiled) ≡ expected_line k (known_order o)
    go true e = rw (sym e)
    go false e = rw (sym e)

slot-record : (o : Order) → record_in (slot_for o) ≡ pick (uncut (known_order o)) (o.entry ∷ []) []
slot-record o = go (leb (length_of o.entry + 2) o.given) (ap (λ (m : ℕ). leb m o.given) (stores_as o))
  where
    go : (b : Bool) → b ≡ uncut (known_order o) → record_in (pick b (holds o.entry) spoiled) ≡ pick (uncut (known_order o)) (o.entry ∷ []) []
    go true e = rw (sym e)
    go false e = rw (sym e)

order-lines : (n k : ℕ) (os : List Order) → lines_of_row k (row_from n k os) ≡ lines_from n k (map known_order os)
unfolding row_from lines_from
order-lines n k [] = refl
order-lines n k (o ∷ os) = go (takes_slot n k o) (order-lines n (suc k) os) (order-lines n k os)
  where
    go : (b : Bool) → lines_of_row (suc k) (row_from n (suc k) os) ≡ lines_from n (suc k) (map known_order os)
        → lines_of_row k (row_from n k os) ≡ lines_from n k (map known_order os)
        → lines_of_row k (pick b (slot_for o ∷ row_from n (suc k) os) (row_from n k os))
        ≡ pick b (expected_line k (known_order o) ++ lines_from n (suc k) (map known_order os)) (lines_from n k (map known_order os))
    go true e f = ap₂ (λ (a b : List ℕ). a ++ b) (slot-line k o) e
    go false e f = f

order-records : (n k : ℕ) (os : List Order) → held (row_from n k os) ≡ records_from n k (map known_order os)
unfolding row_from records_from
order-records n k [] = refl
order-records n k (o ∷ os) = go (takes_slot n k o) (order-records n (suc k) os) (order-records n k os)
  where
    go : (b : Bool) → held (row_from n (suc k) os) ≡ records_from n (suc k) (map known_order os)
        → held (row_from n k os) ≡ records_from n k (map known_order os)
        → held (pick b (slot_for o ∷ row_from n (suc k) os) (row_from n k os))
        ≡ pick b (pick (uncut (known_order o)) (o.entry ∷ []) [] ++ records_from n (suc k) (map known_order os)) (records_from n k (map known_order os))
    go true e f = ap₂ (λ (a b : List Entry). a ++ b) (slot-record o) e
    go false e f = f

listing-is : (s : List ℕ) (n m : ℕ) (lines : List ℕ) → size_allowed s ≡ true → slots s ≡ n → lines_up_to s n ≡ lines → length (list_of s) ≡ m
    → listing_of s ≡ (ascii "sheet " ++ in_decimal n ++ ascii "\n") ++ lines ++ (ascii "records " ++ in_decimal m ++ ascii "\n")
unfolding listing_of head_line count_line
listing-is s n m lines size all e c =
    rw size
    (λ i. (ascii "sheet " ++ in_decimal (all i) ++ ascii "\n") ++ (ap (lines_up_to s) all ∙ e) i ++ (ascii "records " ++ in_decimal (c i) ++ ascii "\n"))

-- The list and the listing of a sheet on which records were stored.
module _ (n : ℕ) (few : n ≤ 2048) (os : List Order) (s : List ℕ) (st : Stored n os s) where
  pub list-as : list_of s ≡ records_for n (map known_order os)
  list-as =
      let r = rowed n few st in
      list-and-full.whole n r.saves s (record { allowed = few; history = r.history }) ∙ records-held r.saves ∙ ap held r.row ∙ order-records n 0 os

  pub listed-as : listing_of s ≡ listing_for n (map known_order os)
  listed-as =
      let r = rowed n few st in
      let h = r.history in
      let row : List Slot = slots_of_saves r.saves in
      let all : slots s ≡ n = slots-of n few s (long-so n few r.saves s h) in
      let enough : length row ≤ n = slots-in-order.enough n r.saves s (record { allowed = few; history = h }) in
      let lines : lines_up_to s n ≡ lines_from n 0 (map known_order os)
      = sheet-lines s row n (fills n few h).each ∙ row-lines row 0 n enough ∙ ap (lines_of_row 0) r.row ∙ order-lines n 0 os in
      listing-is s n (length (records_for n (map known_order os))) (lines_from n 0 (map known_order os)) (sized n few r.saves s h) all lines (ap length list-as)
