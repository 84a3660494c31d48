-- The promises of one save. A save that is not refused makes the first of its record's stores into a blank slot; a refused one makes none. Assumes
-- nothing.
use mathlib.Core.Path.{◌≡◌, refl, sym, ap, ◌∙◌}
use mathlib.Core.Logic.{◌≢◌}
use mathlib.Core.Bool.{Bool, true, false, ◌&&◌, true≢false}
use mathlib.Core.List.{List, [], ◌∷◌}
use Prim.Native.Nat.{ℕ, suc, ◌+◌, ◌-◌, ◌*◌, ◌/◌, ◌%◌, ◌<◌, ◌≤◌, min}
use native.Mathlib.Omega.{arith}
use borrow.Author.Tests.{eqb-true, eqb-false, ltb-true, ltb-false}
use lib.Dec.{eqb, ltb}
use lib.ListN.{length, get_or, take, replicate, length-take, get_or-replicate}
use lib.Seq.{get_or-take, take-take, take-nil}
use Rattle.frame.specs.Pick.{pick}
use Rattle.sheet.specs.Bytes.{FF, all_blank}
use Rattle.sheet.specs.Record.{Entry, length_of}
use Rattle.sheet.specs.Slots.{Slot, spoiled, holds, slots, slot_at, slot_of, next}
use Rattle.sheet.specs.Stores.{Store, ◌puts◌, made, stores, after}
use Rattle.sheet.specs.Inside.InSlot.{store_place}
use Rattle.sheet.specs.Save.{save_fault, Saves, saved_number, stores_made}
use Rattle.sheet.proofs.Storing.{stores-length, store_at, made-length}
use Rattle.promises_card.specs.Sheet.History.{Save, TakesSheet, all_stores}
use Rattle.promises_card.specs.Sheet.OneSave.{stores_of, nth, Count, Next, OneSave}
use Rattle.sheet.proofs.StorePlaces.{Places, places-take, places-at, places-all, Between, stores-between, made-keeps, made-stored}
use Rattle.sheet.proofs.TakenSlot.{blank-is, good-short, version-made}
use Rattle.sheet.proofs.LastUsedSlot.{next_le, next-blank, next-used}
use Rattle.sheet.proofs.SaveMade as made-law
use Rattle.sheet.proofs.SlotParts.{slot-long}
use Rattle.sheet.proofs.SaveMade.{slot-byte}
use Rattle.sheet.proofs.Refusals.{Clear, clear}
use Rattle.promises_card.proofs.Sheet.Fates.{Fate, refused, idle, broken, closed, fate}
use Rattle.std.specs.Prelude.{Result, Ok, Err}
use Rattle.frame.specs.declared.faults.Fault.{Fault}
use Rattle.frame.specs.Faults.{fault}

-- Two stores of one record go to two places.
apart : (at size j k : ℕ) → j < k → k < size + 2 → at + store_place size j ≢ at + store_place size k
apart at size j k h l = go (ltb j size) (ltb k size) refl refl
  where
    go : (t u : Bool) → ltb j size ≡ t → ltb k size ≡ u → at + pick t (2 + j) (size + 1 - j) ≢ at + pick u (2 + k) (size + 1 - k)
    go true true p q = omega arith
    go true false p q = omega (arith, ltb-false k size q)
    go false true p q = omega (arith, ltb-false j size p, ltb-true k size q)
    go false false p q = omega (arith, ltb-false j size p, ltb-false k size q)

-- a refused save counts no store
count-refused : (s : List ℕ) (f : Fault) (answer : Result ℕ Fault) (t : List ℕ) → answer ≡ Err f → t ≡ s → Count s [] answer t
count-refused s f answer t a q =
    record {
      number = ap stores_made a;
      as_long = ap length q;
      inside = λ k l. absurd (omega arith);
      once = λ j k h l. absurd (omega arith);
      stored = λ k l. absurd (omega arith);
      kept = λ i h. ap (λ (u : List ℕ). get_or u i 0) q;
    }

-- and one that is not counts the first of its record's
module _ (s : List ℕ) (e : Entry) (may : ℕ) (c : Clear s e) where
  abbrev at : ℕ
  at = 32 * next s

  abbrev ps : List Store
  ps = take may (stores at e)

  short : length_of e ≤ 17
  short = good-short e c.good

  many : length ps ≡ min may (length_of e + 2)
  many = simp (length-take, stores-length)

  nth-place : (k : ℕ) → k < length ps → (nth ps k).place ≡ at + store_place (length_of e) k
  nth-place k h =
      ap (λ (p : Store). p.place)
      (get_or-take may (stores at e) k (0 puts 0) (omega (arith, many)) ∙ store_at at e (0 puts 0) k (omega (arith, many)))

  places-in : (k : ℕ) → k < length ps → (nth ps k).place < length s
  places-in k h =
      let inside : Places (Between at (at + (length_of e + 2))) ps =
      places-take (Between at (at + (length_of e + 2))) may (stores at e) (stores-between at e) in
      let here = places-at (Between at (at + (length_of e + 2))) ps k (0 puts 0) inside h in
      omega (arith, c.left, here.1, short)

  places-once : (j k : ℕ) → j < k → k < length ps → (nth ps j).place ≢ (nth ps k).place
  places-once j k h l same =
      apart at (length_of e) j k h (omega (arith, many)) (sym (nth-place j (omega arith)) ∙ same ∙ nth-place k l)

  count-clear : (answer : Result ℕ Fault) (t : List ℕ) → answer ≡ Ok (min may (length_of e + 2)) → t ≡ after s e may → Count s ps answer t
  unfolding after
  count-clear answer t a q =
      record {
        number = ap stores_made a ∙ sym many;
        as_long = ap length q ∙ made-length s ps;
        inside = places-in;
        once = places-once;
        stored = λ k l. ap (λ (u : List ℕ). get_or u (nth ps k).place 0) q
            ∙ made-stored s ps k (0 puts 0) l (places-in k l) (λ j h m same. places-once k j h m (sym same));
        kept = λ i h. ap (λ (u : List ℕ). get_or u i 0) q ∙ made-keeps i 0 s ps (places-all (λ n. n ≢ i) ps (0 puts 0) h);
      }

count-of : (s : List ℕ) (e : Entry) (may : ℕ) (answer : Result ℕ Fault) (t : List ℕ) → Saves s e may answer t → Count s (stores_of s e may) answer t
count-of s e may answer t x = go (eqb (save_fault s e) 0) refl x.answers x.leaves
  where
    go : (b : Bool) → eqb (save_fault s e) 0 ≡ b → answer ≡ pick b (Ok (min may (length_of e + 2))) (Err (fault (save_fault s e)))
        → t ≡ pick b (after s e may) s → Count s (pick b (take may (stores (32 * next s) e)) []) answer t
    go true h a q = count-clear s e may (clear s e (eqb-true (save_fault s e) 0 h)) answer t a q
    go false h a q = count-refused s (fault (save_fault s e)) answer t a q

-- cut: the first k of the first stores are the first k
cut_of : (s : List ℕ) (e : Entry) (may k : ℕ) → k ≤ may → (answer : Result ℕ Fault) (t : List ℕ) → Saves s e k answer t
    → made s (take k (stores_of s e may)) ≡ t
cut_of s e may k h answer t x = go (eqb (save_fault s e) 0) x.leaves
  where
    go : (b : Bool) → t ≡ pick b (after s e k) s → made s (take k (pick b (take may (stores (32 * next s) e)) [])) ≡ t
    go true q = unfold after in ap (made s) (take-take k may (stores (32 * next s) e) h) ∙ sym q
    go false q = unfold made in ap (made s) (take-nil k) ∙ sym q

-- Where a row is not all blank, some byte of it is not FF.
some_byte : (x : List ℕ) → all_blank x ≡ false → (i : ℕ) × (i < length x) × (get_or x i 0 ≢ FF)
unfolding all_blank
some_byte [] h = absurd (true≢false h)
some_byte (b ∷ bs) h = go (eqb b FF) refl h (some_byte bs)
  where
    go : (u : Bool) → eqb b FF ≡ u → (u && all_blank bs) ≡ false → (all_blank bs ≡ false → (i : ℕ) × (i < length bs) × (get_or bs i 0 ≢ FF))
        → (i : ℕ) × (i < suc (length bs)) × (get_or (b ∷ bs) i 0 ≢ FF)
    go true e h rest =
        let r = rest h in
        (suc r.0, omega (arith, r.1), r.2)
    go false e h rest = (0, omega arith, eqb-false b FF e)

-- next: the slots from it on are blank, and the one before it is not
blank-on-of : (s : List ℕ) (i : ℕ) → 32 * next s ≤ i → i < 32 * slots s → get_or s i 0 ≡ FF
blank-on-of s i from below =
    let k = i / 32 in
    let x = slot_at s k in
    let here : 32 * k + i % 32 ≡ i = omega arith in
    let long : length x ≡ 32 = slot-long s k (omega arith) in
    let all : x ≡ replicate (length x) FF = blank-is x (next-blank s (slots s) k (omega arith) (omega arith)) in
    ap (λ (j : ℕ). get_or s j 0) (sym here) ∙ sym (slot-byte s k (i % 32) (omega arith)) ∙ ap (λ (y : List ℕ). get_or y (i % 32) 0) all
    ∙ get_or-replicate (length x) (i % 32) FF 0 (omega arith)

used-before-of : (s : List ℕ) → 0 < next s → (i : ℕ) × (32 * (next s - 1) ≤ i) × (i < 32 * next s) × (get_or s i 0 ≢ FF)
used-before-of s h =
    let k = next s - 1 in
    let long : length (slot_at s k) ≡ 32 = slot-long s k (omega (arith, next_le s (slots s))) in
    let r = some_byte (slot_at s k) (next-used s (slots s) h) in
    let small : r.0 < 32 = omega (arith, r.1) in
    (32 * k + r.0, omega arith, omega arith, λ e. r.2 (slot-byte s k r.0 small ∙ e))

-- the slot of a save, by what became of it
module _ (s : List ℕ) (e : Entry) (may : ℕ) (answer : Result ℕ Fault) (t : List ℕ) where
  others-stay : Clear s e → t ≡ after s e may → (k : ℕ) → k ≢ next s → slot_at t k ≡ slot_at s k
  others-stay c q k h = ap (λ (u : List ℕ). slot_at u k) q ∙ made-law.others s e may c.good c.left k h

  others-of : Fate s e may answer t → (k : ℕ) → k ≢ next s → slot_at t k ≡ slot_at s k
  others-of (refused n a q) k h = ap (λ (u : List ℕ). slot_at u k) q
  others-of (idle c z a q) k h = others-stay c q k h
  others-of (broken c p l a q) k h = others-stay c q k h
  others-of (closed c l a q) k h = others-stay c q k h

  version : Clear s e → 0 < may → t ≡ after s e may → get_or t (32 * next s + 2) 0 ≡ 1
  version c p q =
      ap (λ (u : List ℕ). get_or u (32 * next s + 2) 0) q ∙ sym (slot-byte (after s e may) (next s) 2 (omega arith))
      ∙ ap (λ (y : List ℕ). get_or y 2 0) (made-law.own s e may c.good c.left)
      ∙ version-made e (good-short e c.good) may p

  there-of : Fate s e may answer t → 0 < stores_made answer → get_or t (32 * next s + 2) 0 ≡ 1
  there-of (refused n a q) h = absurd (omega (arith, ap stores_made a))
  there-of (idle c z a q) h = absurd (omega (arith, ap stores_made a))
  there-of (broken c p l a q) h = version c p q
  there-of (closed c l a q) h = version c (omega arith) q

  refused-of : Fate s e may answer t → saved_number answer ≢ 0 → t ≡ s
  refused-of (refused n a q) h = q
  refused-of (idle c z a q) h = absurd (h (ap saved_number a))
  refused-of (broken c p l a q) h = absurd (h (ap saved_number a))
  refused-of (closed c l a q) h = absurd (h (ap saved_number a))

-- what the slot reads as
module _ (x : Save) (s t : List ℕ) where
  abbrev reads : Slot → Type 0
  reads y = slot_of (slot_at t (next s)) ≡ y

  after-it : t ≡ after s x.entry x.allowance → (y : Slot) → slot_of (slot_at (after s x.entry x.allowance) (next s)) ≡ y → reads y
  after-it q y h = ap (λ (u : List ℕ). slot_of (slot_at u (next s))) q ∙ h

  closes-of : Fate s x.entry x.allowance x.answer t → stores_made x.answer ≡ all_stores x → reads (holds x.entry)
  closes-of (refused n a q) all = absurd (omega (arith, ap stores_made a))
  closes-of (idle c z a q) all = absurd (omega (arith, ap stores_made a))
  closes-of (broken c p l a q) all = absurd (omega (arith, ap stores_made a))
  closes-of (closed c l a q) all =
      after-it q (holds x.entry) (made-law.closes s x.entry x.allowance c.good c.left x.minute_fits l)

  breaks-of : Fate s x.entry x.allowance x.answer t → 0 < stores_made x.answer → stores_made x.answer < all_stores x → reads spoiled
  breaks-of (refused n a q) some part = absurd (omega (arith, ap stores_made a))
  breaks-of (idle c z a q) some part = absurd (omega (arith, ap stores_made a))
  breaks-of (broken c p l a q) some part = after-it q spoiled (made-law.breaks s x.entry x.allowance c.good c.left p l)
  breaks-of (closed c l a q) some part = absurd (omega (arith, ap stores_made a))

  fate-of : TakesSheet s x t → Fate s x.entry x.allowance x.answer t
  fate-of m = fate s x.entry x.allowance x.answer t m

next_of : (s : List ℕ) (e : Entry) (may : ℕ) (answer : Result ℕ Fault) (t : List ℕ) → Saves s e may answer t → Next s answer t
next_of s e may answer t x =
    let f = fate s e may answer t x in
    record { blank_on = blank-on-of s; used_before = used-before-of s; others = others-of s e may answer t f; there = there-of s e may answer t f }

pub one-save : OneSave
one-save =
    record {
      count = count-of;
      next-slot = next_of;
      cut = cut_of;
      refused = λ s e may answer t x. refused-of s e may answer t (fate s e may answer t x);
      closes = λ x s t m. closes-of x s t (fate-of x s t m);
      breaks = λ x s t m. breaks-of x s t (fate-of x s t m);
    }
