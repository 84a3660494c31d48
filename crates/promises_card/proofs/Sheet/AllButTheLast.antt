-- All but the last: each of these stores goes to byte 1 or higher of the slot, so that its first byte stays FF, and so does every byte outside it. Assumes
-- nothing.
use mathlib.Core.Path.{◌≡◌, refl, sym, ap, subst, ◌∙◌}
use mathlib.Core.Logic.{◌≢◌, ◌⊎◌, inl, inr}
use mathlib.Core.Bool.{Bool, true, false}
use mathlib.Core.List.{List, [], ◌∷◌, ◌++◌, append-nil}
use Prim.Native.Nat.{ℕ, ◌+◌, ◌-◌, ◌*◌, ◌/◌, ◌<◌, ◌≤◌, min}
use native.Mathlib.Omega.{arith}
use borrow.Author.Tests.{eq-eqb, eqb-true, eqb-false, ltb-true, ltb-false}
use lib.Dec.{eqb, ltb}
use lib.ListN.{length, get_or, take, drop, set, length-take, length-drop, length-set, take-append-drop}
use lib.Seq.{ext_get_or, get_or-take, get_or-set_same, get_or-set_other, set_out, take_all}
use Rattle.frame.specs.Pick.{pick}
use Rattle.sheet.specs.declared.tell.SaveStores.{SaveStores}
use Rattle.sheet.specs.Bytes.{FF, all_blank}
use Rattle.sheet.specs.Record.{Entry, length_of, is_record, fields_of}
use Rattle.sheet.specs.Slots.{Slot, blank, spoiled, foreign, holds, record_in, slots, slot_at, slot_of, list_up_to, list_of, next}
use Rattle.sheet.specs.Stores.{Store, ◌puts◌, made, stores}
use Rattle.sheet.specs.Save.{Saves}
use Rattle.sheet.specs.StoresTold.{TellsStores, stores_told}
use Rattle.sheet.specs.Inside.InSlot.{store_place}
use Rattle.sheet.proofs.Storing.{stores-length, store_at, made-append}
use Rattle.sheet.proofs.StorePlaces.{places-take}
use Rattle.sheet.proofs.TakenSlot.{good-short}
use Rattle.sheet.proofs.LastUsedSlot.{next-blank, list-grows}
use Rattle.sheet.proofs.SaveMade.{slot-byte}
use Rattle.sheet.proofs.Refusals.{Clear}
use Rattle.promises_card.specs.Sheet.OneSave.{nth, Next}
use Rattle.promises_card.specs.Sheet.InSteps.{AtOnce}
use Rattle.promises_card.specs.Sheet.AllButTheLast.{all_but_last, the_last, Among, Torn, ShowsNone, AllButTheLast}
use Rattle.promises_card.proofs.Sheet.OneOutcome.{sheet-outcome}
use Rattle.promises_card.proofs.Sheet.OneSave.{one-save}
use Rattle.promises_card.proofs.Sheet.Telling.{not-refused, slot_is, count-is, stores-are}
use Rattle.promises_card.proofs.Sheet.ToldIsMade.{told-is-made}
use Rattle.promises_card.proofs.Sheet.AtOnce.{apart-take, at-once-made}
use Rattle.promises_card.proofs.Sheet.InSteps.{told-apart, told-inside}
use Rattle.std.specs.Prelude.{Result}
use Rattle.frame.specs.declared.faults.Fault.{Fault}

-- A slot whose first byte is FF is blank or spoiled, and tells no record.
unclosed : (x : List ℕ) → get_or x 0 0 ≡ FF → (slot_of x ≡ blank) ⊎ (slot_of x ≡ spoiled)
unfolding slot_of
unclosed x h = go (all_blank x) (eqb (get_or x 0 0) FF) (pick (is_record x) (holds (fields_of x)) foreign) (eq-eqb (get_or x 0 0) FF h)
  where
    go : (b f : Bool) (y : Slot) → f ≡ true → (pick b blank (pick f spoiled y) ≡ blank) ⊎ (pick b blank (pick f spoiled y) ≡ spoiled)
    go true f y q = inl refl
    go false f y q = inr (ap (λ (g : Bool). pick g spoiled y) q)

tells_none : (y : Slot) → (y ≡ blank) ⊎ (y ≡ spoiled) → record_in y ≡ []
tells_none y (inl e) = ap record_in e
tells_none y (inr e) = ap record_in e

-- Sheets that differ in one slot alone, and there not in the first byte, which was FF.
module _ (s t : List ℕ) (n : ℕ) (long : length t ≡ length s) (left : n < slots s) (from-it : n ≡ next s)
    (kept : (i : ℕ) → (i ≤ 32 * n) ⊎ (32 * n + 32 ≤ i) → get_or t i 0 ≡ get_or s i 0) (first : get_or s (32 * n) 0 ≡ FF) where
  others-kept : (k : ℕ) → k ≢ n → slot_at t k ≡ slot_at s k
  others-kept k other = ext_get_or 0 (slot_at t k) (slot_at s k) same_size byte
    where
      same_size : length (slot_at t k) ≡ length (slot_at s k)
      same_size = simp (length-take, length-drop, long)

      outside : (i : ℕ) → i < 32 → (b : Bool) → ltb k n ≡ b → (32 * k + i ≤ 32 * n) ⊎ (32 * n + 32 ≤ 32 * k + i)
      outside i h true q = inl (omega (arith, ltb-true k n q))
      outside i h false q = inr (omega (arith, ltb-false k n q))

      byte : (i : ℕ) → i < length (slot_at t k) → get_or (slot_at t k) i 0 ≡ get_or (slot_at s k) i 0
      byte i h =
          let small : i < 32 = omega (arith, length-take 32 (drop (32 * k) t)) in
          slot-byte t k i small ∙ kept (32 * k + i) (outside i small (ltb k n) refl) ∙ sym (slot-byte s k i small)

  own-kept : (slot_of (slot_at t n) ≡ blank) ⊎ (slot_of (slot_at t n) ≡ spoiled)
  own-kept =
      let here : 32 * n + 0 ≡ 32 * n = omega arith in
      unclosed (slot_at t n)
      (slot-byte t n 0 (omega arith) ∙ ap (λ (i : ℕ). get_or t i 0) here ∙ kept (32 * n) (inl (omega arith)) ∙ first)

  list-kept : list_of t ≡ list_of s
  list-kept =
      let same : slots t ≡ slots s = ap (λ (k : ℕ). k / 32) long in
      ap (list_up_to t) same
      ∙ list-grows s t n (slots s) left (λ k above below. next-blank s (slots s) k (omega (arith, from-it)) below) others-kept
      ∙ ap (λ (l : List Entry). list_of s ++ l) (tells_none (slot_of (slot_at t n)) own-kept) ∙ append-nil (list_of s)

  shows-none : ShowsNone s n t
  shows-none = record { own = own-kept; others = others-kept; list = list-kept }

-- Stores in any order, each one of some, are a write of those, torn.
stored-byte : (s : List ℕ) (p b i : ℕ) → (get_or (set s p b) i 0 ≡ get_or s i 0) ⊎ ((p ≡ i) × (get_or (set s p b) i 0 ≡ b))
stored-byte s p b i = go (eqb p i) (ltb p (length s)) refl refl
  where
    go : (u v : Bool) → eqb p i ≡ u → ltb p (length s) ≡ v → (get_or (set s p b) i 0 ≡ get_or s i 0) ⊎ ((p ≡ i) × (get_or (set s p b) i 0 ≡ b))
    go true true q l =
        let here : p ≡ i = eqb-true p i q in
        inr (here, ap (λ (k : ℕ). get_or (set s p b) k 0) (sym here) ∙ get_or-set_same s p b 0 (ltb-true p (length s) l))
    go true false q l = inl (ap (λ (x : List ℕ). get_or x i 0) (set_out s p b (ltb-false p (length s) l)))
    go false v q l = inl (get_or-set_other s p i b 0 (λ e. eqb-false p i q (sym e)))

-- A byte of a sheet that one of some stores put there.
abbrev ByOne : List Store → List ℕ → ℕ → Type 0
ByOne ps t i = (k : ℕ) × (k < length ps) × ((nth ps k).place ≡ i) × (get_or t i 0 ≡ (nth ps k).byte)

first-of : (s : List ℕ) (ps : List Store) (q : Store) (t : List ℕ) (i : ℕ) → (k : ℕ) × (k < length ps) × (q ≡ nth ps k)
    → (get_or t i 0 ≡ get_or (set s q.place q.byte) i 0) ⊎ ByOne ps t i → (get_or t i 0 ≡ get_or s i 0) ⊎ ByOne ps t i
first-of s ps q t i one by = go by (stored-byte s q.place q.byte i)
  where
    go : (get_or t i 0 ≡ get_or (set s q.place q.byte) i 0) ⊎ ByOne ps t i
        → (get_or (set s q.place q.byte) i 0 ≡ get_or s i 0) ⊎ ((q.place ≡ i) × (get_or (set s q.place q.byte) i 0 ≡ q.byte))
        → (get_or t i 0 ≡ get_or s i 0) ⊎ ByOne ps t i
    go (inr r) w = inr r
    go (inl e) (inl f) = inl (e ∙ f)
    go (inl e) (inr f) =
        inr (one.0, one.1, ap (λ (p : Store). p.place) (sym one.2) ∙ f.0, e ∙ f.1 ∙ ap (λ (p : Store). p.byte) one.2)

among-torn : (s : List ℕ) (ps qs : List Store) → Among ps qs → Torn s ps (made s qs)
unfolding made
among-torn s ps [] h = record { as_long = refl; each = λ i. inl refl }
among-torn s ps (q ∷ qs) h =
    let rest = among-torn (set s q.place q.byte) ps qs h.1 in
    record {
      as_long = rest.as_long ∙ length-set s q.place q.byte;
      each = λ i. first-of s ps q (made (set s q.place q.byte) qs) i h.0 (rest.each i);
    }

module _ (s : List ℕ) (e : Entry) (told : SaveStores) (tells : TellsStores s e told) where
  -- a save that is not refused
  module _ (c : Clear s e) where
    abbrev at : ℕ
    at = 32 * next s

    abbrev ps : List Store
    ps = take (length_of e + 1) (stores at e)

    are : all_but_last told ≡ ps
    are =
        let fewer : told.count - 1 ≡ length_of e + 1 = omega (arith, count-is s e told tells c) in
        λ i. take (fewer i) (stores-are s e told tells c i)

    -- each goes to byte 1 or higher of the slot
    turn : (k : ℕ) → k < length_of e + 1 → (0 < store_place (length_of e) k) × (store_place (length_of e) k < length_of e + 2)
    turn k h = go (ltb k (length_of e)) refl
      where
        go : (b : Bool) → ltb k (length_of e) ≡ b
            → (0 < pick b (2 + k) (length_of e + 1 - k)) × (pick b (2 + k) (length_of e + 1 - k) < length_of e + 2)
        go true q = (omega arith, omega (arith, ltb-true k (length_of e) q))
        go false q = (omega (arith, ltb-false k (length_of e) q), omega (arith, ltb-false k (length_of e) q))

    goes : (k : ℕ) → k < length ps → (at < (nth ps k).place) × ((nth ps k).place < at + 32)
    goes k h =
        let many : length ps ≡ min (length_of e + 1) (length_of e + 2) = simp (length-take, stores-length) in
        let few : k < length_of e + 1 = omega arith in
        let place : (nth ps k).place ≡ at + store_place (length_of e) k =
        ap (λ (p : Store). p.place)
        (get_or-take (length_of e + 1) (stores at e) k (0 puts 0) few ∙ store_at at e (0 puts 0) k (omega arith)) in
        let w = turn k few in
        let short : length_of e ≤ 17 = good-short e c.good in
        (omega (arith, place, w.0), omega (arith, place, w.1, short))

    first-blank : get_or s at 0 ≡ FF
    first-blank =
        let o = sheet-outcome.save s e 0 in
        let n : Next s o.some.0 o.some.1 = one-save.next-slot s e 0 o.some.0 o.some.1 o.allowed in
        n.blank_on at (omega arith) (omega (arith, c.left))

    torn-clear : (t : List ℕ) → Torn s ps t → ShowsNone s (next s) t
    torn-clear t w = shows-none s t (next s) w.as_long c.left refl (λ i o. kept i o (w.each i)) first-blank
      where
        kept : (i : ℕ) → (i ≤ at) ⊎ (at + 32 ≤ i)
            → (get_or t i 0 ≡ get_or s i 0) ⊎ ((k : ℕ) × (k < length ps) × ((nth ps k).place ≡ i) × (get_or t i 0 ≡ (nth ps k).byte)) → get_or t i 0 ≡ get_or s i 0
        kept i o (inl q) = q
        kept i (inl o) (inr r) = absurd (omega (arith, (goes r.0 r.1).0, r.2))
        kept i (inr o) (inr r) = absurd (omega (arith, (goes r.0 r.1).1, r.2))

    torn-told : (t : List ℕ) → Torn s (all_but_last told) t → ShowsNone s told.slot t
    torn-told t w =
        subst (λ (n : ℕ). ShowsNone s n t) (sym (slot_is s e told tells c)) (torn-clear t (subst (λ (l : List Store). Torn s l t) are w))

  -- the last store after all the others
  then-last-of : (t : List ℕ) → AtOnce s (all_but_last told) t → (answer : Result ℕ Fault) (u : List ℕ) → Saves s e told.count answer u → made t (the_last told) ≡ u
  then-last-of t o answer u x =
      let n = told.count - 1 in
      let all = stores_told told in
      let so : t ≡ made s (take n all) =
      at-once-made s (take n all) (apart-take n all (told-apart s e told tells)) (places-take (λ k. k < length s) n all (told-inside s e told tells)) t o in
      ap (λ (l : List ℕ). made l (drop n all)) so ∙ sym (made-append s (take n all) (drop n all)) ∙ ap (made s) (take-append-drop n all)
      ∙ sym (ap (made s) (take_all told.count all (omega (arith, told-is-made.all_told s e told tells))))
      ∙ told-is-made.leaves s e told tells told.count answer u x

pub all-but-the-last : AllButTheLast
all-but-the-last =
    record {
      any_order = λ s e told tells z qs h. torn-told s e told tells (not-refused s e told tells z) (made s qs) (among-torn s (all_but_last told) qs h);
      torn = λ s e told tells z. torn-told s e told tells (not-refused s e told tells z);
      then_last = then-last-of;
    }
