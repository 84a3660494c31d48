-- A blank slot after the first stores of a record: after all of them it is the record's picture and reads as that record; before the last its first
-- byte is still FF, and from the first store on it is not blank, so it reads as spoiled. Assumes nothing.
use mathlib.Core.Path.{◌≡◌, refl, sym, ap, ◌∙◌}
use mathlib.Core.Logic.{◌≢◌}
use mathlib.Core.Bool.{Bool, true, false}
use mathlib.Core.List.{List, [], ◌∷◌, ◌++◌, append_assoc}
use Prim.Native.Nat.{ℕ, zero, suc, ◌+◌, ◌-◌, ◌^◌, ◌<◌, ◌≤◌}
use native.Mathlib.Numerals.{add-one}
use native.Mathlib.Omega.{arith}
use borrow.Author.Tests.{eq-eqb, ne_eqb, eqb-true}
use lib.Dec.{eqb}
use lib.ListN.{length, get_or, take, drop, replicate, set, length-append, get_or-replicate}
use lib.Seq.{sets, sets-eq, take-append-le, take_at}
use Rattle.frame.specs.Line.{bytes_for}
use Rattle.sheet.specs.Bytes.{FF, all_blank}
use Rattle.sheet.specs.Record.{Entry, passes, after_length, length_of, length_bytes, record_of, picture, fields_of, is_record}
use Rattle.sheet.specs.Slots.{spoiled, holds, slot_of}
use Rattle.sheet.specs.Stores.{Store, ◌puts◌, made, ascending, stores}
use Rattle.sheet.proofs.Numbers.{number-back}
use Rattle.sheet.proofs.Same.{same_self}
use Rattle.sheet.proofs.Records.{passes-all, passes-formed, formed-few}
use Rattle.sheet.proofs.Storing.{made-append, made-length, ascending-length}
use Rattle.frame.proofs.Both.{both_left, both_right}
use Rattle.sheet.proofs.StorePlaces.{Places, places-take, places-append, places-weaker, Between, ascending-between, made-keeps}

-- A blank slot.
abbrev pub blank_slot : List ℕ
blank_slot = replicate 32 FF

pub blank-is : (x : List ℕ) → all_blank x ≡ true → x ≡ replicate (length x) FF
unfolding all_blank
blank-is [] h = refl
blank-is (b ∷ bs) h =
    λ i. eqb-true b FF (both_left (eqb b FF) (all_blank bs) h) i ∷ blank-is bs (both_right (eqb b FF) (all_blank bs) h) i

-- A row with a byte other than FF is not blank.
pub not-blank : (x : List ℕ) (i : ℕ) → i < length x → get_or x i 0 ≢ FF → all_blank x ≡ false
not-blank x i l h = go (all_blank x) refl
  where
    go : (t : Bool) → all_blank x ≡ t → t ≡ false
    go true e = absurd (h (ap (λ (y : List ℕ). get_or y i 0) (blank-is x e) ∙ get_or-replicate (length x) i FF 0 l))
    go false e = refl

made-ascending : (s : List ℕ) (p : ℕ) (bs : List ℕ) → made s (ascending p bs) ≡ sets s p bs
unfolding made ascending
made-ascending s p [] = refl
made-ascending s p (b ∷ bs) = made-ascending (set s p b) (p + 1) bs ∙ ap (λ (n : ℕ). sets (set s p b) n bs) (add-one p)

pub drop-replicate : (n m : ℕ) → drop n (replicate m FF) ≡ replicate (m - n) FF
drop-replicate zero m =
    let all : m ≡ m - 0 = omega arith in
    ap (λ (k : ℕ). replicate k FF) all
drop-replicate (suc n) zero =
    let none : 0 ≡ 0 - suc n = omega arith in
    ap (λ (k : ℕ). replicate k FF) none
drop-replicate (suc n) (suc m) =
    let same : m - n ≡ suc m - suc n = omega arith in
    drop-replicate n m ∙ ap (λ (k : ℕ). replicate k FF) same

module _ (e : Entry) (short : length_of e ≤ 17) where
  abbrev low : Store
  low = 1 puts get_or (length_bytes e) 1 0

  abbrev high : Store
  high = 0 puts get_or (length_bytes e) 0 0

  -- the body stands behind the two bytes of the length, which are still blank
  body-made : made blank_slot (ascending 2 (after_length e)) ≡ FF ∷ FF ∷ after_length e ++ replicate (32 - (2 + length_of e)) FF
  body-made =
      made-ascending blank_slot 2 (after_length e) ∙ sets-eq (after_length e) blank_slot 2 (omega arith)
      ∙ ap (λ (l : List ℕ). FF ∷ FF ∷ after_length e ++ l) (drop-replicate (2 + length_of e) 32)

  pub all_made : made blank_slot (stores 0 e) ≡ picture e
  unfolding stores picture made
  all_made =
      let rest : 32 - (2 + length_of e) ≡ 32 - length (record_of e) = omega arith in
      made-append blank_slot (ascending 2 (after_length e)) (low ∷ high ∷ [])
      ∙ ap (λ (x : List ℕ). set (set x 1 low.byte) 0 high.byte) body-made
      ∙ ap (λ (k : ℕ). record_of e ++ replicate k FF) rest

  -- before the last store the first byte is FF still
  pub first-blank : (may : ℕ) → may ≤ length_of e + 1 → get_or (made blank_slot (take may (stores 0 e))) 0 0 ≡ FF
  unfolding stores
  first-blank may h =
      let front = ascending 2 (after_length e) ++ low ∷ [] in
      let whole : ascending 2 (after_length e) ++ low ∷ high ∷ [] ≡ front ++ high ∷ [] =
      sym (append_assoc (ascending 2 (after_length e)) (low ∷ []) (high ∷ [])) in
      let long : length front ≡ length_of e + 1 = simp (length-append, ascending-length) (omega arith) in
      let part : take may (ascending 2 (after_length e) ++ low ∷ high ∷ []) ≡ take may front =
      ap (take may) whole ∙ take-append-le may front (high ∷ []) (omega arith) in
      let away : Places (λ n. n ≢ 0) front =
      places-append (λ n. n ≢ 0) (ascending 2 (after_length e)) (low ∷ [])
      (places-weaker (Between 2 (2 + length_of e)) (λ n. n ≢ 0) (λ n b. omega arith) (ascending 2 (after_length e)) (ascending-between 2 (after_length e)))
      (omega arith, tt) in
      ap (λ (ps : List Store). get_or (made blank_slot ps) 0 0) part
      ∙ made-keeps 0 0 blank_slot (take may front) (places-take (λ n. n ≢ 0) may front away)

  -- from the first store on the version stands
  pub version-made : (may : ℕ) → 0 < may → get_or (made blank_slot (take may (stores 0 e))) 2 0 ≡ 1
  unfolding stores made ascending
  version-made zero h = absurd (omega arith)
  version-made (suc m) h =
      let tail = drop 1 (after_length e) in
      let rest = ascending 3 tail ++ low ∷ high ∷ [] in
      let away : Places (λ n. n ≢ 2) rest =
      places-append (λ n. n ≢ 2) (ascending 3 tail) (low ∷ high ∷ [])
      (places-weaker (Between 3 (3 + length tail)) (λ n. n ≢ 2) (λ n b. omega arith) (ascending 3 tail) (ascending-between 3 tail))
      (omega arith, (omega arith, tt)) in
      made-keeps 2 0 (set blank_slot 2 1) (take m rest) (places-take (λ n. n ≢ 2) m rest away)

-- A record that passes.
module _ (e : Entry) (good : passes e ≡ true) where
  few : (e.count ≤ 64) × (length e.reply ≡ bytes_for e.count)
  few = formed-few e.count e.reply (passes-formed e good)

  pub good-short : length_of e ≤ 17
  good-short = omega (arith, few)

  -- Some stores made and not all, the slot reads as spoiled.
  pub reads-broken : (may : ℕ) → 0 < may → may < length_of e + 2 → slot_of (made blank_slot (take may (stores 0 e))) ≡ spoiled
  unfolding slot_of
  reads-broken may some cut =
      let x = made blank_slot (take may (stores 0 e)) in
      let version : get_or x 2 0 ≡ 1 = version-made e good-short may some in
      let long : length x ≡ 32 = made-length blank_slot (take may (stores 0 e)) in
      let used : all_blank x ≡ false = not-blank x 2 (omega arith) (omega arith) in
      let first : eqb (get_or x 0 0) FF ≡ true = eq-eqb (get_or x 0 0) FF (first-blank e good-short may (omega arith)) in
      simp (used, first)

  -- What the picture says is the record, where the minute has 32 bits.
  fields_back : e.minute < 2 ^ 32 → fields_of (picture e) ≡ e
  unfolding fields_of picture
  fields_back minute_fits =
      let minute = number-back 4 e.minute minute_fits in
      let address = number-back 2 e.address (omega (arith, (passes-all e good).1)) in
      let reply : take (bytes_for e.count) (e.reply ++ replicate (32 - length (record_of e)) FF) ≡ e.reply =
      take_at e.reply (replicate (32 - length (record_of e)) FF) (bytes_for e.count) few.1 in
      λ i. record { settings = e.settings; minute = minute i; address = address i; count = e.count; reply = reply i }

  -- All stores made, the slot reads as the record.
  pub reads-closed : e.minute < 2 ^ 32 → slot_of (picture e) ≡ holds e
  unfolding slot_of is_record
  reads-closed minute_fits =
      let used : all_blank (picture e) ≡ false = not-blank (picture e) 2 picture-long version-told in
      let first : eqb (get_or (picture e) 0 0) FF ≡ false = ne_eqb (get_or (picture e) 0 0) FF first-told in
      simp (used, first, fields_back minute_fits, good, same_self (picture e))
    where
      picture-long : 2 < length (picture e)
      picture-long = unfold picture in omega arith

      version-told : get_or (picture e) 2 0 ≢ FF
      version-told = unfold picture in omega arith

      first-told : get_or (picture e) 0 0 ≢ FF
      first-told = unfold picture in omega (arith, good-short)
