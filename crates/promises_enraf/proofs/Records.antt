-- Whole records, both ways: an item that fits is read from its own record, and bytes that are accepted are the record of the item that they say. Bytes of
-- ten or more are taken apart into the first eight, what follows the letters, and the last two; the rest is the laws of `Tails`.
use mathlib.Core.Path.{◌≡◌, refl, sym, ap, ◌∙◌}
use mathlib.Core.Bool.{true}
use mathlib.Core.List.{List, [], ◌∷◌, ◌++◌, append_assoc}
use Prim.Native.Nat.{ℕ, suc, ◌+◌, ◌-◌, ◌*◌, ◌/◌, ◌%◌, ◌≤◌, ◌<◌}
use native.Mathlib.Omega.{arith}
use lib.ListN.{length, get_or, take, drop, length-append, take-append-drop, drop_of_length-le}
use lib.Seq.{drop-cons, drop-drop, take_at, get_or_at}
use borrow.Author.Tests.{eq-eqb, le-leb, eqb-true}
use Rattle.enraf.specs.Check.{block_check}
use Rattle.putting.specs.Digit.{digit}
use Rattle.enraf.specs.Item.{Item, is_digit, digit_at, text_fits, tail_of, kind_in, error_in, characters_in}
use Rattle.enraf.specs.Record.{STX, ETX, B, Z, checked_of, item_record}
use Rattle.enraf.specs.Reading.{framed, check_right, addressed, tail_in, item_in, read_fault}
use Rattle.enraf.proofs.ByTests.{read-fault-by, framed-by, addressed-by, accepted, frame-long, frame-signs, address-digits}
use Rattle.enraf.proofs.SixKinds.{fits-kind}
use Rattle.enraf.proofs.Written.{record-long}
use Rattle.promises_enraf.proofs.Tails.{read_back, written-again, digit-bounds, digit-is}

-- An item's own record.
module _ (i : Item) (low : i.ciu ≤ 9) (few : i.gauge ≤ 99) (fits : text_fits i ≡ true) where
  abbrev tail : List ℕ
  tail = tail_of i.kind i.error i.characters

  abbrev front : List ℕ
  front = STX ∷ digit i.ciu ∷ digit (i.gauge / 10) ∷ digit (i.gauge % 10) ∷ B ∷ Z ∷ i.first ∷ i.second ∷ tail

  abbrev check : ℕ
  check = block_check (checked_of i)

  -- its last two bytes behind all others
  ends_so : item_record i ≡ front ++ ETX ∷ check ∷ []
  unfolding item_record checked_of
  ends_so = ap (λ (l : List ℕ). STX ∷ digit i.ciu ∷ digit (i.gauge / 10) ∷ digit (i.gauge % 10) ∷ B ∷ Z ∷ i.first ∷ i.second ∷ l)
      (append_assoc tail (ETX ∷ []) (check ∷ []))

  tail-is : tail_in (item_record i) ≡ tail
  tail-is =
      let long = record-long i in
      let n : length tail ≡ length (item_record i) - 10 = omega arith in
      ap (λ (s : List ℕ). take (length (item_record i) - 10) (drop 8 s)) ends_so ∙ take_at tail (ETX ∷ check ∷ []) (length (item_record i) - 10) n

  etx-is : get_or (item_record i) (length (item_record i) - 2) 0 ≡ ETX
  etx-is =
      let long = record-long i in
      let n : length front ≡ length (item_record i) - 2 = omega arith in
      ap (λ (s : List ℕ). get_or s (length (item_record i) - 2) 0) ends_so ∙ get_or_at front ETX (check ∷ []) 0 (length (item_record i) - 2) n

  as-checked : item_record i ≡ STX ∷ checked_of i ++ check ∷ []
  unfolding item_record
  as-checked = refl

  own-length : length (item_record i) ≡ suc (length (checked_of i) + 1)
  own-length = ap length as-checked ∙ ap suc (length-append (checked_of i) (check ∷ []))

  check-is : check_right (item_record i) ≡ true
  unfolding check_right
  check-is =
      let long = record-long i in
      let s = item_record i in
      let c = checked_of i in
      let whole = own-length in
      let n : length (STX ∷ c) ≡ length s - 1 = omega arith in
      let m : length c ≡ length s - 2 = omega arith in
      let last : get_or s (length s - 1) 0 ≡ check = ap (λ (l : List ℕ). get_or l (length s - 1) 0) as-checked ∙ get_or_at (STX ∷ c) check [] 0 (length s - 1) n in
      let inner : take (length s - 2) (drop 1 s) ≡ c = ap (λ (l : List ℕ). take (length s - 2) (drop 1 l)) as-checked ∙ take_at c (check ∷ []) (length s - 2) m in
      eq-eqb (get_or s (length s - 1) 0) (block_check (take (length s - 2) (drop 1 s))) (last ∙ sym (ap block_check inner))

  pub says : item_in (item_record i) ≡ i
  unfolding item_in item_record checked_of
  says =
      let back = read_back i.kind i.error i.characters (fits-kind i fits) in
      let one : 0x30 + i.ciu - 0x30 ≡ i.ciu = omega arith in
      let two : (0x30 + i.gauge / 10 - 0x30) * 10 + (0x30 + i.gauge % 10 - 0x30) ≡ i.gauge = omega arith in
      λ k. record {
        ciu = one k;
        gauge = two k;
        first = i.first;
        second = i.second;
        kind = (ap kind_in tail-is ∙ back.kind-back) k;
        error = (ap error_in tail-is ∙ back.error_back) k;
        characters = (ap characters_in tail-is ∙ back.data_back) k;
      }

  in_frame : framed (item_record i) ≡ true
  unfolding item_record checked_of
  in_frame =
      let long = record-long i in
      framed-by (item_record i) true true true true true (le-leb 10 (length (item_record i)) (omega arith)) refl refl refl
      (eq-eqb (get_or (item_record i) (length (item_record i) - 2) 0) ETX etx-is)

  has-digits : addressed (item_record i) ≡ true
  unfolding item_record checked_of
  has-digits =
      addressed-by (item_record i) true true true (digit-is i.ciu low) (digit-is (i.gauge / 10) (omega arith)) (digit-is (i.gauge % 10) (omega arith))

  pub readable : read_fault (item_record i) ≡ 0
  readable = read-fault-by (item_record i) true true true true in_frame check-is has-digits (ap text_fits says ∙ fits)

-- Bytes of ten or more, taken apart.
module _ (s : List ℕ) (h : 10 ≤ length s) where
  abbrev pub etx : ℕ
  etx = get_or s (length s - 2) 0

  abbrev pub last : ℕ
  last = get_or s (length s - 1) 0

  abbrev pub inner : List ℕ
  inner = get_or s 1 0 ∷ get_or s 2 0 ∷ get_or s 3 0 ∷ get_or s 4 0 ∷ get_or s 5 0 ∷ get_or s 6 0 ∷ get_or s 7 0 ∷ tail_in s ++ etx ∷ []

  eight : s ≡ get_or s 0 0 ∷ get_or s 1 0 ∷ get_or s 2 0 ∷ get_or s 3 0 ∷ get_or s 4 0 ∷ get_or s 5 0 ∷ get_or s 6 0 ∷ get_or s 7 0 ∷ drop 8 s
  eight =
      next 0 (omega arith) (next 1 (omega arith) (next 2 (omega arith) (next 3 (omega arith)
      (next 4 (omega arith) (next 5 (omega arith) (next 6 (omega arith) (next 7 (omega arith) refl)))))))
    where
      next : (k : ℕ) → k < length s → {l : List ℕ} → drop (suc k) s ≡ l → drop k s ≡ get_or s k 0 ∷ l
      next k small {l} e = drop-cons s k 0 small ∙ ap (λ (x : List ℕ). get_or s k 0 ∷ x) e

  two-last : drop 8 s ≡ tail_in s ++ etx ∷ last ∷ []
  two-last =
      let place : 8 + (length s - 10) ≡ length s - 2 = omega arith in
      let second : suc (length s - 2) ≡ length s - 1 = omega arith in
      let end : suc (length s - 1) ≡ length s = omega arith in
      let none : drop (suc (length s - 1)) s ≡ [] = drop_of_length-le s {i = suc (length s - 1)} (omega arith) in
      let one : drop (length s - 1) s ≡ last ∷ [] = drop-cons s (length s - 1) 0 (omega arith) ∙ ap (λ (l : List ℕ). last ∷ l) none in
      let both : drop (length s - 2) s ≡ etx ∷ last ∷ [] =
      drop-cons s (length s - 2) 0 (omega arith) ∙ ap (λ (l : List ℕ). etx ∷ l) (ap (λ (n : ℕ). drop n s) second ∙ one) in
      sym (take-append-drop (length s - 10) (drop 8 s))
      ∙ ap (λ (l : List ℕ). tail_in s ++ l) (drop-drop (length s - 10) 8 s ∙ ap (λ (n : ℕ). drop n s) place ∙ both)

  pub apart : s ≡ get_or s 0 0 ∷ inner ++ last ∷ []
  apart =
      eight
      ∙ ap (λ (l : List ℕ). get_or s 0 0 ∷ get_or s 1 0 ∷ get_or s 2 0 ∷ get_or s 3 0 ∷ get_or s 4 0 ∷ get_or s 5 0 ∷ get_or s 6 0 ∷ get_or s 7 0 ∷ l)
      (two-last ∙ sym (append_assoc (tail_in s) (etx ∷ []) (last ∷ [])))

  pub inner-is : take (length s - 2) (drop 1 s) ≡ inner
  inner-is =
      let long : length s ≡ suc (length (inner ++ last ∷ [])) = ap length apart in
      let join : length (inner ++ last ∷ []) ≡ length inner + 1 = length-append inner (last ∷ []) in
      let n : length inner ≡ length s - 2 = omega arith in
      ap (λ (l : List ℕ). take (length s - 2) (drop 1 l)) apart ∙ take_at inner (last ∷ []) (length s - 2) n

-- Accepted bytes are the record of the item that they say.
module _ (s : List ℕ) (ok : read_fault s ≡ 0) where
  long : 10 ≤ length s
  long = frame-long s (accepted s ok).0

  digits : (is_digit (get_or s 1 0) ≡ true) × (is_digit (get_or s 2 0) ≡ true) × (is_digit (get_or s 3 0) ≡ true)
  digits = address-digits s (accepted s ok).2

  pub small : ((item_in s).ciu ≤ 9) × ((item_in s).gauge ≤ 99)
  unfolding item_in
  small =
      let a = digit-bounds (get_or s 1 0) digits.0 in
      let b = digit-bounds (get_or s 2 0) digits.1 in
      let c = digit-bounds (get_or s 3 0) digits.2 in
      (omega arith, omega arith)

  pub fitting : text_fits (item_in s) ≡ true
  fitting = (accepted s ok).3

  tail-again : tail_of (kind_in (tail_in s)) (error_in (tail_in s)) (characters_in (tail_in s)) ≡ tail_in s
  unfolding item_in
  tail-again = written-again (tail_in s) (fits-kind (item_in s) fitting)

  checked-again : checked_of (item_in s) ≡ inner s long
  unfolding checked_of item_in
  checked-again =
      let a = digit-bounds (get_or s 1 0) digits.0 in
      let b = digit-bounds (get_or s 2 0) digits.1 in
      let c = digit-bounds (get_or s 3 0) digits.2 in
      let signs = frame-signs s (accepted s ok).0 in
      let one : digit (digit_at s 1) ≡ get_or s 1 0 = omega arith in
      let two : digit ((digit_at s 2 * 10 + digit_at s 3) / 10) ≡ get_or s 2 0 = omega arith in
      let three : digit ((digit_at s 2 * 10 + digit_at s 3) % 10) ≡ get_or s 3 0 = omega arith in
      λ k. one k ∷ two k ∷ three k ∷ sym signs.1 k ∷ sym signs.2 k ∷ get_or s 6 0 ∷ get_or s 7 0 ∷ tail-again k ++ sym signs.3 k ∷ []

  right : block_check (checked_of (item_in s)) ≡ last s long
  unfolding check_right
  right = ap block_check (checked-again ∙ sym (inner-is s long)) ∙ sym (eqb-true (last s long) (block_check (take (length s - 2) (drop 1 s))) (accepted s ok).1)

  pub again : item_record (item_in s) ≡ s
  unfolding item_record
  again =
      let signs = frame-signs s (accepted s ok).0 in
      (λ k. sym signs.0 k ∷ checked-again k ++ right k ∷ []) ∙ sym (apart s long)
