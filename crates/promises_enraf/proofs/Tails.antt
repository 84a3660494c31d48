-- What follows the letters, both ways, kind by kind: what is written is read as the same kind, error and data, because data has none of the three signs;
-- and what is read is written as the same bytes.
use mathlib.Core.Path.{◌≡◌, refl, sym, ap, ◌∙◌}
use mathlib.Core.Bool.{Bool, true, false, not, ◌&&◌, and-false}
use mathlib.Core.List.{List, [], ◌∷◌, ◌++◌}
use Prim.Native.Nat.{ℕ, zero, suc, ◌+◌, ◌-◌, ◌*◌, ◌/◌, ◌%◌, ◌≤◌, ◌<◌}
use native.Mathlib.Omega.{arith}
use lib.Dec.{eqb, leb}
use lib.ListN.{length, get_or, take, drop, length-append, take-append-drop, drop_of_length-le}
use lib.Seq.{drop-cons, drop-drop, take_at, get_or_at}
use borrow.Author.Tests.{ne_eqb, le-leb, eqb-true, leb-true, not-true}
use Rattle.frame.proofs.Both.{both}
use Rattle.putting.specs.Digit.{digit}
use Rattle.enraf.specs.Item.{equals, ampersand, exclamation, is_digit, digit_at, digit_characters, is_character, all_characters, is_data, setting, setting_taken, value, failed, kind_fits, tail_of, begins, ends, is_taken, is_error, kind_in, characters_in, error_in}
use Rattle.enraf.proofs.ByTests.{kind-by, error-by, characters-by, number_by, is-alone, is-setting, is-taken, is-setting-taken, is-error, setting-taken-long, setting-long, error-long, error-begins, error-digits}
use Rattle.enraf.proofs.SixKinds.{data-fits, error-fits, one-of-six}
use Rattle.enraf.proofs.Tails.{tail-alone, tail-setting, tail-taken, tail-setting-taken, tail-value, tail-error}

-- What is read back from the bytes that follow the letters.
pub record Back (kind error : ℕ) (d t : List ℕ) : Type 0 where
  pub kind-back : kind_in t ≡ kind
  pub error_back : error_in t ≡ error
  pub data_back : characters_in t ≡ d

-- A character of data is none of the three signs.
no_sign : (b : ℕ) → is_character b ≡ true → (eqb b ampersand ≡ false) × (eqb b exclamation ≡ false) × (eqb b equals ≡ false)
no_sign b h =
    let one = both (leb 0x20 b && leb b 0x7e && not (eqb b ampersand) && not (eqb b exclamation)) (not (eqb b equals)) h in
    let two = both (leb 0x20 b && leb b 0x7e && not (eqb b ampersand)) (not (eqb b exclamation)) one.0 in
    let three = both (leb 0x20 b && leb b 0x7e) (not (eqb b ampersand)) two.0 in
    (not-true (eqb b ampersand) three.1, not-true (eqb b exclamation) two.1, not-true (eqb b equals) one.1)

pub character-most : (b : ℕ) → is_character b ≡ true → b ≤ 0x7e
character-most b h =
    let one = both (leb 0x20 b && leb b 0x7e && not (eqb b ampersand) && not (eqb b exclamation)) (not (eqb b equals)) h in
    let two = both (leb 0x20 b && leb b 0x7e && not (eqb b ampersand)) (not (eqb b exclamation)) one.0 in
    let three = both (leb 0x20 b && leb b 0x7e) (not (eqb b ampersand)) two.0 in
    leb-true b 0x7e (both (leb 0x20 b) (leb b 0x7e) three.0).1

character-at : (d : List ℕ) (i : ℕ) → all_characters d ≡ true → i < length d → is_character (get_or d i 0) ≡ true
unfolding all_characters
character-at [] i h l = absurd (omega arith)
character-at (b ∷ d) zero h l = (both (is_character b) (all_characters d) h).0
character-at (b ∷ d) (suc i) h l = character-at d i (both (is_character b) (all_characters d) h).1 (omega arith)

module _ (d : List ℕ) (h : is_data d ≡ true) where
  some : 1 ≤ length d
  unfolding is_data
  some = leb-true 1 (length d) (both (leb 1 (length d)) (leb (length d) 16) (both (leb 1 (length d) && leb (length d) 16) (all_characters d) h).0).0

  pub characters-all : all_characters d ≡ true
  unfolding is_data
  characters-all = (both (leb 1 (length d) && leb (length d) 16) (all_characters d) h).1

  first_plain : (eqb (get_or d 0 0) ampersand ≡ false) × (eqb (get_or d 0 0) exclamation ≡ false) × (eqb (get_or d 0 0) equals ≡ false)
  first_plain = no_sign (get_or d 0 0) (character-at d 0 characters-all some)

  last-plain : eqb (get_or d (length d - 1) 0) ampersand ≡ false
  last-plain =
      let there = some in
      (no_sign (get_or d (length d - 1) 0) (character-at d (length d - 1) characters-all (omega arith))).0

-- The last of a list that has a first before others is the last of those.
last-behind : (b : ℕ) (d : List ℕ) → 1 ≤ length d → ends (b ∷ d) ≡ get_or d (length d - 1) 0
last-behind b d h =
    let n : suc (length d) - 1 ≡ suc (length d - 1) = omega arith in
    ap (λ (k : ℕ). get_or (b ∷ d) k 0) n

not_none : (n : ℕ) → eqb (suc n) 0 ≡ false
not_none n = ne_eqb (suc n) 0 (λ e. omega arith)

pub digit-is : (n : ℕ) → n ≤ 9 → is_digit (digit n) ≡ true
digit-is n h =
    let low : leb 0x30 (digit n) ≡ true = le-leb 0x30 (digit n) (omega arith) in
    let high : leb (digit n) 0x39 ≡ true = le-leb (digit n) 0x39 (omega arith) in
    λ i. (low i && high i)

-- Nothing but the data and the error that the kind has.
no-data : (d : List ℕ) → eqb (length d) 0 ≡ true → d ≡ []
no-data [] e = refl
no-data (b ∷ d) e = let z : suc (length d) ≡ 0 = eqb-true (suc (length d)) 0 e in absurd (omega arith)

module _ (error : ℕ) (d : List ℕ) where
  alone-back : kind_fits 1 error d ≡ true → Back 1 error d []
  unfolding kind_in error_in characters_in
  alone-back h = record { kind-back = refl; error_back = sym (eqb-true error 0 (error-fits 1 error d h)); data_back = sym (no-data d (data-fits 1 error d h)) }

  taken_back : kind_fits 3 error d ≡ true → Back 3 error d (ampersand ∷ [])
  unfolding kind_in error_in characters_in
  taken_back h = record { kind-back = refl; error_back = sym (eqb-true error 0 (error-fits 3 error d h)); data_back = sym (no-data d (data-fits 3 error d h)) }

  setting-back : kind_fits 2 error d ≡ true → Back 2 error d (equals ∷ d)
  setting-back h =
      let t = equals ∷ d in
      let data? = data-fits 2 error d h in
      let last : eqb (ends t) ampersand ≡ false = ap (λ (b : ℕ). eqb b ampersand) (last-behind equals d (some d data?)) ∙ last-plain d data? in
      let k : kind_in t ≡ 2 = kind-by t false true false _ _ (not_none (length d)) refl last refl refl in
      record {
        kind-back = k;
        error_back = number_by t false (ap (λ (n : ℕ). eqb n failed) k) ∙ sym (eqb-true error 0 (error-fits 2 error d h));
        data_back = characters-by t true _ _ (ap (λ (n : ℕ). eqb n setting) k) refl refl;
      }

  setting-taken-back : kind_fits 4 error d ≡ true → Back 4 error d (equals ∷ d ++ ampersand ∷ [])
  setting-taken-back h =
      let t = equals ∷ d ++ ampersand ∷ [] in
      let joined : length (d ++ ampersand ∷ []) ≡ length d + 1 = length-append d (ampersand ∷ []) in
      let at : length (equals ∷ d) ≡ length t - 1 = omega arith in
      let behind : length d ≡ length t - 2 = omega arith in
      let last : eqb (ends t) ampersand ≡ true = ap (λ (b : ℕ). eqb b ampersand) (get_or_at (equals ∷ d) ampersand [] 0 (length t - 1) at) in
      let k : kind_in t ≡ 4 = kind-by t false true true _ _ (not_none (length (d ++ ampersand ∷ []))) refl last refl refl in
      record {
        kind-back = k;
        error_back = number_by t false (ap (λ (n : ℕ). eqb n failed) k) ∙ sym (eqb-true error 0 (error-fits 4 error d h));
        data_back = characters-by t false true _ (ap (λ (n : ℕ). eqb n setting) k) (ap (λ (n : ℕ). eqb n setting_taken) k) refl
            ∙ take_at d (ampersand ∷ []) (length t - 2) behind;
      }

  value-back : kind_fits 5 error d ≡ true → Back 5 error d d
  value-back h =
      let is = data-fits 5 error d h in
      let there = some d is in
      let plain = first_plain d is in
      let long : eqb (length d) 0 ≡ false = ne_eqb (length d) 0 (λ e. omega arith) in
      let not_taken : is_taken d ≡ false = ap (λ (b : Bool). eqb (length d) 1 && b) plain.0 ∙ and-false (eqb (length d) 1) in
      let not-error : is_error d ≡ false =
      error-by d _ false _ _ _ refl plain.1 refl refl refl
      ∙ ap (λ (b : Bool). b && is_digit (get_or d 1 0) && is_digit (get_or d 2 0) && is_digit (get_or d 3 0)) (and-false (eqb (length d) 4)) in
      let k : kind_in d ≡ 5 = kind-by d false false _ false false long plain.2 refl not_taken not-error in
      record {
        kind-back = k;
        error_back = number_by d false (ap (λ (n : ℕ). eqb n failed) k) ∙ sym (eqb-true error 0 (error-fits 5 error d h));
        data_back = characters-by d false false true (ap (λ (n : ℕ). eqb n setting) k) (ap (λ (n : ℕ). eqb n setting_taken) k) (ap (λ (n : ℕ). eqb n value) k);
      }

  error-back-6 : kind_fits 6 error d ≡ true → Back 6 error d (exclamation ∷ digit_characters error)
  error-back-6 h =
      let t = exclamation ∷ digit_characters error in
      let few : error ≤ 999 = leb-true error 999 (error-fits 6 error d h) in
      let yes : is_error t ≡ true =
      error-by t true true true true true refl refl (digit-is (error / 100) (omega arith)) (digit-is (error / 10 % 10) (omega arith)) (digit-is (error % 10) (omega arith)) in
      let k : kind_in t ≡ 6 = kind-by t false false _ false true refl refl refl refl yes in
      let said : digit_at t 1 * 100 + digit_at t 2 * 10 + digit_at t 3 ≡ error = omega arith in
      record {
        kind-back = k;
        error_back = number_by t true (ap (λ (n : ℕ). eqb n failed) k) ∙ said;
        data_back = characters-by t false false false (ap (λ (n : ℕ). eqb n setting) k) (ap (λ (n : ℕ). eqb n setting_taken) k) (ap (λ (n : ℕ). eqb n value) k)
            ∙ sym (no-data d (data-fits 6 error d h));
      }

-- The same tail said otherwise.
back_is : {kind error : ℕ} {d t u : List ℕ} → t ≡ u → Back kind error d u → Back kind error d t
back_is e b = record { kind-back = ap kind_in e ∙ b.kind-back; error_back = ap error_in e ∙ b.error_back; data_back = ap characters_in e ∙ b.data_back }

-- Every kind is one of six.
pub six-ways : (P : ℕ → Type 0) → P 1 → P 2 → P 3 → P 4 → P 5 → P 6 → (k : ℕ) → 1 ≤ k → k ≤ 6 → P k
six-ways P a b c d e f zero low high = absurd (omega arith)
six-ways P a b c d e f (suc zero) low high = a
six-ways P a b c d e f (suc (suc zero)) low high = b
six-ways P a b c d e f (suc (suc (suc zero))) low high = c
six-ways P a b c d e f (suc (suc (suc (suc zero)))) low high = d
six-ways P a b c d e f (suc (suc (suc (suc (suc zero))))) low high = e
six-ways P a b c d e f (suc (suc (suc (suc (suc (suc zero)))))) low high = f
six-ways P a b c d e f (suc (suc (suc (suc (suc (suc (suc k))))))) low high = absurd (omega arith)

pub read_back : (kind error : ℕ) (d : List ℕ) → kind_fits kind error d ≡ true → Back kind error d (tail_of kind error d)
read_back kind error d h =
    six-ways (λ (k : ℕ). kind_fits k error d ≡ true → Back k error d (tail_of k error d))
    (λ f. back_is (tail-alone 1 error d refl) (alone-back error d f))
    (λ f. back_is (tail-setting 2 error d refl) (setting-back error d f))
    (λ f. back_is (tail-taken 3 error d refl) (taken_back error d f))
    (λ f. back_is (tail-setting-taken 4 error d refl) (setting-taken-back error d f))
    (λ f. back_is (tail-value 5 error d refl) (value-back error d f))
    (λ f. back_is (tail-error 6 error d refl) (error-back-6 error d f))
    kind (one-of-six kind error d h).0 (one-of-six kind error d h).1 h

-- And the other way: the bytes that were read, written by what they say.
module _ (t : List ℕ) where
  begun : 1 ≤ length t → t ≡ get_or t 0 0 ∷ drop 1 t
  begun h = drop-cons t 0 0 h

  alone-again : kind_in t ≡ 1 → [] ≡ t
  alone-again k = sym (drop_of_length-le t {i = 0} (omega (arith, is-alone t k)))

  setting-again : kind_in t ≡ 2 → equals ∷ characters_in t ≡ t
  setting-again k =
      let b : begins t ≡ equals = eqb-true (begins t) equals (is-setting t k).1 in
      ap (λ (l : List ℕ). equals ∷ l) (characters-by t true _ _ (ap (λ (n : ℕ). eqb n setting) k) refl refl)
      ∙ ap (λ (c : ℕ). c ∷ drop 1 t) (sym b) ∙ sym (begun (setting-long t k))

  taken-again : kind_in t ≡ 3 → ampersand ∷ [] ≡ t
  taken-again k =
      let parts = both (eqb (length t) 1) (eqb (begins t) ampersand) (is-taken t k) in
      let one : length t ≡ 1 = eqb-true (length t) 1 parts.0 in
      let b : begins t ≡ ampersand = eqb-true (begins t) ampersand parts.1 in
      let none : drop 1 t ≡ [] = drop_of_length-le t {i = 1} (omega arith) in
      (λ i. sym b i ∷ sym none i) ∙ sym (begun (omega arith))

  setting-taken-again : kind_in t ≡ 4 → equals ∷ characters_in t ++ ampersand ∷ [] ≡ t
  setting-taken-again k =
      let long : 2 ≤ length t = setting-taken-long t k in
      let b : begins t ≡ equals = eqb-true (begins t) equals (is-setting-taken t k).1 in
      let e : ends t ≡ ampersand = eqb-true (ends t) ampersand (is-setting-taken t k).2 in
      let d = take (length t - 2) (drop 1 t) in
      let is : characters_in t ≡ d = characters-by t false true _ (ap (λ (n : ℕ). eqb n setting) k) (ap (λ (n : ℕ). eqb n setting_taken) k) refl in
      let place : 1 + (length t - 2) ≡ length t - 1 = omega arith in
      let after : suc (length t - 1) ≡ length t = omega arith in
      let last : drop (length t - 2) (drop 1 t) ≡ ampersand ∷ [] =
      drop-drop (length t - 2) 1 t ∙ ap (λ (n : ℕ). drop n t) place ∙ drop-cons t (length t - 1) 0 (omega arith)
      ∙ (λ i. e i ∷ (ap (λ (n : ℕ). drop n t) after ∙ drop_of_length-le t {i = length t} (omega arith)) i) in
      (λ i. sym b i ∷ is i ++ sym last i) ∙ ap (λ (l : List ℕ). begins t ∷ l) (take-append-drop (length t - 2) (drop 1 t)) ∙ sym (begun (omega arith))

  value-again : kind_in t ≡ 5 → characters_in t ≡ t
  value-again k = characters-by t false false true (ap (λ (n : ℕ). eqb n setting) k) (ap (λ (n : ℕ). eqb n setting_taken) k) (ap (λ (n : ℕ). eqb n value) k)

-- A digit's number, and the three of an error.
pub digit-bounds : (b : ℕ) → is_digit b ≡ true → (0x30 ≤ b) × (b ≤ 0x39)
digit-bounds b h =
    let two = both (leb 0x30 b) (leb b 0x39) h in
    (leb-true 0x30 b two.0, leb-true b 0x39 two.1)

three-again : (e a b c : ℕ) → is_digit a ≡ true → is_digit b ≡ true → is_digit c ≡ true → e ≡ (a - 0x30) * 100 + (b - 0x30) * 10 + (c - 0x30)
    → digit_characters e ≡ a ∷ b ∷ c ∷ []
three-again e a b c ha hb hc is =
    let pa = digit-bounds a ha in
    let pb = digit-bounds b hb in
    let pc = digit-bounds c hc in
    let one : digit (e / 100) ≡ a = omega arith in
    let two : digit (e / 10 % 10) ≡ b = omega arith in
    let three : digit (e % 10) ≡ c = omega arith in
    λ i. one i ∷ two i ∷ three i ∷ []

four_bytes : (t : List ℕ) → length t ≡ 4 → get_or t 0 0 ∷ get_or t 1 0 ∷ get_or t 2 0 ∷ get_or t 3 0 ∷ [] ≡ t
four_bytes [] e = absurd (omega arith)
four_bytes (a ∷ []) e = absurd (omega arith)
four_bytes (a ∷ b ∷ []) e = absurd (omega arith)
four_bytes (a ∷ b ∷ c ∷ []) e = absurd (omega arith)
four_bytes (a ∷ b ∷ c ∷ d ∷ []) e = refl
four_bytes (a ∷ b ∷ c ∷ d ∷ f ∷ t) e = absurd (omega arith)

error-again : (t : List ℕ) → kind_in t ≡ 6 → exclamation ∷ digit_characters (error_in t) ≡ t
error-again t k =
    let yes = is-error t k in
    let digits = error-digits t yes in
    let said = number_by t true (ap (λ (n : ℕ). eqb n failed) k) in
    (λ i. sym (error-begins t yes) i ∷ three-again (error_in t) (get_or t 1 0) (get_or t 2 0) (get_or t 3 0) digits.0 digits.1 digits.2 said i)
    ∙ four_bytes t (error-long t yes)

pub written-again : (t : List ℕ) → kind_fits (kind_in t) (error_in t) (characters_in t) ≡ true → tail_of (kind_in t) (error_in t) (characters_in t) ≡ t
written-again t h =
    let e = error_in t in
    let d = characters_in t in
    six-ways (λ (k : ℕ). kind_in t ≡ k → tail_of (kind_in t) e d ≡ t)
    (λ k. tail-alone (kind_in t) e d k ∙ alone-again t k)
    (λ k. tail-setting (kind_in t) e d k ∙ setting-again t k)
    (λ k. tail-taken (kind_in t) e d k ∙ taken-again t k)
    (λ k. tail-setting-taken (kind_in t) e d k ∙ setting-taken-again t k)
    (λ k. tail-value (kind_in t) e d k ∙ value-again t k)
    (λ k. tail-error (kind_in t) e d k ∙ error-again t k)
    (kind_in t) (one-of-six (kind_in t) e d h).0 (one-of-six (kind_in t) e d h).1 refl
