-- The records of a pair in the slots noted of it: one slot more of a row, and one slot more of the sheet, noted or not. The bytes where a record has its
-- address and settings tell whether a slot can hold one of the pair. Assumes nothing.
use mathlib.Core.Path.{◌≡◌, refl, sym, ap, ◌∙◌}
use mathlib.Core.Bool.{Bool, true, false}
use mathlib.Core.List.{List, [], ◌++◌, append-nil}
use Prim.Native.Nat.{ℕ, zero, suc, ◌+◌, ◌*◌, ◌<◌, ◌≤◌}
use native.Mathlib.Nat.{zero-add}
use native.Mathlib.Numerals.{add-one}
use native.Mathlib.Omega.{arith}
use borrow.Author.Tests.{eqb-false, ltb-true, ltb-false}
use lib.Dec.{eqb, ltb}
use lib.ListN.{length, get_or, take, drop, set, length-append, length-drop}
use lib.Seq.{get_or-take, get_or-drop, get_or-set_same, get_or-set_other, length-take-le}
use Rattle.frame.specs.Pick.{pick}
use Rattle.sheet.specs.Bytes.{FF, all_blank, number_in}
use Rattle.sheet.specs.Record.{Entry, is_record, fields_of}
use Rattle.sheet.specs.Slots.{blank, spoiled, foreign, holds, slots, slot_at, slot_of, record_in, list_up_to}
use Rattle.sheet.proofs.Numbers.{number_more}
use Rattle.sheet.proofs.SlotParts.{slot-long}
use Rattle.summary.specs.Line.{pair_by}
use Rattle.summary.specs.Worked.{pair_in, entries_of_pair}
use Rattle.layers.specs.Inside.Noted.{own_in, own_up_to, IsNoted}
use Rattle.layers.proofs.Drawn.{of_none, of_other, pair-more}

module _ (s : List ℕ) (pair : ℕ) where
  -- no slot of a row, and one more
  pub own-none : (own : List ℕ) → own_up_to s pair own 0 ≡ []
  unfolding own_up_to
  own-none own = refl

  pub own-more : (own : List ℕ) (n : ℕ) → own_up_to s pair own (n + 1) ≡ own_up_to s pair own n ++ own_in s pair (get_or own n 0)
  own-more own n = unfold own_up_to in ap (own_up_to s pair own) (add-one n)

  pub own-count : (own : List ℕ) (n : ℕ) → length (own_up_to s pair own (n + 1)) ≡ length (own_up_to s pair own n) + length (own_in s pair (get_or own n 0))
  own-count own n = ap length (own-more own n) ∙ length-append (own_up_to s pair own n) (own_in s pair (get_or own n 0))

  pub own-grows : (own : List ℕ) (n d : ℕ) → length (own_up_to s pair own n) ≤ length (own_up_to s pair own (n + d))
  own-grows own n zero = let e : n ≡ n + 0 = omega arith in rw (← e) (omega arith)
  own-grows own n (suc d) =
      let e : n + suc d ≡ n + d + 1 = omega arith in
      rw e (omega (arith, own-grows own n d, own-count own (n + d)))

  -- rows that begin alike
  own-alike : (own row : List ℕ) (n : ℕ) → ((i : ℕ) → i < n → get_or own i 0 ≡ get_or row i 0) → own_up_to s pair own n ≡ own_up_to s pair row n
  unfolding own_up_to
  own-alike own row zero h = refl
  own-alike own row (suc n) h =
      let before = own-alike own row n (λ i l. h i (omega arith)) in
      let here = h n (omega arith) in
      λ t. before t ++ own_in s pair (here t)

  -- what a row has noted of the first k slots
  pub record NotedTo (row : List ℕ) (count k : ℕ) : Type 0 where
    pub few : count ≤ k
    pub within : (i : ℕ) → i < count → get_or row i 0 < slots s
    pub records : own_up_to s pair row count ≡ entries_of_pair pair (list_up_to s k)

  pub noted-none : (row : List ℕ) → NotedTo row 0 0
  unfolding own_up_to list_up_to
  noted-none row = record { few = omega arith; within = λ i l. absurd (omega arith); records = sym (of_none pair) }

  module _ (row : List ℕ) (count k : ℕ) (f : NotedTo row count k) (near : k < slots s) (room : count < length row) where
    stays : (i : ℕ) → i < count → get_or (set row count k) i 0 ≡ get_or row i 0
    stays i l = get_or-set_other row count i k 0 (λ e. omega arith)

    stored : get_or (set row count k) count 0 ≡ k
    stored = get_or-set_same row count k 0 room

    so_far : own_up_to s pair (set row count k) count ≡ entries_of_pair pair (list_up_to s k)
    so_far = own-alike (set row count k) row count stays ∙ f.records

    inside : (i : ℕ) → i < count → get_or (set row count k) i 0 < slots s
    inside i l = rw (stays i l) (f.within i l)

    noted_one : NotedTo (set row count k) (count + 1) (k + 1)
    noted_one =
        record {
          few = omega (arith, f.few);
          within = λ i l. go i l (ltb i count) refl;
          records = own-more (set row count k) count ∙ (λ t. so_far t ++ own_in s pair (stored t)) ∙ sym (pair-more pair s k);
        }
      where
        go : (i : ℕ) → i < count + 1 → (b : Bool) → ltb i count ≡ b → get_or (set row count k) i 0 < slots s
        go i l true e = inside i (ltb-true i count e)
        go i l false e =
            let is : i ≡ count = omega (arith, ltb-false i count e) in
            rw (is, stored) near

    noted_other : own_in s pair k ≡ [] → NotedTo (set row count k) count (k + 1)
    noted_other e =
        record {
          few = omega (arith, f.few);
          within = inside;
          records = so_far ∙ sym (append-nil (entries_of_pair pair (list_up_to s k))) ∙ ap (λ (l : List Entry). entries_of_pair pair (list_up_to s k) ++ l) (sym e) ∙ sym (pair-more pair s k);
        }

  -- the row's first slots are the pair's where all slots were passed
  pub noted-all : (row : List ℕ) (count : ℕ) → count ≤ length row → NotedTo row count (slots s) → IsNoted s pair (take count row)
  noted-all row count few f =
      let long = length-take-le count row few in
      record {
        within = λ i l. let near : i < count = omega (arith, long) in rw (get_or-take count row i 0 near) (f.within i near);
        records = ap (own_up_to s pair (take count row)) long ∙ own-alike (take count row) row count (λ i l. get_or-take count row i 0 l) ∙ f.records;
      }

-- a slot whose bytes are of another pair holds no record of the pair
pub other-bytes : (x : List ℕ) (pair : ℕ) → (pair_in (fields_of x) ≡ pair → ⊥) → entries_of_pair pair (record_in (slot_of x)) ≡ []
unfolding slot_of
other-bytes x pair h = go (all_blank x) (eqb (get_or x 0 0) FF) (is_record x)
  where
    go : (a f r : Bool) → entries_of_pair pair (record_in (pick a blank (pick f spoiled (pick r (holds (fields_of x)) foreign)))) ≡ []
    go true f r = of_none pair
    go false true r = of_none pair
    go false false true = of_other pair (fields_of x) h
    go false false false = of_none pair

pub noted-next : (s : List ℕ) (pair : ℕ) (row : List ℕ) (count k next : ℕ) → NotedTo s pair row count k → k < slots s → count < length row → next ≡ pick (eqb (pair_in (fields_of (slot_at s k))) pair) (count + 1) count → NotedTo s pair (set row count k) next (k + 1)
noted-next s pair row count k next f near room e = go (eqb (pair_in (fields_of (slot_at s k))) pair) refl e
  where
    go : (b : Bool) → eqb (pair_in (fields_of (slot_at s k))) pair ≡ b → next ≡ pick b (count + 1) count → NotedTo s pair (set row count k) next (k + 1)
    go true q e = rw e (noted_one s pair row count k f near room)
    go false q e = rw e (noted_other s pair row count k f near room (other-bytes (slot_at s k) pair (eqb-false (pair_in (fields_of (slot_at s k))) pair q)))

-- where the bytes stand in the sheet
byte_at : (s : List ℕ) (k i : ℕ) → i < 32 → get_or (slot_at s k) i 0 ≡ get_or s (32 * k + i) 0
byte_at s k i l = get_or-take 32 (drop (32 * k) s) i 0 l ∙ get_or-drop (32 * k) s i 0

two_bytes : (bs : List ℕ) → 1 < length bs → number_in (take 2 bs) ≡ get_or bs 0 0 * 256 + get_or bs 1 0
two_bytes bs l =
    let first : number_in (take 1 bs) ≡ get_or bs 0 0 = number_more bs 0 (omega arith) ∙ zero-add (get_or bs 0 0) in
    number_more bs 1 l ∙ ap (λ (n : ℕ). n * 256 + get_or bs 1 0) first

pub pair-bytes : (s : List ℕ) (k : ℕ) → k < slots s → (get_or s (32 * k + 8) 0 * 256 + get_or s (32 * k + 9) 0) * 0x10000 + get_or s (32 * k + 3) 0 ≡ pair_in (fields_of (slot_at s k))
unfolding pair_in pair_by fields_of
pair-bytes s k near =
    let x = slot_at s k in
    let long : 1 < length (drop 8 x) = omega (arith, length-drop 8 x, slot-long s k near) in
    let high : get_or (drop 8 x) 0 0 ≡ get_or s (32 * k + 8) 0 = get_or-drop 8 x 0 0 ∙ byte_at s k 8 (omega arith) in
    let low : get_or (drop 8 x) 1 0 ≡ get_or s (32 * k + 9) 0 = get_or-drop 8 x 1 0 ∙ byte_at s k 9 (omega arith) in
    let address : number_in (take 2 (drop 8 x)) ≡ get_or s (32 * k + 8) 0 * 256 + get_or s (32 * k + 9) 0 = two_bytes (drop 8 x) long ∙ (λ t. high t * 256 + low t) in
    λ t. sym address t * 0x10000 + sym (byte_at s k 3 (omega arith)) t

-- slots noted of a pair are noted of a number that is the same
pub noted_of : {s own : List ℕ} {j k : ℕ} → k ≡ j → IsNoted s j own → IsNoted s k own
noted_of e h = rw e h
