-- The lengths of a line's parts are added up: slot 5, minute 10, address 5, the reply's text 16, three blanks and the line's end. Assumes nothing.
use mathlib.Core.Path.{◌≡◌, refl, ap, ◌∙◌}
use mathlib.Core.Bool.{Bool, true, false, ◌&&◌}
use mathlib.Core.List.{List, ◌++◌}
use Prim.Native.Nat.{ℕ, zero, suc, ◌+◌, ◌*◌, ◌^◌, ◌<◌, ◌≤◌}
use native.Mathlib.Omega.{arith}
use borrow.Author.Tests.{lt-ltb, le-ltb}
use lib.Dec.{eqb, ltb}
use lib.ListN.{length, get_or, take, drop, length-append, length-take}
use Rattle.frame.specs.Pick.{pick}
use Rattle.frame.specs.Poll.{written_number}
use Rattle.frame.proofs.Tables.{pick-case}
use Rattle.sheet.proofs.FewRecords.{few-records}
use Rattle.sheet.specs.Bytes.{all_blank, FF}
use Rattle.sheet.specs.Record.{Entry, is_record, fields_of}
use Rattle.sheet.specs.Slots.{Slot, size_allowed, slots, slot_at, slot_of, list_of}
use Rattle.sheet.proofs.Numbers.{AreBytes, bytes_take, bytes_drop, number_lt}
use Rattle.listing.specs.Text.{ascii}
use Rattle.listing.specs.Lines.{head_line, record_text, listed_line, slot_line, lines_up_to, count_line, last_line, listing_of}
use Rattle.listing.specs.Calls.{Writes, write_fault, room_for}
use Rattle.listing.proofs.Numbers.{few-digits}
use Rattle.sheet.proofs.Seen.{few-slots}
use Rattle.promises_card.specs.Listing.Room.{ListingRoom}
use Rattle.promises_card.proofs.Listing.Replies.{reply-few}
use Rattle.std.specs.Prelude.{Result}
use Rattle.frame.specs.declared.faults.Fault.{Fault}

-- a record whose fields are those of bytes
record-few : (e : Entry) → e.minute < 2 ^ 32 → e.address < 2 ^ 16 → length (record_text e) ≤ 33
unfolding record_text
record-few e minute address =
    let first = few-digits 9 e.minute (omega arith) in
    let second = few-digits 4 e.address (omega arith) in
    let third = reply-few e.settings e.address e.count e.reply in
    simp length-append (omega arith)

fields-few : (x : List ℕ) → AreBytes x → length (record_text (fields_of x)) ≤ 33
unfolding fields_of
fields-few x bytes =
    record-few (fields_of x) (number_lt 4 (take 4 (drop 4 x)) (bytes_take 4 (drop 4 x) (bytes_drop 4 x bytes)) (simp length-take (omega arith)))
    (number_lt 2 (take 2 (drop 8 x)) (bytes_take 2 (drop 8 x) (bytes_drop 8 x bytes)) (simp length-take (omega arith)))

-- a slot's line
abbrev Fits40 : ℕ → Slot → Type 0
Fits40 k t = length (listed_line k t) ≤ 40

line-few : (k : ℕ) (x : List ℕ) → k ≤ 2048 → AreBytes x → Fits40 k (slot_of x)
unfolding slot_of
line-few k x small bytes =
    let number = few-digits 4 k (omega arith) in
    let text = fields-few x bytes in
    pick-case (Fits40 k) (all_blank x) (omega arith)
    (pick-case (Fits40 k) (eqb (get_or x 0 0) FF) (simp length-append (omega arith))
    (pick-case (Fits40 k) (is_record x) (simp length-append (omega arith)) (simp length-append (omega arith))))

slot-few : (s : List ℕ) (k : ℕ) → AreBytes s → k ≤ 2048 → length (slot_line s k) ≤ 40
slot-few s k bytes small = line-few k (slot_at s k) small (bytes_take 32 (drop (32 * k) s) (bytes_drop (32 * k) s bytes))

lines-few : (s : List ℕ) (k : ℕ) → AreBytes s → k ≤ 2048 → length (lines_up_to s k) ≤ 40 * k
unfolding lines_up_to
lines-few s zero bytes small = omega arith
lines-few s (suc k) bytes small = simp length-append (omega (arith, lines-few s k bytes (omega arith), slot-few s k bytes (omega arith)))

-- the first line and the last
head_few : (s : List ℕ) → size_allowed s ≡ true → length (head_line s) ≤ 40
unfolding head_line
head_few s size =
    let small = few-slots s size in
    let number = few-digits 4 (slots s) (omega arith) in
    simp length-append (omega arith)

last-few : (s : List ℕ) → size_allowed s ≡ true → length (last_line s) ≤ 40
unfolding count_line
last-few s size =
    let small = few-slots s size in
    let records = few-records s (slots s) in
    let number = few-digits 4 (length (list_of s)) (omega arith) in
    simp length-append (omega arith)

-- a text that is there, into an output that is long enough
accepted : (there : Bool) (text out after : List ℕ) (said : Result ℕ Fault) → there ≡ true → length text ≤ 40 → 40 ≤ length out → Writes there (length text) text out said after → written_number said ≡ 0
unfolding write_fault
accepted there text out after said e few long w = ap written_number w.answers ∙ simp (e, le-ltb (length out) (length text) (omega arith))

whole-few : (s : List ℕ) → AreBytes s → length (listing_of s) ≤ room_for s
unfolding listing_of
whole-few s bytes = go (size_allowed s) refl
  where
    go : (a : Bool) → size_allowed s ≡ a → length (pick a (head_line s ++ lines_up_to s (slots s) ++ last_line s) (ascii "fault 12\n")) ≤ pick a (40 * (slots s + 2)) 9
    go true e =
        let head = head_few s e in
        let lines = lines-few s (slots s) bytes (few-slots s e) in
        let last = last-few s e in
        simp length-append (omega arith)
    go false e = omega arith

pub listing-room : ListingRoom
listing-room =
    record {
      head-line = λ s out after said size long w. accepted (size_allowed s) (head_line s) out after said size (head_few s size) long w;
      slot-line = λ s out after slot said bytes size near long w.
          accepted (size_allowed s && ltb slot (slots s)) (slot_line s slot) out after said (simp (size, lt-ltb slot (slots s) near))
          (slot-few s slot bytes (omega (arith, few-slots s size))) long w;
      last_line = λ s out after said size long w. accepted (size_allowed s) (last_line s) out after said size (last-few s size) long w;
      whole = whole-few;
    }
