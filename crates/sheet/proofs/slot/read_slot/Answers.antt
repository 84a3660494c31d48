-- `sheet::slot::read_slot` meets its contract: each return is what the definition reads after the tests that led there. A record's reply takes the
-- bytes for its count, since it is in form. Assumes nothing.
use mathlib.Core.Path.{◌≡◌, refl, sym, ap, ◌∙◌}
use mathlib.Core.Bool.{Bool, true, false}
use mathlib.Core.List.{List, ◌++◌}
use Prim.Native.Nat.{ℕ, ◌≤◌, ◌-◌}
use native.Mathlib.Omega.{arith}
use borrow.Author.Tests.{eq-eqb, ne_eqb}
use lib.Dec.{eqb}
use lib.ListN.{length, take, drop, get_or, replicate, length-drop}
use lib.Seq.{length-take-le}
use Rattle.frame.specs.Pick.{pick}
use Rattle.frame.specs.Line.{bytes_for}
use Rattle.sheet.specs.declared.Head.{Head}
use Rattle.sheet.specs.declared.Looked.{Looked}
use Rattle.sheet.specs.declared.Found.TheVariants.{Record}
use Rattle.sheet.specs.Bytes.{FF, big_endian, number_in, all_blank}
use Rattle.sheet.specs.Record.{fields_of, is_record}
use Rattle.sheet.specs.Slots.{blank, spoiled, foreign, holds, slot_of}
use Rattle.sheet.specs.Look.{bare, look_told, part_of, head_of}
use Rattle.sheet.specs.Inside.Word.{first_bits}
use Rattle.sheet.proofs.Numbers.{AreBytes}
use Rattle.sheet.proofs.Blank.{blank-first}
use Rattle.sheet.proofs.Records.{record-passes, record-reply, passes-formed, formed-few}
use Rattle.sheet.proofs.SlotParts.{no_slot}
use Rattle.sheet.proofs.slot.read_slot.Goals.{then-blank, else-blank}
use Rattle.sheet.proofs.slot.read_slot.Goals as goal

-- a slot by the three tests
reads_as : (x : List ℕ) (a f r : Bool) → length x ≡ 32 → all_blank x ≡ a → eqb (get_or x 0 0) FF ≡ f → is_record x ≡ r
    → part_of x ≡ look_told (pick a blank (pick f spoiled (pick r (holds (fields_of x)) foreign)))
unfolding part_of slot_of
reads_as x a f r long ea ef er = simp (eq-eqb (length x) 32 long, ea, ef, er)

-- a slot that begins with FF: one that does not is not blank
begun : (x : List ℕ) (a : Bool) → length x ≡ 32 → get_or x 0 0 ≡ FF → a ≡ all_blank x → part_of x ≡ look_told (pick a blank spoiled)
begun x a long e ea = reads_as x a true (is_record x) long (sym ea) (eq-eqb (get_or x 0 0) FF e) refl

other : (x : List ℕ) (r : Bool) → length x ≡ 32 → (get_or x 0 0 ≡ FF → ⊥) → r ≡ is_record x → part_of x ≡ look_told (pick r (holds (fields_of x)) foreign)
other x r long e er =
    let not_ff = ne_eqb (get_or x 0 0) FF e in
    reads_as x false false r long (blank-first x (omega arith) not_ff) not_ff (sym er)

-- of a record: its count, and the bytes of its reply
record-few : (x : List ℕ) (h : Head) → h ≡ head_of (fields_of x) → is_record x ≡ true → h.count ≤ 64
record-few x h e is =
    let same_count : h.count ≡ (fields_of x).count = ap (λ (k : Head). k.count) e in
    let few = (formed-few (fields_of x).count (fields_of x).reply (passes-formed (fields_of x) (record-passes x is))).0 in
    omega arith

record-told : (x : List ℕ) (h : Head) (r : List ℕ) → AreBytes x → length x ≡ 32 → h ≡ head_of (fields_of x) → h.count ≤ 64 → is_record x ≡ true
    → r ≡ big_endian 8 (first_bits h.count (number_in (take 8 (drop 11 x))))
    → ◌≡◌ {A = Looked} (record { found = Record h; reply = r }) (look_told (holds (fields_of x)))
unfolding fields_of
record-told x h r bytes long e few is q =
    let same_count : h.count ≡ get_or x 10 0 = ap (λ (k : Head). k.count) e in
    let size = bytes_for (get_or x 10 0) in
    let rest : length (drop 11 x) ≡ length x - 11 = length-drop 11 x in
    let short : length (take size (drop 11 x)) ≡ size = length-take-le size (drop 11 x) (omega arith) in
    let own : r ≡ take size (drop 11 x) ++ replicate (8 - length (take size (drop 11 x))) 0 =
    q ∙ ap (λ (n : ℕ). big_endian 8 (first_bits n (number_in (take 8 (drop 11 x))))) same_count ∙ record-reply x bytes long (omega arith) is
    ∙ ap (λ (n : ℕ). take size (drop 11 x) ++ replicate (8 - n) 0) (sym short) in
    λ i. record { found = Record (e i); reply = own i }

pub returns-in_default : goal.returns-in_default
returns-in_default c = c.bare.ensures ∙ sym (no_slot c.args.part.now c.in_default.ensures.1)

pub returns-then-part : goal.returns-then-part
returns-then-part c =
    let same = c.in-Ok.ensures.1 in
    let long : length c.in-Ok.part.now ≡ 32 = ap length same.same ∙ same.long in
    let b = c.blank_slot-blank in
    let told : c.bare-then-part.result ≡ look_told (pick b.result blank spoiled) =
    elim c.if-blank.branch [
      | then-blank w ↦ c.bare-then-part.ensures ∙ ap bare w.bare-is ∙ sym (ap (λ (t : Bool). look_told (pick t blank spoiled)) w.if-blank.true)
      | else-blank w ↦ c.bare-then-part.ensures ∙ ap bare w.bare-is ∙ sym (ap (λ (t : Bool). look_told (pick t blank spoiled)) w.if-blank.false)
    ] in
    told ∙ sym (begun c.in-Ok.part.now b.result long c.if-part.true b.ensures) ∙ ap part_of same.same

pub returns-then-not-is_record : goal.returns-then-not-is_record
returns-then-not-is_record c =
    let same = c.in-Ok.ensures.1 in
    let long : length c.in-Ok.part.now ≡ 32 = ap length same.same ∙ same.long in
    c.bare-then-not-is_record.ensures
    ∙ sym (other c.in-Ok.part.now false long c.if-part.false (sym c.if-not-is_record.true ∙ c.is_record.ensures))
    ∙ ap part_of same.same

pub reply_in-reply-requires : goal.reply_in-reply-requires
reply_in-reply-requires c =
    record-few c.in-Ok.part.now c.head_in-head.result c.head_in-head.ensures (sym c.is_record.ensures ∙ c.if-not-is_record.false)

pub returns : goal.returns
returns c =
    let same = c.in-Ok.ensures.1 in
    let x = c.in-Ok.part.now in
    let long : length x ≡ 32 = ap length same.same ∙ same.long in
    let h = c.head_in-head in
    let is = sym c.is_record.ensures ∙ c.if-not-is_record.false in
    let bytes : AreBytes x = rw same.same (λ i. omega (arith, c.type_inv.part i)) in
    record-told x h.result c.reply_in-reply.result bytes long h.ensures (record-few x h.result h.ensures is) is c.reply_in-reply.ensures
    ∙ sym (other x true long c.if-part.false (sym is))
    ∙ ap part_of same.same
