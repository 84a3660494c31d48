-- `sheet::record::is_record` meets its contract: its tests are those of the law `found`, that a slot holds a record exactly where what it says passes the
-- checks, its length and version are right, and FF follows. Assumes nothing.
use mathlib.Core.Path.{◌≡◌, refl, sym, ap, ◌∙◌}
use mathlib.Core.Bool.{Bool, true, false, not, ◌&&◌, and_assoc}
use mathlib.Core.List.{List}
use Prim.Native.Nat.{ℕ, ◌≤◌, ◌<◌, ◌+◌, ◌-◌, ◌*◌, ◌/◌, ◌%◌, ◌^◌}
use native.Mathlib.Omega.{arith}
use borrow.Author.Tests.{eq-eqb, ne_eqb, lt-leb, leb-true, leb-false, lt-ltb, le-ltb}
use lib.Bits.{bit_and, and_mask}
use lib.Dec.{eqb, leb, ltb}
use lib.ListN.{length, take, drop, get_or}
use Rattle.frame.specs.Line.{formed, bytes_for, pad_clear}
use Rattle.sheet.specs.declared.Head.{Head}
use Rattle.sheet.specs.Bytes.{number_in, all_blank, same}
use Rattle.sheet.specs.Record.{picture, fields_of, is_record}
use Rattle.sheet.specs.Look.{head_of}
use Rattle.sheet.proofs.Numbers.{AreBytes}
use Rattle.sheet.proofs.Records.{unformed, found}
use Rattle.sheet.proofs.record.is_record.Goals as goal
use Rattle.sheet.proofs.record.is_record.Goals.{Joined-part-eq1, then-number-size, else-number-size, then-part-eq1, else-part-eq1}

-- a count above 64 is out of form
over : (x : List ℕ) (h : Head) → h ≡ head_of (fields_of x) → 64 < h.count → is_record x ≡ false
unfolding is_record fields_of formed
over x h e big =
    let same_count : h.count ≡ get_or x 10 0 = ap (λ (k : Head). k.count) e in
    let far : leb (get_or x 10 0) 64 ≡ false = lt-leb (get_or x 10 0) 64 (omega arith) in
    let y = fields_of x in
    ap (λ (t : Bool). t && same x (picture y))
    (unformed y (ap (λ (t : Bool). t && eqb (length y.reply) (bytes_for y.count) && pad_clear y.count y.reply) far))

module _ (x : List ℕ) (h : Head) (bytes : AreBytes x) (long : length x ≡ 32) (e : h ≡ head_of (fields_of x)) where
  -- any other slot, by the six tests
  tested : (s a t u w z : Bool) → h.count ≤ 64 → ltb 15 h.settings ≡ s → ltb 999 h.address ≡ a
      → eqb (number_in (take 2 x)) (9 + (h.count + 7) / 8) ≡ t → eqb (get_or x 2 0) 1 ≡ u → all_blank (drop 19 x) ≡ w
      → eqb (number_in (take 8 (drop 11 x)) % 2 ^ (64 - h.count)) (2 ^ (64 - 8 * ((h.count + 7) / 8)) - 1) ≡ z
      → is_record x ≡ (not s && (not a && (t && (u && (w && z)))))
  unfolding fields_of
  tested s a t u w z few es ea et eu ew ez =
      let same-settings : h.settings ≡ get_or x 3 0 = ap (λ (k : Head). k.settings) e in
      let same_address : h.address ≡ number_in (take 2 (drop 8 x)) = ap (λ (k : Head). k.address) e in
      let same_count : h.count ≡ get_or x 10 0 = ap (λ (k : Head). k.count) e in
      found x bytes long (omega arith) ∙ cc

  -- the tests past the first
  abbrev rest : Bool
  rest = eqb (number_in (take 2 x)) (9 + (h.count + 7) / 8)
      && (eqb (get_or x 2 0) 1
      && (all_blank (drop 19 x)
      && eqb (number_in (take 8 (drop 11 x)) % 2 ^ (64 - h.count)) (2 ^ (64 - 8 * ((h.count + 7) / 8)) - 1)))

  -- the slot by whether its head is in range
  ranged : (r : Bool) → r ≡ (leb h.count 64 && (leb h.settings 15 && leb h.address 999)) → is_record x ≡ (r && rest)
  ranged r er = go (leb h.count 64) (leb h.settings 15) (leb h.address 999) refl refl refl ∙ ap (λ (b : Bool). b && rest) (sym er)
    where
      go : (c s a : Bool) → leb h.count 64 ≡ c → leb h.settings 15 ≡ s → leb h.address 999 ≡ a → is_record x ≡ ((c && (s && a)) && rest)
      go false s a ec es ea = over x h e (leb-false h.count 64 ec)
      go true false a ec es ea =
          tested true _ _ _ _ _ (leb-true h.count 64 ec) (lt-ltb 15 h.settings (leb-false h.settings 15 es)) refl refl refl refl refl
      go true true false ec es ea =
          tested false true _ _ _ _ (leb-true h.count 64 ec) (le-ltb 15 h.settings (leb-true h.settings 15 es)) (lt-ltb 999 h.address (leb-false h.address 999 ea)) refl refl refl refl
      go true true true ec es ea =
          tested false false _ _ _ _ (leb-true h.count 64 ec) (le-ltb 15 h.settings (leb-true h.settings 15 es)) (le-ltb 999 h.address (leb-true h.address 999 ea)) refl refl refl refl

  -- and by the tests past it taken together, two, three and all
  joined : (n size : ℕ) (two three : Bool) → true ≡ (leb h.count 64 && (leb h.settings 15 && leb h.address 999)) → n ≡ number_in (take 2 x)
      → size ≡ (h.count + 7) / 8 → two ≡ (eqb n (9 + size) && eqb (get_or x 2 0) 1) → three ≡ (two && all_blank (drop 19 x))
      → is_record x ≡ (three && eqb (number_in (take 8 (drop 11 x)) % 2 ^ (64 - h.count)) (2 ^ (64 - 8 * size) - 1))
  joined n size two three er en es e2 e3 =
      let t = eqb (number_in (take 2 x)) (9 + (h.count + 7) / 8) in
      let u = eqb (get_or x 2 0) 1 in
      let w = all_blank (drop 19 x) in
      let z = λ (k : ℕ). eqb (number_in (take 8 (drop 11 x)) % 2 ^ (64 - h.count)) (2 ^ (64 - 8 * k) - 1) in
      ranged true er
      ∙ sym (and_assoc t u (w && z ((h.count + 7) / 8)))
      ∙ sym (and_assoc (t && u) w (z ((h.count + 7) / 8)))
      ∙ sym (λ i. ((eqb (en i) (9 + es i) && u) && w) && z (es i))
      ∙ sym (ap (λ (v : Bool). v && z size) (e3 ∙ ap (λ (v : Bool). v && w) e2))

-- the bits after the count, as the code takes them
masked : (n p q w c k : ℕ) → n ≡ w → p ≡ 2 ^ c - 1 → q ≡ 2 ^ k - 1 → eqb (w % 2 ^ c) (2 ^ k - 1) ≡ eqb (bit_and n p) q
masked n p q w c k en ep eq = sym ((λ i. eqb (bit_and (en i) (ep i)) (eq i)) ∙ ap (λ (m : ℕ). eqb m (2 ^ k - 1)) (and_mask w c))

pub returns-then-not-in_range : goal.returns-then-not-in_range
returns-then-not-in_range c =
    sym (ranged c.args.part.now c.head_in-head.result c.fits-part c.told-part c.head_in-head.ensures false (sym c.if-not-in_range.true ∙ c.in_range.ensures))

-- what the first tests come to where they are joined
decided : (c : Joined-part-eq1) → let x = c.args.part.now in
    is_record x ≡ (c.if-part-eq1.value
    && eqb (number_in (take 8 (drop 11 x)) % 2 ^ (64 - c.head_in-head.result.count)) (2 ^ (64 - 8 * c.div_ceil-size.result) - 1))
decided c =
    let x = c.args.part.now in
    let u = eqb (get_or x 2 0) 1 in
    let w = all_blank (drop 19 x) in
    let two : c.if-number-size.value ≡ (eqb c.number.result (9 + c.div_ceil-size.result) && u) =
    elim c.if-number-size.branch [
      | then-number-size v ↦ v.value-is ∙ sym (ap (λ (t : Bool). t && u) (eq-eqb _ _ v.if-number-size.true))
      | else-number-size v ↦ v.value-is ∙ ne_eqb _ _ v.if-number-size.false ∙ sym (ap (λ (t : Bool). t && u) (ne_eqb _ _ v.if-number-size.false))
    ] in
    let three : c.if-part-eq1.value ≡ (c.if-number-size.value && w) =
    elim c.if-part-eq1.branch [
      | then-part-eq1 v ↦ v.value-is ∙ v.blank_after.ensures ∙ sym (ap (λ (t : Bool). t && w) v.if-part-eq1.true)
      | else-part-eq1 v ↦ v.value-is ∙ v.if-part-eq1.false ∙ sym (ap (λ (t : Bool). t && w) v.if-part-eq1.false)
    ] in
    joined x c.head_in-head.result c.fits-part c.told-part c.head_in-head.ensures c.number.result c.div_ceil-size.result _ _
    (sym c.if-not-in_range.false ∙ c.in_range.ensures) c.number.ensures (omega arith) two three

pub returns-then-blank_after : goal.returns-then-blank_after
returns-then-blank_after c =
    let x = c.args.part.now in
    let count = c.head_in-head.result.count in
    let size = c.div_ceil-size.result in
    sym
    (decided (goal.at.returns-then-blank_after c).Joined-part-eq1
    ∙ ap (λ (v : Bool). v && eqb (number_in (take 8 (drop 11 x)) % 2 ^ (64 - count)) (2 ^ (64 - 8 * size) - 1)) c.if-blank_after.true
    ∙ masked c.number-then-blank_after.result c.past.result c.past-then-blank_after.result (number_in (take 8 (drop 11 x))) (64 - count) (64 - 8 * size)
    c.number-then-blank_after.ensures c.past.ensures c.past-then-blank_after.ensures)

pub returns-else-blank_after : goal.returns-else-blank_after
returns-else-blank_after c =
    let x = c.args.part.now in
    let rest = eqb (number_in (take 8 (drop 11 x)) % 2 ^ (64 - c.head_in-head.result.count)) (2 ^ (64 - 8 * c.div_ceil-size.result) - 1) in
    c.if-blank_after.false
    ∙ sym (decided (goal.at.returns-else-blank_after c).Joined-part-eq1 ∙ ap (λ (v : Bool). v && rest) c.if-blank_after.false)
