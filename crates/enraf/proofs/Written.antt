-- A record that is stored part by part, and what a write then answers and leaves. The parts join to the record because the bytes that the check is made
-- of are, once the ETX is stored, just those between the STX and the check. Assumes nothing.
use mathlib.Core.Path.{◌≡◌, refl, sym, ap, ◌∙◌}
use mathlib.Core.Bool.{Bool, false}
use mathlib.Core.List.{List, [], ◌∷◌, ◌++◌, append_assoc}
use Prim.Native.Nat.{ℕ, suc, ◌+◌, ◌≤◌, ◌/◌, ◌%◌}
use native.Mathlib.Omega.{arith}
use lib.Dec.{eqb}
use lib.ListN.{length, take, drop, set, length-append}
use lib.Seq.{sets, sets-eq, take_at}
use Rattle.frame.specs.Pick.{pick}
use Rattle.putting.specs.Digit.{digit}
use Rattle.putting.specs.Adds.{Adds}
use Rattle.putting.specs.declared.Text.{Text}
use Rattle.enraf.specs.declared.Done.{Done}
use Rattle.enraf.specs.Check.{block_check}
use Rattle.enraf.specs.Item.{Item, tail_of}
use Rattle.enraf.specs.Record.{STX, ETX, B, Z, checked_of, item_record}
use Rattle.enraf.specs.Writing.{write_fault, done, WritesItem}
use Rattle.frame.proofs.Parts.{sets-append}

pub refuses : (i : Item) (out : List ℕ) (n : ℕ) (answer : Done) → write_fault i out ≡ n → eqb n 0 ≡ false → answer ≡ done 0 n → WritesItem i out answer out
refuses i out n answer e z is =
    let r = item_record i in
    record {
      answers = is ∙ sym (ap (λ (m : ℕ). pick (eqb m 0) (done (length r) 0) (done 0 m)) e ∙ ap (λ (b : Bool). pick b (done (length r) 0) (done 0 n)) z);
      leaves = sym (ap (λ (m : ℕ). pick (eqb m 0) (r ++ drop (length r) out) out) e ∙ ap (λ (b : Bool). pick b (r ++ drop (length r) out) out) z);
    }

pub writes : (i : Item) (out : List ℕ) (answer : Done) (after : List ℕ) → write_fault i out ≡ 0 → answer ≡ done (length (item_record i)) 0
    → after ≡ item_record i ++ drop (length (item_record i)) out
    → WritesItem i out answer after
writes i out answer after e is left =
    let r = item_record i in
    record {
      answers = is ∙ sym (ap (λ (m : ℕ). pick (eqb m 0) (done (length r) 0) (done 0 m)) e);
      leaves = left ∙ sym (ap (λ (m : ℕ). pick (eqb m 0) (r ++ drop (length r) out) out) e);
    }

-- ten bytes stand around what follows the letters
pub record-long : (i : Item) → length (item_record i) ≡ 10 + length (tail_of i.kind i.error i.characters)
unfolding item_record checked_of
record-long i =
    let t = tail_of i.kind i.error i.characters in
    let a : length (t ++ ETX ∷ []) ≡ length t + 1 = length-append t (ETX ∷ []) in
    let b = length-append (t ++ ETX ∷ []) (block_check (checked_of i) ∷ []) in
    omega arith

-- bytes stored from the first place on
from_first : (vs l : List ℕ) → length vs ≤ length l → sets l 0 vs ≡ vs ++ drop (length vs) l
from_first vs l h =
    let place : 0 + length vs ≡ length vs = omega arith in
    sets-eq vs l 0 (omega arith) ∙ ap (λ (n : ℕ). vs ++ drop n l) place

module _ (front out : List ℕ) (end : ℕ) (at : end ≡ suc (length front)) (room : end + 2 ≤ length out) where
  -- bytes stored after the front
  more : (ws : List ℕ) → sets (sets out 0 (STX ∷ front)) end ws ≡ sets out 0 (STX ∷ front ++ ws)
  more ws =
      let place : end ≡ 0 + length (STX ∷ front) = omega arith in
      ap (λ (k : ℕ). sets (sets out 0 (STX ∷ front)) k ws) place ∙ sets-append (STX ∷ front) ws out 0

  checked : take end (drop 1 (set (sets out 0 (STX ∷ front)) end ETX)) ≡ front ++ ETX ∷ []
  checked =
      let vs = STX ∷ front ++ ETX ∷ [] in
      let long : length (front ++ ETX ∷ []) ≡ length front + 1 = length-append front (ETX ∷ []) in
      ap (λ (l : List ℕ). take end (drop 1 l)) (more (ETX ∷ []) ∙ from_first vs out (omega arith))
      ∙ take_at (front ++ ETX ∷ []) (drop (length vs) out) end (omega arith)

  pub stored : (check : ℕ) → check ≡ block_check (take end (drop 1 (set (sets out 0 (STX ∷ front)) end ETX)))
      → let r = STX ∷ (front ++ ETX ∷ []) ++ block_check (front ++ ETX ∷ []) ∷ [] in
      sets (sets out 0 (STX ∷ front)) end (ETX ∷ check ∷ []) ≡ r ++ drop (length r) out
  stored check is =
      let k = block_check (front ++ ETX ∷ []) in
      let r = STX ∷ (front ++ ETX ∷ []) ++ k ∷ [] in
      let long : length (front ++ ETX ∷ []) ≡ length front + 1 = length-append front (ETX ∷ []) in
      let longer : length ((front ++ ETX ∷ []) ++ k ∷ []) ≡ length (front ++ ETX ∷ []) + 1 = length-append (front ++ ETX ∷ []) (k ∷ []) in
      ap (λ (c : ℕ). sets (sets out 0 (STX ∷ front)) end (ETX ∷ c ∷ [])) (is ∙ ap block_check checked) ∙ more (ETX ∷ k ∷ [])
      ∙ ap (λ (l : List ℕ). sets out 0 (STX ∷ l)) (sym (append_assoc front (ETX ∷ []) (k ∷ []))) ∙ from_first r out (omega arith)

-- what stands before the tail
abbrev pub head_of : Item → List ℕ
head_of i = STX ∷ digit i.ciu ∷ digit (i.gauge / 10) ∷ digit (i.gauge % 10) ∷ B ∷ Z ∷ i.first ∷ i.second ∷ []

pub left : {m n : ℕ} (i : Item) (first second third : Text) → first.at ≡ 0 → length (item_record i) ≤ length first.out.now
    → Adds (head_of i ++ tail_of i.kind i.error i.characters) m first second
    → Adds (ETX ∷ block_check (take second.at (drop 1 (set second.out.now second.at ETX))) ∷ []) n second third
    → third.out.now ≡ item_record i ++ drop (length (item_record i)) first.out.now
unfolding item_record checked_of
left i first second third at room front-added end-added =
    let out = first.out.now in
    let front = digit i.ciu ∷ digit (i.gauge / 10) ∷ digit (i.gauge % 10) ∷ B ∷ Z ∷ i.first ∷ i.second ∷ tail_of i.kind i.error i.characters in
    let long = record-long i in
    let end = second.at in
    let place = front-added.ends in
    let both : second.out.now ≡ sets out 0 (STX ∷ front) = front-added.leaves ∙ ap (λ (k : ℕ). sets out k (STX ∷ front)) at in
    end-added.leaves ∙ ap (λ (o : List ℕ). sets o end (ETX ∷ block_check (take end (drop 1 (set o end ETX))) ∷ [])) both
    ∙ stored front out end (omega arith) (omega arith) (block_check (take end (drop 1 (set (sets out 0 (STX ∷ front)) end ETX)))) refl
