-- `sheet::words::blank_after` meets its contract: its three tests are those of the law `after-reply`. Assumes nothing.
use mathlib.Core.Path.{◌≡◌, sym, ap, ◌∙◌}
use mathlib.Core.Bool.{Bool, ◌&&◌, and_assoc}
use mathlib.Core.List.{List}
use Prim.Native.Nat.{ℕ, ◌-◌, ◌^◌}
use borrow.Author.Tests.{eq-eqb, ne_eqb}
use lib.Dec.{eqb}
use lib.ListN.{length, get_or, take, drop}
use Rattle.sheet.specs.Bytes.{FF, number_in, all_blank}
use Rattle.sheet.proofs.Numbers.{AreBytes}
use Rattle.sheet.proofs.BlankWords.{after-reply}
use Rattle.sheet.proofs.words.blank_after.Goals as goal
use Rattle.sheet.proofs.words.blank_after.Goals.{Joined-number-eq4294967295, then-number-eq4294967295, else-number-eq4294967295}

-- the bytes after the reply, by the first two tests taken together and the third
tested : (x : List ℕ) (n : ℕ) (v : Bool) → AreBytes x → length x ≡ 32 → n ≡ number_in (take 4 (drop 19 x)) → v ≡ (eqb n (2 ^ 32 - 1) && eqb (get_or x 23 0) FF)
    → all_blank (drop 19 x) ≡ (v && eqb (number_in (take 8 (drop 24 x))) (2 ^ 64 - 1))
tested x n v bytes long en ev =
    let r = eqb (number_in (take 8 (drop 24 x))) (2 ^ 64 - 1) in
    let q = eqb (get_or x 23 0) FF in
    after-reply x bytes long
    ∙ sym (and_assoc (eqb (number_in (take 4 (drop 19 x))) (2 ^ 32 - 1)) q r)
    ∙ ap (λ (m : ℕ). (eqb m (2 ^ 32 - 1) && q) && r) (sym en)
    ∙ ap (λ (t : Bool). t && r) (sym ev)

-- the same where the first two are joined
decided : (c : Joined-number-eq4294967295) → let x = c.args.part.now in
    all_blank (drop 19 x) ≡ (c.if-number-eq4294967295.value && eqb (number_in (take 8 (drop 24 x))) (2 ^ 64 - 1))
decided c =
    let q = eqb (get_or c.args.part.now 23 0) FF in
    let two : c.if-number-eq4294967295.value ≡ (eqb c.number.result (2 ^ 32 - 1) && q) =
    elim c.if-number-eq4294967295.branch [
      | then-number-eq4294967295 w ↦ w.value-is ∙ sym (ap (λ (t : Bool). t && q) (eq-eqb _ _ w.if-number-eq4294967295.true))
      | else-number-eq4294967295 w ↦
          w.value-is ∙ ne_eqb _ _ w.if-number-eq4294967295.false ∙ sym (ap (λ (t : Bool). t && q) (ne_eqb _ _ w.if-number-eq4294967295.false))
    ] in
    tested c.args.part.now c.number.result c.if-number-eq4294967295.value c.fits-part c.told-part c.number.ensures two

pub returns-then-part-eq255 : goal.returns-then-part-eq255
returns-then-part-eq255 c =
    let r = λ (v : Bool). v && eqb (number_in (take 8 (drop 24 c.args.part.now))) (2 ^ 64 - 1) in
    ap (λ (n : ℕ). eqb n (2 ^ 64 - 1)) c.number-then-part-eq255.ensures
    ∙ sym (decided (goal.at.returns-then-part-eq255 c).Joined-number-eq4294967295 ∙ ap r c.if-part-eq255.true)

pub returns-else-part-eq255 : goal.returns-else-part-eq255
returns-else-part-eq255 c =
    let r = λ (v : Bool). v && eqb (number_in (take 8 (drop 24 c.args.part.now))) (2 ^ 64 - 1) in
    c.if-part-eq255.false ∙ sym (decided (goal.at.returns-else-part-eq255 c).Joined-number-eq4294967295 ∙ ap r c.if-part-eq255.false)
