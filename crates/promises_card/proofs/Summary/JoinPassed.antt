-- What a join that is not refused has passed, and when it is not refused. Assumes nothing.
use mathlib.Core.Path.{◌≡◌, refl, sym, ap, ◌∙◌}
use mathlib.Core.Bool.{Bool, true, false, ◌||◌}
use Prim.Native.Nat.{◌<◌, ◌≤◌}
use native.Mathlib.Omega.{arith}
use borrow.Author.Tests.{eqb-true, eqb-false, ltb-false, le-ltb}
use lib.Dec.{eqb, ltb}
use lib.ListN.{length}
use lib.Seq.{get_or-take}
use Rattle.summary.specs.declared.Summary.{Summary}
use Rattle.summary.specs.declared.Made.{Made}
use Rattle.summary.specs.Line.{blank_line}
use Rattle.summary.specs.Handed.{lines_of, misshapen, lines_over}
use Rattle.summary.specs.Joined.{join_lines, join_page, unkept, join_over, join_fault, join_of}
use Rattle.summary.proofs.Every.{neither}
use Rattle.summary.proofs.HandedIn.{sound-handed}
use Rattle.summary.proofs.LinesAdded.{count-of}
use Rattle.summary.proofs.JoinTests.{fault-by, refused-join, made-join}
use Rattle.promises_card.specs.Summary.Join.{Handed, Clean}
use Rattle.promises_card.proofs.Summary.JoinLines.{AllNarrow, all-narrow}

-- the number of a join, and what it passed
pub number_is : (a b : Summary) → (join_of a b).number ≡ join_fault a b
number_is a b = go (eqb (join_fault a b) 0) refl
  where
    go : (t : Bool) → eqb (join_fault a b) 0 ≡ t → (join_of a b).number ≡ join_fault a b
    go true e = let f = eqb-true (join_fault a b) 0 e in ap (λ (m : Made). m.number) (made-join a b f) ∙ sym f
    go false e = ap (λ (m : Made). m.number) (refused-join a b (join_fault a b) refl (eqb-false (join_fault a b) 0 e))

pub record Passed (a b : Summary) : Type 0 where
  pub first : misshapen a ≡ false
  pub second : misshapen b ≡ false
  pub few : length (join_lines a b) ≤ 30
  pub kept_a : a.others ≤ 0
  pub kept_b : b.others ≤ 0

pub passed : (a b : Summary) → join_fault a b ≡ 0 → Passed a b
passed a b f = go (misshapen a || misshapen b) (unkept a b) (join_over a b) refl refl refl
  where
    go : (m u o : Bool) → (misshapen a || misshapen b) ≡ m → unkept a b ≡ u → join_over a b ≡ o → Passed a b
    go true u o x y z = absurd (omega (arith, sym f ∙ fault-by a b true u o x y z))
    go false true o x y z = absurd (omega (arith, sym f ∙ fault-by a b false true o x y z))
    go false false true x y z = absurd (omega (arith, sym f ∙ fault-by a b false false true x y z))
    go false false false x y z =
        let p = neither (misshapen a) (misshapen b) x in
        let q = neither (ltb 30 (length (join_lines a b))) (ltb 0 a.others || ltb 0 b.others) y in
        let r = neither (ltb 0 a.others) (ltb 0 b.others) q.1 in
        record {
          first = p.0;
          second = p.1;
          few = ltb-false 30 (length (join_lines a b)) q.0;
          kept_a = ltb-false 0 a.others r.0;
          kept_b = ltb-false 0 b.others r.1;
        }

pub narrow-lines : (s : Summary) → Handed s → misshapen s ≡ false → AllNarrow (lines_of s)
narrow-lines s h right =
    let so = sound-handed s h.thirty right in
    all-narrow (lines_of s)
    (λ i l.
    let near : i < s.count = omega (arith, count-of s so) in
    rw (get_or-take s.count s.lines i blank_line near) (h.narrow i (omega (arith, so.few))))

-- no count of a side or of the join is over
pub none_over : (a b : Summary) → join_fault a b ≡ 0 → (lines_over a ≡ false) × ((lines_over b ≡ false) × (lines_over (join_page a b) ≡ false))
none_over a b f = go (misshapen a || misshapen b) (unkept a b) (join_over a b) refl refl refl
  where
    go : (m u o : Bool) → (misshapen a || misshapen b) ≡ m → unkept a b ≡ u → join_over a b ≡ o
        → (lines_over a ≡ false) × ((lines_over b ≡ false) × (lines_over (join_page a b) ≡ false))
    go true u o x y z = absurd (omega (arith, sym f ∙ fault-by a b true u o x y z))
    go false true o x y z = absurd (omega (arith, sym f ∙ fault-by a b false true o x y z))
    go false false true x y z = absurd (omega (arith, sym f ∙ fault-by a b false false true x y z))
    go false false false x y z =
        let p = neither (lines_over a) (lines_over b || lines_over (join_page a b)) z in
        (p.0, neither (lines_over b) (lines_over (join_page a b)) p.1)

pub not-over : (a b : Summary) → join_fault a b ≡ 0 → lines_over (join_page a b) ≡ false
not-over a b f = (none_over a b f).1.1

-- so both sides are clean
pub clean-sides : (a b : Summary) → join_fault a b ≡ 0 → Clean a × Clean b
clean-sides a b f =
    let p = passed a b f in
    let o = none_over a b f in
    (record { shape = p.first; kept = omega (arith, p.kept_a); counts = o.0 }, record { shape = p.second; kept = omega (arith, p.kept_b); counts = o.1.0 })

-- of two clean summaries it is not refused where its lines are few and no count is over
pub fault-clear : (a b : Summary) → Clean a → Clean b → length (join_lines a b) ≤ 30 → lines_over (join_page a b) ≡ false → join_fault a b ≡ 0
fault-clear a b ca cb few small =
    let shape : (misshapen a || misshapen b) ≡ false = ap (λ (t : Bool). t || misshapen b) ca.shape ∙ cb.shape in
    let kept : unkept a b ≡ false =
    ap (λ (t : Bool). t || (ltb 0 a.others || ltb 0 b.others)) (le-ltb 30 (length (join_lines a b)) few)
    ∙ ap (λ (t : Bool). t || ltb 0 b.others) (le-ltb 0 a.others (omega (arith, ca.kept))) ∙ le-ltb 0 b.others (omega (arith, cb.kept)) in
    let counts : join_over a b ≡ false =
    ap (λ (t : Bool). t || (lines_over b || lines_over (join_page a b))) ca.counts ∙ ap (λ (t : Bool). t || lines_over (join_page a b)) cb.counts ∙ small in
    fault-by a b false false false shape kept counts
