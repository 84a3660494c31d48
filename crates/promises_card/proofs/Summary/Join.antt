-- The promises of a join: its lines hold at each pair the two lines together, and rise; so two joins that hold the same are equal. Assumes nothing.
use mathlib.Core.Path.{◌≡◌, refl, sym, ap, subst, ◌∙◌}
use mathlib.Core.Bool.{Bool, true, false, ◌||◌}
use mathlib.Core.List.{List, [], ◌∷◌, ◌++◌}
use Prim.Native.Nat.{ℕ, zero, suc, ◌<◌}
use native.Mathlib.Omega.{arith}
use borrow.Author.Tests.{eqb-true, eqb-false, le-ltb}
use lib.Dec.{eqb, ltb}
use lib.ListN.{length, get_or, replicate}
use Rattle.frame.specs.Faults.{◌gives◌, first_of}
use Rattle.frame.specs.Rising.{Rises, rises_none, held_at}
use Rattle.sheet.specs.Record.{Entry}
use Rattle.summary.specs.declared.Line.{Line}
use Rattle.summary.specs.declared.Summary.{Summary}
use Rattle.summary.specs.declared.Made.{Made}
use Rattle.summary.specs.Line.{pair_of, page, blank_line, blank_summary}
use Rattle.summary.specs.Worked.{summary_of}
use Rattle.summary.specs.Handed.{lines_of, line_at, misshapen, counts_over, lines_over}
use Rattle.summary.specs.Calls.{made_of}
use Rattle.summary.specs.Joined.{put_all, join_lines, join_page, unkept, join_over, join_fault, join_of, JoinsSummaries}
use Rattle.summary.proofs.Every.{none_over}
use Rattle.summary.proofs.HandedIn.{sound-handed}
use Rattle.summary.proofs.Pages.{lines-page}
use Rattle.summary.proofs.PutAll.{rises-all}
use Rattle.summary.proofs.Shaped.{shaped-page, told_none}
use Rattle.summary.proofs.LinesAdded.{count-of}
use Rattle.summary.proofs.JoinTests.{fault-by, refused-join, made-join}
use Rattle.promises_card.specs.Summary.OwnFigures.{line_in}
use Rattle.promises_card.specs.Summary.InOrder.{Ordered}
use Rattle.promises_card.specs.Summary.Join.{Handed, Clean, both_lines, join_table, Join}
use Rattle.promises_frame.proofs.FirstFault.{asked, given}
use Rattle.promises_card.proofs.Summary.JoinLines.{held_all, lines-turned}
use Rattle.promises_card.proofs.Summary.EndToEnd.{end-lines}
use Rattle.promises_card.proofs.Summary.JoinPassed.{number_is, passed, clean-sides, narrow-lines}
use Rattle.promises_card.proofs.Summary.Grouping.{few-join, clean-join, handed-join, grouping-of}
use Rattle.promises_card.proofs.Summary.InOrder.{ordered}
use Rattle.promises_card.proofs.Summary.Shape.{same_shape}

pub fault-of : (a b : Summary) (r : Made) → JoinsSummaries a b r → r.number ≡ 0 → join_fault a b ≡ 0
fault-of a b r j n = sym (number_is a b) ∙ sym (ap (λ (m : Made). m.number) j.answers) ∙ n

pub summary-of : (a b : Summary) (r : Made) → JoinsSummaries a b r → r.number ≡ 0 → r.summary ≡ join_page a b
summary-of a b r j n = ap (λ (m : Made). m.summary) (j.answers ∙ made-join a b (fault-of a b r j n))

-- pair by pair
by-pair : (a b : Summary) → Handed a → Handed b → (r : Made) → JoinsSummaries a b r → r.number ≡ 0
    → ((k : ℕ) → line_in k r.summary ≡ both_lines (line_in k a) (line_in k b)) × (Rises pair_of (lines_of r.summary) × (r.summary.others ≡ 0))
by-pair a b ha hb r j n =
    let p = passed a b (fault-of a b r j n) in
    let sa = sound-handed a ha.thirty p.first in
    let sb = sound-handed b hb.thirty p.second in
    let s = summary-of a b r j n in
    let lines : lines_of r.summary ≡ join_lines a b = ap lines_of s ∙ lines-page 0 (join_lines a b) in
    let others : (join_page a b).others ≡ 0 = unfold page in refl in (
      λ k. ap (held_at pair_of k) lines ∙ held_all k (lines_of a) (lines_of b) sa.rises sb.rises,
      (rw lines (rises-all (lines_of a) (lines_of b) sa.rises), ap (λ (t : Summary). t.others) s ∙ others),
    )

-- the answer by itself
again-of : (a b : Summary) → Handed a → Handed b → (r : Made) → JoinsSummaries a b r → r.number ≡ 0
    → Handed r.summary × (Clean r.summary × Ordered r.summary)
again-of a b ha hb r j n =
    let f = fault-of a b r j n in
    let sides = clean-sides a b f in
    let few = few-join a b ha hb sides.0 sides.1 f in
    let handed = handed-join a b ha hb sides.0 sides.1 few.0 few.1 in
    let clean = clean-join a b ha hb sides.0 sides.1 few.0 few.1 in
    subst (λ (s : Summary). Handed s × (Clean s × Ordered s)) (sym (summary-of a b r j n))
    (handed, (clean, ordered (join_page a b) handed.thirty clean.shape))

-- either order
or_turned : (a b : Bool) → (a || b) ≡ (b || a)
or_turned true true = refl
or_turned true false = refl
or_turned false true = refl
or_turned false false = refl

module _ (a b : Summary) (ha : Handed a) (hb : Handed b) where
  bad-either : (misshapen a || misshapen b) ≡ true → join_of a b ≡ join_of b a
  bad-either h =
      refused-join a b 37 (fault-by a b true (unkept a b) (join_over a b) h refl refl) (λ z. omega arith)
      ∙ sym (refused-join b a 37 (fault-by b a true (unkept b a) (join_over b a) (or_turned (misshapen b) (misshapen a) ∙ h) refl refl) (λ z. omega arith))

  good-both : misshapen a ≡ false → misshapen b ≡ false → join_of a b ≡ join_of b a
  good-both ra rb =
      let sa = sound-handed a ha.thirty ra in
      let sb = sound-handed b hb.thirty rb in
      let lines : join_lines a b ≡ join_lines b a =
      lines-turned (lines_of a) (lines_of b) sa.rises sb.rises (narrow-lines a ha ra) (narrow-lines b hb rb) in
      let unkept-same : unkept a b ≡ unkept b a =
      ap (λ (ls : List Line). ltb 30 (length ls) || (ltb 0 a.others || ltb 0 b.others)) lines
      ∙ ap (λ (t : Bool). ltb 30 (length (join_lines b a)) || t) (or_turned (ltb 0 a.others) (ltb 0 b.others)) in
      let over-same : join_over a b ≡ join_over b a =
      ap (λ (ls : List Line). lines_over a || (lines_over b || lines_over (page 0 ls))) lines ∙ swap (lines_over a) (lines_over b) (lines_over (join_page b a)) in
      let fault : join_fault a b ≡ join_fault b a =
      fault-by a b (misshapen b || misshapen a) (unkept b a) (join_over b a) (or_turned (misshapen a) (misshapen b)) unkept-same over-same
      ∙ sym (fault-by b a (misshapen b || misshapen a) (unkept b a) (join_over b a) refl refl refl) in
      by-fault fault (ap (page 0) lines) (eqb (join_fault b a) 0) refl
    where
      swap : (x y z : Bool) → (x || (y || z)) ≡ (y || (x || z))
      swap true true z = refl
      swap true false z = refl
      swap false true z = refl
      swap false false z = refl

      by-fault : join_fault a b ≡ join_fault b a → join_page a b ≡ join_page b a → (t : Bool) → eqb (join_fault b a) 0 ≡ t → join_of a b ≡ join_of b a
      by-fault f q true e =
          let z = eqb-true (join_fault b a) 0 e in
          made-join a b (f ∙ z) ∙ ap (λ (s : Summary). made_of s 0) q ∙ sym (made-join b a z)
      by-fault f q false e =
          let some = eqb-false (join_fault b a) 0 e in
          refused-join a b (join_fault b a) f some ∙ sym (refused-join b a (join_fault b a) refl some)

  join-turned : join_of a b ≡ join_of b a
  join-turned = go (misshapen a) (misshapen b) refl refl
    where
      go : (x y : Bool) → misshapen a ≡ x → misshapen b ≡ y → join_of a b ≡ join_of b a
      go true y p q = bad-either (ap (λ (t : Bool). t || misshapen b) p)
      go false true p q = bad-either (ap (λ (t : Bool). t || misshapen b) p ∙ q)
      go false false p q = good-both p q

-- a blank summary
blank-page : blank_summary ≡ page 0 []
blank-page = unfold page in refl

pub blank-handed : Handed blank_summary
blank-handed = record { thirty = refl; narrow = λ i l. small i }
  where
    small : (i : ℕ) → (line_at blank_summary i).settings < 0x10000
    small i = go i 30
      where
        go : (i n : ℕ) → (get_or (replicate n blank_line) i blank_line).settings < 0x10000
        go i zero = omega arith
        go zero (suc n) = omega arith
        go (suc i) (suc n) = go i n

pub blank-shape : misshapen blank_summary ≡ false
blank-shape = ap misshapen blank-page ∙ shaped-page 0 [] (omega arith) rises_none told_none

pub blank-counts : lines_over blank_summary ≡ false
blank-counts = none_over blank_summary (λ i l. go i 30)
  where
    few : counts_over blank_line ≡ false
    few = unfold counts_over in refl

    go : (i n : ℕ) → counts_over (get_or (replicate n blank_line) i blank_line) ≡ false
    go i zero = few
    go zero (suc n) = few
    go (suc i) (suc n) = go i n

module _ (a : Summary) (ha : Handed a) (clean : Clean a) where
  own-page : join_page a blank_summary ≡ a
  own-page =
      let so = sound-handed a ha.thirty clean.shape in
      let lines : join_lines a blank_summary ≡ lines_of a = unfold put_all in refl in
      ap (page 0) lines ∙ ap (λ (n : ℕ). page n (lines_of a)) (sym clean.kept) ∙ sym so.is

  blank-right : join_of a blank_summary ≡ made_of a 0
  blank-right =
      let so = sound-handed a ha.thirty clean.shape in
      let lines : join_lines a blank_summary ≡ lines_of a = unfold put_all in refl in
      let shape : (misshapen a || misshapen blank_summary) ≡ false = ap (λ (t : Bool). t || misshapen blank_summary) clean.shape ∙ blank-shape in
      let all : unkept a blank_summary ≡ false =
      ap (λ (t : Bool). t || (ltb 0 a.others || false)) (ap (λ (ls : List Line). ltb 30 (length ls)) lines ∙ le-ltb 30 (length (lines_of a)) (omega (arith, count-of a so, so.few)))
      ∙ ap (λ (t : Bool). t || false) (le-ltb 0 a.others (omega (arith, clean.kept))) in
      let few : join_over a blank_summary ≡ false =
      ap (λ (t : Bool). t || (lines_over blank_summary || lines_over (join_page a blank_summary))) clean.counts
      ∙ ap (λ (t : Bool). t || lines_over (join_page a blank_summary)) blank-counts ∙ ap lines_over own-page ∙ clean.counts in
      made-join a blank_summary (fault-by a blank_summary false false false shape all few) ∙ ap (λ (s : Summary). made_of s 0) own-page

-- end to end
ends : (l m : List Entry) (r : Made) → JoinsSummaries (summary_of l) (summary_of m) r → r.number ≡ 0 → r.summary ≡ summary_of (l ++ m)
ends l m r j n =
    let p = passed (summary_of l) (summary_of m) (fault-of (summary_of l) (summary_of m) r j n) in
    summary-of (summary_of l) (summary_of m) r j n ∙ end-lines l m p.few p.kept_a p.kept_b

-- the tests in the table's words
asks : (a b : Summary) → join_fault a b ≡ first_of (asked (join_table a b) (37 ∷ 25 ∷ 24 ∷ []))
asks a b =
    let own : join_fault a b ≡ first_of ((misshapen a || misshapen b) gives 37 ∷ unkept a b gives 25 ∷ join_over a b gives 24 ∷ []) = unfold join_fault in refl in
    own ∙ (λ i. first_of ((sym (same_shape a) i || sym (same_shape b) i) gives 37 ∷ unkept a b gives 25 ∷ join_over a b gives 24 ∷ []))

pub join-promises : Join
join-promises =
    record {
      pair_by_pair = by-pair;
      again = again-of;
      either_order = λ a b ha hb r q j k. j.answers ∙ join-turned a b ha hb ∙ sym k.answers;
      grouping = grouping-of;
      blank = λ a ha clean r q j k.
          (j.answers ∙ blank-right a ha clean, k.answers ∙ join-turned blank_summary a blank-handed ha ∙ blank-right a ha clean);
      end_to_end = ends;
      refused = λ a b r j n.
          ap (λ (x : Made). x.summary)
          (j.answers ∙ refused-join a b (join_fault a b) refl (λ z. n (ap (λ (x : Made). x.number) j.answers ∙ number_is a b ∙ z)));
      first-fault = λ a b r j. given (join_table a b) (37 ∷ 25 ∷ 24 ∷ []) r.number
          (ap (λ (x : Made). x.number) j.answers ∙ number_is a b ∙ asks a b);
      one-outcome = λ a b. record { same = λ r q j k. j.answers ∙ sym k.answers; some = _; allowed = record { answers = refl } };
    }
