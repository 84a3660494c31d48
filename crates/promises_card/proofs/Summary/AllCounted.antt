-- All counted: a line put among others adds its replies, wherever it comes to stand, so a record adds one; a summary worked out grows record by record. Assumes nothing.
use mathlib.Core.Path.{◌≡◌, refl, sym, ap, ◌∙◌}
use mathlib.Core.Bool.{Bool, true, false}
use mathlib.Core.List.{List, [], ◌∷◌, ◌++◌, append-nil, append_assoc}
use Prim.Native.Nat.{ℕ, ◌+◌}
use native.Mathlib.Omega.{arith}
use borrow.Author.Tests.{ne_eqb}
use lib.Dec.{eqb, ltb}
use lib.ListN.{length, length-append}
use Rattle.frame.specs.Pick.{pick}
use Rattle.sheet.specs.Record.{Entry, length_of}
use Rattle.sheet.specs.Slots.{list_of}
use Rattle.summary.specs.declared.Line.{Line}
use Rattle.summary.specs.declared.Summary.{Summary}
use Rattle.summary.specs.declared.Made.{Made}
use Rattle.summary.specs.declared.Kept.{Kept}
use Rattle.summary.specs.Line.{pair_of, together, page}
use Rattle.summary.specs.Worked.{summary_of}
use Rattle.summary.specs.Handed.{lines_of}
use Rattle.summary.specs.Updated.{line_of, put_among, fits, one_other, with_line, with_record}
use Rattle.summary.specs.Joined.{put_all, join_lines, JoinsSummaries}
use Rattle.summary.proofs.OneRecordMore.{summary-more}
use Rattle.summary.proofs.Pages.{lines-page}
use Rattle.summary.proofs.PairFigures.{own-few}
use Rattle.promises_card.specs.Summary.Chain.{Step, Goes, is_closed}
use Rattle.promises_card.specs.Summary.AllCounted.{replies, all_of, AllCounted}
use Rattle.promises_card.proofs.Summary.Kept.{Became, summary_bad, save_bad, closed, short, became}
use Rattle.promises_card.proofs.Summary.Shape.{apart}
use Rattle.promises_card.proofs.Summary.AtAnyMoment.{at-any-moment}
use Rattle.promises_card.proofs.Summary.JoinPassed.{passed}
use Rattle.promises_card.proofs.Summary.Join.{fault-of, summary-of}

-- a line put among others
more-replies : (l : Line) (ls : List Line) → replies (l ∷ ls) ≡ l.good + l.faulty + replies ls
more-replies l ls = unfold replies in refl

together-replies : (l x : Line) → (together l x).good + (together l x).faulty ≡ l.good + l.faulty + (x.good + x.faulty)
together-replies l x = unfold together in omega arith

put-replies : (x : Line) (ls : List Line) → replies (put_among x ls) ≡ replies ls + (x.good + x.faulty)
put-replies x [] =
    let is : put_among x [] ≡ x ∷ [] = unfold put_among in refl in
    let none : replies [] ≡ 0 = unfold replies in refl in
    ap replies is ∙ (omega (arith, more-replies x [], none))
put-replies x (l ∷ ls) = opened ∙ go (ltb (pair_of x) (pair_of l)) (eqb (pair_of x) (pair_of l)) (put-replies x ls)
  where
    opened : replies (put_among x (l ∷ ls)) ≡ replies (pick (ltb (pair_of x) (pair_of l)) (x ∷ l ∷ ls) (pick (eqb (pair_of x) (pair_of l)) (together l x ∷ ls) (l ∷ put_among x ls)))
    opened = ap replies (unfold put_among in refl)

    go : (a b : Bool) → replies (put_among x ls) ≡ replies ls + (x.good + x.faulty)
        → replies (pick a (x ∷ l ∷ ls) (pick b (together l x ∷ ls) (l ∷ put_among x ls))) ≡ replies (l ∷ ls) + (x.good + x.faulty)
    go true b rest = omega (arith, more-replies x (l ∷ ls))
    go false true rest = omega (arith, more-replies (together l x) ls, more-replies l ls, together-replies l x)
    go false false rest = omega (arith, more-replies l (put_among x ls), more-replies l ls, rest)

all-replies : (ls xs : List Line) → replies (put_all ls xs) ≡ replies ls + replies xs
all-replies ls [] =
    let is : put_all ls [] ≡ ls = unfold put_all in refl in
    let none : replies [] ≡ 0 = unfold replies in refl in
    ap replies is ∙ (omega (arith, none))
all-replies ls (x ∷ xs) =
    let is : put_all ls (x ∷ xs) ≡ put_all (put_among x ls) xs = unfold put_all in refl in
    ap replies is ∙ (omega (arith, all-replies (put_among x ls) xs, put-replies x ls, more-replies x xs))

-- a page of lines
page-all : (o : ℕ) (ls : List Line) → all_of (page o ls) ≡ replies ls + o
page-all o ls =
    let others : (page o ls).others ≡ o = unfold page in refl in
    (λ i. replies (lines-page o ls i) + others i)

-- one record more
record-all : (e : Entry) (s : Summary) → all_of (with_record e s) ≡ all_of s + 1
record-all e s = opened ∙ go (fits (line_of e) s)
  where
    opened : all_of (with_record e s) ≡ all_of (pick (fits (line_of e) s) (page s.others (put_among (line_of e) (lines_of s))) (one_other s))
    opened =
        let is : with_record e s ≡ pick (fits (line_of e) s) (page s.others (put_among (line_of e) (lines_of s))) (one_other s) = unfold with_record with_line in refl in
        ap all_of is

    go : (b : Bool) → all_of (pick b (page s.others (put_among (line_of e) (lines_of s))) (one_other s)) ≡ all_of s + 1
    go true = page-all s.others (put_among (line_of e) (lines_of s)) ∙ (omega (arith, put-replies (line_of e) (lines_of s), own-few e))
    go false = omega arith

-- a list's, record by record
more-worked : (l m : List Entry) → all_of (summary_of l) ≡ length l → all_of (summary_of (l ++ m)) ≡ length (l ++ m)
more-worked l [] h = ap (λ (k : List Entry). all_of (summary_of k)) (append-nil l) ∙ h ∙ ap length (sym (append-nil l))
more-worked l (e ∷ m) h =
    let one : all_of (summary_of (l ++ e ∷ [])) ≡ length (l ++ e ∷ []) =
    ap all_of (summary-more l e) ∙ record-all e (summary_of l) ∙ (omega (arith, h, length-append l (e ∷ []))) in
    let same = append_assoc l (e ∷ []) m in
    sym (ap (λ (k : List Entry). all_of (summary_of k)) same) ∙ more-worked (l ++ e ∷ []) m one ∙ ap length same

none-worked : all_of (summary_of []) ≡ 0
none-worked = unfold summary_of page replies in refl

worked-all : (l : List Entry) → all_of (summary_of l) ≡ length l
worked-all l = more-worked [] l none-worked

closed_all : (s : List ℕ) (before : Summary) (x : Step) (t : List ℕ) → Goes s before x t → is_closed x ≡ true → all_of x.answer.summary ≡ all_of before + 1
closed_all s before x t g told = go (became s before x t g)
  where
    count_by : (k : Kept) → x.answer ≡ k → is_closed x ≡ eqb k.count (length_of x.entry + 2)
    count_by k h = ap (λ (a : Kept). eqb a.count (length_of x.entry + 2)) h

    go : Became s before x t → all_of x.answer.summary ≡ all_of before + 1
    go (summary_bad some a q) = apart (sym told ∙ count_by _ a ∙ ne_eqb 0 (length_of x.entry + 2) (omega arith))
    go (save_bad h some a q) = apart (sym told ∙ count_by _ a ∙ ne_eqb 0 (length_of x.entry + 2) (omega arith))
    go (closed h f l a q) = ap (λ (y : Kept). all_of y.summary) a ∙ record-all x.entry before
    go (short h f l a q) = apart (sym told ∙ count_by _ a ∙ ne_eqb x.allowance (length_of x.entry + 2) (omega arith))

joined-all : (a b : Summary) (r : Made) → JoinsSummaries a b r → r.number ≡ 0 → all_of r.summary ≡ all_of a + all_of b
joined-all a b r j n =
    let p = passed a b (fault-of a b r j n) in
    ap all_of (summary-of a b r j n) ∙ page-all 0 (join_lines a b) ∙ (omega (arith, all-replies (lines_of a) (lines_of b), p.kept_a, p.kept_b))

pub all-counted : AllCounted
all-counted =
    record {
      worked = worked-all;
      kept = λ from sized h t page c. ap all_of (at-any-moment.equals from sized h t page c) ∙ worked-all (list_of t);
      one_more = closed_all;
      joined = joined-all;
    }
