-- In order: a summary that 37 does not name is in order, and a record added to such a one leaves such a one. Assumes nothing.
use mathlib.Core.Path.{◌≡◌, refl, sym, ap, ◌∙◌}
use mathlib.Core.Logic.{◌≢◌}
use mathlib.Core.Bool.{Bool, true, false}
use mathlib.Core.List.{List}
use Prim.Native.Nat.{ℕ, suc, ◌+◌, ◌-◌, ◌<◌, ◌≤◌}
use native.Mathlib.Omega.{arith}
use native.Mathlib.Numerals.{add-one}
use borrow.Author.Tests.{ltb-true}
use lib.Dec.{ltb}
use lib.ListN.{length, replicate, length-append, length-replicate}
use lib.Seq.{get_or-take, length-take-le}
use Rattle.frame.specs.Pick.{pick}
use Rattle.sheet.specs.Record.{Entry}
use Rattle.summary.specs.declared.Line.{Line}
use Rattle.summary.specs.declared.Summary.{Summary}
use Rattle.summary.specs.declared.Kept.{Kept}
use Rattle.summary.specs.Line.{pair_of, page, blank_line}
use Rattle.summary.specs.Handed.{lines_of, line_at, rises_at, misshapen, handed_fault}
use Rattle.summary.specs.Updated.{line_of, has_line, put_among, fits, with_line, with_record}
use Rattle.summary.specs.Sound.{Sound}
use Rattle.summary.proofs.HandedIn.{sound-handed, few, used, unused}
use Rattle.summary.proofs.Shaped.{LevelsTold, right-told, AllTold, all_told, told-own, told-put, shaped-page}
use Rattle.summary.proofs.Putting.{rises-put}
use Rattle.summary.proofs.RecordAdded.{length-put, with-fit, with-no-fit, one-other, fits_by, count-sound}
use Rattle.promises_card.specs.Summary.Chain.{Step, Goes}
use Rattle.promises_card.specs.Summary.InOrder.{Ordered, InOrder}
use Rattle.promises_card.proofs.Summary.Kept.{HandedFault, by_37, by-24, by-none, handed-fault, Became, summary_bad, save_bad, closed, short, became}

-- a summary that 37 does not name
module _ (s : Summary) (long : length s.lines ≡ 30) (right : misshapen s ≡ false) where
  told_line : (i : ℕ) → i < s.count → LevelsTold (line_at s i)
  told_line i l = right-told (line_at s i) (used s long right i l).1

  rises-line : (i : ℕ) → i + 1 < s.count → pair_of (line_at s i) < pair_of (line_at s (i + 1))
  rises-line i l = rw (add-one i) (up (rw (add-one i) at (used s long right (i + 1) l).0))
    where
      up : rises_at s (suc i) ≡ true → pair_of (line_at s i) < pair_of (line_at s (suc i))
      up r = unfold rises_at in ltb-true (pair_of (line_at s i)) (pair_of (line_at s (suc i))) r

  pub ordered : Ordered s
  ordered =
      record {
        few = few s long right;
        rises = rises-line;
        blank = unused s long right;
        without = λ i l z. (told_line i l).without z;
        with_levels = λ i l n. (told_line i l).with_levels n;
      }

  all_lines : AllTold (lines_of s)
  all_lines =
      let few30 = few s long right in
      all_told (lines_of s)
      (λ i l.
      let near : i < s.count = omega (arith, length-take-le s.count s.lines (omega arith)) in
      rw (get_or-take s.count s.lines i blank_line near) (told_line i near))

  -- one record more
  shaped-more : (e : Entry) → misshapen (with_record e s) ≡ false
  shaped-more e = ap misshapen record-line ∙ go (has_line (pair_of (line_of e)) (lines_of s)) (ltb s.count 30) refl refl
    where
      record-line : with_record e s ≡ with_line (line_of e) s
      record-line = unfold with_record in refl

      fit : fits (line_of e) s ≡ true → length (put_among (line_of e) (lines_of s)) ≤ 30 → misshapen (with_line (line_of e) s) ≡ false
      fit h small =
          ap misshapen (with-fit (line_of e) s (sound-handed s long right) h)
          ∙ shaped-page s.others (put_among (line_of e) (lines_of s)) small (rises-put (line_of e) (lines_of s) (sound-handed s long right).rises)
          (told-put (line_of e) (lines_of s) (told-own e) all_lines)

      many : (b : Bool) → has_line (pair_of (line_of e)) (lines_of s) ≡ b → length (put_among (line_of e) (lines_of s)) ≡ s.count + pick b 0 1
      many b h =
          length-put (line_of e) (lines_of s) (sound-handed s long right).rises ∙ ap (λ (t : Bool). length (lines_of s) + pick t 0 1) h
          ∙ ap (λ (n : ℕ). n + pick b 0 1) (sym (count-sound (line_of e) s (sound-handed s long right)))

      go : (b c : Bool) → has_line (pair_of (line_of e)) (lines_of s) ≡ b → ltb s.count 30 ≡ c → misshapen (with_line (line_of e) s) ≡ false
      go true c h g = fit (fits_by (line_of e) s (sound-handed s long right) true c h g) (omega (arith, many true h, few s long right))
      go false true h g = fit (fits_by (line_of e) s (sound-handed s long right) false true h g) (omega (arith, many false h, ltb-true s.count 30 g))
      go false false h g =
          let so = sound-handed s long right in
          ap misshapen (with-no-fit (line_of e) s so (fits_by (line_of e) s so false false h g) ∙ one-other (line_of e) s so)
          ∙ shaped-page (s.others + 1) (lines_of s) (omega (arith, count-sound (line_of e) s so, few s long right)) so.rises all_lines

-- it keeps its 30 lines
long-page : (o : ℕ) (ls : List Line) → length ls ≤ 30 → length (page o ls).lines ≡ 30
unfolding page
long-page o ls h = length-append ls (replicate (30 - length ls) blank_line) ∙ omega (arith, length-replicate (30 - length ls) blank_line)

module _ (e : Entry) (s : Summary) (long : length s.lines ≡ 30) (right : misshapen s ≡ false) where
  abbrev so : Sound s
  so = sound-handed s long right

  long-more : length (with_record e s).lines ≡ 30
  long-more = ap (λ (t : Summary). length t.lines) record-line ∙ go (has_line (pair_of (line_of e)) (lines_of s)) (ltb s.count 30) refl refl
    where
      record-line : with_record e s ≡ with_line (line_of e) s
      record-line = unfold with_record in refl

      many : (b : Bool) → has_line (pair_of (line_of e)) (lines_of s) ≡ b → length (put_among (line_of e) (lines_of s)) ≡ s.count + pick b 0 1
      many b h =
          length-put (line_of e) (lines_of s) so.rises ∙ ap (λ (t : Bool). length (lines_of s) + pick t 0 1) h
          ∙ ap (λ (n : ℕ). n + pick b 0 1) (sym (count-sound (line_of e) s so))

      fit : fits (line_of e) s ≡ true → length (put_among (line_of e) (lines_of s)) ≤ 30 → length (with_line (line_of e) s).lines ≡ 30
      fit h small = ap (λ (t : Summary). length t.lines) (with-fit (line_of e) s so h) ∙ long-page s.others (put_among (line_of e) (lines_of s)) small

      go : (b c : Bool) → has_line (pair_of (line_of e)) (lines_of s) ≡ b → ltb s.count 30 ≡ c → length (with_line (line_of e) s).lines ≡ 30
      go true c h g = fit (fits_by (line_of e) s so true c h g) (omega (arith, many true h, few s long right))
      go false true h g = fit (fits_by (line_of e) s so false true h g) (omega (arith, many false h, ltb-true s.count 30 g))
      go false false h g = ap (λ (t : Summary). length t.lines) (with-no-fit (line_of e) s so (fits_by (line_of e) s so false false h g)) ∙ long

  ordered-more : Ordered (with_record e s)
  ordered-more = ordered (with_record e s) long-more (shaped-more s long right e)

left-of : (s : List ℕ) (page : Summary) → length page.lines ≡ 30 → (x : Step) (t : List ℕ) → Goes s page x t → x.answer.number ≢ 37
    → Ordered x.answer.summary
left-of s page long x t g not-37 = go (became s page x t g)
  where
    shape : handed_fault page ≢ 37 → misshapen page ≡ false
    shape n = by (handed-fault page)
      where
        by : HandedFault page → misshapen page ≡ false
        by (by_37 m q) = absurd (n q)
        by (by-24 m o q) = m
        by (by-none m o q) = m

    same : (k : Kept) → x.answer ≡ k → Ordered k.summary → Ordered x.answer.summary
    same k a o = rw (ap (λ (y : Kept). y.summary) a) o

    clear : handed_fault page ≡ 0 → misshapen page ≡ false
    clear h = shape (λ q. omega arith)

    go : Became s page x t → Ordered x.answer.summary
    go (summary_bad some a q) = same _ a (ordered page long (shape (λ n. not-37 (ap (λ (y : Kept). y.number) a ∙ n))))
    go (save_bad h some a q) = same _ a (ordered page long (clear h))
    go (closed h f l a q) = same _ a (ordered-more x.entry page long (clear h))
    go (short h f l a q) = same _ a (ordered page long (clear h))

pub in_order : InOrder
in_order = record { left = left-of }
