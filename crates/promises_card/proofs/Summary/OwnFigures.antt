-- Own figures: a closed record's line is put among the lines, which leaves every other pair's; by whether the pair has a line and one is free. Every other
-- save hands the summary back. Assumes nothing.
use mathlib.Core.Path.{◌≡◌, refl, sym, ap, ◌∙◌}
use mathlib.Core.Bool.{Bool, true, false}
use mathlib.Core.List.{List, [], ◌∷◌}
use Prim.Native.Nat.{ℕ, ◌+◌, ◌<◌, ◌≤◌}
use native.Mathlib.Omega.{arith}
use borrow.Author.Tests.{eq-eqb, ne_eqb, lt-ltb, le-ltb, ltb-true, ltb-false}
use lib.Dec.{eqb, ltb}
use lib.ListN.{length}
use Rattle.frame.specs.Pick.{pick}
use Rattle.frame.specs.Rising.{held_at}
use Rattle.sheet.specs.Record.{Entry, length_of}
use Rattle.summary.specs.declared.Line.{Line}
use Rattle.summary.specs.declared.Summary.{Summary}
use Rattle.summary.specs.declared.Kept.{Kept}
use Rattle.summary.specs.Line.{pair_of, page}
use Rattle.summary.specs.Worked.{pair_in}
use Rattle.summary.specs.Handed.{lines_of}
use Rattle.summary.specs.Updated.{line_of, has_line, put_among, fits, one_other, with_line, with_record}
use Rattle.summary.specs.Sound.{Sound}
use Rattle.summary.proofs.HandedIn.{small-not-refused}
use Rattle.summary.proofs.Pages.{lines-page}
use Rattle.summary.proofs.PairFigures.{pair-own}
use Rattle.summary.proofs.Putting.{joined, held-put}
use Rattle.summary.proofs.RecordAdded.{has-held, held-has, length-put, with-fit, with-no-fit, fits_by, count-sound}
use Rattle.promises_card.specs.Summary.Chain.{Step, Goes, is_closed}
use Rattle.promises_card.specs.Summary.OwnFigures.{line_in, Figures, OwnFigures}
use Rattle.promises_card.proofs.Summary.Kept.{Became, summary_bad, save_bad, closed, short, became}

some-held : (x : Line) (ls : List Line) → joined x ls ≡ [] → ⊥
some-held x [] e = let z : ◌≡◌ {A = ℕ} 0 1 = cc in omega arith
some-held x (l ∷ ls) e = let z : ◌≡◌ {A = ℕ} 0 1 = cc in omega arith

module _ (e : Entry) (s : Summary) (sound : Sound s) where
  abbrev x : Line
  x = line_of e

  abbrev k : ℕ
  k = pair_in e

  abbrev ls : List Line
  ls = lines_of s

  record-line : with_record e s ≡ with_line x s
  record-line = unfold with_record in refl

  -- with a line for it
  module _ (fit : fits x s ≡ true) where
    after-fit : with_record e s ≡ page s.others (put_among x ls)
    after-fit = record-line ∙ with-fit x s sound fit

    lines_fit : lines_of (with_record e s) ≡ put_among x ls
    lines_fit = ap lines_of after-fit ∙ lines-page s.others (put_among x ls)

    held-fit : (j : ℕ) (b : Bool) → eqb (pair_of x) j ≡ b → line_in j (with_record e s) ≡ pick b (joined x (held_at pair_of j ls)) (held_at pair_of j ls)
    held-fit j b h =
        ap (held_at pair_of j) lines_fit ∙ held-put x ls sound.rises j ∙ ap (λ (t : Bool). pick t (joined x (held_at pair_of j ls)) (held_at pair_of j ls)) h

    others-fit : (with_record e s).others ≡ s.others
    others-fit = ap (λ (t : Summary). t.others) after-fit ∙ (unfold page in refl)

    count-fit : (with_record e s).count ≡ s.count + pick (has_line (pair_of x) ls) 0 1
    count-fit =
        let counted : (page s.others (put_among x ls)).count ≡ length (put_among x ls) = unfold page in refl in
        ap (λ (t : Summary). t.count) after-fit ∙ counted ∙ length-put x ls sound.rises
        ∙ ap (λ (n : ℕ). n + pick (has_line (pair_of x) ls) 0 1) (sym (count-sound x s sound))

  -- whether the pair has a line
  has-is : (b : Bool) → has_line (pair_of x) ls ≡ b → has_line k ls ≡ b
  has-is b h = ap (λ (j : ℕ). has_line j ls) (sym (pair-own e)) ∙ h

  figures-has : has_line (pair_of x) ls ≡ true → Figures k s (with_record e s)
  figures-has h =
      let fit = fits_by x s sound true (ltb s.count 30) h refl in
      let some = has-held k ls (has-is true h) in
      record {
        others-stay = λ j n. held-fit fit j false (ne_eqb (pair_of x) j (λ q. n (sym (sym (pair-own e) ∙ q))));
        own = λ n. (others-fit fit, count-fit fit ∙ ap (λ (b : Bool). s.count + pick b 0 1) h ∙ (omega arith));
        new = λ none few. absurd (some none);
        other = λ none full. absurd (some none);
      }

  figures-new : has_line (pair_of x) ls ≡ false → s.count < 30 → Figures k s (with_record e s)
  figures-new h few =
      let fit = fits_by x s sound false true h (lt-ltb s.count 30 few) in
      let none = held-has k ls (has-is false h) in
      record {
        others-stay = λ j n. held-fit fit j false (ne_eqb (pair_of x) j (λ q. n (sym (sym (pair-own e) ∙ q))));
        own = λ n. absurd (n none);
        new = λ z l. (
          others-fit fit,
          (
            count-fit fit ∙ ap (λ (b : Bool). s.count + pick b 0 1) h,
            λ q. some-held x (held_at pair_of k ls) (sym (held-fit fit k true (eq-eqb (pair_of x) k (pair-own e))) ∙ q),
          ),
        );
        other = λ z full. absurd (omega arith);
      }

  figures-other : has_line (pair_of x) ls ≡ false → 30 ≤ s.count → Figures k s (with_record e s)
  figures-other h full =
      let no = fits_by x s sound false false h (le-ltb s.count 30 full) in
      let none = held-has k ls (has-is false h) in
      let is : with_record e s ≡ one_other s = record-line ∙ with-no-fit x s sound no in
      record {
        others-stay = λ j n. ap (λ (t : Summary). line_in j t) is;
        own = λ n. absurd (n none);
        new = λ z few. absurd (omega arith);
        other = λ z l. (ap (λ (t : Summary). t.lines) is, ap (λ (t : Summary). t.others) is);
      }

  figures-of : Figures k s (with_record e s)
  figures-of = go (has_line (pair_of x) ls) (ltb s.count 30) refl refl
    where
      go : (b c : Bool) → has_line (pair_of x) ls ≡ b → ltb s.count 30 ≡ c → Figures k s (with_record e s)
      go true c h g = figures-has h
      go false true h g = figures-new h (ltb-true s.count 30 g)
      go false false h g = figures-other h (ltb-false s.count 30 g)

apart : {A : Type 0} → ◌≡◌ {A = Bool} true false → A
apart e = let z : ◌≡◌ {A = ℕ} 0 1 = cc in absurd (omega arith)

count_by : (x : Step) (k : Kept) → x.answer ≡ k → is_closed x ≡ eqb k.count (length_of x.entry + 2)
count_by x k h = ap (λ (a : Kept). eqb a.count (length_of x.entry + 2)) h

closed_of : (s : List ℕ) (page : Summary) → length page.lines ≡ 30 → (x : Step) (t : List ℕ) → Goes s page x t → is_closed x ≡ true
    → Figures (pair_in x.entry) page x.answer.summary
closed_of s page long x t g told = go (became s page x t g)
  where
    go : Became s page x t → Figures (pair_in x.entry) page x.answer.summary
    go (summary_bad some a q) = apart (sym told ∙ count_by x _ a ∙ ne_eqb 0 (length_of x.entry + 2) (omega arith))
    go (save_bad h some a q) = apart (sym told ∙ count_by x _ a ∙ ne_eqb 0 (length_of x.entry + 2) (omega arith))
    go (closed h f l a q) =
        let sound = (small-not-refused page long h).sound in
        rw (ap (λ (y : Kept). y.summary) a) (figures-of x.entry page sound)
    go (short h f l a q) = apart (sym told ∙ count_by x _ a ∙ ne_eqb x.allowance (length_of x.entry + 2) (omega arith))

not-closed-of : (s : List ℕ) (page : Summary) (x : Step) (t : List ℕ) → Goes s page x t → is_closed x ≡ false → x.answer.summary ≡ page
not-closed-of s page x t g left = go (became s page x t g)
  where
    go : Became s page x t → x.answer.summary ≡ page
    go (summary_bad some a q) = ap (λ (y : Kept). y.summary) a
    go (save_bad h some a q) = ap (λ (y : Kept). y.summary) a
    go (closed h f l a q) = apart (sym (count_by x _ a ∙ eq-eqb (length_of x.entry + 2) (length_of x.entry + 2) refl) ∙ left)
    go (short h f l a q) = ap (λ (y : Kept). y.summary) a

pub own-figures : OwnFigures
own-figures = record { closed = closed_of; not-closed = not-closed-of }
