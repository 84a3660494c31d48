-- The answer of a reply by the tests made before its bits are looked at: 10, 11, 14, 1 and 2, and the rest. Assumes nothing.
use mathlib.Core.Path.{◌≡◌, refl, ap, ◌∙◌}
use mathlib.Core.Bool.{Bool, true, false, not, ◌&&◌}
use mathlib.Core.List.{List}
use Prim.Native.Nat.{ℕ, ◌/◌, ◌%◌, ◌<◌, ◌≤◌}
use native.Mathlib.Omega.{arith}
use borrow.Author.Tests.{eqb-true, le-leb}
use lib.Dec.{eqb, ltb, leb, lit<}
use lib.ListN.{length, get_or, get_or-eq_default}
use Rattle.frame.specs.Pick.{pick}
use Rattle.frame.specs.Line.{line, formed, bytes_for, pad_clear}
use Rattle.frame.specs.Level.{Level, level_of}
use Rattle.frame.specs.Reply.{mode_in, reading_at, reply_fault, refused_by, reply_of}
use Rattle.frame.specs.Inside.Packed.{line_fault, line_reply, form_fault, unread_fault}
use Rattle.frame.proofs.Answers.{refused-by}
use Rattle.std.specs.Prelude.{Ok, Err}
use Rattle.frame.specs.Faults.{fault}

-- a fault other than 7 is refused by its number alone
pub plain_by : (l : Level) (f : ℕ) → eqb f 7 ≡ false → refused_by l f ≡ fault f
plain_by l f e = simp e

-- the first five tests, before a rest
abbrev early : Bool → Bool → Bool → Bool → Bool → ℕ → ℕ
early a b c d e rest = pick a 10 (pick b 11 (pick c 14 (pick d 1 (pick e 2 rest))))

some-early : (a b c d e : Bool) (rest : ℕ) → (early a b c d e 0 ≡ 0 → ⊥) → early a b c d e rest ≡ early a b c d e 0
some-early true b c d e rest some = refl
some-early false true c d e rest some = refl
some-early false false true d e rest some = refl
some-early false false false true e rest some = refl
some-early false false false false true rest some = refl
some-early false false false false false rest some = absurd (some refl)

not-seven : (a b c d e : Bool) → eqb (early a b c d e 0) 7 ≡ false
not-seven true b c d e = refl
not-seven false true c d e = refl
not-seven false false true d e = refl
not-seven false false false true e = refl
not-seven false false false false true = refl
not-seven false false false false false = refl

small-early : (a b c d e : Bool) → early a b c d e 0 < 256
small-early true b c d e = lit< tt
small-early false true c d e = lit< tt
small-early false false true d e = lit< tt
small-early false false false true e = lit< tt
small-early false false false false true = lit< tt
small-early false false false false false = lit< tt

abbrev NoneEarly : Bool → Bool → Bool → Bool → Bool → Type 0
NoneEarly a b c d e = (a ≡ false) × ((b ≡ false) × ((c ≡ false) × ((d ≡ false) × (e ≡ false))))

none-early : (a b c d e : Bool) → early a b c d e 0 ≡ 0 → NoneEarly a b c d e
none-early true b c d e h = absurd (omega (arith, h))
none-early false true c d e h = absurd (omega (arith, h))
none-early false false true d e h = absurd (omega (arith, h))
none-early false false false true e h = absurd (omega (arith, h))
none-early false false false false true h = absurd (omega (arith, h))
none-early false false false false false h = (refl, (refl, (refl, (refl, refl))))

module _ (settings address count : ℕ) (s : List ℕ) where
  abbrev level : Level
  level = level_of (mode_in settings) (line s)

  answer-is : (f : ℕ) → reply_fault settings address count s ≡ f → (f ≡ 0 → ⊥) → eqb f 7 ≡ false → reply_of settings address count s ≡ Err (fault f)
  unfolding reply_of
  answer-is f e some other = refused-by (Ok (reading_at settings count (line s))) (λ (n : ℕ). Err (refused_by level n)) _ f e some ∙ ap Err (plain_by level f other)

  -- the refusal before the bits are looked at is the answer's, and without one the answer is the line's
  later : (unread_fault settings address count s ≡ 0 → ⊥) → reply_fault settings address count s ≡ unread_fault settings address count s
  unfolding reply_fault line_fault form_fault
  later some = some-early (ltb 15 settings) (ltb 999 address) (not (formed count s)) (eqb count 0) (not (eqb count 40) && not (eqb count 56)) (line_fault settings address count s) some

  pub unread-refused : (unread_fault settings address count s ≡ 0 → ⊥) → reply_of settings address count s ≡ Err (fault (unread_fault settings address count s))
  unfolding form_fault
  unread-refused some =
      answer-is (unread_fault settings address count s) (later some) some
      (not-seven (ltb 15 settings) (ltb 999 address) (not (formed count s)) (eqb count 0) (not (eqb count 40) && not (eqb count 56)))

  pub unread-small : unread_fault settings address count s < 256
  unfolding form_fault
  unread-small = small-early (ltb 15 settings) (ltb 999 address) (not (formed count s)) (eqb count 0) (not (eqb count 40) && not (eqb count 56))

  passed : unread_fault settings address count s ≡ 0 → NoneEarly (ltb 15 settings) (ltb 999 address) (not (formed count s)) (eqb count 0) (not (eqb count 40) && not (eqb count 56))
  unfolding form_fault
  passed = none-early (ltb 15 settings) (ltb 999 address) (not (formed count s)) (eqb count 0) (not (eqb count 40) && not (eqb count 56))

  pub unread-line : unread_fault settings address count s ≡ 0 → reply_of settings address count s ≡ line_reply settings address count s
  unfolding reply_of reply_fault line_reply line_fault
  unread-line e = let p = passed e in rw (p.0, p.1.0, p.1.1.0, p.1.1.1.0, p.1.1.1.1)

-- a count without pad bits is in the right form where it has its bytes
pub filled : (count : ℕ) (s : List ℕ) → count ≤ 64 → count % 8 ≡ 0 → formed count s ≡ eqb (length s) (count / 8)
unfolding formed
filled count s h full = go (eqb (length s) (count / 8)) refl
  where
    bytes : bytes_for count ≡ count / 8
    bytes = omega arith

    go : (b : Bool) → eqb (length s) (count / 8) ≡ b → (leb count 64 && eqb (length s) (bytes_for count) && pad_clear count s) ≡ b
    go true e =
        let none : get_or s (count / 8) 0 ≡ 0 = get_or-eq_default s 0 (omega (arith, eqb-true (length s) (count / 8) e)) in
        simp (le-leb count 64 h, bytes, e, none, full)
    go false e = simp (le-leb count 64 h, bytes, e)
