-- Where the first message closes. A call that tells something closes on its last sample: with one sample fewer all is quiet. Of samples that lie on one
-- stream only one number of them can be the first at which something is told.
use mathlib.Core.Path.{◌≡◌, refl, sym, ap, ◌∙◌}
use mathlib.Core.Bool.{Bool, true, false, ◌&&◌}
use mathlib.Core.List.{List, [], ◌∷◌, ◌++◌, map}
use Prim.Native.Nat.{ℕ, ◌+◌, ◌-◌, ◌<◌, ◌≤◌}
use native.Mathlib.Omega.{arith}
use lib.Dec.{eqb}
use lib.ListN.{length, take, drop, length-append, length-take, take-append-drop}
use lib.Seq.{take_all, take-take, take-append_seam, take-append-le, take-append-add}
use Rattle.frame.specs.Pick.{pick}
use Rattle.lines.specs.declared.SoFar.{SoFar}
use Rattle.lines.specs.declared.LinesTold.{LinesTold}
use Rattle.lines.specs.Sample.{sample_of}
use Rattle.lines.specs.Timing.{Timing, timing, bad_timing}
use Rattle.lines.specs.SoFar.{rest_state}
use Rattle.lines.specs.Calls.{lines_answer, HearsLines}
use Rattle.promises_frame.proofs.Cases.{by-lt}
use Rattle.promises_lines.specs.History.{Said, said, tellings, History, called}
use Rattle.promises_lines.proofs.Legal.{rest}
use Rattle.promises_lines.proofs.Ends.{good}
use Rattle.promises_lines.proofs.Streams.{tells, ends, tells-append, map-append, history}
use Rattle.promises_lines.proofs.Takes.{takes}

-- A call tells nothing, or one thing.
pub one-telling : (a : LinesTold) → (tellings a ≡ [] → ⊥) → tellings a ≡ said a ∷ []
one-telling a some = go (eqb a.number 0 && eqb a.count 0) refl
  where
    go : (b : Bool) → (eqb a.number 0 && eqb a.count 0) ≡ b → tellings a ≡ said a ∷ []
    go true e = absurd (some (ap (λ (b : Bool). pick b [] (said a ∷ [])) e))
    go false e = ap (λ (b : Bool). pick b [] (said a ∷ [])) e

none_first : (xs ys : List Said) → xs ++ ys ≡ [] → xs ≡ []
none_first [] ys e = refl
none_first (x ∷ xs) ys e = let z : ◌≡◌ {A = ℕ} 0 1 = cc in absurd (omega arith)

module _ (t : Timing) (fine : bad_timing t ≡ false) where
  -- All that samples tell from the beginning.
  abbrev pub all : List ℕ → List Said
  all xs = tells t rest_state (map sample_of xs)

  pub told_is : {xs : List ℕ} {told : List Said} {s : SoFar} → History t rest_state xs told s → told ≡ all xs
  told_is h = (history t fine (good t fine) rest h).all

  pub all_append : (xs ys : List ℕ) → all (xs ++ ys) ≡ all xs ++ tells t (ends t rest_state (map sample_of xs)) (map sample_of ys)
  all_append xs ys = ap (tells t rest_state) (map-append xs ys) ∙ tells-append t rest_state (map sample_of xs) (map sample_of ys)

  quiet-front : (xs : List ℕ) (n m : ℕ) → n ≤ m → all (take m xs) ≡ [] → all (take n xs) ≡ []
  quiet-front xs n m h e =
      let l : List ℕ = take m xs in
      ap all (sym (take-take n m xs h))
      ∙ none_first (all (take n l)) _ (sym (all_append (take n l) (drop n l)) ∙ ap all (take-append-drop n l) ∙ e)

  -- One number of samples alone is the first at which something is told.
  pub one_place : (xs : List ℕ) (n m : ℕ) → 1 ≤ n → 1 ≤ m → (all (take n xs) ≡ [] → ⊥) → all (take (n - 1) xs) ≡ [] → (all (take m xs) ≡ [] → ⊥) → all (take (m - 1) xs) ≡ [] → n ≡ m
  one_place xs n m p q a b c d =
      by-lt n m (λ less. absurd (a (quiet-front xs n (m - 1) (omega arith) d)))
      (λ more. by-lt m n (λ less. absurd (c (quiet-front xs m (n - 1) (omega arith) b))) (λ same. omega arith))

  -- A call that tells something, after calls that told nothing.
  module _ {earlier : List ℕ} {s : SoFar} (h : History t rest_state earlier [] s) (batch : List ℕ) (a : LinesTold) (c : HearsLines s t.least t.most t.gap batch a)
      (some : tellings a ≡ [] → ⊥) where
    abbrev pub taken : List ℕ
    taken = earlier ++ take a.taken batch

    abbrev fewer : List ℕ
    fewer = take (a.taken - 1) batch

    abbrev b : LinesTold
    b = lines_answer s (timing t.least t.most t.gap) fewer

    close : (0 < a.taken) × (a.taken ≤ length batch)
    close =
        let r = takes.to_the_close s t.least t.most t.gap batch a fine c some in
        (r.0, r.1)

    b-none : tellings b ≡ []
    b-none = (takes.to_the_close s t.least t.most t.gap batch a fine c some).3 b (record { answers = refl })

    pub its-length : (1 ≤ length taken) × (length taken ≡ length earlier + a.taken)
    its-length =
        let sum = length-append earlier (take a.taken batch) in
        let size = length-take a.taken batch in
        (omega (arith, close.0, close.1), omega (arith, close.1))

    pub told-then : all taken ≡ said a ∷ []
    told-then = sym (told_is (called batch a h c)) ∙ one-telling a some

    pub told-there : all taken ≡ [] → ⊥
    told-there e = some (one-telling a some ∙ sym told-then ∙ e)

    pub quiet-before : all (take (length taken - 1) taken) ≡ []
    quiet-before =
        let long = takes.all s t.least t.most t.gap fewer b fine (record { answers = refl }) b-none in
        let place : length taken - 1 ≡ length earlier + (a.taken - 1) = omega (arith, its-length.1, close.0) in
        ap (λ (n : ℕ). all (take n taken)) place
        ∙ ap all (take-append-add earlier (take a.taken batch) (a.taken - 1) ∙ ap (λ (l : List ℕ). earlier ++ l) (take-take (a.taken - 1) a.taken batch (omega arith)))
        ∙ ap (λ (l : List ℕ). all (earlier ++ l)) (sym (take_all b.taken fewer (omega (arith, long))))
        ∙ sym (told_is (called fewer b h (record { answers = refl })))
        ∙ b-none

  -- The same said of a longer stream that begins with them.
  pub on-stream : (xs ys whole : List ℕ) → xs ++ ys ≡ whole → 1 ≤ length xs → (all xs ≡ [] → ⊥) → all (take (length xs - 1) xs) ≡ []
      → (all (take (length xs) whole) ≡ [] → ⊥) × (all (take (length xs - 1) whole) ≡ [])
  on-stream xs ys whole e some told quiet = (
    λ z. told (ap all (sym (take-append_seam xs ys) ∙ ap (take (length xs)) e) ∙ z),
    ap (λ (l : List ℕ). all (take (length xs - 1) l)) (sym e) ∙ ap all (take-append-le (length xs - 1) xs ys (omega arith)) ∙ quiet,
  )
