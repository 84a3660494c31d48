-- One try, as the recorder settles it: sample by sample it is heard as the lines hear it, so that one call of the lines over all that was taken tells the same bits; silence
-- and giving up are calls that tell nothing.
use mathlib.Core.Path.{◌≡◌, refl, sym, ap, subst, ◌∙◌}
use mathlib.Core.Bool.{Bool, true, false, ◌&&◌}
use mathlib.Core.List.{List, [], ◌∷◌, ◌++◌}
use Prim.Native.Nat.{ℕ, suc, ◌+◌, ◌≤◌}
use native.Mathlib.Omega.{arith}
use native.Mathlib.Nat.{add-zero, zero-add}
use lib.Dec.{leb}
use lib.ListN.{length, take, length-take}
use lib.Seq.{take_all}
use Rattle.frame.specs.Pick.{pick}
use Rattle.frame.specs.Line.{bytes_for}
use Rattle.lines.specs.declared.SoFar.{SoFar}
use Rattle.lines.specs.declared.LinesTold.{LinesTold}
use Rattle.lines.specs.Sample.{sample_of}
use Rattle.lines.specs.Timing.{Timing, bad_timing}
use Rattle.lines.specs.SoFar.{rest_state, legal, is_rest}
use Rattle.lines.specs.Step.{after, closes}
use Rattle.lines.specs.Hearing.{MessageTold, nothing, message, told_of, count_told, bytes_told, hear}
use Rattle.lines.specs.Hearing as lines
use Rattle.lines.specs.Calls.{answered}
use Rattle.polling.specs.declared.Pace.{Pace}
use Rattle.polling.specs.Pace.{timing_of}
use Rattle.polling.specs.Listening.{Listened, still_going, settled_by, later, given_up, settle, listen}
use Rattle.promises_lines.specs.History.{begun}
use Rattle.promises_lines.proofs.Legal.{rest, is-legal, view}
use Rattle.promises_lines.proofs.Ends.{good, Ends, still_open, closed_at, split, meant_itself, heard-by}
use Rattle.promises_lines.proofs.Tellings.{answer_to, answers}
use Rattle.promises_wire.specs.Heard.{HeardOnLines, heard}

-- What is settled and what goes on are not the same.
abbrev pub is_settled : Listened → ℕ
is_settled (still_going left taken) = 0
is_settled (settled_by told taken) = 1

abbrev pub taken_by : Listened → ℕ
taken_by (still_going left taken) = taken
taken_by (settled_by told taken) = taken

abbrev left_in : Listened → SoFar
left_in (still_going left taken) = left
left_in (settled_by told taken) = rest_state

-- The bits of one telling are those of another.
pub record SameBits (told : MessageTold) (other : MessageTold) : Type 0 where
  pub count : count_told other ≡ count_told told
  pub bytes : bytes_told other ≡ bytes_told told

alike : (told : MessageTold) → SameBits told told
alike told = record { count = refl; bytes = refl }

-- A listening beside a hearing of the samples that it took.
pub data Beside (t : Timing) (s : SoFar) (xs : List ℕ) : Listened → Type 0 where
  both_go_on : (left : SoFar) (n : ℕ) → n ≡ length xs → hear t s xs ≡ lines.hearing nothing left n → Beside t s xs (still_going left n)
  both_ended : (told : MessageTold) (n : ℕ) (h : lines.Hearing) → n ≤ length xs → hear t s (take n xs) ≡ h → h.taken ≡ n → SameBits told h.told → Beside t s xs (settled_by told n)

module _ (p : Pace) where
  abbrev t : Timing
  t = timing_of p

  one_later : (s n : SoFar) (x : ℕ) (xs : List ℕ) → n ≡ after t s (sample_of x) → closes t n ≡ false → {l : Listened} → Beside t n xs l → Beside t s (x ∷ xs) (later 1 l)
  unfolding hear
  one_later s n x xs is unclosed {l} (both_go_on left k all e) =
      let step : hear t s (x ∷ xs) ≡ lines.later 1 (hear t n xs)
      = ap (λ (m : SoFar). pick (closes t m) (lines.hearing (told_of m) rest_state 1) (lines.later 1 (hear t m xs))) (sym is)
      ∙ ap (λ (b : Bool). pick b (lines.hearing (told_of n) rest_state 1) (lines.later 1 (hear t n xs))) unclosed in
      both_go_on left (1 + k) (omega (arith, all)) (step ∙ ap (lines.later 1) e)
  one_later s n x xs is unclosed {l} (both_ended told k h few e took same) =
      let step : hear t s (x ∷ take k xs) ≡ lines.later 1 (hear t n (take k xs))
      = ap (λ (m : SoFar). pick (closes t m) (lines.hearing (told_of m) rest_state 1) (lines.later 1 (hear t m (take k xs)))) (sym is)
      ∙ ap (λ (b : Bool). pick b (lines.hearing (told_of n) rest_state 1) (lines.later 1 (hear t n (take k xs)))) unclosed in
      let more : 1 + k ≡ suc k = omega arith in
      both_ended told (1 + k) (lines.later 1 h) (omega arith) (ap (λ (m : ℕ). hear t s (take m (x ∷ xs))) more ∙ step ∙ ap (lines.later 1) e) (ap (λ (m : ℕ). 1 + m) took) (record { count = same.count; bytes = same.bytes })

  -- settled at this sample
  first-closed : (s : SoFar) (x : ℕ) (xs : List ℕ) → closes t (after t s (sample_of x)) ≡ true → Beside t s (x ∷ xs) (settled_by (told_of (after t s (sample_of x))) 1)
  unfolding hear
  first-closed s x xs c =
      both_ended (told_of (after t s (sample_of x))) 1 (lines.hearing (told_of (after t s (sample_of x))) rest_state 1) (omega arith)
      (ap (λ (b : Bool). pick b (lines.hearing (told_of (after t s (sample_of x))) rest_state 1) (lines.later 1 (hear t (after t s (sample_of x)) []))) c) refl
      (alike (told_of (after t s (sample_of x))))

  first_ended : (s : SoFar) (x : ℕ) (xs : List ℕ) (told : MessageTold) → closes t (after t s (sample_of x)) ≡ false → SameBits told nothing → Beside t s (x ∷ xs) (settled_by told 1)
  unfolding hear
  first_ended s x xs told c same =
      both_ended told 1 (lines.hearing nothing (after t s (sample_of x)) 1) (omega arith)
      (ap (λ (b : Bool). pick b (lines.hearing (told_of (after t s (sample_of x))) rest_state 1) (lines.later 1 (hear t (after t s (sample_of x)) []))) c) refl same

  pub beside : (s : SoFar) (passed : ℕ) (xs : List ℕ) → Beside t s xs (listen p s passed xs)
  unfolding hear listen settle
  beside s passed [] = both_go_on s 0 refl refl
  beside s passed (x ∷ xs) = go (closes t n) refl (is_rest n && leb p.wait (passed + 1)) (leb p.longest (passed + 1)) (beside n (passed + 1) xs)
    where
      n : SoFar
      n = after t s (sample_of x)

      go : (a : Bool) → closes t n ≡ a → (b c : Bool) → Beside t n xs (listen p n (passed + 1) xs)
          → Beside t s (x ∷ xs)
          (pick a (settled_by (told_of n) 1) (pick b (settled_by nothing 1) (pick c (settled_by (given_up n) 1) (later 1 (listen p n (passed + 1) xs)))))
      go true e b c more = first-closed s x xs e
      go false e true c more = first_ended s x xs nothing e (alike nothing)
      go false e false true more = first_ended s x xs (given_up n) e (record { count = refl; bytes = refl })
      go false e false false more = one_later s n x xs refl e more

  -- A try that goes on leaves a legal state of the lines.
  module _ (fine : bad_timing t ≡ false) where
    pub legal-left : (s : SoFar) → legal s ≡ true → (xs : List ℕ) (left : SoFar) (n : ℕ) → hear t s xs ≡ lines.hearing nothing left n → legal left ≡ true
    legal-left s ok xs left n e = go (split t (good t fine) s (view s ok) xs)
      where
        go : Ends t s xs (hear t s xs) → legal left ≡ true
        go (still_open x) = ap legal (sym (ap (λ (h : lines.Hearing). h.left) e) ∙ ap (λ (h : lines.Hearing). h.left) x.is) ∙ is-legal x.ok
        go (closed_at x) = ap legal (sym (ap (λ (h : lines.Hearing). h.left) e) ∙ ap (λ (h : lines.Hearing). h.left) x.is) ∙ is-legal rest

    -- One call of the lines over all that was taken tells the bits by which the try was settled.
    pub try-heard : (xs : List ℕ) (told : MessageTold) (n : ℕ) → listen p rest_state 0 xs ≡ settled_by told n
        → HeardOnLines t (take n xs) (count_told told) (take (bytes_for (count_told told)) (bytes_told told))
    try-heard xs told n e = go (listen p rest_state 0 xs) e (beside rest_state 0 xs)
      where
        told_is : Listened → MessageTold
        told_is (still_going left taken) = nothing
        told_is (settled_by told taken) = told

        go : (l : Listened) → l ≡ settled_by told n → Beside t rest_state xs l → HeardOnLines t (take n xs) (count_told told) (take (bytes_for (count_told told)) (bytes_told told))
        go (still_going left taken) q b = absurd (omega (arith, ap is_settled q))
        go (settled_by other m) q (both_ended by k h few is took same) =
            let all : m ≡ n = ap taken_by q in
            let ys : List ℕ = take n xs in
            let a : LinesTold = answer_to t ys in
            let answer : a ≡ answered h
            = heard-by rest_state t.least t.most t.gap ys a fine (answers t ys)
            ∙ ap (λ (s : SoFar). answered (hear t s ys)) (meant_itself rest_state (is-legal rest))
            ∙ ap (λ (j : ℕ). answered (hear t rest_state (take j xs))) (sym all) ∙ ap answered is in
            let takes : take a.taken ys ≡ ys = take_all a.taken ys (omega (arith, ap (λ (b : LinesTold). b.taken) answer, took, all, length-take n xs)) in
            let count : a.count ≡ count_told told = ap (λ (b : LinesTold). b.count) answer ∙ same.count ∙ ap count_told (ap told_is q) in
            let bytes : a.message ≡ bytes_told told = ap (λ (b : LinesTold). b.message) answer ∙ same.bytes ∙ ap bytes_told (ap told_is q) in
            subst (λ (l : List ℕ). HeardOnLines t l (count_told told) (take (bytes_for (count_told told)) (bytes_told told))) takes
            (subst (λ (y : ℕ × List ℕ). HeardOnLines t (take a.taken ys) y.0 (take (bytes_for y.0) y.1)) (λ i. (count i, bytes i)) (heard ys a begun (answers t ys)))

  -- Samples heard in two parts.
  later-none : (l : Listened) → later 0 l ≡ l
  later-none (still_going left taken) = ap (still_going left) (zero-add taken)
  later-none (settled_by told taken) = ap (settled_by told) (zero-add taken)

  later_more : (m : ℕ) (l : Listened) → later 1 (later m l) ≡ later (1 + m) l
  later_more m (still_going left taken) = let e : 1 + (m + taken) ≡ 1 + m + taken = omega arith in ap (still_going left) e
  later_more m (settled_by told taken) = let e : 1 + (m + taken) ≡ 1 + m + taken = omega arith in ap (settled_by told) e

  pub listen-then : (s : SoFar) (passed : ℕ) (xs ys : List ℕ) (left : SoFar) (n : ℕ) → listen p s passed xs ≡ still_going left n
      → listen p s passed (xs ++ ys) ≡ later n (listen p left (passed + n) ys)
  unfolding listen settle
  listen-then s passed [] ys left n e =
      let is : s ≡ left = ap left_in e in
      let none : 0 ≡ n = ap taken_by e in
      sym (later-none (listen p s passed ys)) ∙ ap (λ (k : ℕ). later 0 (listen p s k ys)) (sym (add-zero passed)) ∙ (λ i. later (none i) (listen p (is i) (passed + none i) ys))
  listen-then s passed (x ∷ xs) ys left n e = go (closes t m) (is_rest m && leb p.wait (passed + 1)) (leb p.longest (passed + 1)) e (listen p m (passed + 1) xs) refl (listen-then m (passed + 1) xs ys)
    where
      m : SoFar
      m = after t s (sample_of x)

      go : (a b c : Bool) → pick a (settled_by (told_of m) 1) (pick b (settled_by nothing 1) (pick c (settled_by (given_up m) 1) (later 1 (listen p m (passed + 1) xs)))) ≡ still_going left n
          → (l : Listened) → listen p m (passed + 1) xs ≡ l
          → ((left : SoFar) (n : ℕ) → listen p m (passed + 1) xs ≡ still_going left n → listen p m (passed + 1) (xs ++ ys) ≡ later n (listen p left (passed + 1 + n) ys))
          → pick a (settled_by (told_of m) 1) (pick b (settled_by nothing 1) (pick c (settled_by (given_up m) 1) (later 1 (listen p m (passed + 1) (xs ++ ys))))) ≡ later n (listen p left (passed + n) ys)
      go true b c q l r more = absurd (omega (arith, ap is_settled q))
      go false true c q l r more = absurd (omega (arith, ap is_settled q))
      go false false true q l r more = absurd (omega (arith, ap is_settled q))
      go false false false q (settled_by told k) r more = absurd (omega (arith, ap is_settled (sym q ∙ ap (later 1) r)))
      go false false false q (still_going there k) r more =
          let all : still_going there (1 + k) ≡ still_going left n = sym (ap (later 1) r) ∙ q in
          let is : there ≡ left = ap left_in all in
          let count : 1 + k ≡ n = ap taken_by all in
          let far : passed + 1 + k ≡ passed + (1 + k) = omega arith in
          ap (later 1) (more there k r) ∙ later_more k (listen p there (passed + 1 + k) ys)
          ∙ ap (λ (j : ℕ). later (1 + k) (listen p there j ys)) far ∙ (λ i. later (count i) (listen p (is i) (passed + count i) ys))
