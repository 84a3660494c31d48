-- Which number each call answers, test by test in document 01's order. Each law opens the call's list of tests at the facts it is given.
use mathlib.Core.Path.{◌≡◌, refl, sym, ◌∙◌, ap}
use mathlib.Core.Bool.{Bool, true, false, not}
use mathlib.Core.List.{List, [], ◌∷◌}
use Prim.Native.Nat.{ℕ, ◌<◌, ◌≤◌}
use lib.Dec.{eqb, ltb}
use lib.ListN.{length}
use native.Mathlib.Omega.{arith}
use borrow.Author.Tests.{lt-ltb, le-ltb, eqb-true, eqb-false}
use Rattle.frame.specs.Faults.{◌gives◌}
use Rattle.frame.specs.Line.{formed}
use Rattle.frame.specs.Pick.{pick}
use Rattle.frame.specs.Poll.{write_poll_fault}
use Rattle.frame.proofs.Numbers.{first_small}
use Rattle.board.specs.declared.Row.{Row}
use Rattle.board.specs.Gauge.{profile_misplaced, unmarked, at_once}
use Rattle.board.specs.Rows.{place_of, on_board, place_free, row_of}
use Rattle.board.specs.Calls.{enrol_number, fault_by, outside_at, hear_number, find_number, row_poll_number}
use Rattle.board.specs.Inside.ByValue.{may_poll}

module _ (board : List Row) (settings address gauge : ℕ) where
  abbrev number : ℕ
  number = enrol_number board settings address gauge

  -- no profile is given on a type 1800
  abbrev pub Fitting : Type 0
  Fitting = profile_misplaced settings gauge ≡ false

  pub enrol-10 : 15 < settings → number ≡ 10
  unfolding enrol_number
  enrol-10 a = simp (lt-ltb 15 settings a)

  pub enrol-11 : settings ≤ 15 → 999 < address → number ≡ 11
  unfolding enrol_number
  enrol-11 a b = simp (le-ltb 15 settings a, lt-ltb 999 address b)

  pub enrol-27 : settings ≤ 15 → address ≤ 999 → profile_misplaced settings gauge ≡ true → number ≡ 27
  unfolding enrol_number
  enrol-27 a b p = simp (le-ltb 15 settings a, le-ltb 999 address b, p)

  pub enrol-18 : settings ≤ 15 → address ≤ 999 → Fitting → place_of address board < length board → number ≡ 18
  unfolding enrol_number
  enrol-18 a b p c = simp (le-ltb 15 settings a, le-ltb 999 address b, p, lt-ltb (place_of address board) (length board) c)

  pub enrol-19 : settings ≤ 15 → address ≤ 999 → Fitting → length board ≤ place_of address board → length board ≤ place_free board → number ≡ 19
  unfolding enrol_number
  enrol-19 a b p c d =
      simp (le-ltb 15 settings a, le-ltb 999 address b, p, le-ltb (place_of address board) (length board) c, le-ltb (place_free board) (length board) d)

  pub enrol-0 : settings ≤ 15 → address ≤ 999 → Fitting → length board ≤ place_of address board → place_free board < length board → number ≡ 0
  unfolding enrol_number
  enrol-0 a b p c d =
      simp (le-ltb 15 settings a, le-ltb 999 address b, p, le-ltb (place_of address board) (length board) c, lt-ltb (place_free board) (length board) d)

-- What a row gives of a reply: the frame's number, or 26 where it accepts the reply and the temperature is outside the row's profile.
module _ (address count : ℕ) (reply : List ℕ) (row : Row) where
  abbrev fault : ℕ
  fault = fault_by row address count reply

  abbrev pub read_number : ℕ
  read_number = pick (not (eqb fault 0)) fault (pick (outside_at row count reply) 26 0)

  pub read-refused : (f : ℕ) → fault_by row address count reply ≡ f → eqb f 0 ≡ false → read_number ≡ f
  read-refused f e z = simp e (ap (λ (t : Bool). pick (not t) f (pick (outside_at row count reply) 26 0)) z)

  pub read-outside : fault_by row address count reply ≡ 0 → outside_at row count reply ≡ true → read_number ≡ 26
  read-outside e o = ap (λ (n : ℕ). pick (not (eqb n 0)) n (pick (outside_at row count reply) 26 0)) e ∙ ap (λ (t : Bool). pick t 26 0) o

  pub read-good : fault_by row address count reply ≡ 0 → outside_at row count reply ≡ false → read_number ≡ 0
  read-good e o = ap (λ (n : ℕ). pick (not (eqb n 0)) n (pick (outside_at row count reply) 26 0)) e ∙ ap (λ (t : Bool). pick t 26 0) o

  -- number 0 is of a reply that the frame accepts, with a temperature that is not outside
  pub read-zero : read_number ≡ 0 → (fault_by row address count reply ≡ 0) × (outside_at row count reply ≡ false)
  read-zero e = go (eqb fault 0) refl (outside_at row count reply) refl
    where
      go : (z : Bool) → eqb fault 0 ≡ z → (o : Bool) → outside_at row count reply ≡ o → (fault_by row address count reply ≡ 0) × (outside_at row count reply ≡ false)
      go true z false o = (eqb-true fault 0 z, o)
      go true z true o = absurd (let bad : ◌≡◌ {A = ℕ} 26 0 = sym (read-outside (eqb-true fault 0 z) o) ∙ e in omega arith)
      go false z t o = absurd (eqb-false fault 0 z (sym (read-refused fault refl z) ∙ e))

module _ (board : List Row) (address count : ℕ) (reply : List ℕ) where
  pub hear-11 : 999 < address → hear_number board address count reply ≡ 11
  unfolding hear_number
  hear-11 a = simp (lt-ltb 999 address a)

  pub hear-14 : address ≤ 999 → formed count reply ≡ false → hear_number board address count reply ≡ 14
  unfolding hear_number
  hear-14 a b = simp (le-ltb 999 address a, b)

  pub hear-17 : address ≤ 999 → formed count reply ≡ true → length board ≤ place_of address board → hear_number board address count reply ≡ 17
  unfolding hear_number
  hear-17 a b c = simp (le-ltb 999 address a, b, le-ltb (place_of address board) (length board) c)

  pub hear-read : address ≤ 999 → formed count reply ≡ true → place_of address board < length board → hear_number board address count reply ≡ read_number address count reply (row_of address board)
  unfolding hear_number
  hear-read a b c = simp (le-ltb 999 address a, b, lt-ltb (place_of address board) (length board) c)

module _ (board : List Row) (address : ℕ) where
  pub find-11 : 999 < address → find_number board address ≡ 11
  unfolding find_number
  find-11 a = simp (lt-ltb 999 address a)

  pub find-17 : address ≤ 999 → length board ≤ place_of address board → find_number board address ≡ 17
  unfolding find_number
  find-17 a b = simp (le-ltb 999 address a, le-ltb (place_of address board) (length board) b)

  pub find-0 : address ≤ 999 → place_of address board < length board → find_number board address ≡ 0
  unfolding find_number
  find-0 a b = simp (le-ltb 999 address a, lt-ltb (place_of address board) (length board) b)

  pub find-small : find_number board address ≤ 38
  unfolding find_number
  find-small = first_small (ltb 999 address gives 11 ∷ not (on_board address board) gives 17 ∷ []) tt

-- A number that refused already, or what writing the poll answers.
abbrev pub or_poll : (number address : ℕ) → List ℕ → ℕ
or_poll number address out = pick (eqb number 0) (write_poll_fault address out) number

module _ (board : List Row) (address raise reset : ℕ) where
  pub may-11 : 999 < address → may_poll board address raise reset ≡ 11
  unfolding may_poll
  may-11 a = simp (lt-ltb 999 address a)

  pub may-17 : address ≤ 999 → length board ≤ place_of address board → may_poll board address raise reset ≡ 17
  unfolding may_poll
  may-17 a b = simp (le-ltb 999 address a, le-ltb (place_of address board) (length board) b)

  -- raise or reset, and the row is without the mark
  abbrev pub denied : Bool
  denied = unmarked (row_of address board).gauge raise reset

  -- of a row that is on the board
  pub may-by : address ≤ 999 → place_of address board < length board → may_poll board address raise reset ≡ pick denied 28 (pick (at_once raise reset) 28 0)
  unfolding may_poll
  may-by a b = simp (le-ltb 999 address a, lt-ltb (place_of address board) (length board) b)

  pub may-28 : address ≤ 999 → place_of address board < length board → denied ≡ true → may_poll board address raise reset ≡ 28
  may-28 a b c = may-by a b ∙ ap (λ (t : Bool). pick t 28 (pick (at_once raise reset) 28 0)) c

  pub may-both : address ≤ 999 → place_of address board < length board → denied ≡ false → at_once raise reset ≡ true → may_poll board address raise reset ≡ 28
  may-both a b c d = may-by a b ∙ ap (λ (t : Bool). pick t 28 (pick (at_once raise reset) 28 0)) c ∙ ap (λ (t : Bool). pick t 28 0) d

  pub may-0 : address ≤ 999 → place_of address board < length board → denied ≡ false → at_once raise reset ≡ false → may_poll board address raise reset ≡ 0
  may-0 a b c d = may-by a b ∙ ap (λ (t : Bool). pick t 28 (pick (at_once raise reset) 28 0)) c ∙ ap (λ (t : Bool). pick t 28 0) d

  pub may-small : may_poll board address raise reset ≤ 38
  unfolding may_poll
  may-small =
      first_small (ltb 999 address gives 11 ∷ not (on_board address board) gives 17 ∷ denied gives 28 ∷ at_once raise reset gives 28 ∷ []) tt

  -- that a row may be polled, and what the writer then answers, is the number of the call
  pub polled : (out : List ℕ) → or_poll (may_poll board address raise reset) address out ≡ row_poll_number board address raise reset out
  unfolding may_poll row_poll_number write_poll_fault
  polled out = by_tests (ltb 999 address) (not (on_board address board)) denied (at_once raise reset)
    where
      -- the number, where the last test gives so much
      from : (a b c d : Bool) → ℕ → ℕ
      from a b c d last = pick a 11 (pick b 17 (pick c 28 (pick d 28 last)))

      by_tests : (a b c d : Bool) → pick (eqb (from a b c d 0) 0) (from a false false false (pick (ltb (length out) 2) 15 0)) (from a b c d 0) ≡ from a b c d (pick (ltb (length out) 2) 15 0)
      by_tests true b c d = refl
      by_tests false true c d = refl
      by_tests false false true d = refl
      by_tests false false false true = refl
      by_tests false false false false = refl
