-- What a state means, case by case. Assumes nothing.
use mathlib.Core.Path.{◌≡◌, ap}
use mathlib.Core.Bool.{Bool, true, false, not}
use Prim.Native.Nat.{◌<◌, ◌≤◌}
use lib.Dec.{eqb, leb, ltb}
use lib.ListN.{length}
use borrow.Author.Tests.{ltb-false, leb-false, eq-eqb, ne_eqb, le-leb, lt-leb}
use Rattle.frame.specs.Pick.{pick}
use Rattle.lines.specs.SoFar as lines
use Rattle.lines.proofs.Cases.{none_of}
use Rattle.polling.specs.declared.Pace.{Pace}
use Rattle.polling.specs.declared.Polling.{Polling}
use Rattle.polling.specs.Meant.{is_over, turn_of, try_drawn, draws, listens, meant}

-- While the round is not over, there is a reply whose turn it is.
pub not-over : (w : Polling) → is_over w ≡ false → (w.at < w.round.count) × (w.round.count ≤ 30)
not-over w e =
    let t = none_of (ltb 30 w.round.count) (leb w.round.count w.at) e in
    (leb-false w.round.count w.at t.1, ltb-false 30 w.round.count t.0)

module _ (p : Pace) (w : Polling) where
  abbrev pub drawn : Bool
  drawn = leb (length (try_drawn p (turn_of w).address)) w.passed

  by_tests : (o l d : Bool) → is_over w ≡ o → not (eqb w.listening 0) ≡ l → drawn ≡ d
      → meant p w ≡ pick o w (pick l (listens w (lines.meant w.lines) w.passed) (pick d (listens w lines.rest_state 0) (draws w w.passed)))
  unfolding meant
  by_tests o l d over listening done =
      λ i. pick (over i) w (pick (listening i) (listens w (lines.meant w.lines) w.passed) (pick (done i) (listens w lines.rest_state 0) (draws w w.passed)))

  pub while-over : is_over w ≡ true → meant p w ≡ w
  unfolding meant
  while-over o = ap (λ (b : Bool). pick b w (pick (not (eqb w.listening 0)) (listens w (lines.meant w.lines) w.passed) (pick drawn (listens w lines.rest_state 0) (draws w w.passed)))) o

  module _ (on : is_over w ≡ false) where
    pub while-listening : (w.listening ≡ 0 → ⊥) → meant p w ≡ listens w (lines.meant w.lines) w.passed
    while-listening l = by_tests false true drawn on (ap not (ne_eqb w.listening 0 l)) (λ i. drawn)

    pub once-drawn : w.listening ≡ 0 → length (try_drawn p (turn_of w).address) ≤ w.passed → meant p w ≡ listens w lines.rest_state 0
    once-drawn l d = by_tests false false true on (ap not (eq-eqb w.listening 0 l)) (le-leb (length (try_drawn p (turn_of w).address)) w.passed d)

    pub while-drawing : w.listening ≡ 0 → w.passed < length (try_drawn p (turn_of w).address) → meant p w ≡ draws w w.passed
    while-drawing l d = by_tests false false false on (ap not (eq-eqb w.listening 0 l)) (lt-leb (length (try_drawn p (turn_of w).address)) w.passed d)
