-- What a state means, case by case: over, drawing, the poll just drawn, listening. What it means means itself.
use mathlib.Core.Path.{◌≡◌, refl, sym, ap, ◌∙◌}
use mathlib.Core.Bool.{Bool, true, false}
use mathlib.Core.List.{List}
use Prim.Native.Nat.{ℕ, ◌<◌, ◌≤◌}
use lib.Dec.{eqb, leb}
use lib.ListN.{length}
use borrow.Author.Tests.{eqb-true, eqb-false, leb-true, leb-false, ne_eqb, eq-eqb, le-leb, lt-leb}
use Rattle.lines.specs.declared.SoFar.{SoFar}
use Rattle.lines.specs.SoFar as lines
use Rattle.lines.specs.SoFar.{rest_state}
use Rattle.polling.specs.declared.Pace.{Pace}
use Rattle.polling.specs.declared.Polling.{Polling}
use Rattle.polling.specs.Meant.{is_over, turn_of, try_drawn, draws, listens, meant}
use Rattle.promises_lines.proofs.Legal.{Legal, rest, is-legal}
use Rattle.promises_lines.proofs.Ends.{meant-legal, meant_itself}

-- What is drawn for the transmitter whose turn it is.
abbrev pub try_of : Pace → Polling → List ℕ
try_of p w = try_drawn p (turn_of w).address

pub meant-over : (p : Pace) (w : Polling) → is_over w ≡ true → meant p w ≡ w
unfolding meant
meant-over p w e = rw e

pub meant-draws : (p : Pace) (w : Polling) (q : ℕ) → is_over w ≡ false → q < length (try_of p w) → meant p (draws w q) ≡ draws w q
unfolding meant
meant-draws p w q e h = rw (e, lt-leb (length (try_of p w)) q h)

pub meant-drawn : (p : Pace) (w : Polling) (q : ℕ) → is_over w ≡ false → length (try_of p w) ≤ q → meant p (draws w q) ≡ listens w rest_state 0
unfolding meant
meant-drawn p w q e h = rw (e, le-leb (length (try_of p w)) q h)

pub meant-listens : (p : Pace) (w : Polling) (s : SoFar) (q : ℕ) → is_over w ≡ false → Legal s → meant p (listens w s q) ≡ listens w s q
unfolding meant
meant-listens p w s q e l = rw (e, meant_itself s (is-legal l))

-- A raw state that draws means what its number of samples drawn means.
pub drawing-by : (p : Pace) (w : Polling) → is_over w ≡ false → w.listening ≡ 0 → meant p w ≡ meant p (draws w w.passed)
unfolding meant
drawing-by p w e z = rw (e, eq-eqb w.listening 0 z)

pub listening-by : (p : Pace) (w : Polling) → is_over w ≡ false → (w.listening ≡ 0 → ⊥) → meant p w ≡ listens w (lines.meant w.lines) w.passed
unfolding meant
listening-by p w e z = rw (e, ne_eqb w.listening 0 z)

-- The four cases of a state.
pub data Mode (p : Pace) (w : Polling) : Type 0 where
  over : is_over w ≡ true → meant p w ≡ w → Mode p w
  drawing : is_over w ≡ false → w.listening ≡ 0 → w.passed < length (try_of p w) → meant p w ≡ draws w w.passed → Mode p w
  drawn : is_over w ≡ false → w.listening ≡ 0 → length (try_of p w) ≤ w.passed → meant p w ≡ listens w rest_state 0 → Mode p w
  listening : is_over w ≡ false → (w.listening ≡ 0 → ⊥) → meant p w ≡ listens w (lines.meant w.lines) w.passed → Mode p w

pub mode : (p : Pace) (w : Polling) → Mode p w
mode p w = by_over (is_over w) refl
  where
    by_place : is_over w ≡ false → w.listening ≡ 0 → (b : Bool) → leb (length (try_of p w)) w.passed ≡ b → Mode p w
    by_place e z true f =
        let l = leb-true (length (try_of p w)) w.passed f in drawn e z l (drawing-by p w e z ∙ meant-drawn p w w.passed e l)
    by_place e z false f =
        let l = leb-false (length (try_of p w)) w.passed f in drawing e z l (drawing-by p w e z ∙ meant-draws p w w.passed e l)

    by-listening : is_over w ≡ false → (b : Bool) → eqb w.listening 0 ≡ b → Mode p w
    by-listening e true f = by_place e (eqb-true w.listening 0 f) (leb (length (try_of p w)) w.passed) refl
    by-listening e false f = listening e (eqb-false w.listening 0 f) (listening-by p w e (eqb-false w.listening 0 f))

    by_over : (b : Bool) → is_over w ≡ b → Mode p w
    by_over true e = over e (meant-over p w e)
    by_over false e = by-listening e (eqb w.listening 0) refl

-- What it means means itself.
pub again : (p : Pace) (w : Polling) → meant p (meant p w) ≡ meant p w
again p w = go (mode p w)
  where
    go : Mode p w → meant p (meant p w) ≡ meant p w
    go (over e m) = ap (meant p) m
    go (drawing e z l m) = ap (meant p) m ∙ meant-draws p w w.passed e l ∙ sym m
    go (drawn e z l m) = ap (meant p) m ∙ meant-listens p w rest_state 0 e rest ∙ sym m
    go (listening e z m) = ap (meant p) m ∙ meant-listens p w (lines.meant w.lines) w.passed e (meant-legal w.lines) ∙ sym m

-- It is the same round, at the same place.
pub same-round : (p : Pace) (w : Polling) → ((meant p w).round ≡ w.round) × ((meant p w).at ≡ w.at) × (is_over (meant p w) ≡ is_over w)
same-round p w = go (mode p w)
  where
    go : Mode p w → ((meant p w).round ≡ w.round) × ((meant p w).at ≡ w.at) × (is_over (meant p w) ≡ is_over w)
    go (over e m) = (ap (λ (x : Polling). x.round) m, ap (λ (x : Polling). x.at) m, ap is_over m)
    go (drawing e z l m) = (ap (λ (x : Polling). x.round) m, ap (λ (x : Polling). x.at) m, ap is_over m)
    go (drawn e z l m) = (ap (λ (x : Polling). x.round) m, ap (λ (x : Polling). x.at) m, ap is_over m)
    go (listening e z m) = (ap (λ (x : Polling). x.round) m, ap (λ (x : Polling). x.at) m, ap is_over m)
