-- A turn taken out of a state and put back: what the other replies are does not matter, and an entry that is put back as it was leaves them all. Assumes nothing.
use mathlib.Core.Path.{◌≡◌, sym, ap, ap₂, ◌∙◌}
use mathlib.Core.Bool.{Bool, false}
use mathlib.Core.List.{List, []}
use Prim.Native.Nat.{ℕ, ◌+◌}
use native.Mathlib.Omega.{arith}
use lib.ListN.{get_or, set}
use lib.Seq.{set-get_or}
use borrow.Author.Tests.{lt-ltb}
use Rattle.frame.specs.Pick.{pick}
use Rattle.frame.specs.Line.{mark}
use Rattle.lines.specs.SoFar.{rest_state}
use Rattle.round.specs.declared.Polled.{Polled}
use Rattle.polling.specs.declared.turns.Turn.{Turn}
use Rattle.polling.specs.declared.settling.Outcome.{Outcome}
use Rattle.polling.specs.declared.listening.Told.{Told}
use Rattle.polling.specs.Beginning.{no_entry}
use Rattle.polling.specs.Settling.{round_with, settled_of, settled_with}
use Rattle.polling.specs.Inside.Ears.{number_in, replied_by, stands_by}
use Rattle.polling.specs.Inside.Turns.{place_of, state_of, put_back, over_by, turn_as, Of, left_by_hearing, next_turn, standing}
use Rattle.polling.proofs.Meaning.{not-over}

-- while the round is not over, the entry taken out is the one whose turn it is
pub its-place : (t : Turn) → over_by t ≡ false → place_of t.at ≡ t.at
its-place t o =
    let n = not-over (state_of [] t) o in
    ap (λ (b : Bool). pick b t.at 0) (lt-ltb t.at 30 (omega (arith, n.0, n.1)))

pub its-entry : (rs : List Polled) (t : Turn) → over_by t ≡ false → get_or rs (place_of t.at) no_entry ≡ t.entry → Of rs t
its-entry rs t o e = ap (λ (k : ℕ). get_or rs k no_entry) (sym (its-place t o)) ∙ e

-- what is put back as it was changes nothing
pub kept : (rs : List Polled) (k : ℕ) (x : Polled) → get_or rs k no_entry ≡ x → set rs k x ≡ rs
kept rs k x e = ap (set rs k) (sym e) ∙ set-get_or rs k no_entry

module _ (rs : List Polled) (k : ℕ) (t m : Turn) (same : m ≡ turn_as t m.lines m.passed t.tried m.listening) where
  pub back : get_or rs k no_entry ≡ t.entry → put_back rs k t m ≡ state_of rs m
  back e =
      ap (λ (x : Turn). put_back rs k t x) same
      ∙ ap (λ (l : List Polled). state_of l (turn_as t m.lines m.passed t.tried m.listening)) (kept rs k t.entry e)
      ∙ ap (state_of rs) (sym same)

  pub same_count : m.count ≡ t.count
  same_count = ap (λ (x : Turn). x.count) same

  pub same_at : m.at ≡ t.at
  same_at = ap (λ (x : Turn). x.at) same

  pub same-entry : m.entry ≡ t.entry
  same-entry = ap (λ (x : Turn). x.entry) same

  -- put back to the one turn or to the other is the same
  pub left-alike : (j : ℕ) → j ≡ k → (o : Outcome) → left_by_hearing rs j t o ≡ left_by_hearing rs k m o
  left-alike j e o =
      ap₂
      (λ (i n : ℕ). settled_with
      (record { round = round_with (record { replies = rs; count = n }) i o.turn.entry; lines = o.turn.lines; passed = o.turn.passed; at = o.turn.at; tried = o.turn.tried; listening = o.turn.listening })
      o.told)
      e (sym same_count)

-- the reply that stands
pub stood : (rs : List Polled) (t : Turn) (minute : ℕ) (told : Told) (taken : ℕ) → Of rs t → left_by_hearing rs t.at t (standing minute told taken t) ≡ stands_by minute told taken (state_of rs t)
stood rs t minute told taken its =
    ap
    (λ (x : Polled). settled_of
    (record { round = round_with (record { replies = rs; count = t.count }) t.at (replied_by minute told x); lines = rest_state; passed = 0; at = t.at + 1; tried = 0; listening = 0 })
    taken t.at 1 (mark (over_by (next_turn minute told t))) (number_in told))
    (sym its)
