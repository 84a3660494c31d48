-- `polling::settling::hear` meets its contract: each return is what the tests that led there leave, whatever the other replies are.
use mathlib.Core.Path.{◌≡◌, sym, ap, ap₂, ◌∙◌}
use mathlib.Core.Bool.{false}
use mathlib.Core.List.{List}
use Prim.Native.Nat.{ℕ}
use lib.ListN.{get_or}
use Rattle.round.specs.declared.Polled.{Polled}
use Rattle.polling.specs.declared.Pace.{Pace}
use Rattle.polling.specs.declared.Polling.{Polling}
use Rattle.polling.specs.declared.turns.Turn.{Turn}
use Rattle.polling.specs.Beginning.{no_entry}
use Rattle.polling.specs.Settling.{settled_of}
use Rattle.polling.specs.Calls.{heard_by}
use Rattle.polling.specs.Inside.Turns.{place_of, state_of, over_by, Of, left_by_hearing, MeansTurn}
use Rattle.polling.proofs.Answers.{hears-bad, hears-good, heard-over, heard-drawing, heard-listening}
use Rattle.polling.proofs.Taking.{its-place, its-entry, kept, back, same_at, same-entry, left-alike}
use Rattle.polling.proofs.settling.hear.Goals as goal

-- what the turn means is not over, and has the same entry
on-still : (p : Pace) (t m : Turn) → MeansTurn p t m → over_by t ≡ false → over_by m ≡ false
on-still p t m means o = ap over_by means.same ∙ o

of-meant : (rs : List Polled) (p : Pace) (t m : Turn) → MeansTurn p t m → Of rs t → Of rs m
of-meant rs p t m means its = ap (λ (k : ℕ). get_or rs k no_entry) (same_at rs t.at t m means.same) ∙ its ∙ sym (same-entry rs t.at t m means.same)

pub returns-then-bad_pace : goal.returns-then-bad_pace
returns-then-bad_pace c =
    let a = c.args in
    record {
      on = λ rs its. hears-bad (state_of rs a.t) a.p a.minute a.samples.now (left_by_hearing rs (place_of a.t.at) a.t c.untold.result) (sym c.bad_pace.ensures ∙ c.if-bad_pace.true)
          (ap (left_by_hearing rs (place_of a.t.at) a.t) c.untold.ensures
          ∙ ap₂ (λ (x : List Polled) (k : ℕ). settled_of (state_of x a.t) 0 0 0 0 k) (kept rs (place_of a.t.at) a.t.entry its) c.number.ensures);
    }

pub returns-then-is_over : goal.returns-then-is_over
returns-then-is_over c =
    let a = c.args in
    let b = sym c.bad_pace.ensures ∙ c.if-bad_pace.false in
    let o = sym c.is_over.ensures ∙ c.if-is_over.true in
    record {
      on = λ rs its. hears-good (state_of rs a.t) a.p a.minute a.samples.now (left_by_hearing rs (place_of a.t.at) a.t c.untold-then-is_over.result) b
          (ap (left_by_hearing rs (place_of a.t.at) a.t) c.untold-then-is_over.ensures
          ∙ ap (λ (x : List Polled). settled_of (state_of x a.t) 0 0 0 1 0) (kept rs (place_of a.t.at) a.t.entry its)
          ∙ heard-over a.p a.minute (state_of rs a.t) a.samples.now o);
    }

pub meant-w-requires : goal.meant-w-requires
meant-w-requires c =
    record { p_value = sym c.bad_pace.ensures ∙ c.if-bad_pace.false; self_value = sym c.is_over.ensures ∙ c.if-is_over.false }

pub returns-then-w-eq0 : goal.returns-then-w-eq0
returns-then-w-eq0 c =
    let a = c.args in
    let b = sym c.bad_pace.ensures ∙ c.if-bad_pace.false in
    let o = sym c.is_over.ensures ∙ c.if-is_over.false in
    let m = c.meant-w in
    record {
      on = λ rs its. hears-good (state_of rs a.t) a.p a.minute a.samples.now (left_by_hearing rs (place_of a.t.at) a.t c.untold-then-w-eq0.result) b
          (ap (left_by_hearing rs (place_of a.t.at) a.t) c.untold-then-w-eq0.ensures
          ∙ ap (λ (x : Polling). settled_of x 0 0 0 0 0) (back rs (place_of a.t.at) a.t m.result m.ensures.0.same its)
          ∙ heard-drawing a.p a.minute (state_of rs m.result) a.samples.now (on-still a.p a.t m.result m.ensures.0 o) c.if-w-eq0.true
          ∙ ap (λ (x : Polling). heard_by a.p a.minute x a.samples.now) (m.ensures.0.on rs (its-entry rs a.t o its)));
    }

pub settle-requires : goal.settle-requires
settle-requires c =
    let a = c.args in
    let m = c.meant-w in
    record { p_value = sym c.bad_pace.ensures ∙ c.if-bad_pace.false; t_value = on-still a.p a.t m.result m.ensures.0 (sym c.is_over.ensures ∙ c.if-is_over.false); ready = m.ensures.1 }

pub returns : goal.returns
returns c =
    let a = c.args in
    let b = sym c.bad_pace.ensures ∙ c.if-bad_pace.false in
    let o = sym c.is_over.ensures ∙ c.if-is_over.false in
    let m = c.meant-w in
    record {
      on = λ rs its. hears-good (state_of rs a.t) a.p a.minute a.samples.now (left_by_hearing rs (place_of a.t.at) a.t c.settle.result) b
          (left-alike rs m.result.at a.t m.result m.ensures.0.same (place_of a.t.at) (its-place a.t o ∙ sym (same_at rs a.t.at a.t m.result m.ensures.0.same)) c.settle.result
          ∙ c.settle.ensures.on rs (of-meant rs a.p a.t m.result m.ensures.0 (its-entry rs a.t o its))
          ∙ heard-listening a.p a.minute (state_of rs m.result) a.samples.now (on-still a.p a.t m.result m.ensures.0 o) c.if-w-eq0.false
          ∙ ap (λ (x : Polling). heard_by a.p a.minute x a.samples.now) (m.ensures.0.on rs (its-entry rs a.t o its)));
    }
