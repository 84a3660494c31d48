-- A host that goes on comes to the end: in each turn of a round that is not over one of the two calls draws or takes a sample, and there are only so many of them.
use mathlib.Core.Path.{◌≡◌, refl, sym, ap, subst, ◌∙◌}
use mathlib.Core.Bool.{Bool, true, false}
use mathlib.Core.List.{List, [], ◌++◌}
use Prim.Native.Nat.{ℕ, suc, ◌+◌, ◌-◌, ◌*◌, ◌≤◌}
use native.Mathlib.Omega.{arith}
use lib.ListN.{length, take, length-append, length-take}
use Rattle.frame.specs.Line.{mark}
use Rattle.polling.specs.Drawing.{LeftByDrawing}
use Rattle.polling.specs.declared.Pace.{Pace}
use Rattle.polling.specs.declared.Polling.{Polling}
use Rattle.polling.specs.Settling.{LeftByHearing}
use Rattle.polling.specs.Pace.{bad_pace}
use Rattle.polling.specs.Meant.{is_over, meant}
use Rattle.polling.specs.Calls.{DrawsPolling, heard_by, HearsPolling}
use Rattle.promises_polling.specs.History.{Clock, any, Verdict, verdicts, History}
use Rattle.promises_polling.specs.History as polling
use Rattle.promises_polling.specs.Ends.{try_draws, OneGoesOn, draws, hears}
use Rattle.promises_polling.proofs.Path.{Way, stop, draw_one, hear_on, hear_end}
use Rattle.promises_polling.proofs.Drawn.{drawn-so, counted, samples, draw-way}
use Rattle.promises_polling.proofs.Heard.{heard-so}
use Rattle.promises_polling.proofs.Ends.{polling-ends}
use Rattle.promises_polling.proofs.Outcome.{polling-outcome}
use Rattle.promises_wire.specs.Running.{Stood}
use Rattle.promises_wire.specs.AnyBatches.{Turns, no_turn, one_turn}

-- A way without samples goes nowhere.
idle-way : {p : Pace} {clock : Clock} {w e : Polling} {ds xs : List ℕ} {vs : List Verdict} → Way p clock w ds xs vs e → length ds ≡ 0 → length xs ≡ 0 → w ≡ e
idle-way stop d x = refl
idle-way (draw_one e z l h) d x = absurd (omega (arith, d))
idle-way (hear_on y e z l f h) d x = absurd (omega (arith, x))
idle-way (hear_end minute y c e z l f h) d x = absurd (omega (arith, x))

module _ (p : Pace) (fine : bad_pace p ≡ false) where
  -- One turn.
  module _ (w : Polling) (out after : List ℕ) (d : LeftByDrawing) (draw : DrawsPolling w p out d after) (minute : ℕ) (xs : List ℕ) (a : LeftByHearing) (hear : HearsPolling d.polling p minute xs a) where
    -- The same samples heard before the drawing.
    abbrev at_first : LeftByHearing
    at_first = (polling-outcome.hear w p minute xs).some

    abbrev first-call : HearsPolling w p minute xs at_first
    first-call = (polling-outcome.hear w p minute xs).allowed

    over-is : d.over ≡ mark (is_over w)
    over-is = ap (λ (x : LeftByDrawing). x.over) (drawn-so p fine w out after d draw)

    stays-over : is_over w ≡ true → is_over a.polling ≡ true
    stays-over e =
        let one = polling-ends.stands p w fine out after d draw minute xs at_first first-call (over-is ∙ ap mark e) in
        let again = polling-ends.stands p w fine out after d draw minute xs a (subst (λ (v : Polling). HearsPolling v p minute xs a) one.3 hear) (over-is ∙ ap mark e) in
        ap is_over again.4 ∙ e

    put-many : length (take d.count after) ≡ d.count
    put-many = ap length (samples p fine w out after d draw) ∙ sym (counted p fine w out after d draw)

    as_before : d.count ≡ 0 → a.taken ≡ at_first.taken
    as_before none =
        let same : meant p w ≡ meant p d.polling = idle-way (draw-way p fine any w out after d draw) (put-many ∙ none) refl in
        ap (λ (x : LeftByHearing). x.taken)
        (heard-so p fine d.polling minute xs a hear ∙ ap (λ (v : Polling). heard_by p minute v xs) (sym same) ∙ sym (heard-so p fine w minute xs at_first first-call))

    one-sample : is_over w ≡ false → 1 ≤ length out → 1 ≤ length xs → 1 ≤ length (take d.count after) + length (take a.taken xs)
    one-sample e room some = go (polling-ends.goes_on p w fine out after d draw minute xs at_first first-call (over-is ∙ ap mark e) room some)
      where
        go : OneGoesOn d at_first → 1 ≤ length (take d.count after) + length (take a.taken xs)
        go (draws count none) = omega (arith, put-many, count)
        go (hears none taken) = omega (arith, as_before none, taken, length-take a.taken xs, some)

  -- All turns.
  record Paid (from : Polling) (n : ℕ) (w : Polling) : Type 0 where
    drawn : List ℕ
    taken : List ℕ
    told : List Verdict
    calls : History p any from drawn taken told w
    paid : is_over w ≡ false → n ≤ length drawn + length taken

  all_paid : {from : Polling} {n : ℕ} {ys : List Stood} {since : List ℕ} {w : Polling} → Turns p from n ys since w → Paid from n w
  all_paid no_turn = record { drawn = []; taken = []; told = []; calls = polling.begun; paid = λ e. omega arith }
  all_paid (one_turn {n = n} {w = w} out after d minute xs a t room draw some fits hear) =
      let b = all_paid t in
      record {
        drawn = b.drawn ++ take d.count after;
        taken = b.taken ++ take a.taken xs;
        told = b.told ++ verdicts a;
        calls = polling.heard minute xs a (omega arith) (polling.drew out after d b.calls draw) hear;
        paid = λ e. go (is_over w) refl e b.drawn b.taken b.paid;
      }
    where
      go : (c : Bool) → is_over w ≡ c → is_over a.polling ≡ false → (ds ts : List ℕ) → (is_over w ≡ false → n ≤ length ds + length ts)
          → suc n ≤ length (ds ++ take d.count after) + length (ts ++ take a.taken xs)
      go true f e ds ts before = absurd (let z : ◌≡◌ {A = Bool} true false = sym (stays-over w out after d draw minute xs a hear f) ∙ e in let y : ◌≡◌ {A = ℕ} 0 1 = cc in omega arith)
      go false f e ds ts before =
          omega
          (arith, before f, one-sample w out after d draw minute xs a hear f room some, length-append ds (take d.count after), length-append ts (take a.taken xs))

  pub turns-few : {from : Polling} {n : ℕ} {ys : List Stood} {since : List ℕ} {w : Polling} → Turns p from n ys since w → is_over w ≡ false
      → n ≤ (from.round.count - from.at) * (p.tries * (try_draws p + p.longest))
  turns-few {from} {n} {ys} {since} {w} t e =
      let b = all_paid t in
      let most = polling-ends.bound p from fine b.drawn b.taken b.told w b.calls in
      omega (arith, b.paid e, most)
