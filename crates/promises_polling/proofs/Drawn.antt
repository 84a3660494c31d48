-- A call that draws is a way: as many steps as it counts samples, each the next sample of the try.
use mathlib.Core.Path.{◌≡◌, refl, sym, ap, ap₂, ◌∙◌}
use mathlib.Core.Bool.{Bool, true, false, not, ◌||◌}
use mathlib.Core.List.{List, [], ◌∷◌, ◌++◌}
use Prim.Native.Nat.{ℕ, zero, suc, ◌+◌, ◌-◌, ◌<◌, ◌≤◌}
use native.Mathlib.Omega.{arith}
use native.Mathlib.Nat.{add-zero}
use lib.Dec.{eqb}
use lib.ListN.{length, get_or, take, drop, length-take, length-drop}
use lib.Seq.{take-nil, take-length, take-take, take-append_seam, drop-cons}
use borrow.Author.Tests.{eq-eqb, ne_eqb}
use Rattle.frame.specs.Pick.{pick}
use Rattle.frame.specs.Line.{mark}
use Rattle.frame.specs.Faults.{first_of}
use Rattle.polling.specs.Drawing.{LeftByDrawing}
use Rattle.polling.specs.declared.Pace.{Pace}
use Rattle.polling.specs.declared.Polling.{Polling}
use Rattle.polling.specs.Pace.{bad_pace, pace_fault}
use Rattle.polling.specs.Meant.{is_over, draws, meant}
use Rattle.polling.specs.Drawing.{to_draw, drawn_by, after_drawn, drew}
use Rattle.polling.specs.Calls.{DrawsPolling}
use Rattle.promises_polling.specs.History.{Clock}
use Rattle.promises_polling.proofs.Meaning.{try_of, meant-draws, drawing-by, Mode, over, drawing, drawn, listening, mode, again}
use Rattle.promises_polling.proofs.Path.{Way, stop, draw_one, moved}

pub no-fault : (p : Pace) → bad_pace p ≡ false → pace_fault p ≡ 0
unfolding pace_fault first_of
no-fault p e = rw e

-- So many samples from one on.
pub draw-many : (p : Pace) (clock : Clock) (w : Polling) → is_over w ≡ false → (k q : ℕ) → k ≤ length (try_of p w) - q
    → Way p clock (meant p (draws w q)) (take k (drop q (try_of p w))) [] [] (meant p (draws w (q + k)))
draw-many p clock w e zero q h = moved refl refl refl refl (ap (λ (n : ℕ). meant p (draws w n)) (sym (add-zero q))) stop
draw-many p clock w e (suc k) q h =
    let less : q < length (try_of p w) = omega arith in
    let on : q + 1 + k ≡ q + suc k = omega arith in
    let next : q + 1 ≡ suc q = omega arith in
    moved (sym (meant-draws p w q e less))
    (ap (λ (l : List ℕ). get_or (try_of p w) q 0 ∷ take k l) (ap (λ (n : ℕ). drop n (try_of p w)) next) ∙ ap (take (suc k)) (sym (drop-cons (try_of p w) q 0 less)))
    refl refl (ap (λ (n : ℕ). meant p (draws w n)) on)
    (draw_one {w = draws w q} e refl less (draw-many p clock w e k (q + 1) (omega arith)))

-- What one call answers where its pace is good.
module _ (p : Pace) (fine : bad_pace p ≡ false) (w : Polling) (out after : List ℕ) (answer : LeftByDrawing) (d : DrawsPolling w p out answer after) where
  abbrev put : List ℕ
  put = drawn_by p w (length out)

  pub drawn-so : answer ≡ drew (after_drawn p w (length put)) (length put) (mark (is_over w)) 0
  drawn-so = d.answers ∙ ap (λ (n : ℕ). pick (eqb n 0) (drew (after_drawn p w (length put)) (length put) (mark (is_over w)) 0) (drew w 0 0 n)) (no-fault p fine)

  pub left_so : after ≡ put ++ drop (length put) out
  left_so = d.leaves ∙ ap (λ (n : ℕ). pick (eqb n 0) (put ++ drop (length put) out) out) (no-fault p fine)

  pub counted : answer.count ≡ length put
  counted = ap (λ (a : LeftByDrawing). a.count) drawn-so

  pub samples : take answer.count after ≡ put
  samples = ap₂ take counted left_so ∙ take-append_seam put (drop (length put) out)

  pub leaves : answer.polling ≡ after_drawn p w (length put)
  leaves = ap (λ (a : LeftByDrawing). a.polling) drawn-so

-- Nothing is drawn in a round that is over, and nothing while it listens.
pub idle-draws : (p : Pace) (w : Polling) → (is_over w || not (eqb w.listening 0)) ≡ true → (room k : ℕ) → (drawn_by p w room ≡ []) × (after_drawn p w k ≡ meant p w)
unfolding drawn_by to_draw after_drawn
idle-draws p w e room k = (rw e (take-nil room), rw e)

pub busy-draws : (p : Pace) (w : Polling) → (is_over w || not (eqb w.listening 0)) ≡ false → (room k : ℕ)
    → (drawn_by p w room ≡ take room (drop w.passed (try_of p w))) × (after_drawn p w k ≡ meant p (draws w (w.passed + k)))
unfolding drawn_by to_draw after_drawn
busy-draws p w e room k = (rw e, rw e)

module _ (p : Pace) (fine : bad_pace p ≡ false) (clock : Clock) (w : Polling) (out after : List ℕ) (answer : LeftByDrawing) (d : DrawsPolling w p out answer after) where
  abbrev drawn_samples : List ℕ
  drawn_samples = drawn_by p w (length out)

  still-way : (is_over w || not (eqb w.listening 0)) ≡ true → Way p clock (meant p w) (take answer.count after) [] [] (meant p answer.polling)
  still-way e =
      let r = idle-draws p w e (length out) (length drawn_samples) in
      moved refl (sym (samples p fine w out after answer d ∙ r.0)) refl refl
      (sym (ap (meant p) (leaves p fine w out after answer d ∙ r.1) ∙ again p w)) stop

  on-way : is_over w ≡ false → w.listening ≡ 0 → Way p clock (meant p w) (take answer.count after) [] [] (meant p answer.polling)
  on-way e z =
      let t : List ℕ = drop w.passed (try_of p w) in
      let r = busy-draws p w (ap₂ (λ (a b : Bool). a || not b) e (eq-eqb w.listening 0 z)) (length out) (length drawn_samples) in
      let k : ℕ = length (take (length out) t) in
      let many : length drawn_samples ≡ k = ap length r.0 in
      let size : k ≤ length (try_of p w) - w.passed = omega (arith, length-take (length out) t, length-drop w.passed (try_of p w)) in
      let less : k ≤ length out = omega (arith, length-take (length out) t) in
      let whole : take k t ≡ take (length out) t = sym (take-take k (length out) t less) ∙ take-length (take (length out) t) in
      moved (sym (drawing-by p w e z)) (whole ∙ sym (samples p fine w out after answer d ∙ r.0)) refl refl
      (sym (ap (meant p) (leaves p fine w out after answer d ∙ r.1 ∙ ap (λ (n : ℕ). meant p (draws w (w.passed + n))) many) ∙ again p (draws w (w.passed + k))))
      (draw-many p clock w e k w.passed size)

  pub draw-way : Way p clock (meant p w) (take answer.count after) [] [] (meant p answer.polling)
  draw-way = go (mode p w)
    where
      go : Mode p w → Way p clock (meant p w) (take answer.count after) [] [] (meant p answer.polling)
      go (over e m) = still-way (ap (λ (b : Bool). b || not (eqb w.listening 0)) e)
      go (drawing e z l m) = on-way e z
      go (drawn e z l m) = on-way e z
      go (listening e z m) = still-way (ap₂ (λ (a b : Bool). a || not b) e (ne_eqb w.listening 0 z))
