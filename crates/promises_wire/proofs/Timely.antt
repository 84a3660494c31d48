-- A try listens as the lines hear, as long as it is not settled otherwise: idle before the first low sample is shorter than `wait`, after a low sample the lines are not at
-- rest until the message closes, and it closes within `longest`. So a reading sent in time settles the try by its message, at the last sample of its gap.
use mathlib.Core.Path.{◌≡◌, refl, sym, ap, subst, ◌∙◌}
use mathlib.Core.Bool.{Bool, true, false, ◌&&◌}
use mathlib.Core.List.{List, [], ◌∷◌, ◌++◌, map, append_assoc}
use Prim.Native.Nat.{ℕ, zero, suc, ◌+◌, ◌<◌, ◌≤◌}
use native.Mathlib.Omega.{arith}
use native.Mathlib.Nat.{zero-add}
use borrow.Author.Tests.{lt-leb}
use lib.Dec.{leb}
use lib.ListN.{length, replicate, length-append, length-replicate}
use Rattle.frame.specs.Pick.{pick}
use Rattle.frame.specs.Line as frame
use Rattle.lines.specs.declared.SoFar.{SoFar}
use Rattle.lines.specs.declared.LinesTold.{LinesTold}
use Rattle.lines.specs.Sample.{sample_of}
use Rattle.lines.specs.Timing.{Timing, bad_timing}
use Rattle.lines.specs.SoFar.{rest_state, is_rest}
use Rattle.lines.specs.Step.{longer_idle, after_idle, after, closes}
use Rattle.lines.specs.Hearing.{MessageTold, nothing, message, spoiled, told_of, count_told, bytes_told, hear}
use Rattle.lines.specs.Hearing as lines
use Rattle.lines.specs.Calls.{answered}
use Rattle.polling.specs.declared.Pace.{Pace}
use Rattle.polling.specs.Pace.{timing_of, bad_pace}
use Rattle.polling.specs.Listening.{still_going, settled_by, later, given_up, settle, listen}
use Rattle.promises_lines.specs.History.{bits_of, said}
use Rattle.promises_lines.specs.Runs.{is_idle}
use Rattle.promises_lines.specs.Drawn.{Pulse, drawn, WellDrawn}
use Rattle.promises_lines.proofs.Legal.{Legal, rest, is-legal}
use Rattle.promises_lines.proofs.Ends.{good, meant_itself, heard-by}
use Rattle.promises_lines.proofs.Tellings.{answer_to, answers}
use Rattle.promises_lines.proofs.Drawn.{drawn-then-heard}
use Rattle.promises_polling.proofs.Paces.{fine-pace}
use Rattle.promises_polling.proofs.Heard.{stays-legal}
use Rattle.promises_polling.proofs.Rest.{rest-step}
use Rattle.promises_wire.specs.Wire.{samples_of, Sent}
use Rattle.promises_wire.specs.InTime.{InTime}
use Rattle.promises_wire.proofs.SaidSo.{few-pulses}
use Rattle.promises_wire.proofs.Tries.{listen-then}

-- Nothing, a message and a spoiled one are not the same.
abbrev kind_told : MessageTold → ℕ
kind_told nothing = 0
kind_told (message count bits) = 1
kind_told (spoiled number) = 2

-- What is heard of a sample or more has taken one.
some-heard : (t : Timing) (s : SoFar) (x : ℕ) (xs : List ℕ) → 1 ≤ (hear t s (x ∷ xs)).taken
unfolding hear
some-heard t s x xs = go (closes t (after t s (sample_of x)))
  where
    go : (a : Bool) → 1 ≤ (pick a (lines.hearing (told_of (after t s (sample_of x))) rest_state 1) (lines.later 1 (hear t (after t s (sample_of x)) xs))).taken
    go true = omega arith
    go false = omega arith

module _ (p : Pace) (fine : bad_pace p ≡ false) where
  abbrev t : Timing
  t = timing_of p

  -- From a low sample on.
  heard-in-time : (c b : ℕ) (left : SoFar) (xs : List ℕ) (s : SoFar) → Legal s → (x : ℕ) → (is_rest s && is_idle (sample_of x)) ≡ false → (q n : ℕ)
      → hear t s (x ∷ xs) ≡ lines.hearing (message c b) left n → q + n ≤ p.longest → listen p s q (x ∷ xs) ≡ settled_by (message c b) n
  unfolding hear listen settle
  heard-in-time c b left [] s l x stirs q n e short = go (closes t (after t s (sample_of x))) e
    where
      m : SoFar
      m = after t s (sample_of x)

      go : (a : Bool) → pick a (lines.hearing (told_of m) rest_state 1) (lines.later 1 (lines.hearing nothing m 0)) ≡ lines.hearing (message c b) left n
          → pick a (settled_by (told_of m) 1) (pick (is_rest m && leb p.wait (q + 1)) (settled_by nothing 1) (pick (leb p.longest (q + 1)) (settled_by (given_up m) 1) (later 1 (still_going m 0))))
          ≡ settled_by (message c b) n
      go true h = ap (λ (y : lines.Hearing). settled_by y.told y.taken) h
      go false h = absurd (omega (arith, ap (λ (y : lines.Hearing). kind_told y.told) h))
  heard-in-time c b left (y ∷ ys) s l x stirs q n e short =
      go (closes t m) refl e (λ ok k f far. heard-in-time c b left ys m ok y (ap (λ (r : Bool). r && is_idle (sample_of y)) stirred) (q + 1) k f far)
    where
      m : SoFar
      m = after t s (sample_of x)

      stirred : is_rest m ≡ false
      stirred = rest-step t l (sample_of x) ∙ stirs

      go : (a : Bool) → closes t m ≡ a → pick a (lines.hearing (told_of m) rest_state 1) (lines.later 1 (hear t m (y ∷ ys))) ≡ lines.hearing (message c b) left n
          → (Legal m → (k : ℕ) → hear t m (y ∷ ys) ≡ lines.hearing (message c b) left k → q + 1 + k ≤ p.longest → listen p m (q + 1) (y ∷ ys) ≡ settled_by (message c b) k)
          → pick a (settled_by (told_of m) 1) (pick (is_rest m && leb p.wait (q + 1)) (settled_by nothing 1) (pick (leb p.longest (q + 1)) (settled_by (given_up m) 1) (later 1 (listen p m (q + 1) (y ∷ ys)))))
          ≡ settled_by (message c b) n
      go true f h more = ap (λ (z : lines.Hearing). settled_by z.told z.taken) h
      go false f h more =
          let k : ℕ = (hear t m (y ∷ ys)).taken in
          let count : 1 + k ≡ n = ap (λ (z : lines.Hearing). z.taken) h in
          let same : hear t m (y ∷ ys) ≡ lines.hearing (message c b) left k = λ i. lines.hearing (h i).told (h i).left k in
          let some : 1 ≤ k = some-heard t m y ys in
          let early : leb p.longest (q + 1) ≡ false = lt-leb p.longest (q + 1) (omega (arith, count, some, short)) in
          let on : listen p m (q + 1) (y ∷ ys) ≡ settled_by (message c b) k = more (stays-legal p fine l (sample_of x) f) k same (omega (arith, count, short)) in
          (λ i. pick (stirred i && leb p.wait (q + 1)) (settled_by nothing 1) (pick (early i) (settled_by (given_up m) 1) (later 1 (on i)))) ∙ ap (settled_by (message c b)) count

  -- Idle before it.
  rest-stays : after t rest_state (sample_of 0) ≡ rest_state
  unfolding after_idle longer_idle
  rest-stays = refl

  idle-goes-on : (k q : ℕ) → q + k < p.wait → listen p rest_state q (replicate k 0) ≡ still_going rest_state k
  unfolding listen settle
  idle-goes-on zero q h = refl
  idle-goes-on (suc k) q h =
      let f = fine-pace p fine in
      let high = f.longest in
      let some = (good t f.timing).some in
      let shut : leb p.gap 0 ≡ false = lt-leb p.gap 0 some in
      let waits : leb p.wait (q + 1) ≡ false = lt-leb p.wait (q + 1) (omega (arith, h)) in
      let early : leb p.longest (q + 1) ≡ false = lt-leb p.longest (q + 1) (omega (arith, h, high)) in
      let one : 1 + k ≡ suc k = omega arith in
      ap (λ (m : SoFar). settle p m (q + 1) (later 1 (listen p m (q + 1) (replicate k 0)))) rest-stays
      ∙ (λ i. pick (shut i) (settled_by (told_of rest_state) 1) (pick (waits i) (settled_by nothing 1) (pick (early i) (settled_by (given_up rest_state) 1) (later 1 (listen p rest_state (q + 1) (replicate k 0))))))
      ∙ ap (later 1) (idle-goes-on k (q + 1) (omega (arith, h))) ∙ ap (still_going rest_state) one

-- The lines hear a drawing to its end, as a message.
record HeardAs (t : Timing) (xs : List ℕ) (n : ℕ) : Type 0 where
  count : ℕ
  bits : ℕ
  left : SoFar
  is : hear t rest_state xs ≡ lines.hearing (message count bits) left n

hears-drawn : (t : Timing) → bad_timing t ≡ false → (p : Pulse) (ps : List Pulse) → WellDrawn t p ps → length (p ∷ ps) ≤ 64 → (more : List ℕ)
    → HeardAs t (drawn (p ∷ ps) ++ more) (length (drawn (p ∷ ps)))
hears-drawn t fine p ps timed few more =
    go (hear t rest_state ys) refl
  where
    ys : List ℕ
    ys = drawn (p ∷ ps) ++ more

    a : LinesTold
    a = answer_to t ys

    h : (a.number ≡ 0) × ((said a).bits ≡ map (λ q. frame.mark q.is_mark) (p ∷ ps)) × (a.taken ≡ 0 + length (drawn (p ∷ ps)))
    h = drawn-then-heard.heard t fine p ps timed few 0 more a (answers t ys)

    is : a ≡ answered (hear t rest_state ys)
    is = heard-by rest_state t.least t.most t.gap ys a fine (answers t ys) ∙ ap (λ (s : SoFar). answered (hear t s ys)) (meant_itself rest_state (is-legal rest))

    no_bits : (bytes : List ℕ) → bits_of 0 bytes ≡ map (λ q. frame.mark q.is_mark) (p ∷ ps) → ⊥
    no_bits bytes e = unfold bits_of in omega (arith, ap (length {A = ℕ}) e)

    go : (x : lines.Hearing) → hear t rest_state ys ≡ x → HeardAs t ys (length (drawn (p ∷ ps)))
    go x e = by x.told refl
      where
        so : a ≡ answered x
        so = is ∙ ap answered e

        bits : bits_of (count_told x.told) (bytes_told x.told) ≡ map (λ q. frame.mark q.is_mark) (p ∷ ps)
        bits = sym (ap (λ (y : LinesTold). (said y).bits) so) ∙ h.1

        by : (told : MessageTold) → x.told ≡ told → HeardAs t ys (length (drawn (p ∷ ps)))
        by nothing f = absurd (no_bits _ (sym (ap (λ (u : MessageTold). bits_of (count_told u) (bytes_told u)) f) ∙ bits))
        by (spoiled number) f = absurd (no_bits _ (sym (ap (λ (u : MessageTold). bits_of (count_told u) (bytes_told u)) f) ∙ bits))
        by (message c b) f =
            let took : x.taken ≡ length (drawn (p ∷ ps)) = sym (ap (λ (y : LinesTold). y.taken) so) ∙ h.2 ∙ zero-add (length (drawn (p ∷ ps))) in
            record { count = c; bits = b; left = x.left; is = e ∙ (λ i. lines.hearing (f i) x.left (took i)) }

-- A drawing begins with a low sample.
begins-low : (p : Pulse) (ps : List Pulse) → 1 ≤ p.low → (ys : List ℕ) × (drawn (p ∷ ps) ≡ pick p.is_mark 1 2 ∷ ys)
unfolding drawn
begins-low p ps some = go p.low refl
  where
    go : (n : ℕ) → p.low ≡ n → (ys : List ℕ) × (replicate p.low (pick p.is_mark 1 2) ++ replicate p.still 0 ++ drawn ps ≡ pick p.is_mark 1 2 ∷ ys)
    go zero e = absurd (omega (arith, e))
    go (suc n) e =
        (replicate n (pick p.is_mark 1 2) ++ replicate p.still 0 ++ drawn ps, ap (λ (k : ℕ). replicate k (pick p.is_mark 1 2) ++ replicate p.still 0 ++ drawn ps) e)

low-is : (b : Bool) → is_idle (sample_of (pick b 1 2)) ≡ false
low-is true = refl
low-is false = refl

least-low : (t : Timing) (p : Pulse) (ps : List Pulse) → WellDrawn t p ps → t.least ≤ p.low
least-low t p [] w = w.0
least-low t p (q ∷ ps) w = w.0

-- A reading sent in time.
pub record SettledAs (p : Pace) (x : Sent) (more : List ℕ) : Type 0 where
  pub count : ℕ
  pub bits : ℕ
  pub is : listen p rest_state 0 (samples_of x.drawing ++ more) ≡ settled_by (message count bits) (length (samples_of x.drawing))

pub listens-to : (p : Pace) → bad_pace p ≡ false → (x : Sent) → InTime p x → (more : List ℕ) → SettledAs p x more
listens-to p fine x timely more =
    let t : Timing = timing_of p in
    let d = x.drawing in
    let timed : WellDrawn t d.first d.rest = subst (λ (u : Timing). WellDrawn u d.first d.rest) timely.timing x.draws.timed in
    let ok : bad_timing t ≡ false = (fine-pace p fine).timing in
    let least = (good t ok).least in
    let low = least-low t d.first d.rest timed in
    let from = begins-low d.first d.rest (omega (arith, least, low)) in
    let h = hears-drawn t ok d.first d.rest timed (few-pulses x) more in
    let n : ℕ = length (drawn (d.first ∷ d.rest)) in
    let size : length (samples_of d) ≡ d.quiet + n
    = length-append (replicate d.quiet 0) (drawn (d.first ∷ d.rest)) ∙ ap (λ (k : ℕ). k + n) (length-replicate d.quiet 0) in
    let cons : drawn (d.first ∷ d.rest) ++ more ≡ pick d.first.is_mark 1 2 ∷ (from.0 ++ more) = ap (λ (l : List ℕ). l ++ more) from.1 in
    let ends = timely.ends in
    let low_part : listen p rest_state (0 + d.quiet) (drawn (d.first ∷ d.rest) ++ more) ≡ settled_by (message h.count h.bits) n
    = ap (listen p rest_state (0 + d.quiet)) cons
    ∙ heard-in-time p fine h.count h.bits h.left (from.0 ++ more) rest_state rest (pick d.first.is_mark 1 2) (low-is d.first.is_mark) (0 + d.quiet) n
    (ap (hear t rest_state) (sym cons) ∙ h.is) (omega (arith, ends, size)) in
    record {
      count = h.count;
      bits = h.bits;
      is = ap (listen p rest_state 0) (append_assoc (replicate d.quiet 0) (drawn (d.first ∷ d.rest)) more)
          ∙ listen-then p rest_state 0 (replicate d.quiet 0) (drawn (d.first ∷ d.rest) ++ more) rest_state d.quiet
          (idle-goes-on p fine d.quiet 0 (let b = timely.begins in omega (arith, b)))
          ∙ ap (later d.quiet) low_part ∙ ap (settled_by (message h.count h.bits)) (sym size);
    }
