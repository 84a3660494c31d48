-- A drawing is pulses of the lines, all of one length. With a gap after it, the last of them has the gap as its idle, and as many idle samples as were
-- between the others come after that: so the lines' own promise says what one call tells of it, and idle after a close tells nothing more.
use mathlib.Core.Path.{◌≡◌, refl, sym, ap, ap₂, subst, ◌∙◌}
use mathlib.Core.Bool.{false}
use mathlib.Core.List.{List, [], ◌∷◌, ◌++◌, map, append-nil, append_assoc}
use Prim.Native.Nat.{ℕ, zero, suc, ◌+◌, ◌<◌, ◌≤◌}
use native.Mathlib.Omega.{arith}
use native.Mathlib.Nat.{mod-lt}
use lib.Dec.{eqb}
use lib.ListN.{length, replicate, length-append, length-replicate, replicate-append-replicate}
use lib.Seq.{take_all}
use Rattle.frame.specs.Line.{mark}
use Rattle.lines.specs.declared.LinesTold.{LinesTold}
use Rattle.lines.specs.Timing.{Timing, bad_timing}
use Rattle.lines.specs.SoFar.{rest_state}
use Rattle.lines.specs.Calls.{HearsLines}
use Rattle.drawing.specs.Pulses.{low_sample, bits_after, drawn}
use Rattle.promises_lines.specs.History.{Said, said, tellings, History, begun, called}
use Rattle.promises_lines.specs.Drawn as lines
use Rattle.promises_lines.proofs.Drawn.{drawn-then-heard}
use Rattle.promises_lines.proofs.States.{begun-again}
use Rattle.promises_lines.proofs.Messages.{bits-long}
use Rattle.promises_lines.proofs.Tellings.{tells-bits, one-not-none, answer_to, answers, moved, idle-after}

-- Bits are 0 or 1.
abbrev pub Bits : List ℕ → Type 0
Bits [] = 0 ≤ 0
Bits (b ∷ bits) = (b < 2) × Bits bits

pub are-bits : (before count : ℕ) (m : List ℕ) → Bits (bits_after before count m)
unfolding bits_after
are-bits before zero m = omega arith
are-bits before (suc count) m = (mod-lt _ (omega arith), are-bits (suc before) count m)

module _ (low still gap : ℕ) where
  abbrev pub pulse : (bit idle : ℕ) → lines.Pulse
  pulse bit idle = record { is_mark = eqb bit 1; low = low; still = idle }

  -- The first of some bits as a pulse, and the others.
  abbrev pub first : ℕ → List ℕ → lines.Pulse
  first bit [] = pulse bit gap
  first bit (b ∷ bits) = pulse bit still

  abbrev pub others : List ℕ → List lines.Pulse
  others [] = []
  others (b ∷ bits) = first b bits ∷ others bits

  well-drawn : (t : Timing) → t.least ≤ low → low ≤ t.most → 1 ≤ still → still < t.gap → gap ≡ t.gap → (b : ℕ) (bits : List ℕ) → lines.WellDrawn t (first b bits) (others bits)
  well-drawn t l m s g e b [] = (l, m, e)
  well-drawn t l m s g e b (c ∷ bits) = (l, m, s, g, well-drawn t l m s g e c bits)

  -- The same samples.
  runs : (n m : ℕ) → ◌≡◌ {A = List ℕ} (replicate n 0 ++ replicate m 0) (replicate m 0 ++ replicate n 0)
  runs n m =
      let swap : n + m ≡ m + n = omega arith in
      replicate-append-replicate n m 0 ∙ ap (λ (k : ℕ). replicate k 0) swap ∙ sym (replicate-append-replicate m n 0)

  same-samples : (b : ℕ) (bits : List ℕ) → lines.drawn (first b bits ∷ others bits) ++ replicate still 0 ≡ drawn low still (b ∷ bits) ++ replicate gap 0
  unfolding lines.drawn drawn
  same-samples b [] =
      let l : List ℕ = replicate low (low_sample b) in
      ap (λ (x : List ℕ). x ++ replicate still 0) (append-nil (l ++ replicate gap 0)) ∙ append_assoc l (replicate gap 0) (replicate still 0)
      ∙ ap (λ (x : List ℕ). l ++ x) (runs gap still)
      ∙ sym (append_assoc l (replicate still 0) (replicate gap 0)) ∙ ap (λ (x : List ℕ). x ++ replicate gap 0) (sym (append-nil (l ++ replicate still 0)))
  same-samples b (c ∷ bits) =
      let l : List ℕ = replicate low (low_sample b) ++ replicate still 0 in
      append_assoc l (lines.drawn (first c bits ∷ others bits)) (replicate still 0) ∙ ap (λ (x : List ℕ). l ++ x) (same-samples c bits)
      ∙ sym (append_assoc l (drawn low still (c ∷ bits)) (replicate gap 0))

  -- The same bits.
  mark_of : (b : ℕ) → b < 2 → mark (eqb b 1) ≡ b
  mark_of zero h = refl
  mark_of (suc zero) h = refl
  mark_of (suc (suc b)) h = absurd (omega arith)

  first_bit : (b : ℕ) (bits : List ℕ) → b < 2 → mark (first b bits).is_mark ≡ b
  first_bit b [] h = mark_of b h
  first_bit b (c ∷ bits) h = mark_of b h

  same_bits : (b : ℕ) (bits : List ℕ) → Bits (b ∷ bits) → map (λ (q : lines.Pulse). mark q.is_mark) (first b bits ∷ others bits) ≡ b ∷ bits
  same_bits b [] h = ap (λ (x : ℕ). x ∷ []) (first_bit b [] h.0)
  same_bits b (c ∷ bits) h = ap₂ (λ (x : ℕ) (xs : List ℕ). x ∷ xs) (first_bit b (c ∷ bits) h.0) (same_bits c bits h.1)

  as_many : (bits : List ℕ) → length (others bits) ≡ length bits
  as_many [] = refl
  as_many (b ∷ bits) = ap suc (as_many bits)

-- One call for the pulses and their gap, and one for the idle after it.
module _ (t : Timing) (fine : bad_timing t ≡ false) (low still : ℕ) (least : t.least ≤ low) (most : low ≤ t.most) (some : 1 ≤ still) (short : still < t.gap)
    (b : ℕ) (bits : List ℕ) (ok : Bits (b ∷ bits)) (few : length (b ∷ bits) ≤ 64) where
  abbrev pub ps : List lines.Pulse
  ps = first low still t.gap b bits ∷ others low still t.gap bits

  abbrev pub samples : List ℕ
  samples = lines.drawn ps

  abbrev pub a : LinesTold
  a = answer_to t samples

  is-heard : (a.number ≡ 0) × ((said a).bits ≡ map (λ q. mark q.is_mark) ps) × (a.taken ≡ 0 + length samples)
  is-heard =
      drawn-then-heard.heard t fine (first low still t.gap b bits) (others low still t.gap bits)
      (well-drawn low still t.gap t least most some short refl b bits) (omega (arith, few, as_many low still t.gap bits)) 0 [] a
      (subst (λ (xs : List ℕ). HearsLines rest_state t.least t.most t.gap xs a) (sym (append-nil samples)) (answers t samples))

  abbrev pub message : Said
  message = record { number = 0; bits = b ∷ bits }

  told-so : said a ≡ message
  told-so =
      let e = is-heard.0 in
      let f = is-heard.1 ∙ same_bits low still t.gap b bits ok in
      λ i. record { number = e i; bits = f i }

  some-count : a.count ≡ 0 → ⊥
  some-count e = omega (arith, e, bits-long a.count a.message, ap (λ (s : Said). length s.bits) told-so)

  told-once : tellings a ≡ message ∷ []
  told-once = tells-bits a is-heard.0 some-count ∙ ap (λ (s : Said). s ∷ []) told-so

  -- It closes at the last sample, and not before.
  pub its-call : HearsLines rest_state t.least t.most t.gap samples a
  its-call = answers t samples

  pub tells-some : tellings a ≡ [] → ⊥
  tells-some = one-not-none told-once

  pub takes_all : a.taken ≡ length samples
  takes_all = omega (arith, is-heard.2)

  pub long : length samples + still ≡ length (drawn low still (b ∷ bits)) + t.gap
  long =
      let both = ap length (same-samples low still t.gap b bits) in
      let one = length-append samples (replicate {A = ℕ} still 0) in
      let two = length-append (drawn low still (b ∷ bits)) (replicate {A = ℕ} t.gap 0) in
      omega (arith, both, one, two, length-replicate {A = ℕ} still 0, length-replicate {A = ℕ} t.gap 0)

  pub front : samples ++ replicate still 0 ≡ drawn low still (b ∷ bits) ++ replicate t.gap 0
  front = same-samples low still t.gap b bits

  pub one-call : History t rest_state samples (message ∷ []) rest_state
  one-call =
      moved (take_all a.taken samples (omega (arith, is-heard.2))) told-once
      (begun-again.at_rest rest_state t.least t.most t.gap samples a fine (answers t samples) (one-not-none told-once))
      (called samples a begun (answers t samples))

  pub calls : History t rest_state (drawn low still (b ∷ bits) ++ replicate t.gap 0) (message ∷ []) rest_state
  calls = moved (same-samples low still t.gap b bits) refl refl (idle-after t fine one-call still)
