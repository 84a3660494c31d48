-- Drawn, then heard: what was put down is the drawing, which is pulses of the lines. By the lines' promise of batches any history of it tells what the one of
-- `Pulses` tells; so the first call that tells something has told that, and at the same sample.
use mathlib.Core.Path.{◌≡◌, refl, sym, ap, subst, ◌∙◌}
use mathlib.Core.Bool.{true}
use mathlib.Core.List.{List, [], ◌∷◌, ◌++◌, map}
use Prim.Native.Nat.{ℕ, zero, suc, ◌+◌, ◌-◌, ◌*◌, ◌≤◌}
use native.Mathlib.Omega.{arith}
use lib.ListN.{length, take, replicate, length-append}
use lib.Seq.{take_all}
use Rattle.frame.specs.Line.{formed}
use Rattle.lines.specs.declared.SoFar.{SoFar}
use Rattle.lines.specs.declared.LinesTold.{LinesTold}
use Rattle.lines.specs.Sample.{sample_of}
use Rattle.lines.specs.Timing.{Timing}
use Rattle.lines.specs.SoFar.{rest_state}
use Rattle.lines.specs.Calls.{HearsLines}
use Rattle.drawing.specs.Pulses.{bit_after, bits_after, drawn}
use Rattle.drawing.proofs.Rest.{one, one-long, bit-first}
use Rattle.promises_frame.proofs.BitsAreBits.{bits-are-bits}
use Rattle.promises_lines.specs.History.{Said, bits_of, said, tellings, History, begun}
use Rattle.promises_lines.specs.Form.{bytes_in}
use Rattle.promises_lines.proofs.Batches.{batches}
use Rattle.promises_lines.proofs.States.{every-state}
use Rattle.promises_lines.proofs.Streams.{tells, ends}
use Rattle.promises_lines.proofs.Form.{form}
use Rattle.promises_lines.proofs.Messages.{bits-long, same_bytes, handed-bytes, handed-bits}
use Rattle.promises_drawing.specs.Heard.{Spoken, DrawnAndHeard}
use Rattle.promises_drawing.proofs.Places.{bits_are}
use Rattle.promises_drawing.proofs.Pulses.{Bits, are-bits, samples, a, its-call, tells-some, takes_all, long, front, calls}
use Rattle.promises_drawing.proofs.Closing as closing
use Rattle.promises_drawing.proofs.Batches.{whole-by-length}

-- What was said first.
abbrev first_said : List Said → Said
first_said [] = record { number = 0; bits = [] }
first_said (x ∷ xs) = x

-- One bit or more has a first one.
pub record Some (count : ℕ) (message : List ℕ) : Type 0 where
  pub bit : ℕ
  pub bits : List ℕ
  pub are : bits_after 0 count message ≡ bit ∷ bits
  pub ok : Bits (bit ∷ bits)
  pub size : length (bit ∷ bits) ≡ count

first-of : (count : ℕ) (message : List ℕ) → 1 ≤ count → Some count message
unfolding bits_after
first-of zero message h = absurd (omega arith)
first-of (suc count) message h =
    record {
      bit = bit_after message 0;
      bits = bits_after 1 count message;
      are = refl;
      ok = are-bits 0 (suc count) message;
      size = ap length (bits_are (suc count) message) ∙ bits-long (suc count) message;
    }

module _ (t : Timing) (low still count : ℕ) (message sent : List ℕ) (sp : Spoken t low still count message sent) where
  abbrev f : Some count message
  f = first-of count message sp.some

  abbrev whole : List ℕ
  whole = sent ++ replicate t.gap 0

  few : length (f.bit ∷ f.bits) ≤ 64
  few = omega (arith, f.size, sp.in-form.at_most_64)

  is-drawn : sent ≡ drawn low still (f.bit ∷ f.bits)
  is-drawn = whole-by-length low still count message sp.drawn sp.to_the_end ∙ ap (drawn low still) f.are

  same_whole : drawn low still (f.bit ∷ f.bits) ++ replicate t.gap 0 ≡ whole
  same_whole = ap (λ (l : List ℕ). l ++ replicate t.gap 0) (sym is-drawn)

  abbrev spoken : Said
  spoken = record { number = 0; bits = bits_of count message }

  one-history : History t rest_state whole (spoken ∷ []) rest_state
  one-history =
      subst (λ (bits : List ℕ). History t rest_state whole (record { number = 0; bits = bits } ∷ []) rest_state) (sym f.are ∙ bits_are count message)
      (subst (λ (l : List ℕ). History t rest_state l (record { number = 0; bits = f.bit ∷ f.bits } ∷ []) rest_state) same_whole
      (calls t sp.timing_good low still sp.pulse_heard.0 sp.pulse_heard.1 sp.idle_short.0 sp.idle_short.1 f.bit f.bits f.ok few))

  pub heard-so : (told : List Said) (end : SoFar) → History t rest_state whole told end → (told ≡ spoken ∷ []) × (end ≡ rest_state)
  heard-so told end h = batches.same t rest_state sp.timing_good every-state.beginning whole told (spoken ∷ []) end rest_state h one-history

  -- The one call of `Pulses` for all of it but the idle behind the gap.
  abbrev xs : List ℕ
  xs = samples t sp.timing_good low still sp.pulse_heard.0 sp.pulse_heard.1 sp.idle_short.0 sp.idle_short.1 f.bit f.bits f.ok few

  abbrev x : LinesTold
  x = a t sp.timing_good low still sp.pulse_heard.0 sp.pulse_heard.1 sp.idle_short.0 sp.idle_short.1 f.bit f.bits f.ok few

  x-call : HearsLines rest_state t.least t.most t.gap xs x
  x-call = its-call t sp.timing_good low still sp.pulse_heard.0 sp.pulse_heard.1 sp.idle_short.0 sp.idle_short.1 f.bit f.bits f.ok few

  x-some : tellings x ≡ [] → ⊥
  x-some = tells-some t sp.timing_good low still sp.pulse_heard.0 sp.pulse_heard.1 sp.idle_short.0 sp.idle_short.1 f.bit f.bits f.ok few

  x-all : take x.taken xs ≡ xs
  x-all = take_all x.taken xs (omega (arith, takes_all t sp.timing_good low still sp.pulse_heard.0 sp.pulse_heard.1 sp.idle_short.0 sp.idle_short.1 f.bit f.bits f.ok few))

  -- It closes so many samples after the beginning.
  xs-long : length xs ≡ count * (low + still) - still + t.gap
  xs-long =
      let sum = long t sp.timing_good low still sp.pulse_heard.0 sp.pulse_heard.1 sp.idle_short.0 sp.idle_short.1 f.bit f.bits f.ok few in
      let size : length (drawn low still (f.bit ∷ f.bits)) ≡ count * (low + still) = ap length (sym is-drawn) ∙ sp.to_the_end in
      let first : length (drawn low still (f.bit ∷ f.bits)) ≡ low + still + length (drawn low still f.bits)
      = ap length (bit-first low still f.bit f.bits) ∙ length-append (one low still f.bit) (drawn low still f.bits)
      ∙ ap (λ (n : ℕ). n + length (drawn low still f.bits)) (one-long low still f.bit) in
      omega (arith, sum, size, first)

  x-place : (1 ≤ length xs) × (closing.all t sp.timing_good (take (length xs) whole) ≡ [] → ⊥) × (closing.all t sp.timing_good (take (length xs - 1) whole) ≡ [])
  x-place =
      let fine = sp.timing_good in
      let size = (closing.its-length t fine begun xs x x-call x-some).0 in
      let told = closing.told-there t fine begun xs x x-call x-some in
      let quiet = closing.quiet-before t fine begun xs x x-call x-some in
      let at : 1 ≤ length xs = subst (λ (l : List ℕ). 1 ≤ length l) x-all size in
      let r = closing.on-stream t fine xs (replicate still 0) whole (front t sp.timing_good low still sp.pulse_heard.0 sp.pulse_heard.1 sp.idle_short.0 sp.idle_short.1 f.bit f.bits f.ok few ∙ same_whole) at
      (subst (λ (l : List ℕ). closing.all t fine l ≡ [] → ⊥) x-all told) (subst (λ (l : List ℕ). closing.all t fine (take (length l - 1) l) ≡ []) x-all quiet) in
      (at, r.0, r.1)

  -- The call that tells.
  module _ (earlier batch rest : List ℕ) (s : SoFar) (b : LinesTold) (h : History t rest_state earlier [] s) (c : HearsLines s t.least t.most t.gap batch b)
      (some : tellings b ≡ [] → ⊥) (e : earlier ++ take b.taken batch ++ rest ≡ whole) where
    said-so : said b ≡ spoken
    said-so =
        let fine = sp.timing_good in
        let pre : List ℕ = earlier ++ take b.taken batch in
        let later : List Said = tells t (ends t rest_state (map sample_of pre)) (map sample_of rest) in
        let together : spoken ∷ [] ≡ said b ∷ later
        = closing.told_is t fine one-history ∙ ap (closing.all t fine) (sym e) ∙ closing.all_append t fine pre rest
        ∙ ap (λ (l : List Said). l ++ later) (closing.told-then t fine h batch b c some) in
        sym (ap first_said together)

    counts : b.count ≡ count
    counts = sym (bits-long b.count b.message) ∙ ap (λ (q : Said). length q.bits) said-so ∙ bits-long count message

    is-formed : formed count (bytes_in b) ≡ true
    is-formed =
        let fine = sp.timing_good in
        ap (λ (n : ℕ). formed n (bytes_in b)) (sym counts)
        ∙ (form.formed s t.least t.most t.gap batch b fine c (λ z. omega (arith, z, counts, sp.some))).2

    the-bytes : bytes_in b ≡ message
    the-bytes =
        same_bytes count (bytes_in b) message (handed-bytes s t.least t.most t.gap batch b c) sp.bytes is-formed
        ((bits-are-bits.form count message sp.bytes).1 sp.in-form)
        (ap (λ (n : ℕ). bits_of n (bytes_in b)) (sym counts) ∙ handed-bits b ∙ ap (λ (q : Said). q.bits) said-so)

    place : length earlier + b.taken ≡ count * (low + still) - still + t.gap
    place =
        let fine = sp.timing_good in
        let pre : List ℕ = earlier ++ take b.taken batch in
        let size = closing.its-length t fine h batch b c some in
        let r = closing.on-stream t fine pre rest whole e size.0 (closing.told-there t fine h batch b c some) (closing.quiet-before t fine h batch b c some) in
        sym size.1 ∙ closing.one_place t fine whole (length pre) (length xs) size.0 x-place.0 r.0 r.1 x-place.1 x-place.2 ∙ xs-long

    pub handed-so : (b.number ≡ 0) × (b.count ≡ count) × (bytes_in b ≡ message) × (length earlier + b.taken ≡ count * (low + still) - still + t.gap)
    handed-so = (ap (λ (q : Said). q.number) said-so, counts, the-bytes, place)

pub drawn-and-heard : DrawnAndHeard
drawn-and-heard =
    record {
      heard = λ t low still count message sent sp told end h. heard-so t low still count message sent sp told end h;
      handed = λ t low still count message sent sp earlier batch rest s b h c some e.
          handed-so t low still count message sent sp earlier batch rest s b h c some e;
    }
