-- Accepted, then written again. Field by field, the line that is written is the line that was read, but for the positions not told; where those
-- are as we write them the parity is the same too, since both are right.
use mathlib.Core.Path.{◌≡◌, refl, sym, ap, subst, ◌∙◌}
use mathlib.Core.Bool.{Bool, true, false}
use mathlib.Core.List.{List}
use Prim.Native.Nat.{ℕ, suc, ◌%◌, ◌+◌, ◌-◌, ◌*◌, ◌^◌, ◌<◌, ◌≤◌}
use native.Mathlib.Omega.{arith}
use lib.Dec.{eqb}
use Rattle.frame.specs.declared.Reading.{Reading}
use Rattle.frame.specs.declared.Temperature.{Temperature}
use Rattle.frame.specs.declared.Temperature.TheVariants.{Absent}
use Rattle.frame.specs.Pick.{pick}
use Rattle.frame.specs.Line.{line, field, bit, mark, marks, first_bytes}
use Rattle.frame.specs.Level.{level_of, last_bit_of}
use Rattle.frame.specs.Temperature.{told, is_absent, heat_of, put_heat}
use Rattle.frame.specs.Reply.{mode_in, is1800, odd_parity, count_for, reply_fault, reading_at, reply_of, reply_line, ReadsReply}
use Rattle.promises_frame.specs.Bits.{AreBytes, bit_at}
use Rattle.promises_frame.specs.NotTold.{NotTold, bit_2, bit_3, as_we_write}
use Rattle.promises_frame.specs.WrittenAgain.{SameReply, WrittenAgain}
use Rattle.promises_frame.specs.Calls.{ReplyLeft}
use Rattle.promises_frame.proofs.Cases.{by_le, stable}
use Rattle.promises_frame.proofs.Fields.{same-within}
use Rattle.promises_frame.proofs.Digits.{bit-lt, mark-bit, same_digits}
use Rattle.promises_frame.proofs.Bytes.{bits-written, bit-line}
use Rattle.promises_frame.proofs.Lines.{length-first_bytes, first_bytes-line, same-field, same_first}
use Rattle.promises_frame.proofs.Levels.{fit, level-digits}
use Rattle.promises_frame.proofs.LevelPlace.{placed}
use Rattle.promises_frame.proofs.LastBit.{parity-law, last_bit}
use Rattle.promises_frame.proofs.Temperatures.{Kept, again, kept-bits}
use Rattle.promises_frame.proofs.NotTold.{as-ours}
use Rattle.promises_frame.proofs.ReplySent.{Sent, sent}
use Rattle.promises_frame.proofs.ReplyHeard.{size_small}
use Rattle.promises_frame.proofs.ReplyAccepted.{Accepted, accepted, read-if}
use Rattle.promises_frame.proofs.WrittenThenRead.{left-first}
use Rattle.promises_frame.proofs.Polls.{poll-again}
use Rattle.std.specs.Prelude.{Ok}

-- A reply of 40 bits has no temperature, and one of 56 has one.
absent-is : (ty short : Bool) (n : ℕ) (t : Temperature) → pick short (told Absent) (heat_of ty n) ≡ told t → is_absent t ≡ short
absent-is ty true n t e = let is : Absent ≡ t = cc in ap is_absent (sym is)
absent-is ty false n t e = (again ty n t e).there

-- A bit from 40 on, before the parity, is a bit of a temperature.
from-40 : (short : Bool) (i : ℕ) → 40 ≤ i → i < pick short 40 56 → (short ≡ false) × (i ≤ 55)
from-40 true i h k = absurd (omega arith)
from-40 false i h k = (refl, omega arith)

-- Lines that agree before the last bit of their first k + 1 bytes, and have the same parity, have the same bytes.
same_lines : (n w k odd : ℕ) → k < 8 → ((i : ℕ) → 1 ≤ i → i < 8 * k + 8 → bit w i ≡ bit n i)
    → marks (first_bytes (suc k) w) % 2 ≡ odd → marks (first_bytes (suc k) n) % 2 ≡ odd → first_bytes (suc k) w ≡ first_bytes (suc k) n
same_lines n w k odd h e f g =
    let before : field w 1 (8 * k + 7) ≡ field n 1 (8 * k + 7) = same-field n w 1 (8 * k + 7) (omega arith) (omega arith) (λ i p q. e i p (omega arith)) in
    let last : bit w (8 * k + 8) ≡ bit n (8 * k + 8)
    = last_bit (marks (first_bytes (suc k) w)) (marks (first_bytes (suc k) n)) (bit w (8 * k + 8)) (bit n (8 * k + 8)) odd
    (parity-law n w k h before) f g (bit-lt w (8 * k + 8)) (bit-lt n (8 * k + 8)) in
    same_first (suc k) n w (omega arith)
    (λ i p q. by_le i (8 * k + 7) (λ r. e i p (omega arith)) (λ r. subst (λ (x : ℕ). bit w x ≡ bit n x) (omega arith) last))

same-replies : (short : Bool) (n w odd : ℕ) → ((i : ℕ) → 1 ≤ i → i < pick short 40 56 → bit w i ≡ bit n i)
    → marks (first_bytes (pick short 5 7) w) % 2 ≡ odd → marks (first_bytes (pick short 5 7) n) % 2 ≡ odd → first_bytes (pick short 5 7) w ≡ first_bytes (pick short 5 7) n
same-replies true n w odd = same_lines n w 4 odd (omega arith)
same-replies false n w odd = same_lines n w 6 odd (omega arith)

eight-times : (short : Bool) (i : ℕ) → i < pick short 40 56 → i ≤ 8 * pick short 5 7
eight-times true i h = omega arith
eight-times false i h = omega arith

below_64 : (short : Bool) (i : ℕ) → i < pick short 40 56 → i ≤ 64
below_64 true i h = omega arith
below_64 false i h = omega arith

-- An accepted reply, and its reading written again.
module _ (settings address : ℕ) (s : List ℕ) (ok : AreBytes s) (short : Bool) (r : Reading)
    (acc : Accepted settings address s (line s) short r.level r.temperature)
    (alarm1 : r.alarm1 ≡ eqb (bit (line s) 38) 1) (alarm0 : r.alarm0 ≡ eqb (bit (line s) 39) 1) where
  abbrev n : ℕ
  n = line s

  abbrev w : ℕ
  w = reply_line settings address r

  abbrev ty : Bool
  ty = is1800 settings

  abbrev t : Temperature
  t = r.temperature

  abbrev of : Sent settings address r w
  of = sent settings address r acc.address_in

  size_is : is_absent t ≡ short
  size_is = absent-is ty short n t acc.warmth

  same_address : field w 4 15 ≡ field n 4 15
  same_address = same_digits n w 4 address (omega arith) acc.decimal acc.address_is of.top.hundreds of.top.tens of.top.ones

  same-level : field w 16 37 ≡ field n 16 37
  same-level =
      of.top.level
      ∙ ap (λ (x : ℕ). x * 2 ^ (37 - last_bit_of (mode_in settings))) (level-digits (mode_in settings) (fit (settings % 4)) n r.level acc.level acc.level_in)
      ∙ sym ((placed (settings % 4)).back n acc.fill)

  warm : short ≡ false → Kept ty t (put_heat ty t) n
  warm e = again ty n t (subst (λ (b : Bool). pick b (told Absent) (heat_of ty n) ≡ told t) e acc.warmth)

  warmth : short ≡ false → field w 40 55 ≡ field (put_heat ty t) 40 55
  warmth e = of.warmth (size_is ∙ e)

  -- Each position that is told.
  told-bits : (i : ℕ) → 1 ≤ i → i < pick short 40 56 → ¬ NotTold ty t i → bit w i ≡ bit n i
  told-bits i lo hi free =
      by_le i 1 (λ h. at 1 (omega arith) (of.top.start ∙ sym acc.start)) λ a.
      by_le i 2 (λ h. absurd (free (there 2 (omega arith) bit_2))) λ b.
      by_le i 3 (λ h. absurd (free (there 3 (omega arith) bit_3))) λ c.
      by_le i 15 (λ h. same-within w n 4 15 i i c (omega arith) h (omega arith) same_address) λ d.
      by_le i 37 (λ h. same-within w n 16 37 i i d (omega arith) h (omega arith) same-level) λ e.
      by_le i 38 (λ h. at 38 (omega arith) (of.top.alarm1 ∙ ap mark alarm1 ∙ mark-bit n 38)) λ f.
      by_le i 39 (λ h. at 39 (omega arith) (of.top.alarm0 ∙ ap mark alarm0 ∙ mark-bit n 39)) λ g.
      let k = from-40 short i g hi in
      same-within w (put_heat ty t) 40 55 i i g (omega arith) k.1 (omega arith) (warmth k.0)
      ∙ kept-bits ty t (put_heat ty t) n (warm k.0) i g k.1 free
    where
      at : (k : ℕ) → k ≡ i → bit w k ≡ bit n k → bit w i ≡ bit n i
      at k e h = subst (λ (x : ℕ). bit w x ≡ bit n x) e h

      there : (k : ℕ) → k ≡ i → NotTold ty t k → NotTold ty t i
      there k e h = subst (NotTold ty t) e h

  -- Each position that is not.
  ours : (i : ℕ) → i < pick short 40 56 → NotTold ty t i → bit w i ≡ as_we_write t i
  ours i hi kind = as-ours ty t w of.top.unused i kind (λ h. warmth (from-40 short i h hi).0)

  -- All of them before the parity, where those not told are as we write them.
  all-bits : ((i : ℕ) → 1 ≤ i → i < pick short 40 56 → NotTold ty t i → bit n i ≡ as_we_write t i) → (i : ℕ) → 1 ≤ i
      → i < pick short 40 56 → bit w i ≡ bit n i
  all-bits h i lo hi = stable (bit w i) (bit n i) (λ apart. apart (told-bits i lo hi (λ kind. apart (ours i hi kind ∙ sym (h i lo hi kind)))))

  -- The bytes that were read are those of their line.
  bytes_read : first_bytes (pick short 5 7) n ≡ s
  bytes_read = ap (λ (k : ℕ). first_bytes k n) (sym acc.size) ∙ first_bytes-line s ok (subst (λ (k : ℕ). k ≤ 8) (sym acc.size) (size_small short))

  same-reply : SameReply ty (pick short 40 56) t s (first_bytes (pick short 5 7) w)
  same-reply =
      record {
        same_size = length-first_bytes (pick short 5 7) w (size_small short) ∙ sym acc.size;
        same_bits = λ i lo hi free. written i lo hi ∙ told-bits i lo hi free ∙ bit-line s ok i lo (below_64 short i hi);
        as-we-write = λ i lo hi kind. written i lo hi ∙ ours i hi kind;
        same_whole = λ h.
            same-replies short n w (odd_parity settings) (all-bits (λ i lo hi kind. bit-line s ok i lo (below_64 short i hi) ∙ h i lo hi kind))
            (subst (λ (b : Bool). marks (first_bytes (pick b 5 7) w) % 2 ≡ odd_parity settings) size_is of.parity)
            (ap (λ (x : List ℕ). marks x % 2) bytes_read ∙ acc.parity)
            ∙ bytes_read;
      }
    where
      written : (i : ℕ) → 1 ≤ i → i < pick short 40 56 → bit_at (first_bytes (pick short 5 7) w) i ≡ bit w i
      written i lo hi = bits-written (pick short 5 7) w i (size_small short) lo (eight-times short i hi)

reply-again : (settings address count : ℕ) (s : List ℕ) → AreBytes s → (r : Reading) → ReadsReply settings address count s (Ok r)
    → (again : List ℕ) → ReplyLeft settings address r again → (count_for r ≡ count) × SameReply (is1800 settings) count r.temperature s again
unfolding reply_of
reply-again settings address count s ok r reads bytes left =
    let short : Bool = eqb count 40 in
    let is = read-if (level_of (mode_in settings) (line s)) (reply_fault settings address count s) (reading_at settings count (line s)) r reads.answers in
    let a = accepted settings address count s is.0 in
    let acc : Accepted settings address s (line s) short r.level r.temperature
    = subst (λ (q : Reading). Accepted settings address s (line s) short q.level q.temperature) is.1 a.1 in
    let alarm1 : r.alarm1 ≡ eqb (bit (line s) 38) 1 = sym (ap (λ (q : Reading). q.alarm1) is.1) in
    let alarm0 : r.alarm0 ≡ eqb (bit (line s) 39) 1 = sym (ap (λ (q : Reading). q.alarm0) is.1) in
    let size : is_absent r.temperature ≡ short = size_is settings address s ok short r acc alarm1 alarm0 in
    let l = left-first settings address r acc.settings_in acc.address_in bytes left in
    let w : ℕ = reply_line settings address r in
    let is-again : first_bytes (pick short 5 7) w ≡ bytes
    = subst (λ (b : Bool). first_bytes (pick b 5 7) w ≡ bytes) size (sym l.1) in
    let same : SameReply (is1800 settings) count r.temperature s (first_bytes (pick short 5 7) w)
    = subst (λ (c : ℕ). SameReply (is1800 settings) c r.temperature s (first_bytes (pick short 5 7) w)) (sym a.0)
    (same-reply settings address s ok short r acc alarm1 alarm0) in (
      subst (λ (b : Bool). count_for r ≡ pick b 40 56) size refl ∙ sym a.0,
      subst (SameReply (is1800 settings) count r.temperature s) is-again same,
    )

pub written-again : WrittenAgain
written-again = record { reply = reply-again; poll = poll-again }
