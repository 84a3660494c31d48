-- Parity over a whole reply: what is written has it right, and a reply with one bit wrong has it wrong.
use mathlib.Core.Path.{◌≡◌, refl, sym, ap, subst, ◌∙◌}
use mathlib.Core.Bool.{Bool, true, false}
use mathlib.Core.List.{List}
use Prim.Native.Nat.{ℕ, ◌-◌, ◌*◌, ◌/◌, ◌%◌, ◌^◌, ◌<◌, ◌≤◌}
use native.Mathlib.Nat.{mod-lt}
use lib.Dec.{eqb, lit<}
use lib.ListN.{length, get_or}
use Rattle.frame.specs.declared.Reading.{Reading}
use Rattle.frame.specs.Pick.{pick}
use Rattle.frame.specs.Line.{line, marks, first_bytes}
use Rattle.frame.specs.Temperature.{is_absent}
use Rattle.frame.specs.Level.{level_of}
use Rattle.frame.specs.Reply.{mode_in, ReadsReply, odd_parity, count_for, size_for, reading_at, reply_fault, reply_of, reply_line}
use Rattle.promises_frame.specs.Bits.{AreBytes, bit_at}
use Rattle.promises_frame.specs.Calls.{ReplyLeft}
use Rattle.promises_frame.specs.Parity.{marks_among, OneWrong, ParityKept}
use Rattle.promises_frame.proofs.Lines.{length-first_bytes, bytes-first_bytes}
use Rattle.promises_frame.proofs.LastBit.{last_bit}
use Rattle.promises_frame.proofs.Marks.{counted, wrong-marks}
use Rattle.promises_frame.proofs.ReplySent.{sent}
use Rattle.promises_frame.proofs.ReplyHeard.{size_small}
use Rattle.promises_frame.proofs.ReplyAccepted.{accepted, read-if}
use Rattle.promises_frame.proofs.WrittenThenRead.{left-first}
use Rattle.std.specs.Prelude.{Ok}

eight-times : (short : Bool) → 8 * pick short 5 7 ≡ pick short 40 56
eight-times true = refl
eight-times false = refl

written : (settings address : ℕ) (r : Reading) → settings ≤ 15 → address ≤ 999 → (bytes : List ℕ)
    → ReplyLeft settings address r bytes → marks_among bytes (count_for r) % 2 ≡ odd_parity settings
written settings address r hs ha bytes left =
    let w : ℕ = reply_line settings address r in
    let small : size_for r ≤ 8 = size_small (is_absent r.temperature) in
    let size : length (first_bytes (size_for r) w) ≡ size_for r = length-first_bytes (size_for r) w small in
    let all : marks (first_bytes (size_for r) w) ≡ marks_among (first_bytes (size_for r) w) (count_for r)
    = counted (first_bytes (size_for r) w) (bytes-first_bytes (size_for r) w small) (subst (λ (k : ℕ). k ≤ 8) (sym size) small)
    ∙ ap (marks_among (first_bytes (size_for r) w)) (ap (λ (k : ℕ). 8 * k) size ∙ eight-times (is_absent r.temperature)) in
    ap (λ (s : List ℕ). marks_among s (count_for r) % 2) (left-first settings address r hs ha bytes left).1
    ∙ ap (λ (k : ℕ). k % 2) (sym all) ∙ (sent settings address r ha).parity

-- The marks of an accepted reply.
right : (settings address count : ℕ) (s : List ℕ) → AreBytes s → (r : Reading) → ReadsReply settings address count s (Ok r)
    → marks_among s count % 2 ≡ odd_parity settings
unfolding reply_of
right settings address count s ok r reads =
    let is = read-if (level_of (mode_in settings) (line s)) (reply_fault settings address count s) (reading_at settings count (line s)) r reads.answers in
    let a = accepted settings address count s is.0 in
    let size : length s ≡ pick (eqb count 40) 5 7 = a.1.size in
    let all : marks s ≡ marks_among s count
    = counted s ok (subst (λ (k : ℕ). k ≤ 8) (sym size) (size_small (eqb count 40)))
    ∙ ap (marks_among s) (ap (λ (k : ℕ). 8 * k) size ∙ eight-times (eqb count 40) ∙ sym a.0) in
    ap (λ (k : ℕ). k % 2) (sym all) ∙ a.1.parity

one-wrong : (settings address count : ℕ) (s t : List ℕ) → AreBytes s → AreBytes t → (r : Reading) → ReadsReply settings address count s (Ok r)
    → (j : ℕ) → OneWrong s t count j → (q : Reading) → ¬ ReadsReply settings address count t (Ok q)
one-wrong settings address count s t os ot r reads j one q again =
    one.wrong
    (last_bit (marks_among t count) (marks_among s count) (bit_at t j) (bit_at s j) (odd_parity settings)
    (wrong-marks s t count j one.there.0 one.there.1 one.others) (right settings address count t ot q again) (right settings address count s os r reads)
    (bit-of t j) (bit-of s j))
  where
    bit-of : (s : List ℕ) (j : ℕ) → bit_at s j < 2
    bit-of s j = mod-lt (get_or s ((j - 1) / 8) 0 / 2 ^ (7 - (j - 1) % 8)) (lit< tt)

pub parity-kept : ParityKept
parity-kept = record { counted = counted; written = written; one-wrong = one-wrong }
