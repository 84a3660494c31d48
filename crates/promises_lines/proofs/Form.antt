-- In form: a message closes with 1 to 64 bits and zeros after them, which is the form of a reply; so of the tests of a reply 14 and 1 do not apply.
use mathlib.Core.Path.{◌≡◌, refl, sym, ap, subst, ◌∙◌}
use mathlib.Core.Bool.{Bool, true, false, not}
use mathlib.Core.List.{List, [], ◌∷◌}
use Prim.Native.Nat.{ℕ, ◌+◌, ◌*◌, ◌≤◌}
use native.Mathlib.Omega.{arith}
use lib.Dec.{eqb}
use lib.ListN.{length, take}
use borrow.Author.Tests.{ne_eqb, eqb-false}
use Rattle.frame.specs.Line.{bytes_for, formed, first_bytes, line}
use Rattle.frame.specs.Level.{level_of, place_lost}
use Rattle.frame.specs.Faults.{Test, first_of, number_of, fault}
use Rattle.frame.specs.Reply.{ReadsReply, reply_number, reply_fault, reply_tests, reply_of, reading_at, refused_by, mode_in}
use Rattle.frame.proofs.Numbers.{own_number, reply-small}
use Rattle.lines.specs.declared.SoFar.{SoFar}
use Rattle.lines.specs.declared.LinesTold.{LinesTold}
use Rattle.lines.specs.Timing.{Timing, timing, bad_timing}
use Rattle.lines.specs.SoFar.{rest_state, meant}
use Rattle.lines.specs.Hearing.{Hearing, hearing, told_of, hear}
use Rattle.lines.specs.Calls.{answered, HearsLines}
use Rattle.lines.proofs.Cases.{of-pick}
use Rattle.promises_lines.specs.Form.{bytes_in, LinesForm}
use Rattle.promises_frame.proofs.Bytes.{bits-written}
use Rattle.promises_frame.proofs.Lines.{length-first_bytes, bytes-first_bytes}
use Rattle.promises_frame.proofs.BitsAreBits.{bits-are-bits}
use Rattle.promises_lines.proofs.Words.{Clear, pad-bit}
use Rattle.promises_lines.proofs.Legal.{Closing, message, report}
use Rattle.promises_lines.proofs.Ends.{Ends, still_open, closed_at, good, split, meant-legal, heard-by}
use Rattle.std.specs.Prelude.{Result, Ok, Err}
use Rattle.frame.specs.declared.faults.Fault.{Fault}
use Rattle.frame.specs.declared.faults.Fault.TheVariants.{InNoChart}
use Rattle.frame.specs.declared.Reading.{Reading}

-- The front of eight bytes.
pub front : (k n : ℕ) → take k (first_bytes 8 n) ≡ first_bytes k n
unfolding first_bytes
front k n = refl

pub in-form : (bits count : ℕ) → Clear bits count → formed count (first_bytes (bytes_for count) bits) ≡ true
in-form bits count clear =
    let k : ℕ = bytes_for count in
    let small : k ≤ 8 = omega (arith, clear.small) in
    (bits-are-bits.form count (first_bytes k bits) (bytes-first_bytes k bits small)).1
    (record {
      at_most_64 = clear.small;
      size = length-first_bytes k bits small;
      pads = λ i lo hi.
          let hi' : i ≤ 8 * k = rw (length-first_bytes k bits small) at hi in
          bits-written k bits i small (omega arith) hi' ∙ pad-bit bits count i clear lo (omega arith);
    })

abbrev HandedOver : LinesTold → Type 0
HandedOver a = (1 ≤ a.count) × (a.count ≤ 64) × (formed a.count (bytes_in a) ≡ true)

closed-form : {n : SoFar} → Closing n → (taken : ℕ) → ((answered (hearing (told_of n) rest_state taken)).count ≡ 0 → ⊥) → HandedOver (answered (hearing (told_of n) rest_state taken))
closed-form (message bits run count p c) taken e = (p, c.small, ap (formed count) (front (bytes_for count) bits) ∙ in-form bits count c)
closed-form (report number run p q) taken e = absurd (e (rw (ne_eqb number 0 (omega arith))))

handed : (t : Timing) (s : SoFar) (xs : List ℕ) (h : Hearing) → Ends t s xs h → ((answered h).count ≡ 0 → ⊥) → HandedOver (answered h)
handed t s xs h (still_open r) e = absurd (e (rw r.is))
handed t s xs h (closed_at r) e = rw r.is (closed-form r.closing (length r.before + 1) (rw r.is at e))

-- The number of a reply, by the tests: of those that may apply none is 14 or 1.
abbrev Neither : ℕ → Type 0
Neither n = (n ≡ 14 → ⊥) × (n ≡ 1 → ⊥)

abbrev Passing : List Test → Type 0
Passing [] = 0 ≤ 0
Passing (t ∷ ts) = (t.applies ≡ true → Neither t.number) × Passing ts

first-neither : (ts : List Test) → Passing ts → Neither (first_of ts)
unfolding first_of
first-neither [] p = (omega arith, omega arith)
first-neither (t ∷ ts) p = of-pick Neither t.applies t.number (first_of ts) p.0 (λ e. first-neither ts p.1)

never : {b : Bool} {A : Type 0} → b ≡ false → b ≡ true → A
never p q = absurd (let z : ◌≡◌ {A = ℕ} 0 1 = cc in omega arith)

fault-neither : (settings address count : ℕ) (s : List ℕ) → 1 ≤ count → formed count s ≡ true → Neither (reply_fault settings address count s)
unfolding reply_fault
fault-neither settings address count s some e =
    first-neither (reply_tests settings address count s) (
      λ a. (omega arith, omega arith),
      (
        λ a. (omega arith, omega arith),
        (
          never (ap not e),
          (
            never (ne_eqb count 0 (omega arith)),
            (
              λ a. (omega arith, omega arith),
              (
                λ a. (omega arith, omega arith),
                (
                  λ a. (omega arith, omega arith),
                  (
                    λ a. (omega arith, omega arith),
                    (λ a. (omega arith, omega arith), (λ a. (omega arith, omega arith), (λ a. (omega arith, omega arith), (λ a. (omega arith, omega arith), omega arith)))),
                  ),
                ),
              ),
            ),
          ),
        ),
      ),
    )

reply-neither : (settings address count : ℕ) (s : List ℕ) (r : Result Reading Fault) → ReadsReply settings address count s r → Neither (reply_fault settings address count s) → Neither (reply_number r)
unfolding reply_of
reply-neither settings address count s r c n =
    let first : ℕ = reply_fault settings address count s in
    let level = level_of (mode_in settings) (line s) in
    rw c.answers
    (of-pick (λ (x : Result Reading Fault). Neither (reply_number x)) (eqb first 0) (Ok (reading_at settings count (line s))) (Err (refused_by level first))
    (λ e. (omega arith, omega arith))
    (λ e. of-pick (λ (f : Fault). Neither (number_of f)) (eqb first 7) (InNoChart (place_lost level)) (fault first) (λ f. (omega arith, omega arith))
    (λ f. subst Neither (sym (own_number first (eqb-false first 0 e) (reply-small settings address count s))) n)))

handed-over : (s : SoFar) (least most gap : ℕ) (xs : List ℕ) (a : LinesTold) → bad_timing (timing least most gap) ≡ false → HearsLines s least most gap xs a → (a.count ≡ 0 → ⊥) → HandedOver a
handed-over s least most gap xs a e c =
    let t = timing least most gap in
    rw (heard-by s least most gap xs a e c) (handed t (meant s) xs (hear t (meant s) xs) (split t (good t e) (meant s) (meant-legal s) xs))

pub form : LinesForm
form =
    record {
      formed = handed-over;
      read = λ s least most gap xs a e c n settings address r d.
          let f = handed-over s least most gap xs a e c n in
          reply-neither settings address a.count (bytes_in a) r d (fault-neither settings address a.count (bytes_in a) f.0 f.2);
    }
