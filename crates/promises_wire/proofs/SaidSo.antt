-- A reading that was sent is heard bit for bit, by the promise of drawing and hearing, and read as that reading, by demand 2. One changed bit is never read as a
-- reading, by the promise of parity. No bits at all are fault 1.
use mathlib.Core.Path.{◌≡◌, refl, sym, ap, subst, ◌∙◌}
use mathlib.Core.Bool.{Bool, true, false}
use mathlib.Core.List.{List, [], ◌∷◌, ◌++◌, map, append-nil}
use Prim.Native.Nat.{ℕ, suc, ◌+◌, ◌-◌, ◌*◌, ◌/◌, ◌≤◌}
use native.Mathlib.Omega.{arith}
use borrow.Author.Tests.{le-ltb}
use lib.Dec.{eqb}
use lib.ListN.{length, get_or, take, replicate, length-append, length-replicate, length-map}
use lib.Seq.{take_all}
use Rattle.frame.specs.declared.Reading.{Reading}
use Rattle.frame.specs.Faults.{first_of, number_of, place_named, fault}
use Rattle.frame.specs.Pick.{pick}
use Rattle.frame.specs.Line.{mark, formed, first_bytes}
use Rattle.frame.specs.Temperature.{is_absent}
use Rattle.frame.specs.Reply.{ReadsReply, reply_fault, reply_of, count_for, size_for, reply_line}
use Rattle.listing.specs.Text.{ascii, in_decimal}
use Rattle.listing.specs.Lines.{reply_text}
use Rattle.lines.specs.declared.LinesTold.{LinesTold}
use Rattle.lines.specs.Timing.{Timing}
use Rattle.lines.specs.SoFar.{rest_state}
use Rattle.lines.specs.Calls.{HearsLines}
use Rattle.promises_frame.specs.Bits.{AreBytes, bit_at}
use Rattle.promises_frame.specs.Parity.{OneWrong}
use Rattle.promises_frame.proofs.BitsAreBits.{bits-are-bits}
use Rattle.promises_frame.proofs.Lines.{length-first_bytes, bytes-first_bytes}
use Rattle.promises_frame.proofs.ReplyHeard.{size_small}
use Rattle.promises_frame.proofs.WrittenThenRead.{left-first, written-then-read}
use Rattle.promises_frame.proofs.Parity.{parity-kept}
use Rattle.promises_lines.specs.History.{bits_of, said, begun}
use Rattle.promises_lines.specs.Form.{bytes_in}
use Rattle.promises_lines.specs.Drawn.{Pulse, drawn}
use Rattle.promises_lines.proofs.Drawn.{drawn-then-heard}
use Rattle.promises_lines.proofs.Messages.{bits-long, bit_in, handed-bits}
use Rattle.promises_lines.proofs.Tellings.{answer_to, answers}
use Rattle.promises_wire.specs.Polls.{Asked, bits_sensed, Poll, entry_for}
use Rattle.promises_wire.specs.Heard.{HeardOnLines, heard}
use Rattle.promises_wire.specs.Wire.{Drawing, samples_of, Sent}
use Rattle.promises_wire.specs.TankToDesk.{AskedAlike, SaysSo, ListedFault}
use Rattle.promises_wire.proofs.Polled.{Held, heard-so, same-held, read_held}
use Rattle.std.specs.Prelude.{Result, Ok, Err}
use Rattle.frame.specs.declared.faults.Fault.{Fault}

-- The bytes of a reply that was sent, their form, and what they are read as.
module _ (x : Sent) where
  abbrev r : Reading
  r = x.reading

  written : x.bytes ≡ first_bytes (size_for r) (reply_line x.asked.settings x.asked.address r)
  written = (left-first x.asked.settings x.asked.address r x.can_say.settings_in x.can_say.address_in x.bytes x.left).1

  sent-bytes : AreBytes x.bytes
  sent-bytes =
      subst AreBytes (sym written) (bytes-first_bytes (size_for r) (reply_line x.asked.settings x.asked.address r) (size_small (is_absent r.temperature)))

  sent-reads : ReadsReply x.asked.settings x.asked.address (count_for r) x.bytes (Ok r)
  sent-reads =
      let got : (Result Reading Fault) = reply_of x.asked.settings x.asked.address (count_for r) x.bytes in
      record {
        answers = sym (written-then-read.reply x.asked.settings x.asked.address r x.can_say x.bytes x.left got (record { answers = refl })).1;
      }

  sent-size : length x.bytes ≡ size_for r
  sent-size =
      ap length written
      ∙ length-first_bytes (size_for r) (reply_line x.asked.settings x.asked.address r) (size_small (is_absent r.temperature))

-- A reply of 40 or 56 bits fills its 5 or 7 bytes.
filled : (short : Bool) → (pick short 40 56 ≤ 64) × (pick short 5 7 ≡ (pick short 40 56 + 7) / 8) × (8 * pick short 5 7 ≡ pick short 40 56)
filled true = (omega arith, refl, refl)
filled false = (omega arith, refl, refl)

sent-held : (x : Sent) → Held (bits_of (count_for x.reading) x.bytes) (count_for x.reading) x.bytes
sent-held x =
    let size = sent-size x in
    let f = filled (is_absent x.reading.temperature) in
    record {
      are_bytes = sent-bytes x;
      in-form = (bits-are-bits.form (count_for x.reading) x.bytes (sent-bytes x)).1
          (record { at_most_64 = f.0; size = size ∙ f.1; pads = λ i lo hi. absurd (omega (arith, f.2)) });
      bits_are = refl;
    }

-- One call hears it, to the last sample of its gap.
module _ (x : Sent) where
  abbrev d : Drawing
  d = x.drawing

  abbrev t : Timing
  t = x.asked.timing

  abbrev a : LinesTold
  a = answer_to t (samples_of d)

  pub few-pulses : length (d.first ∷ d.rest) ≤ 64
  few-pulses =
      let n : length (map (λ (p : Pulse). mark p.is_mark) (d.first ∷ d.rest)) ≡ count_for x.reading
      = ap length x.draws.shows ∙ bits-long (count_for x.reading) x.bytes in
      let m = length-map (d.first ∷ d.rest) (λ (p : Pulse). mark p.is_mark) in
      let f = (filled (is_absent x.reading.temperature)).0 in
      omega arith

  is-heard : (a.number ≡ 0) × ((said a).bits ≡ map (λ q. mark q.is_mark) (d.first ∷ d.rest)) × (a.taken ≡ d.quiet + length (drawn (d.first ∷ d.rest)))
  is-heard =
      drawn-then-heard.heard t x.asked.timing-fine d.first d.rest x.draws.timed few-pulses d.quiet [] a
      (subst (λ (xs : List ℕ). HearsLines rest_state t.least t.most t.gap xs a) (sym (append-nil (samples_of d))) (answers t (samples_of d)))

  all-taken : take a.taken (samples_of d) ≡ samples_of d
  all-taken =
      let size = length-append (replicate d.quiet 0) (drawn (d.first ∷ d.rest)) ∙ ap (λ (k : ℕ). k + length (drawn (d.first ∷ d.rest))) (length-replicate d.quiet 0) in
      let full = is-heard.2 in
      take_all a.taken (samples_of d) (omega arith)

  pub sent-heard : HeardOnLines t (samples_of d) a.count (bytes_in a)
  sent-heard = subst (λ (l : List ℕ). HeardOnLines t l a.count (bytes_in a)) all-taken (heard (samples_of d) a begun (answers t (samples_of d)))

  heard-bits : bits_of a.count (bytes_in a) ≡ bits_of (count_for x.reading) x.bytes
  heard-bits = handed-bits a ∙ is-heard.1 ∙ x.draws.shows

-- The same question, read alike.
read_alike : (p q : Asked) → AskedAlike p q → (count : ℕ) (bytes : List ℕ) (says : Result Reading Fault) → ReadsReply q.settings q.address count bytes says
    → ReadsReply p.settings p.address count bytes says
read_alike p q s count bytes says h = record { answers = h.answers ∙ sym (λ i. reply_of (s.settings i) (s.address i) count bytes) }

pub said-so : (x : Sent) (p : Poll) → AskedAlike p.asked x.asked → p.sensed.samples ≡ samples_of x.drawing → SaysSo x p
said-so x p alike e =
    let b = bits_sensed p.asked.timing p.sensed.runs in
    let h : Held b (a x).count (bytes_in (a x))
    = heard-so p.asked.timing p.asked.timing-fine p.sensed (a x).count (bytes_in (a x)) (sym e)
    (subst (λ (u : Timing). HeardOnLines u (samples_of x.drawing) (a x).count (bytes_in (a x))) (sym alike.timing) (sent-heard x)) in
    let bits : bits_of (count_for x.reading) x.bytes ≡ b = sym (heard-bits x) ∙ h.bits_are in
    let s = sent-held x in
    let own : Held b (count_for x.reading) x.bytes = record { are_bytes = s.are_bytes; in-form = s.in-form; bits_are = bits } in
    let same = same-held b p.read.count (count_for x.reading) p.read.bytes x.bytes (read_held p.read) own in
    record {
      says = p.read.reads.answers
          ∙ (λ i. reply_of p.asked.settings p.asked.address (same.0 i) (same.1 i))
          ∙ sym (read_alike p.asked x.asked alike (count_for x.reading) x.bytes (Ok x.reading) (sent-reads x)).answers;
      entry = λ i. entry_for p.asked (same.0 i) (same.1 i);
    }

-- No bits.
no-bits-read : (settings address : ℕ) (bytes : List ℕ) → settings ≤ 15 → address ≤ 999 → formed 0 bytes ≡ true → reply_of settings address 0 bytes ≡ Err (fault 1)
unfolding reply_of reply_fault first_of
no-bits-read settings address bytes s a f = rw (le-ltb 15 settings s, le-ltb 999 address a, f)

pub silent-is : (p : Poll) → bits_sensed p.asked.timing p.sensed.runs ≡ [] → p.read.says ≡ Err (fault 1)
silent-is p e =
    let none : p.read.count ≡ 0 = sym (bits-long p.read.count p.read.bytes) ∙ ap length (p.read.bits_are ∙ e) in
    p.read.reads.answers ∙ ap (λ (k : ℕ). reply_of p.asked.settings p.asked.address k p.read.bytes) none
    ∙ no-bits-read p.asked.settings p.asked.address p.read.bytes p.asked.settings_in p.asked.address_in
    (subst (λ (k : ℕ). formed k p.read.bytes ≡ true) none p.read.in-form)

-- One bit changed.
module _ (x : Sent) (p : Poll) (alike : AskedAlike p.asked x.asked) (other : List ℕ) (j : ℕ) (w : OneWrong x.bytes other (count_for x.reading) j)
    (e : bits_sensed p.asked.timing p.sensed.runs ≡ bits_of (count_for x.reading) other) where
  abbrev count : ℕ
  count = count_for x.reading

  abbrev bytes : List ℕ
  bytes = p.read.bytes

  same_bits : bits_of p.read.count bytes ≡ bits_of count other
  same_bits = p.read.bits_are ∙ e

  as_many : p.read.count ≡ count
  as_many = sym (bits-long p.read.count bytes) ∙ ap length same_bits ∙ bits-long count other

  bit-same : (i : ℕ) → 1 ≤ i → i ≤ count → bit_at bytes i ≡ bit_at other i
  bit-same i lo hi =
      let back : suc (i - 1) ≡ i = omega arith in
      sym (ap (bit_at bytes) back) ∙ sym (bit_in p.read.count bytes (i - 1) (omega (arith, as_many)))
      ∙ ap (λ (l : List ℕ). get_or l (i - 1) 0) same_bits
      ∙ bit_in count other (i - 1) (omega arith) ∙ ap (bit_at other) back

  wrong-so : OneWrong x.bytes bytes count j
  wrong-so =
      record {
        there = w.there;
        wrong = λ q. w.wrong (sym (bit-same j w.there.0 w.there.1) ∙ q);
        others = λ i lo hi no. bit-same i lo hi ∙ w.others i lo hi no;
      }

  reads_so : ReadsReply p.asked.settings p.asked.address count bytes p.read.says
  reads_so = subst (λ (k : ℕ). ReadsReply p.asked.settings p.asked.address k bytes p.read.says) as_many p.read.reads

  never-read : (q : Reading) → p.read.says ≡ Ok q → ⊥
  never-read q is =
      parity-kept.one-wrong p.asked.settings p.asked.address count x.bytes bytes (sent-bytes x) p.read.are_bytes x.reading
      (read_alike p.asked x.asked alike count x.bytes (Ok x.reading) (sent-reads x)) j wrong-so q
      (subst (λ (y : Result Reading Fault). ReadsReply p.asked.settings p.asked.address count bytes y) is reads_so)

  pub one-bit-fault : ListedFault p
  one-bit-fault = go p.read.says refl
    where
      go : (y : Result Reading Fault) → p.read.says ≡ y
          → (rest : List ℕ)
          × (in_decimal p.asked.minute ++ ascii " " ++ in_decimal p.asked.address ++ ascii " " ++ reply_text y
          ≡ in_decimal p.asked.minute ++ ascii " " ++ in_decimal p.asked.address ++ ascii " " ++ (ascii "fault " ++ rest))
      go (Ok q) is = absurd (never-read q is)
      go (Err f) is = (
        pick (eqb (number_of f) 7) (ascii "7 " ++ in_decimal (place_named f)) (in_decimal (number_of f)),
        ap (λ (t : List ℕ). in_decimal p.asked.minute ++ ascii " " ++ in_decimal p.asked.address ++ ascii " " ++ t) (begins (eqb (number_of f) 7)),
      )
        where
          begins : (b : Bool) → pick b (ascii "fault 7 " ++ in_decimal (place_named f)) (ascii "fault " ++ in_decimal (number_of f))
              ≡ ascii "fault " ++ pick b (ascii "7 " ++ in_decimal (place_named f)) (in_decimal (number_of f))
          begins true = refl
          begins false = refl
