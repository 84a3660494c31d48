-- It can happen: any samples are runs, and one call of the lines takes a first part of them; a round is made of any replies, and a save has an outcome whatever it is handed;
-- a reading is written into room enough and its bits are drawn one by one; and the listing is written into the room that it asks for.
use mathlib.Core.Path.{◌≡◌, refl, sym, ap, ap₂, subst, ◌∙◌}
use mathlib.Core.Bool.{Bool, true, false}
use mathlib.Core.List.{List, [], ◌∷◌, ◌++◌, map, append-nil, append_assoc}
use Prim.Native.Nat.{ℕ, zero, suc, ◌-◌, ◌<◌, ◌≤◌}
use native.Mathlib.Omega.{arith}
use native.Mathlib.Nat.{mod-lt}
use borrow.Author.Tests.{eqb-true, eqb-false, le-ltb}
use lib.Dec.{eqb}
use lib.ListN.{length, take, drop, replicate, length-map, length-replicate}
use lib.Seq.{take-append_seam}
use Rattle.frame.specs.declared.Reading.{Reading}
use Rattle.frame.specs.Faults.{first_of, fault}
use Rattle.frame.specs.Temperature.{is_absent}
use Rattle.frame.specs.Pick.{pick}
use Rattle.frame.specs.Line.{mark}
use Rattle.frame.specs.Reply.{reply_of, count_for, size_for}
use Rattle.sheet.specs.Record.{Entry}
use Rattle.listing.specs.Lines.{listing_of}
use Rattle.listing.specs.Calls.{write_fault, room_for, WritesListing}
use Rattle.lines.specs.Timing.{Timing}
use Rattle.lines.specs.declared.LinesTold.{LinesTold}
use Rattle.round.specs.declared.Polled.{Polled}
use Rattle.round.specs.declared.Round.{Round}
use Rattle.round.specs.Replies.{entry_in, entries_of}
use Rattle.round.specs.Saving.{Page, none}
use Rattle.round.specs.Calls.{most_replies}
use Rattle.promises_frame.specs.Bits.{bit_at}
use Rattle.promises_frame.specs.Calls.{ReplyLeft}
use Rattle.promises_frame.specs.WrittenThenRead.{CanSay}
use Rattle.promises_frame.proofs.OneOutcome.{one-outcome}
use Rattle.promises_lines.specs.History.{bits_of, begun}
use Rattle.promises_lines.specs.Form.{bytes_in}
use Rattle.promises_lines.specs.Drawn.{Pulse, WellDrawn}
use Rattle.promises_lines.proofs.Grouped.{grouped}
use Rattle.promises_lines.proofs.Messages.{bits-long}
use Rattle.promises_lines.proofs.Tellings.{answer_to, answers}
use Rattle.promises_card.specs.Listing.Calls.{Wrote}
use Rattle.promises_card.proofs.Round.OneOutcome.{round-outcome}
use Rattle.promises_wire.specs.Polls.{Asked, Sensed, bits_sensed, Poll, poll_entry}
use Rattle.promises_wire.specs.Heard.{HeardOnLines, heard}
use Rattle.promises_wire.specs.Wire.{evenly}
use Rattle.promises_wire.specs.Expected.{Morning}
use Rattle.promises_wire.specs.Month.{Replies, Month, round_saved}
use Rattle.promises_wire.specs.Month as month
use Rattle.promises_wire.specs.TankToDesk.{PolledSo, SentSo, CanBe, no_more, one_more}
use Rattle.promises_wire.proofs.Polled.{Held, heard-so, replies-are}
use Rattle.std.specs.Prelude.{Ok, Err}

-- Any samples.
pub any-samples : (q : Asked) (samples : List ℕ) → PolledSo q samples
any-samples q samples =
    let t : Timing = q.timing in
    let a : LinesTold = answer_to t samples in
    let l : List ℕ = take a.taken samples in
    let g = grouped l in
    let x : Sensed = record { samples = l; runs = g.runs; apart = g.apart; spells = g.spells } in
    let one : HeardOnLines t l a.count (bytes_in a) = heard samples a begun (answers t samples) in
    let h : Held (bits_sensed t x.runs) a.count (bytes_in a) = heard-so t q.timing-fine x a.count (bytes_in a) refl one in
    record {
      poll = record {
        asked = q;
        sensed = x;
        read = record {
          count = a.count;
          bytes = bytes_in a;
          are_bytes = h.are_bytes;
          in-form = h.in-form;
          bits_are = h.bits_are;
          says = reply_of q.settings q.address a.count (bytes_in a);
          reads = record { answers = refl };
        };
      };
      asked = refl;
      taken = a.taken;
      sensed = refl;
      count = a.count;
      bytes = bytes_in a;
      heard = one;
    }

-- A round of any polls.
abbrev entered : Poll → Polled
entered p =
    record {
      minute = p.asked.minute;
      count = p.read.count;
      bytes = length p.read.bytes;
      address = p.asked.address;
      settings = p.asked.settings;
      unused = 0;
      reply = p.read.bytes ++ replicate (8 - length p.read.bytes) 0;
    }

entry_of : (p : Poll) → entry_in (entered p) ≡ poll_entry p
entry_of p =
    let b = p.read.bytes in
    ap
    (λ (l : List ℕ).
    record { settings = p.asked.settings; minute = p.asked.minute; address = p.asked.address; count = p.read.count; reply = l })
    (ap (take (length b)) (append_assoc b (replicate (8 - length b) 0) (0 ∷ [])) ∙ take-append_seam b (replicate (8 - length b) 0 ++ 0 ∷ []))

entries-of : (ps : List Poll) → map entry_in (map entered ps) ≡ map poll_entry ps
entries-of [] = refl
entries-of (p ∷ ps) = ap₂ (λ (e : Entry) (l : List Entry). e ∷ l) (entry_of p) (entries-of ps)

abbrev no_reply : Polled
no_reply = record { minute = 0; count = 0; bytes = 0; address = 0; settings = 0; unused = 0; reply = replicate 8 0 }

abbrev round_for : List Poll → Round
round_for ps = record { replies = map entered ps ++ replicate (most_replies - length ps) no_reply; count = length ps }

round-of : (ps : List Poll) → entries_of (round_for ps) ≡ map poll_entry ps
round-of ps =
    ap (map entry_in)
    (ap (λ (k : ℕ). take k (map entered ps ++ replicate (most_replies - length ps) no_reply)) (sym (length-map ps entered))
    ∙ take-append_seam (map entered ps) (replicate (most_replies - length ps) no_reply))
    ∙ entries-of ps

-- Any mornings, saved by a round each.
record So (n : ℕ) (ms : List Morning) : Type 0 where
  sheet : List ℕ
  page : Page
  month_of : Month n ms sheet page

any-more : (n : ℕ) (ms qs : List Morning) → So n ms → CanBe qs → So n (ms ++ qs)
any-more n ms [] m no_more = subst (So n) (sym (append-nil ms)) m
any-more n ms (q ∷ qs) m (one_more w es replies few more) =
    let o = round-outcome.plain m.sheet (round_for q.polls) q.allowance in
    let r : Replies q.polls (entries_of (round_for q.polls)) = subst (Replies q.polls) (replies-are replies ∙ sym (round-of q.polls)) replies in
    let one : So n (ms ++ q ∷ []) =
    record {
      sheet = o.some.1;
      page = none;
      month_of = round_saved q.polls (round_for q.polls) q.allowance o.some.0 o.some.1 m.month_of r few o.allowed;
    } in
    subst (So n) (append_assoc ms (q ∷ []) qs) (any-more n (ms ++ q ∷ []) qs one more)

pub any-mornings : (n : ℕ) (ms : List Morning) → CanBe ms → (sheet : List ℕ) × (page : Page) × Month n ms sheet page
any-mornings n ms c =
    let s = any-more n [] ms (record { sheet = _; page = none; month_of = month.begun }) c in
    (s.sheet, s.page, s.month_of)

-- A reading, drawn evenly.
bit-small : (s : List ℕ) (i : ℕ) → bit_at s i < 2
bit-small s i = mod-lt _ (omega arith)

mark_of : (b : ℕ) → b < 2 → mark (eqb b 1) ≡ b
mark_of b small = go (eqb b 1) refl
  where
    go : (c : Bool) → eqb b 1 ≡ c → mark c ≡ b
    go true e = sym (eqb-true b 1 e)
    go false e =
        let no = eqb-false b 1 e in
        let zero_is : 0 ≡ b = omega arith in zero_is

data AllBits : List ℕ → Type 0 where
  no_bit : AllBits []
  one_bit : {b : ℕ} {bs : List ℕ} → b < 2 → AllBits bs → AllBits (b ∷ bs)

bits-then : {xs ys : List ℕ} → AllBits xs → AllBits ys → AllBits (xs ++ ys)
bits-then no_bit more = more
bits-then (one_bit small rest) more = one_bit small (bits-then rest more)

all-bits : (k : ℕ) (s : List ℕ) → AllBits (bits_of k s)
unfolding bits_of
all-bits zero s = no_bit
all-bits (suc k) s = bits-then (all-bits k s) (one_bit (bit-small s (suc k)) no_bit)

abbrev is_one : Pulse → ℕ
is_one p = mark p.is_mark

shows-so : (low still gap : ℕ) {bs : List ℕ} → AllBits bs → map is_one (evenly low still gap bs) ≡ bs
shows-so low still gap no_bit = refl
shows-so low still gap (one_bit {b = b} {bs = []} small rest) = ap (λ (x : ℕ). x ∷ []) (mark_of b small)
shows-so low still gap (one_bit {b = b} {bs = c ∷ bs} small rest) = ap₂ (λ (x : ℕ) (l : List ℕ). x ∷ l) (mark_of b small) (shows-so low still gap rest)

-- One bit or more, as a drawing.
record Evenly (t : Timing) (low still : ℕ) (bits : List ℕ) : Type 0 where
  first : Pulse
  rest : List Pulse
  same : first ∷ rest ≡ evenly low still t.gap bits
  timed : WellDrawn t first rest

module _ (t : Timing) (low still : ℕ) (least : t.least ≤ low) (most : low ≤ t.most) (some : 1 ≤ still) (short : still < t.gap) where
  abbrev pulse : ℕ → ℕ → Pulse
  pulse b after = record { is_mark = eqb b 1; low = low; still = after }

  drawn-evenly : (b : ℕ) (bs : List ℕ) → Evenly t low still (b ∷ bs)
  drawn-evenly b [] = record { first = pulse b t.gap; rest = []; same = refl; timed = (least, most, refl) }
  drawn-evenly b (c ∷ bs) =
      let d = drawn-evenly c bs in
      record {
        first = pulse b still;
        rest = d.first ∷ d.rest;
        same = ap (λ (l : List Pulse). pulse b still ∷ l) d.same;
        timed = (least, most, some, short, d.timed);
      }

some_bits : (r : Reading) (s : List ℕ) → 0 < length (bits_of (count_for r) s)
some_bits r s = go (is_absent r.temperature) (bits-long (count_for r) s)
  where
    go : (b : Bool) → length (bits_of (count_for r) s) ≡ pick b 40 56 → 0 < length (bits_of (count_for r) s)
    go true e = omega (arith, e)
    go false e = omega (arith, e)

pub any-reading : (q : Asked) (r : Reading) → CanSay q.settings q.address r → (quiet low still : ℕ) → q.timing.least ≤ low → low ≤ q.timing.most
    → 1 ≤ still → still < q.timing.gap → SentSo q r quiet low still
any-reading q r can quiet low still least most some short =
    let out : List ℕ = replicate (size_for r) 0 in
    let o = one-outcome.write-reply q.settings q.address r out in
    let bytes : List ℕ = take (size_for r) o.some.1 in
    let left : ReplyLeft q.settings q.address r bytes =
    record {
      out = out;
      after = o.some.1;
      said = o.some.0;
      long_enough = omega (arith, length-replicate {A = ℕ} (size_for r) 0);
      call = o.allowed;
      first = refl;
    } in
    by_bits bytes left (bits_of (count_for r) bytes) refl (some_bits r bytes)
  where
    by_bits : (bytes : List ℕ) → ReplyLeft q.settings q.address r bytes → (bits : List ℕ) → bits_of (count_for r) bytes ≡ bits → 0 < length (bits_of (count_for r) bytes)
        → SentSo q r quiet low still
    by_bits bytes left [] e n = absurd (omega (arith, n, ap (length {A = ℕ}) e))
    by_bits bytes left (b ∷ bs) e n =
        let d = drawn-evenly q.timing low still least most some short b bs in
        record {
          sent = record {
            asked = q;
            reading = r;
            can_say = can;
            bytes = bytes;
            left = left;
            drawing = record { quiet = quiet; first = d.first; rest = d.rest };
            draws = record {
              timed = d.timed;
              shows = ap (map is_one) d.same ∙ shows-so low still q.timing.gap (subst AllBits e (all-bits (count_for r) bytes)) ∙ sym e;
            };
          };
          asked = refl;
          reading = refl;
          quiet_so = refl;
          pulses_so = d.same ∙ ap (evenly low still q.timing.gap) (sym e);
        }

-- A listing.
enough-room : (text out : List ℕ) (needed : ℕ) → needed ≤ length out → write_fault true needed out ≡ 0
unfolding write_fault first_of
enough-room text out needed h = rw (le-ltb (length out) needed h)

pub a-listing : (sheet : List ℕ) → (listing : List ℕ) × Wrote (WritesListing sheet) listing
a-listing sheet =
    let text : List ℕ = listing_of sheet in
    let out : List ℕ = replicate (room_for sheet) 0 in
    let fine : write_fault true (room_for sheet) out ≡ 0 = enough-room text out (room_for sheet) (omega (arith, length-replicate {A = ℕ} (room_for sheet) 0)) in (
      text,
      record {
        out = out;
        after = text ++ drop (length text) out;
        said = Ok (length text);
        call = record {
          answers = sym (ap (λ (k : ℕ). pick (eqb k 0) (Ok (length text)) (Err (fault k))) fine);
          leaves = sym (ap (λ (k : ℕ). pick (eqb k 0) (text ++ drop (length text) out) out) fine);
        };
        accepted = refl;
        first = sym (take-append_seam text (drop (length text) out));
      },
    )
