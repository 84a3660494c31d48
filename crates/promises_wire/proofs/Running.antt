-- A morning by the recorder's own calls, call by call: what was sensed since the poll is what the try has listened to, and a try whose reply stands is one more poll, of the
-- row whose turn it was. Drawing changes neither.
use mathlib.Core.Path.{◌≡◌, refl, sym, ap, subst, ◌∙◌}
use mathlib.Core.Bool.{Bool, true, false, not, ◌||◌}
use mathlib.Core.List.{List, [], ◌∷◌, ◌++◌, map, append-nil, append_assoc}
use Prim.Native.Nat.{ℕ, zero, suc, ◌+◌, ◌-◌, ◌^◌, ◌<◌, ◌≤◌}
use native.Mathlib.Omega.{arith}
use native.Mathlib.Nat.{zero-add}
use borrow.Author.Tests.{eqb-true, eqb-false, leb-true, leb-false, ltb-true}
use lib.Dec.{eqb, leb, ltb}
use lib.ListN.{length, get_or, take, set, replicate, length-append, length-map, length-take}
use lib.Seq.{take_all, take-append_seam, take-append-le, get_or_at, set_at}
use Rattle.frame.specs.Pick.{pick}
use Rattle.frame.specs.Line.{mark, bytes_for}
use Rattle.frame.specs.Reply.{reply_of}
use Rattle.board.specs.declared.Row.{Row}
use Rattle.board.specs.Row.{is_free}
use Rattle.board.specs.Rows.{board_of}
use Rattle.board.specs.Order.{in_address_order}
use Rattle.lines.specs.declared.SoFar.{SoFar}
use Rattle.lines.specs.SoFar.{rest_state, legal}
use Rattle.lines.specs.SoFar as lines
use Rattle.lines.specs.Timing.{bad_timing}
use Rattle.lines.specs.Hearing.{MessageTold, nothing, message, spoiled, count_told, bytes_told, number_told}
use Rattle.lines.proofs.Cases.{none_of}
use Rattle.round.specs.declared.Polled.{Polled}
use Rattle.round.specs.declared.Round.{Round}
use Rattle.round.specs.Replies.{entry_in, entries_of}
use Rattle.round.specs.Calls.{most_replies}
use Rattle.sheet.specs.Record.{Entry}
use Rattle.polling.specs.declared.Begun.{Begun}
use Rattle.polling.specs.declared.Pace.{Pace}
use Rattle.polling.specs.declared.Polling.{Polling}
use Rattle.polling.specs.Settling.{LeftByHearing}
use Rattle.polling.specs.Pace.{timing_of, bad_pace}
use Rattle.polling.specs.Beginning.{no_reply, no_entry, used_rows, reply_for, begun_with, beginning, nothing_begun}
use Rattle.polling.specs.Meant.{is_over, turn_of, try_drawn, draws, listens, meant}
use Rattle.polling.specs.Drawing.{drawn_by, after_drawn}
use Rattle.polling.specs.Listening.{Listened, still_going, settled_by, later, listen}
use Rattle.polling.specs.Settling.{is_answered, asked_again, replied, round_with, answered_with, settled_of, settled_at}
use Rattle.polling.specs.Calls.{begun, BeginsPolling, heard_by}
use Rattle.promises_frame.proofs.Lines.{length-first_bytes}
use Rattle.promises_frame.proofs.BitsAreBits.{bits-are-bits}
use Rattle.promises_lines.proofs.Legal.{rest, is-legal}
use Rattle.promises_lines.proofs.Ends.{meant_itself}
use Rattle.promises_lines.proofs.Grouped.{grouped}
use Rattle.promises_polling.proofs.Drawn.{leaves}
use Rattle.promises_polling.proofs.Heard as polling
use Rattle.promises_polling.proofs.Heard.{timing-fine}
use Rattle.promises_wire.specs.Polls.{Asked, Sensed, bits_sensed, Poll, entry_for, poll_entry}
use Rattle.promises_wire.specs.Heard.{HeardOnLines}
use Rattle.promises_wire.specs.Month.{Replies, none_polled, one_polled, round_saved, round_kept}
use Rattle.promises_wire.specs.Running.{Stood, since_after, stood_by, Running, just_begun, heard, Enrolled, PollOf, InStep, none_in_step, one_in_step, RanSo, Ended, RunByTheRecorder}
use Rattle.promises_wire.specs.Running as running
use Rattle.promises_wire.proofs.Polled.{Held, heard-so}
use Rattle.promises_wire.proofs.Tries.{Beside, both_go_on, beside, legal-left, try-heard, listen-then}

-- One more at the end.
step-more : {p : Pace} {rows : List Row} {xs : List Stood} {qs : List Poll} (row : Row) (x : Stood) (q : Poll) → InStep p rows xs qs → PollOf p row x q
    → InStep p (rows ++ row ∷ []) (xs ++ x ∷ []) (qs ++ q ∷ [])
step-more row x q none_in_step is = one_in_step row x q is none_in_step
step-more row x q (one_in_step r y s first others) is = one_in_step r y s first (step-more row x q others is)

replies-more : {qs : List Poll} {es : List Entry} (q : Poll) (count : ℕ) (bytes : List ℕ) → HeardOnLines q.asked.timing q.sensed.samples count bytes → Replies qs es
    → Replies (qs ++ q ∷ []) (es ++ entry_for q.asked count bytes ∷ [])
replies-more q count bytes h none_polled = one_polled q count bytes h none_polled
replies-more q count bytes h (one_polled p c b g others) = one_polled p c b g (replies-more q count bytes h others)

map_more : {A B : Type 0} (f : A → B) (xs : List A) (x : A) → map f (xs ++ x ∷ []) ≡ map f xs ++ f x ∷ []
map_more f [] x = refl
map_more f (y ∷ xs) x = ap (λ l. f y ∷ l) (map_more f xs x)

-- A poll of which this was heard.
poll-for : (q : Asked) (samples : List ℕ) (count : ℕ) (bytes : List ℕ) → HeardOnLines q.timing samples count bytes → Poll
poll-for q samples count bytes h =
    let g = grouped samples in
    let x : Sensed = record { samples = samples; runs = g.runs; apart = g.apart; spells = g.spells } in
    let held : Held (bits_sensed q.timing x.runs) count bytes = heard-so q.timing q.timing-fine x count bytes refl h in
    record {
      asked = q;
      sensed = x;
      read = record {
        count = count;
        bytes = bytes;
        are_bytes = held.are_bytes;
        in-form = held.in-form;
        bits_are = held.bits_are;
        says = reply_of q.settings q.address count bytes;
        reads = record { answers = refl };
      };
    }

few_bytes : (q : Asked) (samples : List ℕ) (count : ℕ) (bytes : List ℕ) → HeardOnLines q.timing samples count bytes → bytes_for count ≤ 8
unfolding poll-for
few_bytes q samples count bytes h =
    let r = (poll-for q samples count bytes h).read in
    let small = ((bits-are-bits.form count bytes r.are_bytes).0 r.in-form).at_most_64 in
    omega arith

bytes-eight : (told : MessageTold) → length (bytes_told told) ≡ 8
bytes-eight nothing = length-first_bytes 8 0 (omega arith)
bytes-eight (message count bits) = length-first_bytes 8 bits (omega arith)
bytes-eight (spoiled number) = length-first_bytes 8 0 (omega arith)

-- What a round holds: the answered replies, those of the rows that are left, and what stands behind them.
pub record Holds (p : Pace) (m : ℕ) (used : List Row) (xs : List Stood) (r : Round) (at : ℕ) : Type 0 where
  pub done : List Row
  pub left : List Row
  pub all : used ≡ done ++ left
  pub enrolled : Enrolled left
  pub count : r.count ≡ length used
  pub answered : List Polled
  pub tail : List Polled
  pub here : at ≡ length answered
  pub as_many : length answered ≡ length done
  pub holds : r.replies ≡ answered ++ (map (reply_for m) left ++ tail)
  pub polls : List Poll
  pub in_step : InStep p done xs polls
  pub replies : Replies polls (map entry_in answered)

-- The poll of a reply that comes to stand, and its place.
pub record ByPoll (p : Pace) (w : Polling) (x : Stood) (entry : Polled) : Type 0 where
  pub row : Row
  pub settings : (turn_of w).settings ≡ row.settings
  pub address : (turn_of w).address ≡ row.address
  pub poll : Poll
  pub its : PollOf p row x poll
  pub entry-is : entry_in entry ≡ poll_entry poll
  pub placed : w.at < length w.round.replies

-- What has been listened to.
pub data Ear (p : Pace) (since : List ℕ) (w : Polling) : Type 0 where
  drawing_now : w.listening ≡ 0 → since ≡ [] → Ear p since w
  listening_now : (w.listening ≡ 0 → ⊥) → listen p rest_state 0 since ≡ still_going w.lines w.passed → legal w.lines ≡ true → Ear p since w

pub record Good (p : Pace) (m : ℕ) (used : List Row) (xs : List Stood) (since : List ℕ) (w : Polling) : Type 0 where
  pub round : Holds p m used xs w.round w.at
  pub ear : Ear p since w

legal-rest : legal rest_state ≡ true
legal-rest = is-legal rest

nothing_yet : (p : Pace) → listen p rest_state 0 [] ≡ still_going rest_state 0
unfolding listen
nothing_yet p = refl

module _ (p : Pace) (m : ℕ) (used : List Row) where
  -- what a state means is as good
  good-meant : (xs : List Stood) (since : List ℕ) (w : Polling) → Good p m used xs since w → Good p m used xs since (meant p w)
  unfolding meant
  good-meant xs since w g = go (is_over w) (eqb w.listening 0) refl (leb (length (try_drawn p (turn_of w).address)) w.passed)
    where
      none-since : w.listening ≡ 0 → Ear p since w → since ≡ []
      none-since z (drawing_now l e) = e
      none-since z (listening_now l e ok) = absurd (l z)

      ear-so : (w.listening ≡ 0 → ⊥) → Ear p since w → (listen p rest_state 0 since ≡ still_going w.lines w.passed) × (legal w.lines ≡ true)
      ear-so z (drawing_now l e) = absurd (z l)
      ear-so z (listening_now l e ok) = (e, ok)

      go : (a b : Bool) → eqb w.listening 0 ≡ b → (c : Bool)
          → Good p m used xs since (pick a w (pick (not b) (listens w (lines.meant w.lines) w.passed) (pick c (listens w rest_state 0) (draws w w.passed))))
      go true b e c = g
      go false false e c =
          let now = ear-so (eqb-false w.listening 0 e) g.ear in
          let same : lines.meant w.lines ≡ w.lines = meant_itself w.lines now.1 in
          record {
            round = g.round;
            ear = listening_now (λ z. omega (arith, z)) (now.0 ∙ ap (λ (s : SoFar). still_going s w.passed) (sym same)) (ap legal same ∙ now.1);
          }
      go false true e true =
          record {
            round = g.round;
            ear = listening_now (λ z. omega (arith, z)) (ap (listen p rest_state 0) (none-since (eqb-true w.listening 0 e) g.ear) ∙ nothing_yet p) legal-rest;
          }
      go false true e false = record { round = g.round; ear = drawing_now refl (none-since (eqb-true w.listening 0 e) g.ear) }

  -- drawing
  good-drawn : (xs : List Stood) (since : List ℕ) (w : Polling) (many : ℕ) → Good p m used xs since w → Good p m used xs since (after_drawn p w many)
  unfolding after_drawn
  good-drawn xs since w many g = go (is_over w) (eqb w.listening 0) refl
    where
      none-since : w.listening ≡ 0 → Ear p since w → since ≡ []
      none-since z (drawing_now l e) = e
      none-since z (listening_now l e ok) = absurd (l z)

      go : (a b : Bool) → eqb w.listening 0 ≡ b → Good p m used xs since (pick (a || not b) (meant p w) (meant p (draws w (w.passed + many))))
      go true b e = good-meant xs since w g
      go false false e = good-meant xs since w g
      go false true e =
          good-meant xs since (draws w (w.passed + many)) (record { round = g.round; ear = drawing_now refl (none-since (eqb-true w.listening 0 e) g.ear) })

pub take_past : (xs ys : List ℕ) (n k : ℕ) → n ≡ length xs → take (n + k) (xs ++ ys) ≡ xs ++ take k ys
take_past [] ys n k e = let none : n + k ≡ k = omega (arith, e) in ap (λ (j : ℕ). take j ys) none
take_past (x ∷ xs) ys zero k e = absurd (omega (arith, e))
take_past (x ∷ xs) ys (suc n) k e =
    let more : suc n + k ≡ suc (n + k) = omega arith in
    ap (λ (j : ℕ). take j (x ∷ (xs ++ ys))) more ∙ ap (λ (l : List ℕ). x ∷ l) (take_past xs ys n k (omega (arith, e)))

pub long-so : (p : Pace) (since : List ℕ) (s : SoFar) (passed : ℕ) → listen p rest_state 0 since ≡ still_going s passed → passed ≡ length since
long-so p since s passed e = go (listen p rest_state 0 since) e (beside p rest_state 0 since)
  where
    taken_in : Listened → ℕ
    taken_in (still_going left taken) = taken
    taken_in (settled_by told taken) = taken

    kind-in : Listened → ℕ
    kind-in (still_going left taken) = 0
    kind-in (settled_by told taken) = 1

    go : (l : Listened) → l ≡ still_going s passed → Beside (timing_of p) rest_state since l → passed ≡ length since
    go (still_going left n) q (both_go_on there k all h) = sym (ap taken_in q) ∙ all
    go (settled_by told n) q b = absurd (omega (arith, ap kind-in q))

module _ (p : Pace) (fine : bad_timing (timing_of p) ≡ false) (m : ℕ) (used : List Row) (xs : List Stood) (since : List ℕ) (w : Polling) (minute : ℕ) (fits : minute < 2 ^ 32)
    (samples : List ℕ) (g : Good p m used xs since w) where
  abbrev GoodAfter : LeftByHearing → Type 0
  GoodAfter a = Good p m used (xs ++ stood_by a minute samples since) (since_after a samples since) a.polling

  -- nothing taken and nothing told
  at_rest : (over : ℕ) → GoodAfter (settled_of w 0 0 0 over 0)
  at_rest over =
      record {
        round = subst (λ (l : List Stood). Holds p m used l w.round w.at) (sym (append-nil xs)) g.round;
        ear = subst (λ (l : List ℕ). Ear p l w) same g.ear;
      }
    where
      same : since ≡ pick (eqb w.listening 0) [] (since ++ take 0 samples)
      same = go (eqb w.listening 0) refl g.ear
        where
          go : (b : Bool) → eqb w.listening 0 ≡ b → Ear p since w → since ≡ pick b [] (since ++ take 0 samples)
          go true e (drawing_now l none) = none
          go true e (listening_now l h ok) = absurd (l (eqb-true w.listening 0 e))
          go false e ear = sym (append-nil since)

  module _ (on : (w.listening ≡ 0 → ⊥)) (so_far : listen p rest_state 0 since ≡ still_going w.lines w.passed) (ok : legal w.lines ≡ true) where
    pub all_so : listen p rest_state 0 (since ++ samples) ≡ later w.passed (listen p w.lines w.passed samples)
    all_so =
        listen-then p rest_state 0 since samples w.lines w.passed so_far
        ∙ ap (λ (k : ℕ). later w.passed (listen p w.lines k samples)) (zero-add w.passed)

    -- it goes on
    goes_on : (left : SoFar) (k : ℕ) → listen p w.lines w.passed samples ≡ still_going left k → Beside (timing_of p) w.lines samples (still_going left k)
        → GoodAfter (settled_at p minute w (still_going left k))
    unfolding settled_at
    goes_on left k e (both_go_on there n all h) =
        let whole : samples ≡ take k samples = sym (take_all k samples (omega (arith, all))) in
        record {
          round = subst (λ (l : List Stood). Holds p m used l w.round w.at) (sym (append-nil xs)) g.round;
          ear = listening_now (λ z. omega (arith, z))
              (subst (λ (l : List ℕ). listen p rest_state 0 (since ++ l) ≡ still_going left (w.passed + k)) whole (all_so ∙ ap (later w.passed) e))
              (legal-left p fine w.lines ok samples left k h);
        }

    -- polled again
    again : (told : MessageTold) (k : ℕ) → GoodAfter (settled_of (asked_again w) k w.at 0 0 (number_told told))
    again told k =
        record {
          round = subst (λ (l : List Stood). Holds p m used l w.round w.at) (sym (append-nil xs)) g.round;
          ear = drawing_now refl refl;
        }

    -- the reply stands
    module _ (told : MessageTold) (k : ℕ) (e : listen p w.lines w.passed samples ≡ settled_by told k) (row : Row) (others : List Row)
        (h : Holds p m used xs w.round w.at) (left_is : h.left ≡ row ∷ others) where
      abbrev x : Stood
      x = record { minute = minute; samples = since ++ take k samples }

      abbrev ours : Enrolled (row ∷ others)
      ours = subst Enrolled left_is h.enrolled

      abbrev q : Asked
      q =
          record {
            timing = timing_of p;
            settings = row.settings;
            minute = minute;
            address = row.address;
            timing-fine = fine;
            settings_in = ours.0;
            minute_fits = fits;
            address_in = ours.1;
          }

      abbrev c : ℕ
      c = count_told told

      abbrev bytes : List ℕ
      bytes = take (bytes_for c) (bytes_told told)

      was-heard : HeardOnLines (timing_of p) (since ++ take k samples) c bytes
      was-heard =
          subst (λ (l : List ℕ). HeardOnLines (timing_of p) l c bytes) (take_past since samples w.passed k (long-so p since w.lines w.passed so_far))
          (try-heard p fine (since ++ samples) told (w.passed + k) (all_so ∙ ap (later w.passed) e))

      abbrev poll : Poll
      poll = poll-for q (since ++ take k samples) c bytes was-heard

      abbrev entry : Polled
      entry = replied minute told (turn_of w)

      replies-are : w.round.replies ≡ h.answered ++ reply_for m row ∷ (map (reply_for m) others ++ h.tail)
      replies-are = h.holds ∙ ap (λ (l : List Row). h.answered ++ (map (reply_for m) l ++ h.tail)) left_is

      turn_is : turn_of w ≡ reply_for m row
      turn_is =
          ap (λ (l : List Polled). get_or l w.at no_entry) replies-are
          ∙ get_or_at h.answered (reply_for m row) (map (reply_for m) others ++ h.tail) no_entry w.at (sym h.here)

      entry-is : entry_in entry ≡ entry_for q c bytes
      entry-is =
          ap (λ (r : Polled). entry_in (replied minute told r)) turn_is
          ∙ ap (λ (l : List ℕ). entry_for q c l)
          (take-append-le (bytes_for c) (bytes_told told) (0 ∷ []) (omega (arith, bytes-eight told, few_bytes q (since ++ take k samples) c bytes was-heard)))

      poll-of : PollOf p row x poll
      unfolding poll-for
      poll-of = record { timing = refl; settings = refl; address = refl; minute = refl; samples = refl }

      by-its-poll : ByPoll p w x entry
      unfolding poll-for
      by-its-poll =
          record {
            row = row;
            settings = ap (λ (r : Polled). r.settings) turn_is;
            address = ap (λ (r : Polled). r.address) turn_is;
            poll = poll;
            its = poll-of;
            entry-is = entry-is;
            placed = let long = ap (length {A = Polled}) replies-are ∙ length-append h.answered (reply_for m row ∷ (map (reply_for m) others ++ h.tail)) in omega (arith, long, h.here);
          }

      stands-so : Holds p m used (xs ++ x ∷ []) (round_with w.round w.at entry) (w.at + 1)
      unfolding poll-for
      stands-so =
          let one : length (h.answered ++ entry ∷ []) ≡ length h.answered + 1 = length-append h.answered (entry ∷ []) in
          record {
            done = h.done ++ row ∷ [];
            left = others;
            all = h.all ∙ ap (λ (l : List Row). h.done ++ l) left_is ∙ sym (append_assoc h.done (row ∷ []) others);
            enrolled = ours.2;
            count = h.count;
            answered = h.answered ++ entry ∷ [];
            tail = h.tail;
            here = omega (arith, one, h.here);
            as_many = one ∙ ap (λ (j : ℕ). j + 1) h.as_many ∙ sym (length-append h.done (row ∷ []));
            holds = ap (λ (l : List Polled). set l w.at entry) replies-are
                ∙ set_at h.answered (reply_for m row) (map (reply_for m) others ++ h.tail) entry w.at (sym h.here)
                ∙ sym (append_assoc h.answered (entry ∷ []) (map (reply_for m) others ++ h.tail));
            polls = h.polls ++ poll ∷ [];
            in_step = step-more row x poll h.in_step poll-of;
            replies = subst (Replies (h.polls ++ poll ∷ []))
                (ap (λ (y : Entry). map entry_in h.answered ++ y ∷ []) (sym entry-is) ∙ sym (map_more entry_in h.answered entry))
                (replies-more poll c bytes was-heard h.replies);
          }

    some_left : leb w.round.count w.at ≡ false → g.round.left ≡ [] → ⊥
    some_left more is =
        let all : length used ≡ length g.round.done = ap length (g.round.all ∙ ap (λ (l : List Row). g.round.done ++ l) is ∙ append-nil g.round.done) in
        omega (arith, all, g.round.count, g.round.here, g.round.as_many, leb-false w.round.count w.at more)

    -- a reply stands where a row is left
    answers-so : (told : MessageTold) (k : ℕ) → listen p w.lines w.passed samples ≡ settled_by told k → leb w.round.count w.at ≡ false
        → Holds p m used (xs ++ record { minute = minute; samples = since ++ take k samples } ∷ []) (round_with w.round w.at (replied minute told (turn_of w))) (w.at + 1)
    answers-so told k e more = go g.round.left refl
      where
        go : (l : List Row) → g.round.left ≡ l
            → Holds p m used (xs ++ record { minute = minute; samples = since ++ take k samples } ∷ []) (round_with w.round w.at (replied minute told (turn_of w))) (w.at + 1)
        go [] is = absurd (some_left more is)
        go (row ∷ others) is = stands-so told k e row others g.round is

    pub by-poll : (told : MessageTold) (k : ℕ) → listen p w.lines w.passed samples ≡ settled_by told k → leb w.round.count w.at ≡ false
        → ByPoll p w (record { minute = minute; samples = since ++ take k samples }) (replied minute told (turn_of w))
    by-poll told k e more = go g.round.left refl
      where
        go : (l : List Row) → g.round.left ≡ l → ByPoll p w (record { minute = minute; samples = since ++ take k samples }) (replied minute told (turn_of w))
        go [] is = absurd (some_left more is)
        go (row ∷ others) is = by-its-poll told k e row others g.round is

    settles : leb w.round.count w.at ≡ false → (l : Listened) → listen p w.lines w.passed samples ≡ l → Beside (timing_of p) w.lines samples l
        → GoodAfter (settled_at p minute w l)
    unfolding settled_at
    settles more (still_going left k) e b = goes_on left k e b
    settles more (settled_by told k) e b = go (is_answered p w told)
      where
        go : (c : Bool)
            → GoodAfter (pick c (settled_of (answered_with minute told w) k w.at 1 (mark (is_over (answered_with minute told w))) (number_told told))
            (settled_of (asked_again w) k w.at 0 0 (number_told told)))
        go true = record { round = answers-so told k e more; ear = drawing_now refl refl }
        go false = again told k

  good-heard : GoodAfter (heard_by p minute w samples)
  unfolding heard_by
  good-heard = go (is_over w) refl (eqb w.listening 0) refl g.ear
    where
      go : (a : Bool) → is_over w ≡ a → (b : Bool) → eqb w.listening 0 ≡ b → Ear p since w
          → GoodAfter (pick a (settled_of w 0 0 0 1 0) (pick b (settled_of w 0 0 0 0 0) (settled_at p minute w (listen p w.lines w.passed samples))))
      go true o b e ear = at_rest 1
      go false o true e ear = at_rest 0
      go false o false e (drawing_now l none) = absurd (eqb-false w.listening 0 e l)
      go false o false e (listening_now l so ok) =
          settles l so ok (none_of (ltb most_replies w.round.count) (leb w.round.count w.at) o).1 (listen p w.lines w.passed samples) refl
          (beside p w.lines w.passed samples)

-- the calls, one after another
module _ (p : Pace) (fine : bad_pace p ≡ false) (timed : bad_timing (timing_of p) ≡ false) (m : ℕ) (used : List Row) (from : Polling) (start : Good p m used [] [] from) where
  pub good-run : {xs : List Stood} {since : List ℕ} {w : Polling} → Running p from xs since w → Good p m used xs since w
  good-run just_begun = start
  good-run (running.drew {xs = xs} {since = since} {w = w} out after answer r call) =
      subst (Good p m used xs since) (sym (leaves p fine w out after answer call)) (good-drawn p m used xs since w (length (drawn_by p w (length out))) (good-run r))
  good-run (heard {xs = xs} {since = since} {w = w} minute samples answer fits r call) =
      subst (λ (a : LeftByHearing). Good p m used (xs ++ stood_by a minute samples since) (since_after a samples since) a.polling) (sym (polling.heard-so p fine w minute samples answer call))
      (good-heard p timed m used xs since (meant p w) minute fits samples (good-meant p m used xs since w (good-run r)))

-- A round just begun.
pub beginning-is : (minute : ℕ) (board : List Row) → beginning minute board ≡ begun_with (map (reply_for minute) (used_rows board))
unfolding beginning
beginning-is minute board = refl

used-few : (l : List Row) → length (used_rows l) ≤ length l
unfolding used_rows
used-few [] = omega arith
used-few (row ∷ l) = go (is_free row) (used-few l)
  where
    go : (b : Bool) → length (used_rows l) ≤ length l → length (pick b (used_rows l) (row ∷ used_rows l)) ≤ suc (length l)
    go true h = omega arith
    go false h = omega arith

pub begun-by : (rows : List Row) (minute : ℕ) (b : Begun) → BeginsPolling rows minute b → b.number ≡ 0 → b.polling ≡ beginning minute (board_of rows)
begun-by rows minute b call zero-said = go (in_address_order (board_of rows)) call.answers
  where
    go : (c : Bool) → b ≡ pick c (begun (beginning minute (board_of rows)) 0) (begun nothing_begun 38) → b.polling ≡ beginning minute (board_of rows)
    go true e = ap (λ (x : Begun). x.polling) e
    go false e = absurd (omega (arith, zero-said, ap (λ (x : Begun). x.number) e))

pub good-begun : (p : Pace) (minute : ℕ) (used : List Row) → Enrolled used → Good p minute used [] [] (begun_with (map (reply_for minute) used))
good-begun p minute used ok =
    record {
      round = record {
        done = [];
        left = used;
        all = refl;
        enrolled = ok;
        count = length-map used (reply_for minute);
        answered = [];
        tail = replicate (most_replies - length (map (reply_for minute) used)) no_reply;
        here = refl;
        as_many = refl;
        holds = refl;
        polls = [];
        in_step = none_in_step;
        replies = none_polled;
      };
      ear = drawing_now refl refl;
    }

-- When it is over no row is left.
module _ (p : Pace) (m : ℕ) (used : List Row) (few : length used ≤ 30) (xs : List Stood) (w : Polling) (h : Holds p m used xs w.round w.at) where
  first-ones : take w.at w.round.replies ≡ h.answered
  first-ones =
      (λ i. take (h.here i) (h.holds i)) ∙ take-append_seam h.answered (map (reply_for m) h.left ++ h.tail)

  lengths : length used ≡ length h.done + length h.left
  lengths = ap length h.all ∙ length-append h.done h.left

  at-end : is_over w ≡ true → length h.left ≡ 0
  at-end o = go (ltb most_replies w.round.count) refl (leb w.round.count w.at) refl o
    where
      go : (a : Bool) → ltb most_replies w.round.count ≡ a → (b : Bool) → leb w.round.count w.at ≡ b → (a || b) ≡ true → length h.left ≡ 0
      go true e b f o = absurd (omega (arith, ltb-true most_replies w.round.count e, h.count, few))
      go false e true f o = omega (arith, leb-true w.round.count w.at f, h.count, h.here, h.as_many, lengths)
      go false e false f o = absurd (let z : ◌≡◌ {A = ℕ} 0 1 = cc in omega arith)

  none_left : is_over w ≡ true → h.left ≡ []
  none_left o = go h.left (at-end o)
    where
      go : (l : List Row) → length l ≡ 0 → l ≡ []
      go [] e = refl
      go (row ∷ l) e = absurd (omega (arith, e))

  all-of-them : is_over w ≡ true → w.round.count ≡ w.at
  all-of-them o = omega (arith, at-end o, h.count, h.here, h.as_many, lengths)

  ran-so : (rows : List Row) → used_rows (board_of rows) ≡ used → RanSo p rows xs w
  ran-so rows is =
      record {
        done = h.done;
        left = h.left;
        used = is ∙ h.all;
        polls = h.polls;
        in_step = h.in_step;
        replies = subst (λ (l : List Polled). Replies h.polls (map entry_in l)) (sym first-ones) h.replies;
        few = omega (arith, lengths, h.here, h.as_many, few);
        over = λ o. (none_left o, all-of-them o);
      }

-- The round that is saved has the replies of the polls.
saved-replies : (p : Pace) (rows : List Row) (xs : List Stood) (w : Polling) (ran : RanSo p rows xs w) (r : Round) → Ended w r → Replies ran.polls (entries_of r)
saved-replies p rows xs w ran r e = subst (Replies ran.polls) (sym (λ i. map entry_in (take (e.1 i) (e.0 i)))) ran.replies

few-replies : (p : Pace) (rows : List Row) (xs : List Stood) (w : Polling) (ran : RanSo p rows xs w) (r : Round) → Ended w r → r.count ≤ most_replies
few-replies p rows xs w ran r e = subst (λ (k : ℕ). k ≤ most_replies) (sym e.1) ran.few

pub run-by-the-recorder : RunByTheRecorder
run-by-the-recorder =
    record {
      ran = λ rows minute b call z ok p fine xs since w r.
          let used = used_rows (board_of rows) in
          let from : b.polling ≡ begun_with (map (reply_for minute) used) = begun-by rows minute b call z ∙ beginning-is minute (board_of rows) in
          let g = good-run p fine (timing-fine p fine) minute used b.polling (subst (Good p minute used [] []) (sym from) (good-begun p minute used ok)) r in
          ran-so p minute used (omega (arith, used-few (board_of rows), length-take 30 rows)) xs w g.round rows refl;
      saved = λ n ms sheet page month p rows xs w ran r e allowance answer after call.
          round_saved ran.polls r allowance answer after month (saved-replies p rows xs w ran r e) (few-replies p rows xs w ran r e) call;
      saved_with = λ n ms sheet page month p rows xs w ran r e allowance answer after call.
          round_kept ran.polls r allowance answer after month (saved-replies p rows xs w ran r e) (few-replies p rows xs w ran r e) call;
    }
