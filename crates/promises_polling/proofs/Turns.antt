-- In turn: from its end back to its beginning, a way has drawn what was pending of this try, so many tries more of the same transmitter, and then the others in turn. What
-- the last sample of a try settles takes one try more, or the next transmitter.
use mathlib.Core.Path.{◌≡◌, refl, sym, ap, ap₂, subst, ◌∙◌}
use mathlib.Core.Bool.{Bool, true, false, not, ◌&&◌, ◌||◌, true≢false}
use mathlib.Core.List.{List, [], ◌∷◌, ◌++◌, map, append_assoc}
use Prim.Native.Nat.{ℕ, zero, suc, ◌+◌, ◌-◌, ◌<◌, ◌≤◌}
use native.Mathlib.Omega.{arith}
use lib.Dec.{eqb, leb, ltb}
use lib.ListN.{length, get_or, take, drop, replicate, length-append, length-take, length-map, drop_of_length-le, get_or-map}
use lib.Seq.{drop-cons, get_or-take, take-append_seam}
use borrow.Author.Tests.{eq-eqb, ne_eqb, leb-true, leb-false, ltb-true}
use Rattle.frame.specs.Pick.{pick}
use Rattle.frame.specs.Line.{mark, formed}
use Rattle.frame.specs.Poll.{poll_line}
use Rattle.frame.proofs.Both.{both_left, both_right}
use Rattle.board.specs.declared.Row.{Row}
use Rattle.board.specs.Row.{is_free}
use Rattle.board.specs.Rows.{board_of}
use Rattle.board.specs.Order.{all_free, in_address_order_from, in_address_order}
use Rattle.lines.specs.Timing.{Timing, bad_timing}
use Rattle.lines.specs.SoFar.{rest_state}
use Rattle.lines.specs.Hearing.{MessageTold}
use Rattle.lines.proofs.Cases.{none_of, either}
use Rattle.round.specs.declared.Polled.{Polled}
use Rattle.round.specs.declared.Round.{Round}
use Rattle.polling.specs.declared.Begun.{Begun}
use Rattle.polling.specs.Drawing.{LeftByDrawing}
use Rattle.polling.specs.declared.Pace.{Pace}
use Rattle.polling.specs.declared.Polling.{Polling}
use Rattle.polling.specs.Pace.{bad_pace}
use Rattle.polling.specs.Beginning.{no_reply, no_entry, used_rows, reply_for, begun_with, beginning, nothing_begun}
use Rattle.polling.specs.Meant.{is_over, turn_of, try_drawn, draws, listens, meant}
use Rattle.polling.specs.Settling.{is_message, is_last, is_answered, asked_again, answered_with}
use Rattle.polling.specs.Calls.{begun, BeginsPolling, DrawsPolling}
use Rattle.promises_frame.specs.Bits.{AreBytes}
use Rattle.promises_frame.proofs.Cases.{by-lt}
use Rattle.promises_frame.proofs.Lines.{bytes-first_bytes}
use Rattle.promises_frame.proofs.Polls.{left-first}
use Rattle.promises_frame.proofs.BitsAreBits.{bits-are-bits}
use Rattle.promises_drawing.specs.Heard.{Spoken}
use Rattle.promises_drawing.specs.Wire.{written}
use Rattle.promises_drawing.proofs.Wire.{poll-on-the-wire}
use Rattle.promises_polling.specs.History.{any, Verdict, History}
use Rattle.promises_polling.specs.Batches.{AllPolled}
use Rattle.promises_polling.specs.Turns.{addresses_in, RisingFrom, UpTo999, PollSamples, repeated, InTurn, no_more, polled, PollsInTurn}
use Rattle.promises_polling.proofs.Meaning.{try_of, meant-over, meant-draws, meant-drawn, same-round}
use Rattle.promises_polling.proofs.Path.{Way, stop, draw_one, hear_on, hear_end, heard_now, told_at, settled_in}
use Rattle.promises_polling.proofs.Drawn.{drawn-so}
use Rattle.promises_polling.proofs.Paces.{fine-pace}
use Rattle.promises_polling.proofs.Kept.{at-below, same_count, same_parts, still-polled, some-try}
use Rattle.promises_polling.proofs.Batches.{way_of}
use Rattle.promises_polling.proofs.Fit.{used-few}
use Rattle.promises_polling.proofs.Tries.{is-formed, sent, poll-samples, try-is}

-- The addresses of a round's replies.
abbrev pub addrs : Polling → List ℕ
addrs w = take w.round.count (map (λ (r : Polled). r.address) w.round.replies)

-- A round each of whose transmitters has a reply and a poll.
pub record Ready (w : Polling) : Type 0 where
  pub all : AllPolled w
  pub full : w.round.count ≤ length w.round.replies
  pub few : w.round.count ≤ 30

ready_by : (v w : Polling) → v.round ≡ w.round → Ready w → Ready v
ready_by v w e r =
    subst (λ (x : Round). Ready (record { round = x; lines = v.lines; passed = v.passed; at = v.at; tried = v.tried; listening = v.listening })) (sym e)
    (record { all = r.all; full = r.full; few = r.few })

module _ (p : Pace) (minute : ℕ) (w : Polling) (told : MessageTold) where
  same-addresses : map (λ (r : Polled). r.address) (settled_in p minute w told).round.replies ≡ map (λ (r : Polled). r.address) w.round.replies
  same-addresses = same_parts p minute w told (λ (r : Polled). r.address) refl

  pub same-addrs : addrs (settled_in p minute w told) ≡ addrs w
  same-addrs = ap₂ take (same_count p minute w told) same-addresses

  pub settled-ready : Ready w → Ready (settled_in p minute w told)
  settled-ready r =
      let long = sym (length-map (settled_in p minute w told).round.replies (λ (r : Polled). r.address)) ∙ ap length same-addresses ∙ length-map w.round.replies (λ (r : Polled). r.address) in
      let count = same_count p minute w told in
      let full = r.full in
      let few = r.few in
      record { all = still-polled p minute w told r.all; full = omega (arith, long, count, full); few = omega (arith, count, few) }

-- The address whose turn it is.
turn-address : (w : Polling) → is_over w ≡ false → get_or (addrs w) w.at 0 ≡ (turn_of w).address
turn-address w e =
    get_or-take w.round.count (map (λ (r : Polled). r.address) w.round.replies) w.at 0 (at-below w e).0
    ∙ get_or-map (λ (r : Polled). r.address) w.round.replies w.at no_entry

addrs-long : (w : Polling) → Ready w → length (addrs w) ≡ w.round.count
addrs-long w r =
    let full = r.full in
    length-take w.round.count (map (λ (r : Polled). r.address) w.round.replies)
    ∙ omega (arith, length-map w.round.replies (λ (r : Polled). r.address), full)

repeat-more : (n : ℕ) (xs more : List ℕ) → repeated (suc n) xs ++ more ≡ xs ++ (repeated n xs ++ more)
unfolding repeated
repeat-more n xs more = append_assoc xs (repeated n xs) more

repeat-none : (xs more : List ℕ) → repeated 0 xs ++ more ≡ more
unfolding repeated
repeat-none xs more = refl

module _ (p : Pace) (fine : bad_pace p ≡ false) where
  -- What is still to be drawn of this try.
  abbrev pending : Polling → List ℕ
  pending w = pick (eqb w.listening 0) (drop w.passed (try_of p w)) []

  pending-draws : (w : Polling) → w.listening ≡ 0 → pending w ≡ drop w.passed (try_of p w)
  pending-draws w z = ap (λ (b : Bool). pick b (drop w.passed (try_of p w)) []) (eq-eqb w.listening 0 z)

  pending-hears : (w : Polling) → w.listening ≡ 1 → pending w ≡ []
  pending-hears w z = ap (λ (b : Bool). pick b (drop w.passed (try_of p w)) []) (ne_eqb w.listening 0 (omega arith))

  -- What comes of a state up to the end of the round.
  record Turn (w : Polling) (ds : List ℕ) : Type 0 where
    again : ℕ
    more : List ℕ
    few : again ≤ p.tries - w.tried - 1
    is : ds ≡ pending w ++ (repeated again (try_of p w) ++ more)
    next : InTurn p (drop (w.at + 1) (addrs w)) more

  data Yet (w : Polling) (ds : List ℕ) : Type 0 where
    none : is_over w ≡ true → ds ≡ [] → Yet w ds
    turn : is_over w ≡ false → Turn w ds → Yet w ds

  not-over : {A : Type 0} (w : Polling) → is_over w ≡ false → is_over w ≡ true → A
  not-over w e f = absurd (true≢false (sym f ∙ e))

  -- One sample drawn before it.
  draw-before : (w : Polling) → is_over w ≡ false → w.listening ≡ 0 → w.passed < length (try_of p w) → (ds : List ℕ)
      → Yet (meant p (draws w (w.passed + 1))) ds → Yet w (get_or (try_of p w) w.passed 0 ∷ ds)
  draw-before w e z l ds y = by-lt (w.passed + 1) (length (try_of p w)) goes ends
    where
      first : get_or (try_of p w) w.passed 0 ∷ drop (w.passed + 1) (try_of p w) ≡ pending w
      first =
          let next : w.passed + 1 ≡ suc w.passed = omega arith in
          ap (λ (n : ℕ). get_or (try_of p w) w.passed 0 ∷ drop n (try_of p w)) next ∙ sym (drop-cons (try_of p w) w.passed 0 l) ∙ sym (pending-draws w z)

      by-goes : Yet (draws w (w.passed + 1)) ds → Yet w (get_or (try_of p w) w.passed 0 ∷ ds)
      by-goes (none o n) = not-over w e o
      by-goes (turn o t) =
          turn e
          (record {
            again = t.again;
            more = t.more;
            few = t.few;
            is = ap (λ (x : List ℕ). get_or (try_of p w) w.passed 0 ∷ x) t.is ∙ ap (λ (x : List ℕ). x ++ (repeated t.again (try_of p w) ++ t.more)) first;
            next = t.next;
          })

      by-ends : drop (w.passed + 1) (try_of p w) ≡ [] → Yet (listens w rest_state 0) ds → Yet w (get_or (try_of p w) w.passed 0 ∷ ds)
      by-ends q (none o n) = not-over w e o
      by-ends q (turn o t) =
          turn e
          (record {
            again = t.again;
            more = t.more;
            few = t.few;
            is = ap (λ (x : List ℕ). get_or (try_of p w) w.passed 0 ∷ x) t.is
                ∙ ap (λ (x : List ℕ). (get_or (try_of p w) w.passed 0 ∷ x) ++ (repeated t.again (try_of p w) ++ t.more)) (sym q)
                ∙ ap (λ (x : List ℕ). x ++ (repeated t.again (try_of p w) ++ t.more)) first;
            next = t.next;
          })

      goes : w.passed + 1 < length (try_of p w) → Yet w (get_or (try_of p w) w.passed 0 ∷ ds)
      goes h = by-goes (subst (λ (v : Polling). Yet v ds) (meant-draws p w (w.passed + 1) e h) y)

      ends : length (try_of p w) ≤ w.passed + 1 → Yet w (get_or (try_of p w) w.passed 0 ∷ ds)
      ends h = by-ends (drop_of_length-le (try_of p w) h) (subst (λ (v : Polling). Yet v ds) (meant-drawn p w (w.passed + 1) e h) y)

  -- A transmitter's turn from its beginning.
  begins : (v : Polling) → v.passed ≡ 0 → v.tried ≡ 0 → v.listening ≡ 0 → Ready v → (ds : List ℕ) → Yet v ds → InTurn p (drop v.at (addrs v)) ds
  begins v q k z r ds (none o n) =
      let over : v.round.count ≤ v.at = either (ltb 30 v.round.count) (leb v.round.count v.at) o (λ many. absurd (omega (arith, ltb-true 30 v.round.count many, r.few))) (λ e. leb-true v.round.count v.at e) in
      let empty : drop v.at (addrs v) ≡ [] = drop_of_length-le (addrs v) {i = v.at} (omega (arith, addrs-long v r, over)) in
      subst (λ (l : List ℕ). InTurn p l ds) (sym empty) (subst (λ (l : List ℕ). InTurn p [] l) (sym n) no_more)
  begins v q k z r ds (turn e t) =
      let a : ℕ = (turn_of v).address in
      let small : a ≤ 999 = r.all v.at (at-below v e).0 in
      let below : v.at < length (addrs v) = omega (arith, addrs-long v r, (at-below v e).0) in
      let next : v.at + 1 ≡ suc v.at = omega arith in
      let list : drop v.at (addrs v) ≡ a ∷ drop (v.at + 1) (addrs v)
      = drop-cons (addrs v) v.at 0 below ∙ ap₂ (λ (x : ℕ) (n : ℕ). x ∷ drop n (addrs v)) (turn-address v e) (sym next) in
      let try : try_of p v ≡ replicate p.delay 0 ++ sent a small p fine = try-is a small p fine in
      let some = (fine-pace p fine).tries in
      let few = t.few in
      let samples : repeated (suc t.again) (replicate p.delay 0 ++ sent a small p fine) ++ t.more ≡ ds
      = ap (λ (x : List ℕ). repeated (suc t.again) x ++ t.more) (sym try) ∙ repeat-more t.again (try_of p v) t.more
      ∙ ap (λ (x : List ℕ). x ++ (repeated t.again (try_of p v) ++ t.more)) (sym (pending-draws v z ∙ ap (λ (n : ℕ). drop n (try_of p v)) q)) ∙ sym t.is in
      subst (λ (l : List ℕ). InTurn p l ds) (sym list)
      (subst (λ (l : List ℕ). InTurn p (a ∷ drop (v.at + 1) (addrs v)) l) samples
      (polled a (suc t.again) (sent a small p fine) (omega arith) (omega (arith, few, some, k)) (poll-samples a small p fine) t.next))

  -- A sample heard before it that goes on.
  hear-before : (w v : Polling) → is_over w ≡ false → w.listening ≡ 1 → v.listening ≡ 1 → v.round ≡ w.round → v.at ≡ w.at → v.tried ≡ w.tried → (ds : List ℕ) → Yet v ds → Yet w ds
  hear-before w v e z u r a k ds (none o n) =
      not-over w e (ap₂ (λ (x : Round) (i : ℕ). ltb 30 x.count || leb x.count i) (sym r) (sym a) ∙ o)
  hear-before w v e z u r a k ds (turn o t) =
      let same : try_of p v ≡ try_of p w = ap₂ (λ (x : Round) (i : ℕ). try_drawn p (get_or x.replies i no_entry).address) r a in
      turn e
      (record {
        again = t.again;
        more = t.more;
        few = subst (λ (n : ℕ). t.again ≤ p.tries - n - 1) k t.few;
        is = t.is ∙ ap₂ (λ (x y : List ℕ). x ++ (repeated t.again y ++ t.more)) (pending-hears v u ∙ sym (pending-hears w z)) same;
        next = subst (λ (l : List ℕ). InTurn p l t.more)
            (ap₂ (λ (x : Round) (i : ℕ). drop (i + 1) (take x.count (map (λ (r : Polled). r.address) x.replies))) r a) t.next;
      })

  -- A sample before it that settles a try.
  again-before : (w : Polling) (told : MessageTold) → is_over w ≡ false → w.listening ≡ 1 → Ready w → is_answered p w told ≡ false → (ds : List ℕ) → Yet (meant p (asked_again w)) ds → Yet w ds
  again-before w told e z r f ds y = go (subst (λ (v : Polling). Yet v ds) (meant-draws p (asked_again w) 0 e (some-try p fine w r.all e)) y)
    where
      not_last : w.tried + 1 < p.tries
      not_last = leb-false p.tries (w.tried + 1) (none_of (is_message told) (is_last p w) f).1

      go : Yet (asked_again w) ds → Yet w ds
      go (none o n) = not-over w e o
      go (turn o t) =
          let few = t.few in
          turn e
          (record {
            again = suc t.again;
            more = t.more;
            few = omega (arith, few, not_last);
            is = t.is ∙ sym (repeat-more t.again (try_of p w) t.more) ∙ ap (λ (x : List ℕ). x ++ (repeated (suc t.again) (try_of p w) ++ t.more)) (sym (pending-hears w z));
            next = t.next;
          })

  next-before : (w : Polling) (minute : ℕ) (told : MessageTold) → is_over w ≡ false → w.listening ≡ 1 → Ready w → is_answered p w told ≡ true → (ds : List ℕ)
      → Yet (meant p (answered_with minute told w)) ds → Yet w ds
  next-before w minute told e z r f ds y =
      let is : settled_in p minute w told ≡ answered_with minute told w = ap (λ (b : Bool). pick b (answered_with minute told w) (asked_again w)) f in
      let ready : Ready (answered_with minute told w) = subst Ready is (settled-ready p minute w told r) in
      let same : addrs (answered_with minute told w) ≡ addrs w = ap addrs (sym is) ∙ same-addrs p minute w told in
      let all : InTurn p (drop (w.at + 1) (addrs (answered_with minute told w))) ds = begins (answered_with minute told w) refl refl refl ready ds (itself ready (is_over (answered_with minute told w)) refl) in
      turn e
      (record {
        again = 0;
        more = ds;
        few = omega arith;
        is = sym (repeat-none (try_of p w) ds) ∙ ap (λ (x : List ℕ). x ++ (repeated 0 (try_of p w) ++ ds)) (sym (pending-hears w z));
        next = subst (λ (l : List ℕ). InTurn p (drop (w.at + 1) l) ds) same all;
      })
    where
      itself : Ready (answered_with minute told w) → (b : Bool) → is_over (answered_with minute told w) ≡ b → Yet (answered_with minute told w) ds
      itself ready true o = subst (λ (v : Polling). Yet v ds) (meant-over p (answered_with minute told w) o) y
      itself ready false o =
          subst (λ (v : Polling). Yet v ds) (meant-draws p (answered_with minute told w) 0 o (some-try p fine (answered_with minute told w) ready.all o)) y

  end_before : (w : Polling) (minute : ℕ) (told : MessageTold) → is_over w ≡ false → w.listening ≡ 1 → Ready w → (ds : List ℕ) → Yet (meant p (settled_in p minute w told)) ds → Yet w ds
  end_before w minute told e z r ds y = go (is_answered p w told) refl y
    where
      go : (b : Bool) → is_answered p w told ≡ b → Yet (meant p (pick b (answered_with minute told w) (asked_again w))) ds → Yet w ds
      go true f y = next-before w minute told e z r f ds y
      go false f y = again-before w told e z r f ds y

  -- A whole way.
  all-turns : {w e : Polling} {ds xs : List ℕ} {vs : List Verdict} → Way p any w ds xs vs e → is_over e ≡ true → Ready w → Yet w ds
  all-turns stop o r = none o refl
  all-turns {w} (draw_one {ds = ds} e z l h) o r =
      draw-before w e z l ds (all-turns h o (ready_by (meant p (draws w (w.passed + 1))) w (same-round p (draws w (w.passed + 1))).0 r))
  all-turns {w} {ds = ds} (hear_on x e z l f h) o r =
      hear-before w (listens w (heard_now p w x) (w.passed + 1)) e z refl refl refl refl ds
      (all-turns h o (ready_by (listens w (heard_now p w x) (w.passed + 1)) w refl r))
  all-turns {w} {ds = ds} (hear_end minute x c e z l f h) o r =
      let told : MessageTold = told_at p (heard_now p w x) (w.passed + 1) in
      let v : Polling = settled_in p minute w told in
      end_before w minute told e z r ds (all-turns h o (ready_by (meant p v) v (same-round p v).0 (settled-ready p minute w told r)))

  pub from-begin : (v : Polling) → v.passed ≡ 0 → v.tried ≡ 0 → v.listening ≡ 0 → v.lines ≡ rest_state → Ready v → {ds xs : List ℕ} {vs : List Verdict} {e : Polling} → Way p any (meant p v) ds xs vs e → is_over e ≡ true
      → InTurn p (drop v.at (addrs v)) ds
  from-begin v q k z s r {ds} h o =
      begins v q k z r ds (subst (λ (u : Polling). Yet u ds) (itself (is_over v) refl) (all-turns h o (ready_by (meant p v) v (same-round p v).0 r)))
    where
      whole : v ≡ draws v 0
      whole i = record { round = v.round; lines = s i; passed = q i; at = v.at; tried = v.tried; listening = z i }

      itself : (b : Bool) → is_over v ≡ b → meant p v ≡ v
      itself true f = meant-over p v f
      itself false f = ap (meant p) whole ∙ meant-draws p v 0 f (some-try p fine v r.all f) ∙ sym whole

-- The beginning of a round.
map-map-append : (l r : List Polled) → map (λ (x : Polled). x.address) (l ++ r) ≡ map (λ (x : Polled). x.address) l ++ map (λ (x : Polled). x.address) r
map-map-append [] r = refl
map-map-append (x ∷ l) r = ap (λ (m : List ℕ). x.address ∷ m) (map-map-append l r)

used-addresses : (minute : ℕ) (rows : List Row) → map (λ (x : Polled). x.address) (map (reply_for minute) (used_rows rows)) ≡ addresses_in rows
unfolding used_rows addresses_in
used-addresses minute [] = refl
used-addresses minute (row ∷ rows) = go (is_free row) (used-addresses minute rows)
  where
    go : (b : Bool) → map (λ (x : Polled). x.address) (map (reply_for minute) (used_rows rows)) ≡ addresses_in rows
        → map (λ (x : Polled). x.address) (map (reply_for minute) (pick b (used_rows rows) (row ∷ used_rows rows))) ≡ pick (not b) (row.address ∷ addresses_in rows) (addresses_in rows)
    go true h = h
    go false h = ap (λ (m : List ℕ). row.address ∷ m) h

up_to : (l : List ℕ) → UpTo999 l → (i : ℕ) → get_or l i 0 ≤ 999
up_to [] h i = omega arith
up_to (a ∷ l) h zero = h.0
up_to (a ∷ l) h (suc i) = up_to l h.1 i

module _ (rows : List Row) (minute : ℕ) where
  abbrev replies : List Polled
  replies = map (reply_for minute) (used_rows (board_of rows))

  abbrev start : Polling
  start = begun_with replies

  start-addrs : addrs start ≡ addresses_in (board_of rows)
  start-addrs =
      let f : Polled → ℕ = λ (x : Polled). x.address in
      ap (take (length replies)) (map-map-append replies (replicate (30 - length replies) no_reply))
      ∙ ap (λ (n : ℕ). take n (map f replies ++ map f (replicate (30 - length replies) no_reply))) (sym (length-map replies f))
      ∙ take-append_seam (map f replies) (map f (replicate (30 - length replies) no_reply)) ∙ used-addresses minute (board_of rows)

  start-ready : UpTo999 (addresses_in (board_of rows)) → Ready start
  start-ready h =
      let long = length-append replies (replicate (30 - length replies) no_reply) in
      let many = used-few minute (board_of rows) in
      let board = length-take 30 rows in
      record { all = λ i l. small i l; full = omega (arith, long); few = omega (arith, many, board) }
    where
      small : (i : ℕ) → i < length replies → (get_or start.round.replies i no_entry).address ≤ 999
      small i l =
          let is : (get_or start.round.replies i no_entry).address ≡ get_or (addresses_in (board_of rows)) i 0
          = sym (get_or-map (λ (x : Polled). x.address) start.round.replies i no_entry)
          ∙ sym (get_or-take (length replies) (map (λ (x : Polled). x.address) start.round.replies) i 0 l) ∙ ap (λ (m : List ℕ). get_or m i 0) start-addrs in
          omega (arith, is, up_to (addresses_in (board_of rows)) h i)

-- A round that was begun, of a board that is kept in order.
was-begun : (rows : List Row) (minute : ℕ) (b : Begun) → BeginsPolling rows minute b → b.number ≡ 0 → (in_address_order (board_of rows) ≡ true) × (b.polling ≡ start rows minute)
unfolding beginning nothing_begun
was-begun rows minute b h z = go (in_address_order (board_of rows)) refl
  where
    go : (k : Bool) → in_address_order (board_of rows) ≡ k → (in_address_order (board_of rows) ≡ true) × (b.polling ≡ start rows minute)
    go true k = (k, ap (λ (x : Begun). x.polling) h.answers ∙ ap (λ (t : Bool). (pick t (begun (beginning minute (board_of rows)) 0) (begun nothing_begun 38)).polling) k)
    go false k =
        absurd (omega (arith, z, ap (λ (x : Begun). x.number) h.answers ∙ ap (λ (t : Bool). (pick t (begun (beginning minute (board_of rows)) 0) (begun nothing_begun 38)).number) k))

in-turn-so : (rows : List Row) (minute : ℕ) (b : Begun) → BeginsPolling rows minute b → b.number ≡ 0 → UpTo999 (addresses_in (board_of rows))
    → (p : Pace) → bad_pace p ≡ false → {ds xs : List ℕ} {vs : List Verdict} {end : Polling} → History p any b.polling ds xs vs end
    → (out after : List ℕ) (d : LeftByDrawing) → DrawsPolling end p out d after → d.over ≡ 1 → InTurn p (addresses_in (board_of rows)) ds
in-turn-so rows minute b g z h p fine {ds} {xs} {vs} {end} calls out after d c o =
    let is : b.polling ≡ start rows minute = (was-begun rows minute b g z).1 in
    let way = way_of p fine any (start rows minute) (subst (λ (w : Polling). History p any w ds xs vs end) is calls) in
    subst (λ (l : List ℕ). InTurn p l ds) (start-addrs rows minute)
    (from-begin p fine (start rows minute) refl refl refl refl (start-ready rows minute h) way ((same-round p end).2 ∙ is-over (is_over end) (ap (λ (x : LeftByDrawing). x.over) (drawn-so p fine end out after d c))))
  where
    is-over : (t : Bool) → d.over ≡ mark t → t ≡ true
    is-over true e = refl
    is-over false e = absurd (omega (arith, e, o))

-- The board's order.
none-in-use : (rows : List Row) → all_free rows ≡ true → addresses_in rows ≡ []
unfolding all_free addresses_in
none-in-use [] e = refl
none-in-use (row ∷ rows) e =
    ap (λ (t : Bool). pick (not t) (row.address ∷ addresses_in rows) (addresses_in rows)) (both_left (is_free row) (all_free rows) e)
    ∙ none-in-use rows (both_right (is_free row) (all_free rows) e)

rising-from : (least : ℕ) (rows : List Row) → in_address_order_from least rows ≡ true → RisingFrom least (addresses_in rows)
unfolding in_address_order_from addresses_in
rising-from least [] e = omega arith
rising-from least (row ∷ rows) e = go (is_free row) e (rising-from (suc row.address) rows)
  where
    go : (t : Bool) → pick t (all_free rows) (leb least row.address && in_address_order_from (suc row.address) rows) ≡ true
        → (in_address_order_from (suc row.address) rows ≡ true → RisingFrom (suc row.address) (addresses_in rows))
        → RisingFrom least (pick (not t) (row.address ∷ addresses_in rows) (addresses_in rows))
    go true e h = subst (RisingFrom least) (sym (none-in-use rows e)) (omega arith)
    go false e h = (
      leb-true least row.address (both_left (leb least row.address) (in_address_order_from (suc row.address) rows) e),
      h (both_right (leb least row.address) (in_address_order_from (suc row.address) rows) e),
    )

-- A poll that was drawn, spoken to any such ear.
spoken : (p : Pace) (address : ℕ) (sent : List ℕ) (q : PollSamples p address sent) (t : Timing) → bad_timing t ≡ false → t.least ≤ p.low → p.low ≤ t.most → 1 ≤ p.still → p.still < t.gap
    → Spoken t p.low p.still 16 q.bytes sent
spoken p address sent q t good l m s g =
    let is = (left-first (record { address = address; raise = false; reset = false }) q.up_to_999 q.bytes q.poll).1 in
    let are : AreBytes q.bytes = subst AreBytes (sym is) (bytes-first_bytes 2 (poll_line address false false) (omega arith)) in
    record {
      timing_good = good;
      pulse_heard = (l, m);
      idle_short = (s, g);
      some = omega arith;
      bytes = are;
      in-form = (bits-are-bits.form 16 q.bytes are).0 (ap (formed 16) is ∙ is-formed address q.up_to_999);
      drawn = q.drawn;
      to_the_end = q.to_the_end;
    }

pub polls-in-turn : PollsInTurn
polls-in-turn =
    record {
      in-turn = λ rows minute b g z h p fine ds xs vs end calls out after d c o. in-turn-so rows minute b g z h p fine calls out after d c o;
      rising = λ rows minute b g z. rising-from 0 (board_of rows) (was-begun rows minute b g z).0;
      read_again = λ p address sent q t good l m s g earlier batch rest st a h c some e got r.
          poll-on-the-wire.read (record { address = address; raise = false; reset = false }) q.bytes (written q.up_to_999 q.poll) t p.low p.still sent
          (spoken p address sent q t good l m s g) earlier batch rest st a h c some e got r;
    }
