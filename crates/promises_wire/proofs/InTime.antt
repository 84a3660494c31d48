-- What has been sensed since the poll, and what a call is lent, are listened to as one stream. Where that begins with a reading sent in time it is settled by its message,
-- at its last sample; and not before, since what settles a part settles the whole. Of the poll so settled `said-so` says the rest.
use mathlib.Core.Path.{◌≡◌, refl, sym, ap, subst, ◌∙◌}
use mathlib.Core.Bool.{Bool, true, false, ◌&&◌}
use mathlib.Core.List.{List, [], ◌∷◌, ◌++◌, append-nil}
use Prim.Native.Nat.{ℕ, ◌+◌, ◌^◌, ◌<◌, ◌≤◌}
use native.Mathlib.Omega.{arith}
use lib.Dec.{leb, ltb}
use lib.ListN.{length, get_or, take, length-append}
use lib.Seq.{take-append_seam, get_or-set_same}
use Rattle.frame.specs.Line.{mark}
use Rattle.frame.specs.Pick.{pick}
use Rattle.frame.specs.Reply.{count_for}
use Rattle.sheet.specs.Record.{entry_of}
use Rattle.board.specs.declared.Row.{Row}
use Rattle.board.specs.Rows.{board_of}
use Rattle.lines.specs.declared.SoFar.{SoFar}
use Rattle.lines.specs.Sample.{sample_of}
use Rattle.lines.specs.SoFar.{rest_state, is_rest, legal}
use Rattle.lines.specs.Step.{after, closes}
use Rattle.lines.specs.Hearing.{MessageTold, nothing, message, told_of}
use Rattle.lines.proofs.Cases.{none_of}
use Rattle.round.specs.declared.Polled.{Polled}
use Rattle.round.specs.Replies.{entry_in}
use Rattle.round.specs.Calls.{most_replies}
use Rattle.polling.specs.declared.Pace.{Pace}
use Rattle.polling.specs.declared.Polling.{Polling}
use Rattle.polling.specs.Settling.{LeftByHearing}
use Rattle.polling.specs.Pace.{timing_of}
use Rattle.polling.specs.Beginning.{no_entry, used_rows}
use Rattle.polling.specs.Meant.{is_over, turn_of, listens}
use Rattle.polling.specs.Listening.{Listened, still_going, settled_by, later, given_up, settle, listen}
use Rattle.polling.specs.Settling.{replied, answered_with, settled_of, settled_at}
use Rattle.polling.specs.Calls.{heard_by, HearsPolling}
use Rattle.promises_lines.proofs.Ends.{meant_itself}
use Rattle.promises_polling.proofs.Meaning.{listening-by}
use Rattle.promises_polling.proofs.Heard.{timing-fine, heard-so, heard-listening}
use Rattle.promises_wire.specs.Polls.{Poll}
use Rattle.promises_wire.specs.Wire.{samples_of, Sent}
use Rattle.promises_wire.specs.Running.{Stood, PollOf}
use Rattle.promises_wire.specs.TankToDesk.{SaysSo}
use Rattle.promises_wire.specs.InTime.{InTime, SentBy, OnItsWay, Listens, GoesOn, StandsSo, SaidInTime}
use Rattle.promises_wire.proofs.SaidSo.{said-so}
use Rattle.promises_wire.proofs.Tries.{is_settled, taken_by, Beside, both_go_on, both_ended, beside}
use Rattle.promises_wire.proofs.Running.{Good, Ear, drawing_now, listening_now, ByPoll, by-poll, all_so, long-so, take_past, good-run, good-begun, begun-by, beginning-is}
use Rattle.promises_wire.proofs.Timely.{listens-to}

abbrev told_by : Listened → MessageTold
told_by (still_going left taken) = nothing
told_by (settled_by told taken) = told

-- What settles a part settles the whole.
pub listen-settled : (p : Pace) (s : SoFar) (q : ℕ) (xs ys : List ℕ) (told : MessageTold) (n : ℕ) → listen p s q xs ≡ settled_by told n → listen p s q (xs ++ ys) ≡ settled_by told n
unfolding listen settle
listen-settled p s q [] ys told n e = absurd (omega (arith, ap is_settled e))
listen-settled p s q (x ∷ xs) ys told n e =
    go (closes (timing_of p) m) (is_rest m && leb p.wait (q + 1)) (leb p.longest (q + 1)) e (listen p m (q + 1) xs) refl (listen-settled p m (q + 1) xs ys)
  where
    m : SoFar
    m = after (timing_of p) s (sample_of x)

    go : (a b c : Bool) → pick a (settled_by (told_of m) 1) (pick b (settled_by nothing 1) (pick c (settled_by (given_up m) 1) (later 1 (listen p m (q + 1) xs)))) ≡ settled_by told n
        → (l : Listened) → listen p m (q + 1) xs ≡ l
        → ((told : MessageTold) (n : ℕ) → listen p m (q + 1) xs ≡ settled_by told n → listen p m (q + 1) (xs ++ ys) ≡ settled_by told n)
        → pick a (settled_by (told_of m) 1) (pick b (settled_by nothing 1) (pick c (settled_by (given_up m) 1) (later 1 (listen p m (q + 1) (xs ++ ys))))) ≡ settled_by told n
    go true b c h l r more = h
    go false true c h l r more = h
    go false false true h l r more = h
    go false false false h (still_going left k) r more = absurd (omega (arith, ap is_settled (sym (ap (later 1) r) ∙ h)))
    go false false false h (settled_by u k) r more = ap (later 1) (more u k r) ∙ sym (ap (later 1) r) ∙ h

-- A round on its way, which listens.
module _ (p : Pace) (rows : List Row) (xs : List Stood) (since : List ℕ) (w : Polling) (way : OnItsWay p rows xs since w) (on : Listens w) where
  abbrev used : List Row
  used = used_rows (board_of rows)

  abbrev m : ℕ
  m = way.minute

  pub so : Good p m used xs since w
  so =
      let from = begun-by rows m way.begun way.begins way.accepted ∙ beginning-is m (board_of rows) in
      good-run p way.paced (timing-fine p way.paced) m used way.begun.polling (subst (Good p m used [] []) (sym from) (good-begun p m used way.enrolled)) way.calls

  ear : (listen p rest_state 0 since ≡ still_going w.lines w.passed) × (legal w.lines ≡ true)
  ear = go so.ear
    where
      go : Ear p since w → (listen p rest_state 0 since ≡ still_going w.lines w.passed) × (legal w.lines ≡ true)
      go (drawing_now l e) = absurd (on.1 l)
      go (listening_now l e ok) = (e, ok)

  abbrev here : Polling
  here = listens w w.lines w.passed

  -- a call that hears
  module _ (minute : ℕ) (samples : List ℕ) (a : LeftByHearing) (call : HearsPolling w p minute samples a) where
    hears : a ≡ settled_at p minute here (listen p w.lines w.passed samples)
    hears =
        heard-so p way.paced w minute samples a call
        ∙ ap (λ (v : Polling). heard_by p minute v samples) (listening-by p w on.0 on.1 ∙ ap (λ (s : SoFar). listens w s w.passed) (meant_itself w.lines ear.1))
        ∙ heard-listening p minute w w.lines w.passed samples on.0

    whole : listen p rest_state 0 (since ++ samples) ≡ later w.passed (listen p w.lines w.passed samples)
    whole = all_so p (timing-fine p way.paced) m used xs since w 0 (omega arith) samples so on.1 ear.0 ear.1

    -- some of it
    module _ (x : Sent) (timely : InTime p x) (more : List ℕ) (is : since ++ samples ++ more ≡ samples_of x.drawing) (some : 1 ≤ length more) where
      goes : (l : Listened) → listen p w.lines w.passed samples ≡ l → Beside (timing_of p) w.lines samples l → GoesOn samples a
      unfolding settled_at
      goes (still_going left k) e (both_go_on there n all h) =
          let answer : a ≡ settled_of (listens here left (w.passed + k)) k 0 0 0 0 = hears ∙ ap (settled_at p minute here) e in
          record {
            taken = ap (λ (b : LeftByHearing). b.taken) answer ∙ all;
            answered = ap (λ (b : LeftByHearing). b.answered) answer;
            listens = (ap (λ (b : LeftByHearing). is_over b.polling) answer ∙ on.0, λ z. omega (arith, z, ap (λ (b : LeftByHearing). b.polling.listening) answer));
          }
      goes (settled_by told k) e (both_ended u n h few f took same) =
          let part : listen p rest_state 0 (since ++ samples) ≡ settled_by told (w.passed + k) = whole ∙ ap (later w.passed) e in
          let all : listen p rest_state 0 (samples_of x.drawing ++ []) ≡ settled_by told (w.passed + k)
          = ap (listen p rest_state 0) (append-nil (samples_of x.drawing) ∙ sym is) ∙ listen-settled p rest_state 0 (since ++ samples) more told (w.passed + k) part in
          let last : w.passed + k ≡ length (samples_of x.drawing) = ap taken_by (sym all ∙ (listens-to p way.paced x timely []).is) in
          let size : length (samples_of x.drawing) ≡ length since + length samples + length more
          = ap length (sym is) ∙ length-append (since ++ samples) more ∙ ap (λ (j : ℕ). j + length more) (length-append since samples) in
          let passed : w.passed ≡ length since = long-so p since w.lines w.passed ear.0 in
          absurd (omega (arith, last, size, passed, few, some))

    -- all of it
    module _ (x : Sent) (timely : InTime p x) (more : List ℕ) (is : since ++ samples ≡ samples_of x.drawing ++ more) where
      abbrev told : MessageTold
      told = let r = listens-to p way.paced x timely more in message r.count r.bits

      abbrev answer : ℕ → LeftByHearing
      answer k = settled_of (answered_with minute told here) k w.at 1 (mark (is_over (answered_with minute told here))) 0

      record HeardAll : Type 0 where
        k : ℕ
        settles : listen p w.lines w.passed samples ≡ settled_by told k
        answers : a ≡ answer k
        taken : since ++ take k samples ≡ samples_of x.drawing

      heard_all : HeardAll
      unfolding settled_at
      heard_all = go (listen p w.lines w.passed samples) refl
        where
          all : later w.passed (listen p w.lines w.passed samples) ≡ settled_by told (length (samples_of x.drawing))
          all = sym whole ∙ ap (listen p rest_state 0) is ∙ (listens-to p way.paced x timely more).is

          go : (l : Listened) → listen p w.lines w.passed samples ≡ l → HeardAll
          go (still_going left k) e = absurd (omega (arith, ap is_settled (sym (ap (later w.passed) e) ∙ all)))
          go (settled_by u k) e =
              let both : settled_by u (w.passed + k) ≡ settled_by told (length (samples_of x.drawing)) = sym (ap (later w.passed) e) ∙ all in
              let by : listen p w.lines w.passed samples ≡ settled_by told k = e ∙ ap (λ (v : MessageTold). settled_by v k) (ap told_by both) in
              let sum : w.passed + k ≡ length (samples_of x.drawing) = ap taken_by both in
              record {
                k = k;
                settles = by;
                answers = hears ∙ ap (settled_at p minute here) by;
                taken = sym (take_past since samples w.passed k (long-so p since w.lines w.passed ear.0)) ∙ (λ i. take (sum i) (is i))
                    ∙ take-append_seam (samples_of x.drawing) more;
              }

      pub settled-so : (a.answered ≡ 1) × (since ++ take a.taken samples ≡ samples_of x.drawing) × (a.polling.listening ≡ 0)
      settled-so =
          let h = heard_all in (
            ap (λ (c : LeftByHearing). c.answered) h.answers,
            ap (λ (c : LeftByHearing). since ++ take c.taken samples) h.answers ∙ h.taken,
            ap (λ (c : LeftByHearing). c.polling.listening) h.answers,
          )

      stands-so : SentBy (turn_of w).settings (turn_of w).address x → minute < 2 ^ 32 → StandsSo w since samples x minute a
      stands-so by fits =
          let h = heard_all in
          let entry : Polled = replied minute told (turn_of w) in
          let b : ByPoll p w (record { minute = minute; samples = since ++ take h.k samples }) entry
          = by-poll p (timing-fine p way.paced) m used xs since w minute fits samples so on.1 ear.0 ear.1 told h.k h.settles
          (none_of (ltb most_replies w.round.count) (leb w.round.count w.at) on.0).1 in
          let says : SaysSo x b.poll
          = said-so x b.poll
          (record { timing = b.its.timing ∙ sym timely.timing; settings = b.its.settings ∙ sym b.settings ∙ sym by.0; address = b.its.address ∙ sym b.address ∙ sym by.1 })
          (b.its.samples ∙ h.taken) in
          record {
            answered = settled-so.0;
            number = ap (λ (c : LeftByHearing). c.number) h.answers;
            reply = ap (λ (c : LeftByHearing). c.reply) h.answers;
            taken = settled-so.1;
            entry = ap (λ (c : LeftByHearing). entry_in (get_or c.polling.round.replies w.at no_entry)) h.answers
                ∙ ap entry_in (get_or-set_same w.round.replies w.at entry no_entry b.placed)
                ∙ b.entry-is ∙ says.entry
                ∙ (λ i. entry_of ((b.its.settings ∙ sym b.settings) i) (b.its.minute i) ((b.its.address ∙ sym b.address) i) (count_for x.reading) x.bytes);
          }

pub says-in-time : (p : Pace) (row : Row) (s : Stood) (q : Poll) → PollOf p row s q → (x : Sent) → InTime p x → SentBy row.settings row.address x
    → s.samples ≡ samples_of x.drawing → SaysSo x q
says-in-time p row s q its x timely by is =
    said-so x q (record { timing = its.timing ∙ sym timely.timing; settings = its.settings ∙ sym by.0; address = its.address ∙ sym by.1 }) (its.samples ∙ is)

pub said-in-time : SaidInTime
said-in-time =
    record {
      goes_on = λ p rows xs since w way on x timely samples more is some minute a call.
          goes p rows xs since w way on minute samples a call x timely more is some (listen p w.lines w.passed samples) refl (beside p w.lines w.passed samples);
      stands = λ p rows xs since w way on x timely by samples more is minute a fits call.
          stands-so p rows xs since w way on minute samples a call x timely more is by fits;
      says = says-in-time;
    }
