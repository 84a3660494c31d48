-- Answers by runs: the calls up to the one that settles a try go on, sample by sample, from the lines at rest; so their samples and those of that call are the ones of which
-- `ByRuns` speaks. A reply below the turn is set by no later try.
use mathlib.Core.Path.{◌≡◌, refl, sym, ap, ap₂, subst, ◌∙◌}
use mathlib.Core.Bool.{Bool, true, false, not, ◌||◌, true≢false}
use mathlib.Core.List.{List, [], ◌∷◌, ◌++◌, append_assoc}
use Prim.Native.Nat.{ℕ, ◌+◌, ◌<◌}
use native.Mathlib.Omega.{arith}
use lib.Dec.{eqb}
use lib.ListN.{length, get_or, take, length-append}
use lib.Seq.{take-append-add, get_or-set_same, get_or-set_other}
use borrow.Author.Tests.{eq-eqb}
use Rattle.frame.specs.Pick.{pick}
use Rattle.frame.specs.Line.{mark}
use Rattle.lines.specs.declared.SoFar.{SoFar}
use Rattle.lines.specs.SoFar.{rest_state}
use Rattle.lines.specs.Hearing.{MessageTold, nothing, message, spoiled, number_told, count_told, bytes_told}
use Rattle.lines.proofs.Cases.{none_of}
use Rattle.round.specs.declared.Polled.{Polled}
use Rattle.round.specs.declared.Round.{Round}
use Rattle.polling.specs.Drawing.{LeftByDrawing}
use Rattle.polling.specs.declared.Pace.{Pace}
use Rattle.polling.specs.declared.Polling.{Polling}
use Rattle.polling.specs.Settling.{LeftByHearing}
use Rattle.polling.specs.Pace.{bad_pace}
use Rattle.polling.specs.Beginning.{no_entry}
use Rattle.polling.specs.Meant.{is_over, turn_of, draws, listens, meant}
use Rattle.polling.specs.Drawing.{drawn_by}
use Rattle.polling.specs.Listening.{Listened, settled_by, listen}
use Rattle.polling.specs.Settling.{is_message, is_last, is_answered, asked_again, answered_with, replied, settled_at}
use Rattle.polling.specs.Calls.{DrawsPolling, heard_by, HearsPolling}
use Rattle.promises_frame.proofs.Cases.{by-lt}
use Rattle.promises_lines.specs.History.{bits_of}
use Rattle.promises_lines.proofs.Legal.{rest}
use Rattle.promises_lines.proofs.Messages.{bits-long}
use Rattle.promises_polling.specs.History.{any, Verdict, verdicts, History}
use Rattle.promises_polling.specs.Fit.{reply_at}
use Rattle.promises_polling.specs.Answers.{Settles, Stands, TryAnswered, AnswersByRuns}
use Rattle.promises_polling.proofs.Meaning.{try_of, meant-draws, meant-drawn, meant-listens, Mode, over, drawing, drawn, listening, mode, same-round}
use Rattle.promises_polling.proofs.Path.{Way, stop, draw_one, hear_on, hear_end, heard_now, ending, told_at, settled_in, verdict_by, verdict_in}
use Rattle.promises_polling.proofs.Drawn.{idle-draws, busy-draws, leaves}
use Rattle.promises_polling.proofs.Heard.{next, told-end, told-on, heard-so, heard-listening}
use Rattle.promises_polling.proofs.Kept.{at-below}
use Rattle.promises_polling.proofs.Ears.{Going, going-append, Onward, onward, Outcome, open_yet, ended_at, outcome}
use Rattle.promises_polling.proofs.ByRuns.{settles-so}
use Rattle.promises_polling.proofs.Batches.{way_of}

-- A call that draws to the end of a poll.
listening-begins : (p : Pace) (w : Polling) → bad_pace p ≡ false → w.listening ≡ 0 → (out after : List ℕ) (d : LeftByDrawing) → DrawsPolling w p out d after
    → (d.polling.listening ≡ 0 → ⊥) → (d.polling.listening ≡ 1) × (d.polling.passed ≡ 0) × (d.polling.lines ≡ rest_state)
listening-begins p w fine z out after d c h = go (mode p w)
  where
    by_place : is_over w ≡ false → (k : ℕ) → d.polling ≡ meant p (draws w (w.passed + k)) → (d.polling.listening ≡ 1) × (d.polling.passed ≡ 0) × (d.polling.lines ≡ rest_state)
    by_place e k is =
        by-lt (w.passed + k) (length (try_of p w))
        (λ l. absurd (h (ap (λ (v : Polling). v.listening) (is ∙ meant-draws p w (w.passed + k) e l))))
        (λ l. let same = is ∙ meant-drawn p w (w.passed + k) e l in (ap (λ (v : Polling). v.listening) same, ap (λ (v : Polling). v.passed) same, ap (λ (v : Polling). v.lines) same))

    busy : is_over w ≡ false → (d.polling.listening ≡ 1) × (d.polling.passed ≡ 0) × (d.polling.lines ≡ rest_state)
    busy e =
        let k : ℕ = length (drawn_by p w (length out)) in
        by_place e k (leaves p fine w out after d c ∙ (busy-draws p w (ap₂ (λ (a b : Bool). a || not b) e (eq-eqb w.listening 0 z)) (length out) k).1)

    go : Mode p w → (d.polling.listening ≡ 1) × (d.polling.passed ≡ 0) × (d.polling.lines ≡ rest_state)
    go (over e m) =
        absurd (h (ap (λ (v : Polling). v.listening)
        (leaves p fine w out after d c ∙ (idle-draws p w (ap (λ (b : Bool). b || not (eqb w.listening 0)) e) (length out) (length (drawn_by p w (length out)))).1 ∙ m) ∙ z))
    go (drawing e y l m) = busy e
    go (drawn e y l m) = busy e
    go (listening e y m) = absurd (y z)

-- What is told of a try, and what stands.
one-verdict : {u v : Verdict} → u ∷ [] ≡ v ∷ [] → u ≡ v
one-verdict {u} e = ap (λ (l : List Verdict). first l) e
  where
    first : List Verdict → Verdict
    first [] = u
    first (x ∷ l) = x

none_told : {v : Verdict} {l : List Verdict} {A : Type 0} → l ≡ [] → l ≡ v ∷ [] → A
none_told p q = absurd (let z : ◌≡◌ {A = ℕ} 0 1 = cc in omega arith)

no_bits : (told : MessageTold) → is_message told ≡ false → bits_of (count_told told) (bytes_told told) ≡ []
unfolding bits_of
no_bits nothing e = refl
no_bits (message count bits) e = absurd (true≢false e)
no_bits (spoiled number) e = refl

module _ (p : Pace) (minute : ℕ) (from : Polling) (told : MessageTold) where
  abbrev bits : List ℕ
  bits = bits_of (count_told told) (bytes_told told)

  told-reply : ((verdict_in p minute from told).reply ≡ from.at) × ((verdict_in p minute from told).number ≡ number_told told)
  told-reply = go (is_answered p from told)
    where
      go : (b : Bool) → let v : Verdict = pick b (verdict_by from.at 1 (mark (is_over (answered_with minute told from))) (number_told told)) (verdict_by from.at 0 0 (number_told told)) in
          (v.reply ≡ from.at) × (v.number ≡ number_told told)
      go true = (refl, refl)
      go false = (refl, refl)

  it-stands : from.at < length from.round.replies → (verdict_in p minute from told).answered ≡ 1 → Stands minute bits (settled_in p minute from told) from.at
  it-stands l a = go (is_answered p from told) a
    where
      go : (b : Bool) → (pick b (verdict_by from.at 1 (mark (is_over (answered_with minute told from))) (number_told told)) (verdict_by from.at 0 0 (number_told told))).answered ≡ 1
          → Stands minute bits (pick b (answered_with minute told from) (asked_again from)) from.at
      go true a =
          let is = get_or-set_same from.round.replies from.at (replied minute told (turn_of from)) no_entry l in
          record {
            many = ap (λ (r : Polled). r.count) is ∙ sym (bits-long (count_told told) (bytes_told told));
            they = ap₂ bits_of (bits-long (count_told told) (bytes_told told)) (ap (λ (r : Polled). r.reply) is);
            when = ap (λ (r : Polled). r.minute) is;
          }
      go false a = absurd (omega arith)

  asked-again : (verdict_in p minute from told).answered ≡ 0 → ((settled_in p minute from told).round ≡ from.round) × (bits ≡ [])
  asked-again a = go (is_answered p from told) refl a
    where
      go : (b : Bool) → is_answered p from told ≡ b
          → (pick b (verdict_by from.at 1 (mark (is_over (answered_with minute told from))) (number_told told)) (verdict_by from.at 0 0 (number_told told))).answered ≡ 0
          → ((pick b (answered_with minute told from) (asked_again from)).round ≡ from.round) × (bits ≡ [])
      go true f a = absurd (omega arith)
      go false f a = (refl, no_bits told (none_of (is_message told) (is_last p from) f).0)

module _ (p : Pace) (from : Polling) (fine : bad_pace p ≡ false) (o : is_over from ≡ false) (size : length from.round.replies ≡ 30)
    (z : from.listening ≡ 1) (q : from.passed ≡ 0) (s : from.lines ≡ rest_state)
    {ds taken : List ℕ} {w : Polling} (h : History p any from ds taken [] w) (minute : ℕ) (samples : List ℕ) (a : LeftByHearing) (c : HearsPolling w p minute samples a)
    (v : Verdict) (vs : verdicts a ≡ v ∷ []) where
  begun-so : from ≡ listens from rest_state 0
  begun-so i = record { round = from.round; lines = s i; passed = q i; at = from.at; tried = from.tried; listening = z i }

  itself : meant p from ≡ from
  itself = ap (meant p) begun-so ∙ meant-listens p from rest_state 0 o rest ∙ sym begun-so

  on : Onward p from taken (meant p w)
  on = onward p (subst (λ (u : Polling). Way p any u ds taken [] (meant p w)) itself (way_of p fine any from h)) z

  abbrev heard_so : ℕ
  heard_so = from.passed + length taken

  goes_so : Going p rest_state 0 taken on.left
  goes_so = subst (λ (k : ℕ). Going p rest_state k taken on.left) q (subst (λ (u : SoFar). Going p u from.passed taken on.left) s on.goes)

  answer-so : a ≡ settled_at p minute (listens from on.left heard_so) (listen p on.left heard_so samples)
  answer-so = heard-so p fine w minute samples a c ∙ ap (λ (u : Polling). heard_by p minute u samples) on.end ∙ heard-listening p minute from on.left heard_so samples o

  abbrev Answered : Type 0
  Answered = TryAnswered p from (taken ++ take a.taken samples) minute a v

  ended : (before : List ℕ) (x : ℕ) (more : List ℕ) (n : SoFar) → samples ≡ before ++ x ∷ more → Going p on.left heard_so before n
      → ending p (next p n x) (heard_so + length before + 1) ≡ true
      → a ≡ settled_at p minute (listens from on.left heard_so) (settled_by (told_at p (next p n x) (heard_so + length before + 1)) (length before + 1)) → Answered
  ended before x more n is g d e =
      let pre : List ℕ = taken ++ before in
      let many : heard_so ≡ length taken = omega (arith, q) in
      let sum : heard_so + length before + 1 ≡ length pre + 1 = omega (arith, many, length-append taken before) in
      let zero-sum : heard_so ≡ 0 + length taken = omega (arith, many) in
      let going : Going p rest_state 0 pre n = going-append p rest_state on.left n 0 taken before goes_so (subst (λ (k : ℕ). Going p on.left k before n) zero-sum g) in
      let end : ending p (next p n x) (length pre + 1) ≡ true = subst (λ (k : ℕ). ending p (next p n x) k ≡ true) sum d in
      let t : MessageTold = told_at p (next p n x) (length pre + 1) in
      let r = told-end p minute (listens from on.left heard_so) t (length before + 1) (omega arith) in
      let a-is : a ≡ settled_at p minute (listens from on.left heard_so) (settled_by t (length before + 1))
      = e ∙ ap (λ (k : ℕ). settled_at p minute (listens from on.left heard_so) (settled_by (told_at p (next p n x) k) (length before + 1))) sum in
      let took : a.taken ≡ length before + 1 = ap (λ (b : LeftByHearing). b.taken) a-is ∙ r.0 in
      let left : a.polling ≡ settled_in p minute from t = ap (λ (b : LeftByHearing). b.polling) a-is ∙ r.1 in
      let v-is : verdict_in p minute from t ≡ v = one-verdict (sym (ap verdicts a-is ∙ r.2) ∙ vs) in
      let xs : taken ++ take a.taken samples ≡ pre ++ x ∷ []
      = ap₂ (λ (k : ℕ) (l : List ℕ). taken ++ take k l) took is ∙ ap (λ (l : List ℕ). taken ++ l) (take-append-add before (x ∷ more) 1) ∙ sym (append_assoc taken before (x ∷ [])) in
      let tr = told-reply p minute from t in
      let at_low = at-below from o in
      record {
        bits = bits_of (count_told t) (bytes_told t);
        settles =
            subst (λ (l : List ℕ). Settles p l v.number (bits_of (count_told t) (bytes_told t))) (sym xs)
            (subst (λ (k : ℕ). Settles p (pre ++ x ∷ []) k (bits_of (count_told t) (bytes_told t))) (sym tr.1 ∙ ap (λ (u : Verdict). u.number) v-is)
            (settles-so p fine pre n going x end));
        reply = sym (ap (λ (u : Verdict). u.reply) v-is) ∙ tr.0;
        stands = λ y.
            subst (λ (u : Polling). Stands minute (bits_of (count_told t) (bytes_told t)) u from.at) (sym left)
            (it-stands p minute from t (omega (arith, size, at_low.0, at_low.1)) (ap (λ (u : Verdict). u.answered) v-is ∙ y));
        again = λ y.
            let g = asked-again p minute from t (ap (λ (u : Verdict). u.answered) v-is ∙ y) in
            (ap (λ (u : Polling). u.round) left ∙ g.0, g.1);
      }

  told-so : Answered
  told-so = go (outcome p on.left heard_so samples)
    where
      go : Outcome p on.left heard_so samples (listen p on.left heard_so samples) → Answered
      go (open_yet n g e) =
          none_told (ap verdicts answer-so ∙ ap (λ (l : Listened). verdicts (settled_at p minute (listens from on.left heard_so) l)) e ∙ (told-on p minute (listens from on.left heard_so) n (length samples)).2) vs
      go (ended_at before x more n is g d e) =
          ended before x more n is g d (answer-so ∙ ap (settled_at p minute (listens from on.left heard_so)) e)

-- A reply that stands.
same-reply : (v w : Polling) → v.round ≡ w.round → (i : ℕ) → reply_at v i ≡ reply_at w i
same-reply v w e i = ap (λ (r : Round). get_or r.replies i no_entry) e

settled-stays : (p : Pace) (minute : ℕ) (w : Polling) (told : MessageTold) (i : ℕ) → i < w.at
    → (reply_at (settled_in p minute w told) i ≡ reply_at w i) × (i < (settled_in p minute w told).at)
settled-stays p minute w told i l = go (is_answered p w told)
  where
    go : (b : Bool) → (reply_at (pick b (answered_with minute told w) (asked_again w)) i ≡ reply_at w i) × (i < (pick b (answered_with minute told w) (asked_again w)).at)
    go true = (get_or-set_other w.round.replies w.at i (replied minute told (turn_of w)) no_entry (λ e. omega (arith, l, e)), omega arith)
    go false = (refl, l)

way-stays : {p : Pace} {w e : Polling} {ds xs : List ℕ} {vs : List Verdict} → Way p any w ds xs vs e → (i : ℕ) → i < w.at → reply_at e i ≡ reply_at w i
way-stays stop i l = refl
way-stays {p} {w} (draw_one o z k h) i l =
    let v : Polling = draws w (w.passed + 1) in
    let r = same-round p v in
    way-stays h i (subst (λ (n : ℕ). i < n) (sym r.1) l) ∙ same-reply (meant p v) v r.0 i
way-stays (hear_on x o z k f h) i l = way-stays h i l
way-stays {p} {w} (hear_end minute x c o z k f h) i l =
    let told : MessageTold = told_at p (heard_now p w x) (w.passed + 1) in
    let v : Polling = settled_in p minute w told in
    let r = same-round p v in
    let s = settled-stays p minute w told i l in
    way-stays h i (subst (λ (n : ℕ). i < n) (sym r.1) s.1) ∙ same-reply (meant p v) v r.0 i ∙ s.0

pub answers-by-runs : AnswersByRuns
answers-by-runs =
    record {
      begins = listening-begins;
      told = λ p from fine o size z q s ds taken w h minute samples a c v vs. told-so p from fine o size z q s h minute samples a c v vs;
      stays = λ p from fine ds taken vs end h i l.
          let way = way_of p fine any from h in
          let r = same-round p from in
          sym (same-reply (meant p end) end (same-round p end).0 i) ∙ way-stays way i (subst (λ (n : ℕ). i < n) (sym r.1) l) ∙ same-reply (meant p from) from r.0 i;
    }
