-- Fit to save: every entry of the round is fit, at the beginning and after each settled try, since what is told is in form; and the tests of a save, of a round and of a
-- hearing do not apply to such an entry by 10, 11 or 14.
use mathlib.Core.Path.{◌≡◌, refl, sym, ap, subst, ◌∙◌}
use mathlib.Core.Bool.{Bool, true, false, not, true≢false}
use mathlib.Core.List.{List, [], ◌∷◌, ◌++◌, map}
use Prim.Native.Nat.{ℕ, zero, suc, ◌+◌, ◌-◌, ◌≤◌}
use native.Mathlib.Omega.{arith}
use lib.Dec.{eqb, leb, ltb}
use lib.ListN.{length, get_or, take, set, replicate, length-take}
use lib.Seq.{take-append-le}
use borrow.Author.Tests.{le-ltb, eqb-false}
use Rattle.frame.specs.Pick.{pick}
use Rattle.frame.specs.Line.{first_bytes, bytes_for, formed}
use Rattle.frame.specs.Faults.{Test, ◌gives◌, first_of}
use Rattle.frame.specs.Reply.{reply_tests, reply_fault}
use Rattle.board.specs.declared.Heard.{Heard}
use Rattle.board.specs.declared.Row.{Row}
use Rattle.board.specs.Row.{is_free, is_in_use, free_row}
use Rattle.board.specs.Rows.{board_of, place_by, on_board, row_of, holds}
use Rattle.board.specs.Order.{in_address_order}
use Rattle.board.specs.Calls.{fault_by, outside_at, hear_number, hear_place, heard_as, Hears}
use Rattle.lines.specs.Sample.{sample_of}
use Rattle.lines.specs.Hearing.{MessageTold, nothing, message, spoiled, count_told, bytes_told}
use Rattle.lines.proofs.Cases.{of-pick}
use Rattle.frame.proofs.Both.{both_left}
use Rattle.sheet.specs.Record.{Entry, checks}
use Rattle.sheet.specs.Slots.{size_allowed, slots, next}
use Rattle.sheet.specs.Save.{save_fault}
use Rattle.summary.specs.declared.Summary.{Summary}
use Rattle.summary.specs.Handed.{handed_fault, handed_tests}
use Rattle.summary.specs.Calls.{keep_fault}
use Rattle.round.specs.declared.Polled.{Polled}
use Rattle.round.specs.declared.Round.{Round}
use Rattle.round.specs.declared.Rounded.{Rounded}
use Rattle.round.specs.declared.RoundedPage.{RoundedPage}
use Rattle.round.specs.Replies.{lent_by, entry_in, entries_of}
use Rattle.round.specs.Saving.{Page, none, Standing, standing, tries_next, with_stores, stopped_by, tried, saved_all}
use Rattle.round.specs.Saving as saving
use Rattle.round.specs.Calls.{round_of}
use Rattle.polling.specs.declared.Begun.{Begun}
use Rattle.polling.specs.declared.Pace.{Pace}
use Rattle.polling.specs.declared.Polling.{Polling}
use Rattle.polling.specs.Settling.{LeftByHearing}
use Rattle.polling.specs.Pace.{bad_pace}
use Rattle.polling.specs.Beginning.{no_reply, no_entry, used_rows, reply_for, beginning, nothing_begun}
use Rattle.polling.specs.Meant.{turn_of, draws, meant}
use Rattle.polling.specs.Settling.{is_answered, asked_again, answered_with, replied}
use Rattle.polling.specs.Calls.{begun, BeginsPolling}
use Rattle.promises_lines.proofs.Form.{front, in-form}
use Rattle.promises_frame.proofs.Lines.{length-first_bytes}
use Rattle.promises_polling.specs.History.{any, Verdict, History, drew, heard}
use Rattle.promises_polling.specs.History as history
use Rattle.promises_polling.specs.Fit.{Enrolled, NotUnfit, Left, reply_at, FitToSave}
use Rattle.promises_polling.proofs.Meaning.{same-round}
use Rattle.promises_polling.proofs.Path.{Way, stop, draw_one, hear_on, hear_end, heard_now, told_at, settled_in}
use Rattle.promises_polling.proofs.Sound.{Sound, told-sound}
use Rattle.promises_polling.proofs.Outcome.{out-of-pace, polling-first-fault}
use Rattle.promises_polling.proofs.Batches.{way_of}

-- An entry that is fit.
pub record FitOne (r : Polled) : Type 0 where
  pub settings : r.settings ≤ 15
  pub address : r.address ≤ 999
  pub form : formed r.count (lent_by r) ≡ true

abbrev pub Fits : List Polled → Type 0
Fits replies = (i : ℕ) → FitOne (get_or replies i no_entry)

no-reply-fits : FitOne no_reply
no-reply-fits = record { settings = omega arith; address = omega arith; form = unfold formed first_bytes in refl }

no-entry-fits : FitOne no_entry
no-entry-fits = record { settings = omega arith; address = omega arith; form = unfold formed in refl }

told-form : (told : MessageTold) → Sound told → formed (count_told told) (take (bytes_for (count_told told)) (bytes_told told ++ 0 ∷ [])) ≡ true
told-form nothing s = unfold formed first_bytes in refl
told-form (message count bits) s =
    let small : bytes_for count ≤ 8 = omega (arith, s.1.small) in
    let long : length (first_bytes 8 bits) ≡ 8 = length-first_bytes 8 bits (omega arith) in
    ap (formed count) (take-append-le (bytes_for count) (first_bytes 8 bits) (0 ∷ []) (omega (arith, small, long)) ∙ front (bytes_for count) bits) ∙ in-form bits count s.1
told-form (spoiled number) s = unfold formed first_bytes in refl

pub replied-fits : (minute : ℕ) (told : MessageTold) → Sound told → (r : Polled) → FitOne r → FitOne (replied minute told r)
replied-fits minute told s r f = record { settings = f.settings; address = f.address; form = told-form told s }

set-fits : (l : List Polled) (j : ℕ) (y : Polled) → FitOne y → Fits l → Fits (set l j y)
set-fits [] j y f h i = h i
set-fits (x ∷ l) zero y f h zero = f
set-fits (x ∷ l) zero y f h (suc i) = h (suc i)
set-fits (x ∷ l) (suc j) y f h zero = h zero
set-fits (x ∷ l) (suc j) y f h (suc i) = set-fits l j y f (λ k. h (suc k)) i

-- A round that is fit.
pub record FitRound (r : Round) : Type 0 where
  pub few : r.count ≤ 30
  pub each : Fits r.replies

settled-fits : (p : Pace) (minute : ℕ) (w : Polling) (told : MessageTold) → Sound told → FitRound w.round → FitRound (settled_in p minute w told).round
settled-fits p minute w told s f = go (is_answered p w told)
  where
    go : (b : Bool) → FitRound (pick b (answered_with minute told w) (asked_again w)).round
    go true = record { few = f.few; each = set-fits w.round.replies w.at (replied minute told (turn_of w)) (replied-fits minute told s (turn_of w) (f.each w.at)) f.each }
    go false = f

meant-fits : (p : Pace) (w : Polling) → FitRound w.round → FitRound (meant p w).round
meant-fits p w f = subst FitRound (sym (same-round p w).0) f

way-fits : (p : Pace) → bad_pace p ≡ false → {w e : Polling} {ds xs : List ℕ} {vs : List Verdict} → Way p any w ds xs vs e → FitRound w.round → FitRound e.round
way-fits p fine stop f = f
way-fits p fine {w} (draw_one o z l h) f = way-fits p fine h (meant-fits p (draws w (w.passed + 1)) f)
way-fits p fine (hear_on x o z l g h) f = way-fits p fine h f
way-fits p fine {w} (hear_end minute x c o z l g h) f =
    let told : MessageTold = told_at p (heard_now p w x) (w.passed + 1) in
    way-fits p fine h (meant-fits p (settled_in p minute w told) (settled-fits p minute w told (told-sound p fine l (sample_of x) (w.passed + 1)) f))

-- With a pace out of its range nothing changes.
stuck : (p : Pace) → bad_pace p ≡ true → (from : Polling) {ds xs : List ℕ} {vs : List Verdict} {end : Polling} → History p any from ds xs vs end → end ≡ from
stuck p bad from history.begun = refl
stuck p bad from (drew {w = w} out after a h d) = (polling-first-fault.draw_20 w p out after a d (sym (out-of-pace p) ∙ bad)).0 ∙ stuck p bad from h
stuck p bad from (heard {w = w} minute xs a shown h c) =
    ap (λ (x : LeftByHearing). x.polling) (polling-first-fault.hear_20 w p minute xs a c (sym (out-of-pace p) ∙ bad)) ∙ stuck p bad from h

-- The beginning.
none-fits : (k : ℕ) → Fits (replicate k no_reply)
none-fits zero i = no-entry-fits
none-fits (suc k) zero = no-reply-fits
none-fits (suc k) (suc i) = none-fits k i

reply-for-fits : (minute : ℕ) (row : Row) → row.settings ≤ 15 → row.address ≤ 999 → FitOne (reply_for minute row)
reply-for-fits minute row s a = record { settings = s; address = a; form = unfold formed first_bytes in refl }

used-fits : (minute : ℕ) (board : List Row) → Enrolled board → (k : ℕ) → Fits (map (reply_for minute) (used_rows board) ++ replicate k no_reply)
unfolding used_rows
used-fits minute [] e k = none-fits k
used-fits minute (row ∷ rows) e k = go (is_free row) refl (used-fits minute rows e.1 k)
  where
    in_use : is_free row ≡ false → Fits (map (reply_for minute) (used_rows rows) ++ replicate k no_reply)
        → (i : ℕ) → FitOne (get_or (reply_for minute row ∷ map (reply_for minute) (used_rows rows) ++ replicate k no_reply) i no_entry)
    in_use f others zero = let r = e.0 (ap not f) in reply-for-fits minute row r.0 r.1
    in_use f others (suc i) = others i

    go : (b : Bool) → is_free row ≡ b → Fits (map (reply_for minute) (used_rows rows) ++ replicate k no_reply)
        → Fits (map (reply_for minute) (pick b (used_rows rows) (row ∷ used_rows rows)) ++ replicate k no_reply)
    go true f others = others
    go false f others = in_use f others

pub used-few : (minute : ℕ) (board : List Row) → length (map (reply_for minute) (used_rows board)) ≤ length board
unfolding used_rows
used-few minute [] = omega arith
used-few minute (row ∷ rows) = go (is_free row) (used-few minute rows)
  where
    go : (b : Bool) → length (map (reply_for minute) (used_rows rows)) ≤ length rows → length (map (reply_for minute) (pick b (used_rows rows) (row ∷ used_rows rows))) ≤ suc (length rows)
    go true h = omega arith
    go false h = omega arith

begun-fits : (rows : List Row) (minute : ℕ) (answer : Begun) → Enrolled (board_of rows) → BeginsPolling rows minute answer → FitRound answer.polling.round
unfolding beginning nothing_begun
begun-fits rows minute answer e b =
    subst (λ (x : Begun). FitRound x.polling.round) (sym b.answers)
    (of-pick (λ (x : Begun). FitRound x.polling.round) (in_address_order (board_of rows)) (begun (beginning minute (board_of rows)) 0) (begun nothing_begun 38)
    (λ k. record { few = let few = used-few minute (board_of rows) in omega (arith, few, length-take 30 rows); each = used-fits minute (board_of rows) e (30 - length (map (reply_for minute) (used_rows (board_of rows)))) })
    (λ k. record { few = omega arith; each = none-fits 30 }))

pub left-fits : (rows : List Row) (end : Polling) → Left rows end → FitRound end.round
left-fits rows end l = go (bad_pace l.pace) refl
  where
    start : FitRound l.answer.polling.round
    start = begun-fits rows l.minute l.answer l.enrolled l.begins

    go : (b : Bool) → bad_pace l.pace ≡ b → FitRound end.round
    go true bad = subst (λ (w : Polling). FitRound w.round) (sym (stuck l.pace bad l.answer.polling l.calls)) start
    go false fine =
        subst FitRound (same-round l.pace end).0
        (way-fits l.pace fine (way_of l.pace fine any l.answer.polling l.calls) (meant-fits l.pace l.answer.polling start))

-- Tests of which none that applies tells of an unfit reply.
abbrev Passing : List Test → Type 0
Passing [] = 0 ≤ 0
Passing (t ∷ ts) = (t.applies ≡ true → NotUnfit t.number) × Passing ts

first-fit : (ts : List Test) → Passing ts → NotUnfit (first_of ts)
unfolding first_of
first-fit [] h = record { settings = λ e. omega arith; address = λ e. omega arith; form = λ e. omega arith; many = λ e. omega arith }
first-fit (t ∷ ts) h = of-pick NotUnfit t.applies t.number (first_of ts) h.0 (λ e. first-fit ts h.1)

-- Any other number.
other : (n : ℕ) → eqb n 10 ≡ false → eqb n 11 ≡ false → eqb n 14 ≡ false → eqb n 23 ≡ false → NotUnfit n
other n a b c d = record { settings = eqb-false n 10 a; address = eqb-false n 11 b; form = eqb-false n 14 c; many = eqb-false n 23 d }

never : {b : Bool} {A : Type 0} → b ≡ false → b ≡ true → A
never p q = absurd (true≢false (sym q ∙ p))

-- A save.
pub record FitEntry (e : Entry) : Type 0 where
  pub settings : ltb 15 e.settings ≡ false
  pub address : ltb 999 e.address ≡ false
  pub form : not (formed e.count e.reply) ≡ false

entry-fits : (r : Polled) → FitOne r → FitEntry (entry_in r)
entry-fits r f = record { settings = le-ltb 15 r.settings f.settings; address = le-ltb 999 r.address f.address; form = ap not f.form }

save-fit : (sheet : List ℕ) (e : Entry) → FitEntry e → NotUnfit (save_fault sheet e)
unfolding save_fault
save-fit sheet e f =
    first-fit (not (size_allowed sheet) gives 12 ∷ checks e ++ leb (slots sheet) (next sheet) gives 13 ∷ [])
    (λ a. other 12 refl refl refl refl, (never f.settings, (never f.address, (never f.form, (λ a. other 13 refl refl refl refl, omega arith)))))

handed-fit : (s : Summary) → NotUnfit (handed_fault s)
unfolding handed_fault
handed-fit s = first-fit (handed_tests s) (λ a. other 37 refl refl refl refl, (λ a. other 24 refl refl refl refl, omega arith))

keep-fit : (sheet : List ℕ) (s : Summary) (e : Entry) → FitEntry e → NotUnfit (keep_fault sheet s e)
unfolding keep_fault
keep-fit sheet s e f = of-pick NotUnfit (eqb (handed_fault s) 0) (save_fault sheet e) (handed_fault s) (λ a. save-fit sheet e f) (λ a. handed-fit s)

reply-fit : (sheet : List ℕ) (page : Page) (e : Entry) → FitEntry e → NotUnfit (saving.save_refusal sheet page e)
reply-fit sheet none e f = save-fit sheet e f
reply-fit sheet (saving.kept s) e f = keep-fit sheet s e f

-- A round.
abbrev AllFit : List Entry → Type 0
AllFit [] = 0 ≤ 0
AllFit (e ∷ es) = FitEntry e × AllFit es

entries_fit : (n : ℕ) (l : List Polled) → Fits l → AllFit (map entry_in (take n l))
entries_fit zero l h = omega arith
entries_fit (suc n) [] h = omega arith
entries_fit (suc n) (r ∷ l) h = (entry-fits r (h zero), entries_fit n l (λ i. h (suc i)))

tried-fit : (allowance : ℕ) (x : Standing) (e : Entry) → FitEntry e → NotUnfit (tried allowance x e).number
unfolding tried
tried-fit allowance x e f =
    of-pick (λ (y : Standing). NotUnfit y.number) (eqb (saving.save_refusal x.sheet x.page e) 0) (with_stores (allowance - x.stores) x e)
    (stopped_by (saving.save_refusal x.sheet x.page e) x) (λ a. other 0 refl refl refl refl) (λ a. reply-fit x.sheet x.page e f)

all_fit : (allowance : ℕ) (es : List Entry) (x : Standing) → NotUnfit x.number → AllFit es → NotUnfit (saved_all allowance x es).number
unfolding saved_all
all_fit allowance [] x n h = n
all_fit allowance (e ∷ es) x n h =
    of-pick (λ (y : Standing). NotUnfit y.number) (tries_next allowance x) (saved_all allowance (tried allowance x e) es) x
    (λ a. all_fit allowance es (tried allowance x e) (tried-fit allowance x e h.0) h.1) (λ a. n)

round-fit : (sheet : List ℕ) (page : Page) (r : Round) (allowance : ℕ) → FitRound r → NotUnfit (round_of sheet page r allowance).number
unfolding round_of
round-fit sheet page r allowance f =
    rw (le-ltb 30 r.count f.few)
    (all_fit allowance (entries_of r) (standing sheet page 0 0 0) (other 0 refl refl refl refl) (entries_fit r.count r.replies f.each))

-- A hearing.
place-settings : (address : ℕ) (board : List Row) → Enrolled board → (get_or board (place_by (holds address) board) free_row).settings ≤ 15
unfolding place_by
place-settings address [] e = omega arith
place-settings address (row ∷ rows) e = go (holds address row) refl (place-settings address rows e.1)
  where
    go : (b : Bool) → holds address row ≡ b → (get_or rows (place_by (holds address) rows) free_row).settings ≤ 15
        → (get_or (row ∷ rows) (pick b zero (suc (place_by (holds address) rows))) free_row).settings ≤ 15
    go true h i = (e.0 (both_left (is_in_use row) (eqb row.address address) h)).0
    go false h i = i

reply-read-fit : (settings address count : ℕ) (s : List ℕ) → ltb 15 settings ≡ false → ltb 999 address ≡ false → not (formed count s) ≡ false → NotUnfit (reply_fault settings address count s)
unfolding reply_fault
reply-read-fit settings address count s a b c =
    first-fit (reply_tests settings address count s) (
      never a,
      (
        never b,
        (
          never c,
          (
            λ x. other 1 refl refl refl refl,
            (
              λ x. other 2 refl refl refl refl,
              (
                λ x. other 3 refl refl refl refl,
                (
                  λ x. other 4 refl refl refl refl,
                  (
                    λ x. other 5 refl refl refl refl,
                    (λ x. other 6 refl refl refl refl, (λ x. other 7 refl refl refl refl, (λ x. other 8 refl refl refl refl, (λ x. other 9 refl refl refl refl, omega arith)))),
                  ),
                ),
              ),
            ),
          ),
        ),
      ),
    )

hear-fit : (board : List Row) → Enrolled board → (r : Polled) → FitOne r → NotUnfit (hear_number board r.address r.count (lent_by r))
unfolding hear_number
hear-fit board e r f =
    let g = entry-fits r f in
    let row : Row = row_of r.address board in
    let low : ltb 15 row.settings ≡ false = le-ltb 15 row.settings (place-settings r.address board e) in
    first-fit
    (ltb 999 r.address gives 11 ∷ not (formed r.count (lent_by r)) gives 14 ∷ not (on_board r.address board) gives 17
    ∷ not (eqb (fault_by row r.address r.count (lent_by r)) 0) gives fault_by row r.address r.count (lent_by r) ∷ outside_at row r.count (lent_by r) gives 26 ∷ []) (
      never g.address,
      (
        never g.form,
        (
          λ x. other 17 refl refl refl refl,
          (λ x. reply-read-fit row.settings r.address r.count (lent_by r) low g.address g.form, (λ x. other 26 refl refl refl refl, omega arith)),
        ),
      ),
    )

heard-fit : (board : List Row) → Enrolled (board_of board) → (r : Polled) → FitOne r → (minute : ℕ) (a : Heard) (after : List Row)
    → Hears board minute r.address r.count (lent_by r) a after → NotUnfit a.number
heard-fit board e r f minute a after h =
    subst (λ (x : Heard). NotUnfit x.number) (sym h.answers)
    (of-pick (λ (x : Heard). NotUnfit x.number) (in_address_order (board_of board))
    (heard_as (hear_number (board_of board) r.address r.count (lent_by r)) (hear_place (board_of board) r.address r.count (lent_by r))) (heard_as 38 0)
    (λ k. hear-fit (board_of board) e r f) (λ k. other 38 refl refl refl refl))

pub fit-to-save : FitToSave
fit-to-save =
    record {
      saved = λ rows end l sheet allowance a left h.
          subst (λ (x : Rounded). NotUnfit x.number) (sym h.answers) (round-fit sheet none end.round allowance (left-fits rows end l));
      saved_with = λ rows end l sheet s allowance a left h.
          subst (λ (x : RoundedPage). NotUnfit x.number) (sym h.answers) (round-fit sheet (saving.kept s) end.round allowance (left-fits rows end l));
      heard = λ rows end l i less board e minute a after h. heard-fit board e (reply_at end i) ((left-fits rows end l).each i) minute a after h;
    }
