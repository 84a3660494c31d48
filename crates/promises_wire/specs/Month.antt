-- A month on one sheet, which was blank: mornings on which transmitters are polled and their replies are saved, by any of the four calls that save; and the power may
-- go at any moment. A sheet that such a month left is taken on by going on with it.
use Rattle.std.specs.Prelude.{List, [], ◌∷◌, ◌++◌, ℕ, ◌≤◌}
use Rattle.sheet.specs.Record.{Entry}
use Rattle.sheet.specs.Save.{Saves}
use Rattle.summary.specs.declared.Summary.{Summary}
use Rattle.summary.specs.declared.Made.{Made}
use Rattle.summary.specs.declared.Kept.{Kept}
use Rattle.summary.specs.Calls.{MakesSummary, SavesWith}
use Rattle.round.specs.declared.Round.{Round}
use Rattle.round.specs.declared.Rounded.{Rounded}
use Rattle.round.specs.declared.RoundedPage.{RoundedPage}
use Rattle.round.specs.Replies.{entries_of}
use Rattle.round.specs.Saving.{Page, none, kept}
use Rattle.round.specs.Calls.{most_replies, SavesRound, SavesRoundWith}
use Rattle.promises_card.specs.Sheet.History.{blank_sheet}
use Rattle.promises_wire.specs.Polls.{Poll, entry_for}
use Rattle.promises_wire.specs.Heard.{HeardOnLines}
use Rattle.promises_wire.specs.Expected.{Morning}
use Rattle.std.specs.Prelude.{Result}
use Rattle.frame.specs.declared.faults.Fault.{Fault}

-- The replies of polls, each as it was heard after its poll.
pub data Replies : List Poll → List Entry → Type 0 where
  none_polled : Replies [] []
  one_polled : {ps : List Poll} {es : List Entry} (p : Poll) (count : ℕ) (bytes : List ℕ) → HeardOnLines p.asked.timing p.sensed.samples count bytes
      → Replies ps es → Replies (p ∷ ps) (entry_for p.asked count bytes ∷ es)

abbrev pub morning : List Poll → ℕ → Morning
morning ps allowance = record { polls = ps; allowance = allowance }

-- The mornings so far, the oldest first, the sheet of n slots, and the summary that the recorder holds beside it, if it holds one. A cut that nobody told a save of
-- leaves what a save told of it leaves (`RoundCut`, and demand 3's cut): it is that save, and then the power is gone.
pub data Month (n : ℕ) : List Morning → List ℕ → Page → Type 0 where
  begun : Month n [] (blank_sheet n) none
  -- A summary made afresh.
  summed : {ms : List Morning} {sheet : List ℕ} {page : Page} (made : Made) → Month n ms sheet page → MakesSummary sheet made
      → Month n ms sheet (kept made.summary)
  -- One reply saved, or a round, without a summary: one that was held before is let go.
  one_saved : {ms : List Morning} {sheet : List ℕ} {page : Page} (p : Poll) (e : Entry) (allowance : ℕ) (answer : Result ℕ Fault) (after : List ℕ)
      → Month n ms sheet page → Replies (p ∷ []) (e ∷ []) → Saves sheet e allowance answer after
      → Month n (ms ++ morning (p ∷ []) allowance ∷ []) after none
  round_saved : {ms : List Morning} {sheet : List ℕ} {page : Page} (ps : List Poll) (r : Round) (allowance : ℕ) (answer : Rounded) (after : List ℕ)
      → Month n ms sheet page → Replies ps (entries_of r) → r.count ≤ most_replies → SavesRound sheet r allowance answer after
      → Month n (ms ++ morning ps allowance ∷ []) after none
  -- The same with the summary that is held; the one that comes back is held then.
  one_kept : {ms : List Morning} {sheet : List ℕ} {page : Summary} (p : Poll) (e : Entry) (allowance : ℕ) (answer : Kept) (after : List ℕ)
      → Month n ms sheet (kept page) → Replies (p ∷ []) (e ∷ []) → SavesWith sheet page e allowance answer after
      → Month n (ms ++ morning (p ∷ []) allowance ∷ []) after (kept answer.summary)
  round_kept : {ms : List Morning} {sheet : List ℕ} {page : Summary} (ps : List Poll) (r : Round) (allowance : ℕ) (answer : RoundedPage) (after : List ℕ)
      → Month n ms sheet (kept page) → Replies ps (entries_of r) → r.count ≤ most_replies → SavesRoundWith sheet page r allowance answer after
      → Month n (ms ++ morning ps allowance ∷ []) after (kept answer.summary)
  -- Polls that were answered and whose replies are not saved.
  unsaved : {ms : List Morning} {sheet : List ℕ} {page : Page} (ps : List Poll) (es : List Entry) → Month n ms sheet page → Replies ps es
      → Month n (ms ++ morning ps 0 ∷ []) sheet page
  -- The power goes, be it in the middle of a poll's answer, which is then no poll of the month: the sheet is as it is, and nothing else is left.
  gone : {ms : List Morning} {sheet : List ℕ} {page : Page} → Month n ms sheet page → Month n ms sheet none
