-- From the tank to the desk: whatever the lines, the batches and the power did, the desk shows what the transmitters said, poll by poll.
use Rattle.std.specs.Prelude.{◌≡◌, List, [], ◌∷◌, ◌++◌, map, ℕ, ◌<◌, ◌≤◌, length, take}
use Rattle.frame.specs.declared.Reading.{Reading}
use Rattle.frame.specs.Reply.{count_for}
use Rattle.sheet.specs.Record.{Entry}
use Rattle.listing.specs.Text.{ascii, in_decimal}
use Rattle.listing.specs.Calls.{WritesListing}
use Rattle.lines.specs.Timing.{Timing}
use Rattle.board.specs.declared.Looked.{Looked}
use Rattle.board.specs.declared.Row.{Row}
use Rattle.board.specs.Calls.{LooksUp}
use Rattle.summary.specs.declared.Summary.{Summary}
use Rattle.summary.specs.Worked.{summary_of}
use Rattle.round.specs.Saving.{Page, kept}
use Rattle.round.specs.Calls.{most_replies}
use Rattle.promises_frame.specs.Parity.{OneWrong}
use Rattle.promises_frame.specs.WrittenThenRead.{CanSay}
use Rattle.promises_lines.specs.History.{bits_of}
use Rattle.promises_lines.specs.Runs.{Run}
use Rattle.promises_order.specs.Places.{row_at}
use Rattle.promises_order.specs.Order.{SoKept}
use Rattle.promises_board.specs.Calls.{IsRowOf}
use Rattle.promises_card.specs.Listing.Calls.{Wrote}
use Rattle.promises_wire.specs.Polls.{Asked, Poll, bits_sensed, entry_for, poll_entry}
use Rattle.promises_wire.specs.Heard.{HeardOnLines}
use Rattle.promises_wire.specs.Wire.{samples_of, evenly, Sent}
use Rattle.promises_wire.specs.Expected.{says_text, records_for, listing_for, Morning, known_save, known_in}
use Rattle.promises_wire.specs.Month.{Replies, Month}
use Rattle.promises_wire.specs.Board.{OnTheBoard, shows_in, shown_by}
use Rattle.std.specs.Prelude.{Ok, Err}
use Rattle.frame.specs.Faults.{fault}

-- Asked alike: the same timing, settings and address.
pub record AskedAlike (p q : Asked) : Type 0 where
  pub timing : p.timing ≡ q.timing
  pub settings : p.settings ≡ q.settings
  pub address : p.address ≡ q.address

-- A poll says what was sent: its reading, in just the bits that were written.
pub record SaysSo (x : Sent) (p : Poll) : Type 0 where
  pub says : p.read.says ≡ Ok x.reading
  pub entry : poll_entry p ≡ entry_for p.asked (count_for x.reading) x.bytes

-- What is listed of a poll is its minute and address, and then "fault".
abbrev pub ListedFault : Poll → Type 0
ListedFault p =
    (rest : List ℕ) × (says_text (known_save 0 p) ≡ in_decimal p.asked.minute ++ ascii " " ++ in_decimal p.asked.address ++ ascii " " ++ (ascii "fault " ++ rest))

-- What fixes all of it: of a poll the timing, settings, minute and address, and the runs that were sensed; of a morning its polls, and how many stores its save was
-- allowed.
pub record Noted : Type 0 where
  pub timing : Timing
  pub settings : ℕ
  pub minute : ℕ
  pub address : ℕ
  pub runs : List Run

abbrev pub noted : Poll → Noted
noted p =
    record {
      timing = p.asked.timing;
      settings = p.asked.settings;
      minute = p.asked.minute;
      address = p.asked.address;
      runs = p.sensed.runs;
    }

pub record NotedMorning : Type 0 where
  pub polls : List Noted
  pub allowance : ℕ

abbrev pub notes : Morning → NotedMorning
notes m = record { polls = map noted m.polls; allowance = m.allowance }

-- A poll of whose answer just the first so many of these samples were taken.
pub record PolledSo (q : Asked) (samples : List ℕ) : Type 0 where
  pub poll : Poll
  pub asked : poll.asked ≡ q
  pub taken : ℕ
  pub sensed : poll.sensed.samples ≡ take taken samples
  pub count : ℕ
  pub bytes : List ℕ
  pub heard : HeardOnLines q.timing poll.sensed.samples count bytes

-- A reading sent so: this idle before it, every pulse so many samples low, and idle so long between two of them.
pub record SentSo (q : Asked) (r : Reading) (quiet low still : ℕ) : Type 0 where
  pub sent : Sent
  pub asked : sent.asked ≡ q
  pub reading : sent.reading ≡ r
  pub quiet_so : sent.drawing.quiet ≡ quiet
  pub pulses_so : sent.drawing.first ∷ sent.drawing.rest ≡ evenly low still q.timing.gap (bits_of (count_for r) sent.bytes)

-- Polls of transmitters by the settings that their rows have.
pub data BySettings (start : List Row) : List Poll → Type 0 where
  no-poll : BySettings start []
  one_poll : {ps : List Poll} (p : Poll) → ((i : ℕ) → IsRowOf start p.asked.address i → (row_at start i).settings ≡ p.asked.settings) → BySettings start ps
      → BySettings start (p ∷ ps)

-- Mornings that can be: each of at most 30 polls, every one of them heard in some batches.
pub data CanBe : List Morning → Type 0 where
  no_more : CanBe []
  one_more : {ms : List Morning} (m : Morning) (es : List Entry) → Replies m.polls es → length m.polls ≤ most_replies → CanBe ms → CanBe (m ∷ ms)

pub record TankToDesk : Type 0 where
  -- The listing, byte for byte.
  pub listed : (n : ℕ) → n ≤ 2048 → (ms : List Morning) (sheet : List ℕ) (page : Page) → Month n ms sheet page
      → (listing : List ℕ) → Wrote (WritesListing sheet) listing
      → listing ≡ listing_for n (known_in ms)
  -- The page: a summary that is held is the summary of just those records.
  pub page : (n : ℕ) → n ≤ 2048 → (ms : List Morning) (sheet : List ℕ) (page : Summary) → Month n ms sheet (kept page)
      → page ≡ summary_of (records_for n (known_in ms))
  -- The board: begun from rows in order, what a look tells of a transmitter on it is what its polls say, each by the settings and the gauge of its row.
  pub board : (start : List Row) → SoKept start → (ps : List Poll) (rows : List Row) → OnTheBoard start ps rows
      → (address i : ℕ) → address ≤ 999 → IsRowOf start address i → (before told : Looked) → LooksUp start address before → LooksUp rows address told
      → (told.number ≡ 0) × (shows_in told ≡ shown_by (row_at start i).settings (row_at start i).gauge address (shows_in before) ps)
  -- Said so: where a reading that can be said was sent after a poll, drawn within the timing, that reading is what the poll says.
  pub said-so : (x : Sent) (p : Poll) → AskedAlike p.asked x.asked → p.sensed.samples ≡ samples_of x.drawing → SaysSo x p
  -- A silent or spoiled one says "fault 1".
  pub silent : (p : Poll) → bits_sensed p.asked.timing p.sensed.runs ≡ [] → p.read.says ≡ Err (fault 1)
  -- One bit of what was sent changed: its line says "fault".
  pub one_bit : (x : Sent) (p : Poll) → AskedAlike p.asked x.asked → (other : List ℕ) (j : ℕ) → OneWrong x.bytes other (count_for x.reading) j
      → bits_sensed p.asked.timing p.sensed.runs ≡ bits_of (count_for x.reading) other
      → ListedFault p
  -- It can happen: whatever is sensed after a poll, some first part of it is taken and makes a poll; any mornings of polls that were heard make a month; a reading that
  -- can be said is sent; and a listing there always is.
  pub any-samples : (q : Asked) (samples : List ℕ) → PolledSo q samples
  pub any-mornings : (n : ℕ) (ms : List Morning) → CanBe ms → (sheet : List ℕ) × (page : Page) × Month n ms sheet page
  pub any-reading : (q : Asked) (r : Reading) → CanSay q.settings q.address r → (quiet low still : ℕ) → q.timing.least ≤ low → low ≤ q.timing.most
      → 1 ≤ still → still < q.timing.gap → SentSo q r quiet low still
  pub any-board : (start : List Row) → SoKept start → (ps : List Poll) (es : List Entry) → Replies ps es → BySettings start ps
      → (rows : List Row) × OnTheBoard start ps rows
  pub a-listing : (sheet : List ℕ) → (listing : List ℕ) × Wrote (WritesListing sheet) listing
  -- Nothing else: months of which the same is noted have the same listing and the same page.
  pub nothing_else : (n : ℕ) → n ≤ 2048 → (ms qs : List Morning) (sheet other : List ℕ) (page back : Page) → Month n ms sheet page → Month n qs other back
      → map notes ms ≡ map notes qs
      → (one two : List ℕ) → Wrote (WritesListing sheet) one → Wrote (WritesListing other) two → one ≡ two
  pub nothing_else_page : (n : ℕ) → n ≤ 2048 → (ms qs : List Morning) (sheet other : List ℕ) (page back : Summary) → Month n ms sheet (kept page)
      → Month n qs other (kept back) → map notes ms ≡ map notes qs → page ≡ back
  pub nothing_else_board : (start : List Row) → SoKept start → (ps qs : List Poll) (rows others : List Row) → OnTheBoard start ps rows → OnTheBoard start qs others
      → map noted ps ≡ map noted qs
      → (address i : ℕ) → address ≤ 999 → IsRowOf start address i → (one two : Looked) → LooksUp rows address one → LooksUp others address two
      → shows_in one ≡ shows_in two
