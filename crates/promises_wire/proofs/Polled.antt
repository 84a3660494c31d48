-- What a poll's answer is: the calls that heard it are a history of the lines, of which the runs tell the same, and the bits told fix the bytes. So a record that was
-- handed over is the poll's own, whatever the batches.
use mathlib.Core.Path.{◌≡◌, refl, sym, ap, subst, ◌∙◌}
use mathlib.Core.Bool.{Bool, true, false, ◌&&◌}
use mathlib.Core.List.{List, [], ◌∷◌, map}
use Prim.Native.Nat.{ℕ}
use borrow.Author.Tests.{eqb-true, eqb-false, le-ltb}
use lib.Dec.{eqb}
use lib.ListN.{length, take}
use Rattle.frame.specs.Pick.{pick}
use Rattle.frame.specs.Line.{formed, bytes_for}
use Rattle.frame.specs.Faults.{first_of}
use Rattle.sheet.specs.Record.{Entry, passes}
use Rattle.lines.specs.declared.SoFar.{SoFar}
use Rattle.lines.specs.declared.LinesTold.{LinesTold}
use Rattle.lines.specs.Timing.{Timing, bad_timing}
use Rattle.lines.specs.SoFar.{rest_state}
use Rattle.lines.specs.Calls.{HearsLines}
use Rattle.promises_frame.specs.Bits.{AreBytes}
use Rattle.promises_lines.specs.History.{bits_of, said, tellings, History, called}
use Rattle.promises_lines.specs.Form.{bytes_in}
use Rattle.promises_lines.specs.Runs.{by_runs}
use Rattle.promises_lines.proofs.Form.{form}
use Rattle.promises_lines.proofs.Runs.{runs}
use Rattle.promises_lines.proofs.Messages.{bits-long, same_bytes, handed-bytes, handed-bits}
use Rattle.promises_wire.specs.Polls.{Asked, Sensed, bits_told_first, bits_sensed, SensedAndRead, Poll, entry_for, poll_entry}
use Rattle.promises_wire.specs.Heard.{HeardOnLines, heard}
use Rattle.promises_wire.specs.Month.{Replies, none_polled, one_polled}
use Rattle.promises_wire.proofs.Stored.{Fit}
use Rattle.promises_wire.proofs.Rounds.{AllFit, none_fit, one_fit}

-- Bits in form, in their bytes.
pub record Held (bits : List ℕ) (count : ℕ) (bytes : List ℕ) : Type 0 where
  pub are_bytes : AreBytes bytes
  pub in-form : formed count bytes ≡ true
  pub bits_are : bits_of count bytes ≡ bits

no-form : formed 0 [] ≡ true
unfolding formed
no-form = refl

-- The first that a call tells is its bits.
first-told : (a : LinesTold) → bits_told_first (tellings a) ≡ bits_of a.count a.message
unfolding bits_of
first-told a = go (eqb a.number 0) (eqb a.count 0) refl
  where
    go : (b c : Bool) → eqb a.count 0 ≡ c → bits_told_first (pick (b && c) [] (said a ∷ [])) ≡ bits_of a.count a.message
    go true true e = sym (ap (λ (k : ℕ). bits_of k a.message) (eqb-true a.count 0 e))
    go true false e = refl
    go false c e = refl

formed-so : (s : SoFar) (t : Timing) (batch : List ℕ) (a : LinesTold) → bad_timing t ≡ false → HearsLines s t.least t.most t.gap batch a
    → formed a.count (bytes_in a) ≡ true
formed-so s t batch a fine c = go (eqb a.count 0) refl
  where
    go : (b : Bool) → eqb a.count 0 ≡ b → formed a.count (bytes_in a) ≡ true
    go true e = subst (λ (k : ℕ). formed k (take (bytes_for k) a.message) ≡ true) (sym (eqb-true a.count 0 e)) no-form
    go false e = (form.formed s t.least t.most t.gap batch a fine c (eqb-false a.count 0 e)).2

-- What was heard is what the runs tell.
pub heard-so : (t : Timing) → bad_timing t ≡ false → (x : Sensed) (count : ℕ) (bytes : List ℕ) {samples : List ℕ} → samples ≡ x.samples → HeardOnLines t samples count bytes
    → Held (bits_sensed t x.runs) count bytes
heard-so t fine x count bytes e (heard {samples = before} {s = s} batch a h c) =
    let told : tellings a ≡ by_runs t [] x.runs
    = runs.told t fine x.runs x.apart x.samples x.spells (tellings a) a.so_far
    (subst (λ (l : List ℕ). History t rest_state l (tellings a) a.so_far) e (called batch a h c)) in
    record {
      are_bytes = handed-bytes s t.least t.most t.gap batch a c;
      in-form = formed-so s t batch a fine c;
      bits_are = handed-bits a ∙ sym (first-told a) ∙ ap bits_told_first told;
    }

-- The same bits are in the same bytes.
pub same-held : (bits : List ℕ) (count other : ℕ) (bytes others : List ℕ) → Held bits count bytes → Held bits other others → (count ≡ other) × (bytes ≡ others)
same-held bits count other bytes others p q =
    let e : bits_of count bytes ≡ bits_of other others = p.bits_are ∙ sym q.bits_are in
    let many : count ≡ other = sym (bits-long count bytes) ∙ ap length e ∙ bits-long other others in (
      many,
      same_bytes other bytes others p.are_bytes q.are_bytes (subst (λ (k : ℕ). formed k bytes ≡ true) many p.in-form) q.in-form
          (ap (λ (k : ℕ). bits_of k bytes) (sym many) ∙ e),
    )

pub read_held : {q : Asked} {x : Sensed} (r : SensedAndRead q x) → Held (bits_sensed q.timing x.runs) r.count r.bytes
read_held r = record { are_bytes = r.are_bytes; in-form = r.in-form; bits_are = r.bits_are }

entry-same : (q : Asked) (count other : ℕ) (bytes others : List ℕ) → (count ≡ other) × (bytes ≡ others) → entry_for q count bytes ≡ entry_for q other others
entry-same q count other bytes others p = λ i. entry_for q (p.0 i) (p.1 i)

-- The records of replies are those of their polls, and pass the checks.
pub replies-are : {ps : List Poll} {es : List Entry} → Replies ps es → es ≡ map poll_entry ps
replies-are none_polled = refl
replies-are (one_polled p count bytes h more) =
    let one = entry-same p.asked count p.read.count bytes p.read.bytes
    (same-held (bits_sensed p.asked.timing p.sensed.runs) count p.read.count bytes p.read.bytes
    (heard-so p.asked.timing p.asked.timing-fine p.sensed count bytes refl h) (read_held p.read)) in
    λ i. one i ∷ replies-are more i

in-form-passes : (p : Poll) → passes (poll_entry p) ≡ true
unfolding passes first_of
in-form-passes p = rw (le-ltb 15 p.asked.settings p.asked.settings_in, le-ltb 999 p.asked.address p.asked.address_in, p.read.in-form)

pub fit-poll : (p : Poll) → Fit (poll_entry p)
fit-poll p = record { good = in-form-passes p; minute_fits = p.asked.minute_fits }

pub all_fit : (ps : List Poll) → AllFit (map poll_entry ps)
all_fit [] = none_fit
all_fit (p ∷ ps) = one_fit (fit-poll p) (all_fit ps)
