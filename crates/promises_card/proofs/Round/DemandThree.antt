-- Demand 3 over rounds: the saves of one round after another are one history, of which demand 3 stands proved; and of one round the closed replies are its
-- first ones. Assumes nothing.
use mathlib.Core.Path.{◌≡◌, refl, sym, ap, subst, ◌∙◌}
use mathlib.Core.Logic.{◌≢◌, ◌↔◌}
use mathlib.Core.Bool.{Bool, true, false, not}
use mathlib.Core.List.{List, [], ◌∷◌, ◌++◌, map}
use Prim.Native.Nat.{ℕ, ◌+◌, ◌*◌, ◌/◌, ◌%◌, ◌<◌, ◌≤◌}
use native.Mathlib.Omega.{arith}
use borrow.Author.Tests.{leb-true, leb-false, eqb-true}
use lib.Dec.{eqb, leb, ltb}
use lib.ListN.{length, get_or, take, drop}
use Rattle.frame.specs.Pick.{pick}
use Rattle.frame.specs.Line.{formed}
use Rattle.frame.specs.Faults.{first_of}
use Rattle.frame.proofs.Both.{both_left, both_right}
use Rattle.sheet.specs.Record.{Entry, checks, passes}
use Rattle.sheet.specs.Slots.{size_allowed, slots, next, list_of}
use Rattle.sheet.specs.Save.{saved_number}
use Rattle.sheet.proofs.SaveNumbers.{answer-number}
use Rattle.sheet.proofs.Refusals.{save-fault}
use Rattle.round.specs.declared.Round.{Round}
use Rattle.round.specs.declared.Rounded.{Rounded}
use Rattle.round.specs.Replies.{entries_of}
use Rattle.round.specs.Saving.{none, Standing}
use Rattle.round.proofs.Turns.{too_many}
use Rattle.promises_card.specs.Sheet.History.{Save, TakesSheet, History, blank_sheet, closed_in, broken_in}
use Rattle.promises_card.specs.Sheet.History as history
use Rattle.promises_card.specs.Round.Tries.{try_save, stores_in_tries, Rules, WentSo}
use Rattle.promises_card.specs.Round.Tries as tries
use Rattle.promises_card.specs.Round.OneByOne.{BySaves}
use Rattle.promises_card.specs.Round.Histories.{Called, Rounds, none_called, called, Flattened, nothing, tried, not_tried}
use Rattle.promises_card.specs.Round.DemandThree.{StoppedFull, OverRounds}
use Rattle.promises_card.proofs.Sheet.ListAndFull.{records, list-and-full}
use Rattle.promises_card.proofs.Round.OneByOne.{by-saves}
use Rattle.promises_card.proofs.Round.Closed.{history-real}
use Rattle.promises_card.proofs.Round.TriedRecords.{saves-records, first-ones}

-- one history after another
pub then : {from : List ℕ} {h : List Save} {s : List ℕ} {g : List Save} {t : List ℕ} → History from h s → History s g t → History from (g ++ h) t
then first history.begun = first
then first (history.saved x more m) = history.saved x (then first more) m

flatten : {from : List ℕ} {cs : List Called} {t : List ℕ} → Rounds from cs t → (h : List Save) × Flattened from cs h t
flatten none_called = ([], nothing)
flatten {from} (called {cs = cs} {s = s} {t = t} c before m) = go (leb c.polled.count 30) refl (flatten before)
  where
    go : (b : Bool) → leb c.polled.count 30 ≡ b → ((h : List Save) × Flattened from cs h s) → (h : List Save) × Flattened from (c ∷ cs) h t
    go true q (h, flat) =
        let one = by-saves s c.polled c.allowance c.answer t m (leb-true c.polled.count 30 q) c.dated in
        (one.saves ++ h, tried c flat one)
    go false q (h, flat) =
        let big = leb-false c.polled.count 30 q in
        (h, not_tried c flat big (m.leaves ∙ ap (λ (x : Standing). x.sheet) (too_many s none c.polled c.allowance big)))

of-saves : {from : List ℕ} {cs : List Called} {h : List Save} {t : List ℕ} → Flattened from cs h t → History from h t
of-saves nothing = history.begun
of-saves (tried c flat one) = then (of-saves flat) one.history
of-saves {from} {h = h} (not_tried c flat big same) = subst (λ (u : List ℕ). History from h u) (sym same) (of-saves flat)

-- the list grows by the closed replies
list-of : (s : List ℕ) → size_allowed s ≡ true → (r : Round) (allowance : ℕ) (answer : Rounded) (t : List ℕ) → BySaves s r allowance answer t
    → list_of t ≡ list_of s ++ take answer.closed (entries_of r)
list-of s sized r allowance answer t one =
    let whole : length s % 32 ≡ 0 = eqb-true (length s % 32) 0 (both_left (eqb (length s % 32) 0) (leb (length s) 65536) sized) in
    let most : length s ≤ 65536 = leb-true (length s) 65536 (both_right (eqb (length s % 32) 0) (leb (length s) 65536) sized) in
    let few : length s / 32 ≤ 2048 = omega arith in
    let long : length s ≡ 32 * (length s / 32) = omega arith in
    records (length s / 32) few long one.history
    ∙ ap (λ (l : List Entry). list_of s ++ l)
    (saves-records one.saves
    ∙ first-ones allowance (map try_save one.saves) (entries_of r) one.went.rules (history-real one.history) one.went.begins
    ∙ ap (λ (k : ℕ). take k (entries_of r)) (sym one.went.closed_are))

-- 13 is said of good records alone
checks-not-13 : (e : Entry) → first_of (checks e) ≢ 13
checks-not-13 e = unfold first_of in go (ltb 15 e.settings) (ltb 999 e.address) (not (formed e.count e.reply))
  where
    go : (a b c : Bool) → ◌≢◌ {A = ℕ} (pick a 10 (pick b 11 (pick c 14 0))) 13
    go true b c q = omega arith
    go false true c q = omega arith
    go false false true q = omega arith
    go false false false q = omega arith

good-13 : (s : List ℕ) (x : Save) (t : List ℕ) → TakesSheet s x t → saved_number x.answer ≡ 13 → passes x.entry ≡ true
good-13 s x t m n = by (size_allowed s) (passes x.entry) (leb (slots s) (next s)) refl
    (sym (save-fault s x.entry) ∙ sym (answer-number s x.entry x.allowance x.answer t m) ∙ n)
  where
    by : (a p f : Bool) → passes x.entry ≡ p → pick a (pick p (pick f 13 0) (first_of (checks x.entry))) 12 ≡ 13 → passes x.entry ≡ true
    by true true f y q = y
    by true false f y q = absurd (checks-not-13 x.entry q)
    by false p f y q = absurd (omega arith)

module _ (n : ℕ) (few : n ≤ 2048) (h : List Save) (s : List ℕ) (before-it : History (blank_sheet n) h s) (allowance : ℕ) (es : List Entry) (closed stores number : ℕ) where
  pub full_by : (saves : List Save) (t : List ℕ) → History s saves t → WentSo allowance es (map try_save saves) closed stores number
      → (number ≡ 13) ↔ StoppedFull n h allowance saves
  full_by [] t made went =
      (λ q. absurd (omega (arith, went.number_is, q)), λ f. absurd (omega (arith, ap length f.latest)))
  full_by (x ∷ g) t (history.saved {s = u} y made m) went = (there, back)
    where
      full : passes x.entry ≡ true → (saved_number x.answer ≡ 13) ↔ (closed_in (g ++ h) + broken_in (g ++ h) ≡ n)
      full = list-and-full.full n (g ++ h) u (record { allowed = few; history = then before-it made }) x t m

      left : Rules allowance (map try_save (x ∷ g)) → stores_in_tries (map try_save g) < allowance
      left (tries.next z rules before l given) = l

      there : number ≡ 13 → StoppedFull n h allowance (x ∷ g)
      there q =
          let said = sym went.number_is ∙ q in
          let good = good-13 u x t m said in
          record { last = x; before = g; latest = refl; good = good; stores_left = left went.rules; all_slots = (full good).0 said }

      back : StoppedFull n h allowance (x ∷ g) → number ≡ 13
      back f =
          let same : x ≡ f.last = ap (λ (l : List Save). get_or l 0 x) f.latest in
          let rest : g ≡ f.before = ap (λ (l : List Save). drop 1 l) f.latest in
          let good : passes x.entry ≡ true = ap (λ (z : Save). passes z.entry) same ∙ f.good in
          let all : closed_in (g ++ h) + broken_in (g ++ h) ≡ n = ap (λ (l : List Save). closed_in (l ++ h) + broken_in (l ++ h)) rest ∙ f.all_slots in
          went.number_is ∙ (full good).1 all

pub over-rounds : OverRounds
over-rounds =
    record {
      flattens = λ from cs t rounds. flatten rounds;
      history = λ from cs h t flat. of-saves flat;
      after_rounds = λ n few cs h s flat. record { allowed = few; history = of-saves flat };
      list = list-of;
      full = λ n few cs h s flat r allowance answer t one.
          full_by n few h s (of-saves flat) allowance (entries_of r) answer.closed answer.stores answer.number one.saves t one.history one.went;
      stays = λ n few cs s before later t after.
          let first = flatten before in
          let more = flatten after in
          list-and-full.stays n first.0 s (record { allowed = few; history = of-saves first.1 }) more.0 t (of-saves more.1);
    }
