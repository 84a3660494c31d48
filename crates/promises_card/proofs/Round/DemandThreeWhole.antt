-- Demand 3 over calls of every kind: each call comes to saves of the sheet, which close the records and take the slots that its answer tells; calls one after another are
-- then one history, of which demand 3 stands proved. Assumes nothing.
use mathlib.Core.Path.{◌≡◌, refl, sym, ap, subst, ◌∙◌}
use mathlib.Core.Logic.{◌≢◌, ◌↔◌}
use mathlib.Core.Bool.{Bool, true, false, ◌&&◌}
use mathlib.Core.List.{List, [], ◌∷◌, ◌++◌, map, append-nil, append_assoc}
use Prim.Native.Nat.{ℕ, ◌+◌, ◌*◌, ◌/◌, ◌%◌, ◌≤◌, min}
use native.Mathlib.Omega.{arith}
use borrow.Author.Tests.{leb-true, leb-false, eqb-true}
use lib.Dec.{eqb, leb, ltb}
use lib.ListN.{length, take, length-take}
use lib.Seq.{take-take, take-nil}
use Rattle.frame.specs.Pick.{pick}
use Rattle.frame.proofs.Both.{both_left, both_right}
use Rattle.frame.proofs.Numbers.{verdict_number}
use Rattle.sheet.specs.Record.{Entry, passes, length_of}
use Rattle.sheet.specs.Slots.{size_allowed, length_allowed, next, list_of}
use Rattle.sheet.specs.Stores.{made, stores, after}
use Rattle.sheet.specs.Save.{save_fault, saved_number, stores_made}
use Rattle.sheet.proofs.Storing.{stores-length}
use Rattle.summary.specs.declared.Summary.{Summary}
use Rattle.summary.specs.declared.Kept.{Kept}
use Rattle.summary.specs.Worked.{summary_of}
use Rattle.summary.specs.Updated.{with_record}
use Rattle.summary.specs.Calls.{kept_of, keep_fault, SavesWith}
use Rattle.summary.specs.Calls as kept-calls
use Rattle.round.specs.declared.Rounded.{Rounded}
use Rattle.round.specs.declared.RoundedPage.{RoundedPage}
use Rattle.round.specs.Replies.{entries_of}
use Rattle.round.specs.Calls.{SavesRoundWith}
use Rattle.promises_card.specs.Sheet.History.{Save, TakesSheet, History, SheetAfter, blank_sheet, is_closed, count_of, closed_in, broken_in, records_of}
use Rattle.promises_card.specs.Sheet.History as history
use Rattle.promises_card.specs.Sheet.ListAndFull.{covered, Begins}
use Rattle.promises_card.specs.Summary.Chain.{Step, Goes, summary_refused, saved_as, as_save, saves_tried}
use Rattle.promises_card.specs.Summary.Chain as chain
use Rattle.promises_card.specs.Round.Tries.{Try, try_save, try_step, WentSo}
use Rattle.promises_card.specs.Round.Told.{answers_told}
use Rattle.promises_card.specs.Round.Histories.{Called, CalledWith, none_called_with, called_with}
use Rattle.promises_card.specs.Round.AnyCalls.{Call, one, one_with, round, round_with, Does, Calls, none_called, called, stores_by_call, stores_told_by, closed_records, answers_by, slots_taken, closed_all, taken_all, Keeps, begun, kept_one, kept_round, afresh}
use Rattle.promises_card.specs.Round.DemandThreeWhole.{NoSlotLeft, DemandThreeWhole}
use Rattle.promises_card.proofs.Sheet.ListAndFull.{records, long, listed-closed, long-so, slots-of, sized, used, list-and-full}
use Rattle.promises_card.proofs.Sheet.OneSave.{one-save}
use Rattle.promises_card.proofs.Summary.DemandThreeStands.{demand-three-stands}
use Rattle.promises_card.proofs.Summary.AtAnyMoment.{at-any-moment}
use Rattle.promises_card.proofs.Summary.Afresh.{afresh-made}
use Rattle.promises_card.proofs.Round.Closed.{AllReal, history-real, chain-real}
use Rattle.promises_card.proofs.Round.OneByOne.{by-saves, by-steps}
use Rattle.promises_card.proofs.Round.Told.{told-so}
use Rattle.promises_card.proofs.Round.TriedRecords.{records_in, taken_in, first-ones, taken-told, saves-records, saves-taken, same-on-sheet, all_own}
use Rattle.promises_card.proofs.Round.DemandThree.{then, full_by}
use Rattle.promises_card.proofs.Round.NoSlotLeft.{used-after, no_slot}
use Rattle.promises_card.proofs.Summary.Kept.{step-small}
use Rattle.promises_card.proofs.Round.AtAnyMoment.{rounds-at-any-moment}
use Rattle.promises_card.proofs.Round.Stops.{round-stops}
use Rattle.promises_card.proofs.Round.Cut.{round-cut}

-- what a call came to on the sheet
record Came (s : List ℕ) (c : Call) (t : List ℕ) : Type 0 where
  saves : List Save
  made_them : History s saves t
  closed : records_of saves ≡ closed_records c
  taken : closed_in saves + broken_in saves ≡ slots_taken (answers_by c)

one-slot : (k n : ℕ) → slots_taken ((k, n) ∷ []) ≡ 0 + pick (ltb 0 k) 1 0
one-slot k n = unfold slots_taken in omega arith

-- a single save
came-one : (s : List ℕ) (x : Save) (t : List ℕ) → TakesSheet s x t → Came s (one x) t
came-one s x t m =
    let hist : History s (x ∷ []) t = history.saved x history.begun m in
    let taken_is : taken_in (try_save x ∷ []) ≡ 0 + pick (ltb 0 (stores_made x.answer)) 1 0 = unfold taken_in in refl in
    record {
      saves = x ∷ [];
      made_them = hist;
      closed = unfold records_of in refl;
      taken = saves-taken (x ∷ []) (history-real hist) ∙ taken_is ∙ sym (one-slot (stores_made x.answer) (saved_number x.answer));
    }

came-one-with : (s : List ℕ) (page : Summary) (x : Step) (t : List ℕ) → Goes s page x t → Came s (one_with page x) t
came-one-with s page x t m =
    let line : chain.Chain s page (x ∷ []) t x.answer.summary = chain.kept x chain.begun m in
    let hist = demand-three-stands.history s page (x ∷ []) t x.answer.summary line in
    let same = same-on-sheet (x ∷ []) (chain-real line) in
    let records-are : records_in (try_step x ∷ []) ≡ pick (chain.is_closed x) (x.entry ∷ []) [] = unfold records_in in refl in
    let taken_is : taken_in (try_step x ∷ []) ≡ 0 + pick (ltb 0 x.answer.count) 1 0 = unfold taken_in in refl in
    record {
      saves = saves_tried (x ∷ []);
      made_them = hist;
      closed = saves-records (saves_tried (x ∷ [])) ∙ same.records ∙ records-are;
      taken = saves-taken (saves_tried (x ∷ [])) (history-real hist) ∙ same.taken ∙ taken_is ∙ sym (one-slot x.answer.count x.answer.number);
    }

-- a round by its tries
module _ (allowance : ℕ) (es : List Entry) (ts : List Try) (closed stores number : ℕ) (went : WentSo allowance es ts closed stores number) (real : AllReal ts) where
  first-closed : records_in ts ≡ take closed es
  first-closed = first-ones allowance ts es went.rules real went.begins ∙ ap (λ (k : ℕ). take k es) (sym went.closed_are)

  slots-told : taken_in ts ≡ slots_taken (answers_told es closed stores number)
  slots-told = sym (taken-told ts) ∙ ap slots_taken (told-so allowance es ts closed stores number went real)

-- one of more than 30 replies
nothing-taken : (es : List Entry) → slots_taken (answers_told es 0 0 23) ≡ 0
nothing-taken es = unfold slots_taken answers_told in refl

came-round : (s : List ℕ) (c : Called) (t : List ℕ) → Does s (round c) t → Came s (round c) t
came-round s c t m = go (leb c.polled.count 30) refl
  where
    go : (b : Bool) → leb c.polled.count 30 ≡ b → Came s (round c) t
    go true q =
        let by = by-saves s c.polled c.allowance c.answer t m (leb-true c.polled.count 30 q) c.dated in
        let real = history-real by.history in
        record {
          saves = by.saves;
          made_them = by.history;
          closed = saves-records by.saves
              ∙ first-closed c.allowance (entries_of c.polled) (map try_save by.saves) c.answer.closed c.answer.stores c.answer.number by.went real;
          taken = saves-taken by.saves real
              ∙ slots-told c.allowance (entries_of c.polled) (map try_save by.saves) c.answer.closed c.answer.stores c.answer.number by.went real;
        }
    go false q =
        let no = round-stops.too_many s c.polled c.allowance c.answer t m (leb-false c.polled.count 30 q) in
        record {
          saves = [];
          made_them = subst (λ (u : List ℕ). History s [] u) (sym no.1) history.begun;
          closed = unfold records_of in sym (ap (λ (a : Rounded). take a.closed (entries_of c.polled)) no.0);
          taken = unfold count_of in sym (ap (λ (a : Rounded). slots_taken (answers_told (entries_of c.polled) a.closed a.stores a.number)) no.0 ∙ nothing-taken (entries_of c.polled));
        }

came-round-with : (s : List ℕ) (page : Summary) (c : CalledWith) (t : List ℕ) → Does s (round_with page c) t → Came s (round_with page c) t
came-round-with s page c t m = go (leb c.polled.count 30) refl
  where
    go : (b : Bool) → leb c.polled.count 30 ≡ b → Came s (round_with page c) t
    go true q =
        let by = by-steps s page c.polled c.allowance c.answer t m (leb-true c.polled.count 30 q) c.dated in
        let real = chain-real by.chain in
        let hist = demand-three-stands.history s page by.steps t c.answer.summary by.chain in
        let same = same-on-sheet by.steps real in
        record {
          saves = saves_tried by.steps;
          made_them = hist;
          closed = saves-records (saves_tried by.steps) ∙ same.records
              ∙ first-closed c.allowance (entries_of c.polled) (map try_step by.steps) c.answer.closed c.answer.stores c.answer.number by.went real;
          taken = saves-taken (saves_tried by.steps) (history-real hist) ∙ same.taken
              ∙ slots-told c.allowance (entries_of c.polled) (map try_step by.steps) c.answer.closed c.answer.stores c.answer.number by.went real;
        }
    go false q =
        let no = round-stops.too_many_with s page c.polled c.allowance c.answer t m (leb-false c.polled.count 30 q) in
        record {
          saves = [];
          made_them = subst (λ (u : List ℕ). History s [] u) (sym no.1) history.begun;
          closed = unfold records_of in sym (ap (λ (a : RoundedPage). take a.closed (entries_of c.polled)) no.0);
          taken = unfold count_of in sym (ap (λ (a : RoundedPage). slots_taken (answers_told (entries_of c.polled) a.closed a.stores a.number)) no.0 ∙ nothing-taken (entries_of c.polled));
        }

came : (s : List ℕ) (c : Call) (t : List ℕ) → Does s c t → Came s c t
came s (one x) t m = came-one s x t m
came s (one_with page x) t m = came-one-with s page x t m
came s (round c) t m = came-round s c t m
came s (round_with page c) t m = came-round-with s page c t m

-- histories one after another
records-after : (g h : List Save) → records_of (g ++ h) ≡ records_of h ++ records_of g
unfolding records_of
records-after [] h = sym (append-nil (records_of h))
records-after (x ∷ g) h =
    ap (λ (l : List Entry). l ++ pick (is_closed x) (x.entry ∷ []) []) (records-after g h)
    ∙ append_assoc (records_of h) (records_of g) (pick (is_closed x) (x.entry ∷ []) [])

-- what calls came to
record AllCame (from : List ℕ) (cs : List Call) (t : List ℕ) : Type 0 where
  saves : List Save
  made_them : History from saves t
  closed : records_of saves ≡ closed_all cs
  taken : closed_in saves + broken_in saves ≡ taken_all cs

all-came : {from : List ℕ} {cs : List Call} {t : List ℕ} → Calls from cs t → AllCame from cs t
unfolding closed_all taken_all records_of count_of
all-came none_called = record { saves = []; made_them = history.begun; closed = refl; taken = refl }
all-came (called {cs = cs} {s = s} {t = t} c before m) =
    let first = all-came before in
    let more = came s c t m in
    record {
      saves = more.saves ++ first.saves;
      made_them = then first.made_them more.made_them;
      closed = records-after more.saves first.saves ∙ (λ i. first.closed i ++ more.closed i);
      taken = omega (arith, used-after more.saves first.saves, first.taken, more.taken);
    }

-- the list, on any sheet of an allowed size
sized-long : (s : List ℕ) → size_allowed s ≡ true → (length s / 32 ≤ 2048) × (length s ≡ 32 * (length s / 32))
sized-long s sized =
    let whole : length s % 32 ≡ 0 = eqb-true (length s % 32) 0 (both_left (eqb (length s % 32) 0) (leb (length s) 65536) sized) in
    let most : length s ≤ 65536 = leb-true (length s) 65536 (both_right (eqb (length s % 32) 0) (leb (length s) 65536) sized) in
    (omega (arith, whole, most), omega (arith, whole))

list-of : (s : List ℕ) → size_allowed s ≡ true → (c : Call) (t : List ℕ) → Does s c t → list_of t ≡ list_of s ++ closed_records c
list-of s sized c t m =
    let is = came s c t m in
    let size = sized-long s sized in
    records (length s / 32) size.0 size.1 is.made_them ∙ ap (λ (l : List Entry). list_of s ++ l) is.closed

stays_of : (s : List ℕ) → size_allowed s ≡ true → (later : List Call) (t : List ℕ) → Calls s later t → Begins (list_of s) (list_of t)
stays_of s sized later t more =
    let all = all-came more in
    let size = sized-long s sized in
    (records_of all.saves, records (length s / 32) size.0 size.1 all.made_them)

-- a blank sheet after calls
module _ (n : ℕ) (few : n ≤ 2048) (cs : List Call) (s : List ℕ) (calls : Calls (blank_sheet n) cs s) where
  abbrev all : AllCame (blank_sheet n) cs s
  all = all-came calls

  after-all : SheetAfter n all.saves s
  after-all = record { allowed = few; history = all.made_them }

  whole_of : list_of s ≡ closed_all cs
  whole_of = list-and-full.whole n all.saves s after-all ∙ all.closed

  full-of : (x : Save) (t : List ℕ) → TakesSheet s x t → passes x.entry ≡ true → (saved_number x.answer ≡ 13) ↔ (taken_all cs ≡ n)
  full-of x t m good =
      let full = list-and-full.full n all.saves s after-all x t m good in
      (λ q. sym all.taken ∙ full.0 q, λ q. full.1 (all.taken ∙ q))

  closes-of : (x : Save) (t : List ℕ) → TakesSheet s x t → is_closed x ≡ (passes x.entry && ltb (taken_all cs) n && covered x)
  closes-of x t m =
      let long-is = long-so n few all.saves s all.made_them in
      sym (listed-closed s t x (sized n few all.saves s all.made_them) m)
      ∙ (λ i. passes x.entry && ltb ((used n few all.saves s all.made_them ∙ all.taken) i) (slots-of n few s long-is i) && covered x)

  full-with : (page : Summary) (x : Step) (t : List ℕ) → Goes s page x t → summary_refused x ≡ false → passes x.entry ≡ true
      → (x.answer.number ≡ 13) ↔ (taken_all cs ≡ n)
  full-with page x t m own good =
      let full = full-of (as_save x) t (demand-three-stands.one s page x t m own) good in
      let is = verdict_number saved_number (λ _. refl) (λ _. refl) x.answer.number x.answer.count (step-small s page x t m) in
      (λ q. full.0 (is ∙ q), λ q. sym is ∙ full.1 q)

  -- a round, by what it tried
  module _ (allowance : ℕ) (es : List Entry) (closed stores number : ℕ) (saves : List Save) (t : List ℕ) (done : History s saves t)
      (went : WentSo allowance es (map try_save saves) closed stores number) where
    full-round : (number ≡ 13) ↔ NoSlotLeft n (taken_all cs) es closed stores allowance
    full-round =
        no_slot n (taken_all cs) all.saves allowance es closed stores number all.taken saves (history-real done) went
        (full_by n few all.saves s all.made_them allowance es closed stores number saves t done went)

  full-round-of : (c : Called) (t : List ℕ) → Does s (round c) t → c.polled.count ≤ 30
      → (c.answer.number ≡ 13) ↔ NoSlotLeft n (taken_all cs) (entries_of c.polled) c.answer.closed c.answer.stores c.allowance
  full-round-of c t m small =
      let by = by-saves s c.polled c.allowance c.answer t m small c.dated in
      full-round c.allowance (entries_of c.polled) c.answer.closed c.answer.stores c.answer.number by.saves t by.history by.went

  full-round-with : (page : Summary) (c : CalledWith) (t : List ℕ) → Does s (round_with page c) t → c.polled.count ≤ 30
      → c.answer.number ≢ 37 → c.answer.number ≢ 24
      → (c.answer.number ≡ 13) ↔ NoSlotLeft n (taken_all cs) (entries_of c.polled) c.answer.closed c.answer.stores c.allowance
  full-round-with page c t m small a b =
      let by = by-steps s page c.polled c.allowance c.answer t m small c.dated in
      let own = all_own c.allowance by.steps by.went.rules (chain-real by.chain) (λ q. a (by.went.number_is ∙ q)) (λ q. b (by.went.number_is ∙ q)) in
      full-round c.allowance (entries_of c.polled) c.answer.closed c.answer.stores c.answer.number (saves_tried by.steps) t
      (demand-three-stands.history s page by.steps t c.answer.summary by.chain)
      (subst (λ (ts : List Try). WentSo c.allowance (entries_of c.polled) ts c.answer.closed c.answer.stores c.answer.number) (sym own) by.went)

-- the stores
module _ (s : List ℕ) (e : Entry) (may : ℕ) where
  made_by : (b : Bool) → made s (pick b (take may (stores (32 * next s) e)) []) ≡ pick b (after s e may) s
  made_by true = unfold after in refl
  made_by false = unfold made in refl

  many_by : (b : Bool) → length (pick b (take may (stores (32 * next s) e)) []) ≡ pick b (min may (length_of e + 2)) 0
  many_by true = length-take may (stores (32 * next s) e) ∙ ap (min may) (stores-length (32 * next s) e)
  many_by false = refl

count-of : (s : List ℕ) (c : Call) (t : List ℕ) → Does s c t → (t ≡ made s (stores_by_call s c)) × (stores_told_by c ≡ length (stores_by_call s c))
count-of s (one x) t m =
    (m.leaves ∙ sym (made_by s x.entry x.allowance (eqb (save_fault s x.entry) 0)), (one-save.count s x.entry x.allowance x.answer t m).number)
count-of s (one_with page x) t m =
    let b = eqb (keep_fault s page x.entry) 0 in (
      m.leaves ∙ sym (made_by s x.entry x.allowance b),
      ap (λ (k : Kept). k.count) m.answers ∙ told (eqb (keep_fault s page x.entry) 0) ∙ sym (many_by s x.entry x.allowance b),
    )
  where
    told : (b : Bool)
        → (pick b (kept_of (pick (kept-calls.closes_record x.entry x.allowance) (with_record x.entry page) page) (min x.allowance (length_of x.entry + 2)) 0)
        (kept_of page 0 (keep_fault s page x.entry))).count
        ≡ pick b (min x.allowance (length_of x.entry + 2)) 0
    told true = refl
    told false = refl
count-of s (round c) t m = round-cut.made_so s c.polled c.allowance c.answer t m
count-of s (round_with page c) t m = round-cut.made_so_with s page c.polled c.allowance c.answer t m

cut_of : (s : List ℕ) (page : Summary) (x : Step) (k : ℕ) → k ≤ x.allowance → (answer : Kept) (t : List ℕ) → SavesWith s page x.entry k answer t
    → made s (take k (stores_by_call s (one_with page x))) ≡ t
cut_of s page x k l answer t m = go (eqb (keep_fault s page x.entry) 0) m.leaves
  where
    go : (b : Bool) → t ≡ pick b (after s x.entry k) s → made s (take k (pick b (take x.allowance (stores (32 * next s) x.entry)) [])) ≡ t
    go true q = unfold after in ap (made s) (take-take k x.allowance (stores (32 * next s) x.entry) l) ∙ sym q
    go false q = unfold made in ap (made s) (take-nil k) ∙ sym q

-- the summary that a host keeps
record Right (t : List ℕ) (page : Summary) : Type 0 where
  equals : page ≡ summary_of (list_of t)
  sized_so : size_allowed t ≡ true

still : (s : List ℕ) (cs : List Call) (t : List ℕ) → Calls s cs t → size_allowed s ≡ true → size_allowed t ≡ true
still s cs t calls size = ap length_allowed (long (all-came calls).made_them) ∙ size

step-as : (s : List ℕ) (page : Summary) → page ≡ summary_of (list_of s) → (x : Step) (t : List ℕ) → Goes s page x t → Goes s (summary_of (list_of s)) x t
step-as s page q x t m = subst (λ (p : Summary). Goes s p x t) q m

round-as : (s : List ℕ) (page : Summary) → page ≡ summary_of (list_of s) → (c : CalledWith) (t : List ℕ)
    → SavesRoundWith s page c.polled c.allowance c.answer t → SavesRoundWith s (summary_of (list_of s)) c.polled c.allowance c.answer t
round-as s page q c t m = subst (λ (p : Summary). SavesRoundWith s p c.polled c.allowance c.answer t) q m

keeps : {from : List ℕ} → size_allowed from ≡ true → {t : List ℕ} {page : Summary} → Keeps from t page → Right t page
keeps {from} size (begun made m) = record { equals = (afresh-made.answers from made m size).0; sized_so = size }
keeps size (kept_one {s = s} {t = t} {page = page} x before m) =
    let was = keeps size before in
    record {
      equals = at-any-moment.equals s was.sized_so (x ∷ []) t x.answer.summary (chain.kept x chain.begun (step-as s page was.equals x t m));
      sized_so = still s (one_with page x ∷ []) t (called (one_with page x) none_called m) was.sized_so;
    }
keeps size (kept_round {s = s} {t = t} {page = page} c before m) =
    let was = keeps size before in
    record {
      equals = rounds-at-any-moment.equals s was.sized_so (c ∷ []) t c.answer.summary (called_with c none_called_with (round-as s page was.equals c t m));
      sized_so = still s (round_with page c ∷ []) t (called (round_with page c) none_called m) was.sized_so;
    }
keeps size (afresh {s = s} {t = t} cs made before calls m) =
    let was = keeps size before in
    let now-sized = still s cs t calls was.sized_so in
    record { equals = (afresh-made.answers t made m now-sized).0; sized_so = now-sized }

pub demand-three-whole : DemandThreeWhole
demand-three-whole =
    record {
      count = count-of;
      list = list-of;
      history = λ n few cs s calls.
          let all = all-came calls in
          (all.saves, (record { allowed = few; history = all.made_them }, (all.closed, all.taken)));
      whole = whole_of;
      closes = closes-of;
      full_one = full-of;
      full_one_with = full-with;
      full-round = full-round-of;
      full-round-with = full-round-with;
      stays = stays_of;
      cut_one_with = cut_of;
      at-any-moment = λ from size t page k. (keeps size k).equals;
      never = λ from size s page k x t m.
          let was = keeps size k in
          at-any-moment.never s was.sized_so [] s (summary_of (list_of s)) chain.begun x t (step-as s page was.equals x t m);
      never_round = λ from size s page k c t m.
          let was = keeps size k in
          rounds-at-any-moment.never s was.sized_so [] s (summary_of (list_of s)) none_called_with c t (round-as s page was.equals c t m);
    }
