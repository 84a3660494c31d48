-- Demand 3, by induction on the history. Two laws hold of one save on any sheet of an allowed size: the next slot moves on by one for a closed or a
-- broken save, and the list grows by the record of a closed one. So nothing need be known of the sheets that saves can reach but their length.
-- Assumes nothing.
use mathlib.Core.Path.{◌≡◌, refl, sym, ap, ◌∙◌}
use mathlib.Core.Logic.{◌↔◌}
use mathlib.Core.Bool.{Bool, true, false, ◌&&◌}
use mathlib.Core.List.{List, [], ◌∷◌, ◌++◌, append-nil, append_assoc}
use Prim.Native.Nat.{ℕ, zero, suc, ◌+◌, ◌-◌, ◌*◌, ◌/◌, ◌%◌, ◌<◌, ◌≤◌}
use native.Mathlib.Omega.{arith}
use borrow.Author.Tests.{eq-eqb, ne_eqb, lt-ltb, le-ltb, ltb-true, leb-true, leb-false, le-leb, lt-leb}
use lib.Dec.{eqb, leb, ltb}
use lib.ListN.{length, take, replicate, length-replicate}
use Rattle.frame.specs.Pick.{pick}
use Rattle.sheet.specs.Bytes.{FF, all_blank}
use Rattle.sheet.specs.Record.{Entry, passes}
use Rattle.sheet.specs.Slots.{Slot, spoiled, holds, record_in, size_allowed, slots, slot_at, slot_of, list_up_to, list_of, next_up_to, next}
use Rattle.sheet.specs.Stores.{after}
use Rattle.sheet.specs.Save.{save_fault, saved_number, stores_made}
use Rattle.sheet.proofs.Refusals.{save-fault}
use Rattle.promises_card.specs.Sheet.History.{Save, TakesSheet, History, begun, saved, blank_sheet, all_stores, is_closed, count_of, closed_in, broken_in, records_of}
use Rattle.promises_card.specs.Sheet.ListAndFull.{slot_left, covered, Begins, ListAndFull}
use Rattle.sheet.proofs.TakenSlot.{drop-replicate}
use Rattle.sheet.proofs.LastUsedSlot.{BlankFrom, next_le, list-blank}
use Rattle.sheet.proofs.SaveMade as made-law
use Rattle.sheet.proofs.Refusals.{Clear, clear-fault}
use Rattle.promises_card.proofs.Sheet.Fates.{Fate, refused, idle, broken, closed, fate}
use Rattle.promises_card.proofs.Sheet.OneSave.{one-save}
use Rattle.std.specs.Prelude.{Result, Ok}
use Rattle.frame.specs.declared.faults.Fault.{Fault}

-- What a save counts as, by the stores that it made.
abbrev weight : ℕ → ℕ → ℕ
weight made all = pick (eqb made all) 1 0 + pick (ltb 0 made && ltb made all) 1 0

abbrev counted : Save → ℕ
counted x = weight (stores_made x.answer) (all_stores x)

weight-none : (all : ℕ) → 0 < all → weight 0 all ≡ 0
weight-none all h = simp (ne_eqb 0 all (omega arith))

weight-some : (made all : ℕ) → 0 < made → made < all → weight made all ≡ 1
weight-some made all h l = simp (ne_eqb made all (omega arith), lt-ltb 0 made h, lt-ltb made all l)

weight-all : (all : ℕ) → 0 < all → weight all all ≡ 1
weight-all all h = simp (eq-eqb all all refl, lt-ltb 0 all h, le-ltb all all (omega arith))

-- The next slot moves on by what the save counts as.
module _ (s t : List ℕ) (x : Save) where
  abbrev all : ℕ
  all = all_stores x

  unmoved : stores_made x.answer ≡ 0 → t ≡ s → next t ≡ next s + counted x
  unmoved none q =
      let nothing : counted x ≡ 0 = ap (λ (k : ℕ). weight k all) none ∙ weight-none all (omega arith) in
      ap next q ∙ (omega arith)

  moved_on : Clear s x.entry → 0 < x.allowance → t ≡ after s x.entry x.allowance → counted x ≡ 1 → next t ≡ next s + counted x
  moved_on c p q one =
      ap next q ∙ made-law.next-moves s x.entry x.allowance c.good c.left p ∙ ap (λ (k : ℕ). next s + k) (sym one)

  next-fate : Fate s x.entry x.allowance x.answer t → next t ≡ next s + counted x
  next-fate (refused n a q) = unmoved (ap stores_made a) q
  next-fate (idle c z a q) = unmoved (ap stores_made a) (q ∙ made-law.untouched s x.entry x.allowance c.good c.left z)
  next-fate (broken c p l a q) = moved_on c p q (ap (λ (k : ℕ). weight k all) (ap stores_made a) ∙ weight-some x.allowance all p l)
  next-fate (closed c l a q) = moved_on c (omega arith) q (ap (λ (k : ℕ). weight k all) (ap stores_made a) ∙ weight-all all (omega arith))

  next-step : TakesSheet s x t → next t ≡ next s + counted x
  next-step m = next-fate (fate s x.entry x.allowance x.answer t m)

-- A save against which something speaks is not listed.
not-clear : (s : List ℕ) (e : Entry) (u : Bool) → size_allowed s ≡ true → (save_fault s e ≡ 0 → ⊥) → (passes e && ltb (next s) (slots s) && u) ≡ false
not-clear s e u sized h = go (passes e) (ltb (next s) (slots s)) refl refl
  where
    go : (p l : Bool) → passes e ≡ p → ltb (next s) (slots s) ≡ l → (p && l && u) ≡ false
    go true true x y = absurd (h (clear-fault s e (record { sized = sized; good = x; left = ltb-true (next s) (slots s) y })))
    go true false x y = refl
    go false l x y = refl

-- The list grows by the record of a closed save.
module _ (s t : List ℕ) (x : Save) (sized : size_allowed s ≡ true) where
  abbrev ending : Bool → List Entry
  ending b = pick b (x.entry ∷ []) []

  abbrev listed : Bool
  listed = passes x.entry && ltb (next s) (slots s) && covered x

  -- a save that is not refused is listed where its last store was covered
  listed-if : Clear s x.entry → (u : Bool) → covered x ≡ u → listed ≡ u
  listed-if c u h = simp (c.good, lt-ltb (next s) (slots s) c.left, h)

  kept : t ≡ s → listed ≡ false → list_of t ≡ list_of s ++ ending listed
  kept q h = ap list_of q ∙ sym (append-nil (list_of s)) ∙ ap (λ (b : Bool). list_of s ++ ending b) (sym h)

  told : Clear s x.entry → t ≡ after s x.entry x.allowance → (y : Slot) → slot_of (slot_at (after s x.entry x.allowance) (next s)) ≡ y
      → list_of t ≡ list_of s ++ record_in y
  told c q y h = ap list_of q ∙ made-law.list-told s x.entry x.allowance c.good c.left ∙ ap (λ (z : Slot). list_of s ++ record_in z) h

  list-fate : Fate s x.entry x.allowance x.answer t → list_of t ≡ list_of s ++ ending listed
  list-fate (refused n a q) = kept q (not-clear s x.entry (covered x) sized n)
  list-fate (idle c z a q) =
      kept (q ∙ made-law.untouched s x.entry x.allowance c.good c.left z)
      (listed-if c false (lt-leb (all_stores x) x.allowance (omega arith)))
  list-fate (broken c p l a q) =
      told c q spoiled (made-law.breaks s x.entry x.allowance c.good c.left p l)
      ∙ ap (λ (b : Bool). list_of s ++ ending b) (sym (listed-if c false (lt-leb (all_stores x) x.allowance l)))
  list-fate (closed c l a q) =
      told c q (holds x.entry) (made-law.closes s x.entry x.allowance c.good c.left x.minute_fits l)
      ∙ ap (λ (b : Bool). list_of s ++ ending b) (sym (listed-if c true (le-leb (all_stores x) x.allowance l)))

  -- and a save is listed exactly where it made all its stores
  closed_is : (made : ℕ) (b : Bool) → x.answer ≡ Ok made → eqb made (all_stores x) ≡ b → is_closed x ≡ b
  closed_is made b a e = ap (λ (y : Result ℕ Fault). eqb (stores_made y) (all_stores x)) a ∙ e

  closed-fate : Fate s x.entry x.allowance x.answer t → listed ≡ is_closed x
  closed-fate (refused n a q) =
      not-clear s x.entry (covered x) sized n ∙ sym (ap (λ (y : Result ℕ Fault). eqb (stores_made y) (all_stores x)) a ∙ ne_eqb 0 (all_stores x) (omega arith))
  closed-fate (idle c z a q) =
      listed-if c false (lt-leb (all_stores x) x.allowance (omega arith)) ∙ sym (closed_is 0 false a (ne_eqb 0 (all_stores x) (omega arith)))
  closed-fate (broken c p l a q) =
      listed-if c false (lt-leb (all_stores x) x.allowance l)
      ∙ sym (closed_is x.allowance false a (ne_eqb x.allowance (all_stores x) (omega arith)))
  closed-fate (closed c l a q) =
      listed-if c true (le-leb (all_stores x) x.allowance l) ∙ sym (closed_is (all_stores x) true a (eq-eqb (all_stores x) (all_stores x) refl))

  pub listed-closed : TakesSheet s x t → listed ≡ is_closed x
  listed-closed m = closed-fate (fate s x.entry x.allowance x.answer t m)

  list-step : TakesSheet s x t → list_of t ≡ list_of s ++ ending listed
  list-step m = list-fate (fate s x.entry x.allowance x.answer t m)

-- 13 is said of a good record exactly where no slot is left.
full-step : (s t : List ℕ) (x : Save) → size_allowed s ≡ true → passes x.entry ≡ true → TakesSheet s x t
    → (saved_number x.answer ≡ 13) ↔ (slots s ≤ next s)
full-step s t x sized good m = by-room (leb (slots s) (next s)) refl
  where
    fault : (b : Bool) → leb (slots s) (next s) ≡ b → save_fault s x.entry ≡ pick b 13 0
    fault b h = save-fault s x.entry ∙ simp (sized, good, h)

    said : save_fault s x.entry ≡ 13 → saved_number x.answer ≡ 13
    said f = ap saved_number m.answers ∙ simp f

    unsaid : save_fault s x.entry ≡ 0 → saved_number x.answer ≡ 0
    unsaid f = ap saved_number m.answers ∙ simp f

    by-room : (b : Bool) → leb (slots s) (next s) ≡ b → (saved_number x.answer ≡ 13) ↔ (slots s ≤ next s)
    by-room true h = (λ e. leb-true (slots s) (next s) h, λ e. said (fault true h))
    by-room false h = (λ e. absurd (omega (arith, unsaid (fault false h))), λ e. absurd (omega (arith, leb-false (slots s) (next s) h)))

-- A blank sheet: every slot is blank, so the next slot is the first and the list is empty.
blank-row : (n : ℕ) → all_blank (replicate n FF) ≡ true
unfolding all_blank
blank-row zero = refl
blank-row (suc n) = blank-row n

take-replicate : (n m : ℕ) → n ≤ m → take n (replicate m FF) ≡ replicate n FF
take-replicate zero m h = refl
take-replicate (suc n) zero h = absurd (omega arith)
take-replicate (suc n) (suc m) h = ap (λ (l : List ℕ). FF ∷ l) (take-replicate n m (omega arith))

pub blank-slots : (n : ℕ) → BlankFrom (blank_sheet n) 0 n
blank-slots n k from below =
    ap (λ (x : List ℕ). all_blank (take 32 x)) (drop-replicate (32 * k) (32 * n)) ∙ ap all_blank (take-replicate 32 (32 * n - 32 * k) (omega arith))
    ∙ blank-row 32

next-zero : (s : List ℕ) (m : ℕ) → BlankFrom s 0 m → next_up_to s m ≡ 0
unfolding next_up_to
next-zero s zero h = refl
next-zero s (suc m) h =
    ap (λ (b : Bool). pick b (next_up_to s m) (suc m)) (h m (omega arith) (omega arith)) ∙ next-zero s m (λ k from below. h k from (omega arith))

-- Sheets of one history are equally long.
pub long : {from : List ℕ} {h : List Save} {s : List ℕ} → History from h s → length s ≡ length from
long begun = refl
long (saved {s = s} {t = t} x hist m) = (one-save.count s x.entry x.allowance x.answer t m).as_long ∙ long hist

sized-as : (n : ℕ) (s : List ℕ) → n ≤ 2048 → length s ≡ 32 * n → size_allowed s ≡ true
sized-as n s few e = simp (e, eq-eqb (32 * n % 32) 0 (omega arith), le-leb (32 * n) 65536 (omega arith))

-- The next slot counts the closed records and the broken saves.
counts : {from : List ℕ} {h : List Save} {s : List ℕ} → History from h s → next s ≡ next from + (closed_in h + broken_in h)
unfolding count_of
counts begun = omega arith
counts (saved {s = s} {t = t} x hist m) = omega (arith, next-step s t x m, counts hist)

-- The list is the closed records.
pub records : {from : List ℕ} {h : List Save} {s : List ℕ} (n : ℕ) → n ≤ 2048 → length from ≡ 32 * n → History from h s
    → list_of s ≡ list_of from ++ records_of h
unfolding records_of
records {from} n few e begun = sym (append-nil (list_of from))
records {from} n few e (saved {h = h} {s = s} {t = t} x hist m) =
    let sized = sized-as n s few (long hist ∙ e) in
    let last = ending s t x sized (is_closed x) in
    list-step s t x sized m ∙ ap (λ (b : Bool). list_of s ++ ending s t x sized b) (listed-closed s t x sized m)
    ∙ ap (λ (l : List Entry). l ++ last) (records n few e hist)
    ∙ append_assoc (list_of from) (records_of h) last

-- A sheet that was blank.
module _ (n : ℕ) (few : n ≤ 2048) where
  long-blank : length (blank_sheet n) ≡ 32 * n
  long-blank = length-replicate (32 * n) FF

  pub slots-of : (s : List ℕ) → length s ≡ 32 * n → slots s ≡ n
  slots-of s e = ap (λ (k : ℕ). k / 32) e ∙ (omega arith)

  pub next-first : next (blank_sheet n) ≡ 0
  next-first = ap (next_up_to (blank_sheet n)) (slots-of (blank_sheet n) long-blank) ∙ next-zero (blank_sheet n) n (blank-slots n)

  list-empty : list_of (blank_sheet n) ≡ []
  unfolding list_up_to
  list-empty = ap (list_up_to (blank_sheet n)) (slots-of (blank_sheet n) long-blank) ∙ list-blank (blank_sheet n) 0 n (omega arith) (blank-slots n)

  module _ (h : List Save) (s : List ℕ) (hist : History (blank_sheet n) h s) where
    pub long-so : length s ≡ 32 * n
    long-so = long hist ∙ long-blank

    pub sized : size_allowed s ≡ true
    sized = sized-as n s few long-so

    pub used : next s ≡ closed_in h + broken_in h
    used = omega (arith, counts hist, next-first)

    list-of : (x : Save) (t : List ℕ) → TakesSheet s x t → list_of t ≡ list_of s ++ pick (passes x.entry && slot_left n h && covered x) (x.entry ∷ []) []
    list-of x t m =
        list-step s t x sized m ∙ (λ i. list_of s ++ pick (passes x.entry && ltb (used i) (slots-of s long-so i) && covered x) (x.entry ∷ []) [])

    whole_of : list_of s ≡ records_of h
    whole_of = records n few long-blank hist ∙ ap (λ (l : List Entry). l ++ records_of h) list-empty

    full-of : (x : Save) (t : List ℕ) → TakesSheet s x t → passes x.entry ≡ true → (saved_number x.answer ≡ 13) ↔ (closed_in h + broken_in h ≡ n)
    full-of x t m good =
        let step = full-step s t x sized good m in
        let all = slots-of s long-so in
        (λ e. omega (arith, step.0 e, used, all, next_le s (slots s)), λ e. step.1 (omega (arith, used, all)))

    stays_of : (later : List Save) (t : List ℕ) → History s later t → Begins (list_of s) (list_of t)
    stays_of later t more = (records_of later, records n few long-so more)

pub list-and-full : ListAndFull
list-and-full =
    record {
      list = λ n h s a. list-of n a.allowed h s a.history;
      whole = λ n h s a. whole_of n a.allowed h s a.history;
      full = λ n h s a. full-of n a.allowed h s a.history;
      stays = λ n h s a. stays_of n a.allowed h s a.history;
    }
