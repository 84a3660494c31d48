-- What tries come to on the sheet, told once with or without a summary: the records that they closed, which are the first replies, and the slots that they took.
-- Assumes nothing.
use mathlib.Core.Path.{◌≡◌, refl, sym, ap, ◌∙◌}
use mathlib.Core.Logic.{◌≢◌}
use mathlib.Core.Bool.{Bool, true, false, ◌&&◌, ◌||◌}
use mathlib.Core.List.{List, [], ◌∷◌, ◌++◌, map, append-nil, append_assoc}
use Prim.Native.Nat.{ℕ, ◌+◌, ◌≤◌}
use native.Mathlib.Omega.{arith}
use borrow.Author.Tests.{eq-eqb, ne_eqb, lt-ltb, le-ltb, ltb-true, ltb-false}
use lib.Dec.{eqb, ltb}
use lib.ListN.{length, take, length-append}
use lib.Seq.{take-append-add}
use Rattle.frame.specs.Pick.{pick}
use Rattle.frame.proofs.Numbers.{own_number}
use Rattle.sheet.specs.Record.{Entry, length_of}
use Rattle.promises_card.specs.Sheet.History.{Save, is_closed, count_of, closed_in, broken_in, records_of}
use Rattle.promises_card.specs.Sheet.ListAndFull.{Begins}
use Rattle.promises_card.specs.Summary.Chain.{Step, summary_refused, as_save, saves_tried}
use Rattle.promises_card.specs.Round.Tries.{Try, try_save, try_step, closed_of, number_of, replies_of, answers_of, Rules, next}
use Rattle.promises_card.specs.Round.AnyCalls.{slots_taken}
use Rattle.promises_card.proofs.Round.Closed.{Real, made, refused, AllReal, none_real, one_real, AllClosed, none_closed, one-closed, closed-before}
use Rattle.std.specs.Prelude.{Ok, Err}
use Rattle.frame.specs.Faults.{fault}

-- whether a try closed its record, and whether it took a slot
abbrev pub closes : Try → Bool
closes x = eqb x.stores (length_of x.entry + 2)

unfoldable pub records_in : List Try → List Entry
records_in [] = []
records_in (x ∷ h) = records_in h ++ pick (closes x) (x.entry ∷ []) []

unfoldable pub taken_in : List Try → ℕ
taken_in [] = 0
taken_in (x ∷ h) = taken_in h + pick (ltb 0 x.stores) 1 0

pub closed-one : (x : Try) → x.stores ≡ length_of x.entry + 2 → (closes x ≡ true) × (ltb 0 x.stores ≡ true)
closed-one x all = (eq-eqb x.stores (length_of x.entry + 2) all, lt-ltb 0 x.stores (omega (arith, all)))

pub idle-one : (x : Try) → x.stores ≡ 0 → (closes x ≡ false) × (ltb 0 x.stores ≡ false)
idle-one x none = (ne_eqb x.stores (length_of x.entry + 2) (λ z. absurd (omega (arith, none, z))), le-ltb 0 x.stores (omega (arith, none)))

-- closed ones
pub record Ones (h : List Try) : Type 0 where
  pub records : records_in h ≡ replies_of h
  pub many : closed_of h ≡ length (replies_of h)
  pub taken : taken_in h ≡ closed_of h

pub closed-ones : (h : List Try) → AllClosed h → Ones h
unfolding records_in replies_of closed_of taken_in
closed-ones [] none_closed = record { records = refl; many = refl; taken = refl }
closed-ones (x ∷ h) (one-closed all zero_number before) =
    let rest = closed-ones h before in
    let is = closed-one x all in
    let one : ◌≡◌ {A = ℕ} (pick (closes x) 1 0) 1 = ap (λ (b : Bool). pick b 1 0) is.0 in
    let took : ◌≡◌ {A = ℕ} (pick (ltb 0 x.stores) 1 0) 1 = ap (λ (b : Bool). pick b 1 0) is.1 in
    record {
      records = (λ i. rest.records i ++ pick (is.0 i) (x.entry ∷ []) []);
      many = omega (arith, one, rest.many, length-append (replies_of h) (x.entry ∷ []));
      taken = omega (arith, one, took, rest.taken);
    }

-- so of a round the closed replies are the first ones
pub first-ones : (allowance : ℕ) (ts : List Try) (es : List Entry) → Rules allowance ts → AllReal ts → Begins (replies_of ts) es → records_in ts ≡ take (closed_of ts) es
unfolding records_in replies_of closed_of
first-ones allowance [] es rules real b = refl
first-ones allowance (x ∷ h) es (next y rules before left given) (one_real real others) (more, is) =
    let rest = closed-ones h (closed-before allowance h rules others before left) in
    let replies = replies_of h in
    let all : es ≡ replies ++ x.entry ∷ more = is ∙ append_assoc replies (x.entry ∷ []) more in
    sym
    (ap (take (closed_of h + pick (closes x) 1 0)) all
    ∙ ap (λ (k : ℕ). take (k + pick (closes x) 1 0) (replies ++ x.entry ∷ more)) rest.many
    ∙ take-append-add replies (x.entry ∷ more) (pick (closes x) 1 0)
    ∙ (λ i. sym rest.records i ++ last (closes x) i))
  where
    last : (b : Bool) → take (pick b 1 0) (x.entry ∷ more) ≡ pick b (x.entry ∷ []) []
    last true = refl
    last false = refl

-- the slots taken, by the answers
slots-append : (xs ys : List (ℕ × ℕ)) → slots_taken (xs ++ ys) ≡ slots_taken xs + slots_taken ys
unfolding slots_taken
slots-append [] ys = omega arith
slots-append (x ∷ xs) ys = omega (arith, slots-append xs ys)

pub taken-told : (ts : List Try) → slots_taken (answers_of ts) ≡ taken_in ts
unfolding slots_taken answers_of taken_in
taken-told [] = refl
taken-told (x ∷ h) = omega (arith, taken-told h, slots-append (answers_of h) ((x.stores, x.number) ∷ []))

-- saves as tries
pub saves-records : (saves : List Save) → records_of saves ≡ records_in (map try_save saves)
unfolding records_of records_in
saves-records [] = refl
saves-records (x ∷ h) = ap (λ (l : List Entry). l ++ pick (is_closed x) (x.entry ∷ []) []) (saves-records h)

one-taken : (x : Try) → Real x → pick (closes x) 1 0 + pick (ltb 0 x.stores && ltb x.stores (length_of x.entry + 2)) 1 0 ≡ pick (ltb 0 x.stores) 1 0
one-taken x real = go (ltb 0 x.stores) refl (ltb x.stores (length_of x.entry + 2)) refl (most real)
  where
    most : Real x → x.stores ≤ length_of x.entry + 2
    most (made z s) = omega (arith, s)
    most (refused z few s) = omega (arith, s)

    go : (a : Bool) → ltb 0 x.stores ≡ a → (b : Bool) → ltb x.stores (length_of x.entry + 2) ≡ b → x.stores ≤ length_of x.entry + 2
        → pick (closes x) 1 0 + pick (a && b) 1 0 ≡ pick a 1 0
    go true p true q m =
        let not-all : ◌≡◌ {A = ℕ} (pick (closes x) 1 0) 0 =
        ap (λ (c : Bool). pick c 1 0) (ne_eqb x.stores (length_of x.entry + 2) (λ z. absurd (omega (arith, z, ltb-true x.stores (length_of x.entry + 2) q)))) in
        omega (arith, not-all)
    go true p false q m =
        let all : ◌≡◌ {A = ℕ} (pick (closes x) 1 0) 1 =
        ap (λ (c : Bool). pick c 1 0) (eq-eqb x.stores (length_of x.entry + 2) (omega (arith, m, ltb-false x.stores (length_of x.entry + 2) q))) in
        omega (arith, all)
    go false p b q m =
        let none : ◌≡◌ {A = ℕ} (pick (closes x) 1 0) 0 =
        ap (λ (c : Bool). pick c 1 0) (ne_eqb x.stores (length_of x.entry + 2) (λ z. absurd (omega (arith, z, ltb-false 0 x.stores p)))) in
        omega (arith, none)

pub saves-taken : (saves : List Save) → AllReal (map try_save saves) → closed_in saves + broken_in saves ≡ taken_in (map try_save saves)
unfolding count_of taken_in
saves-taken [] none_real = refl
saves-taken (x ∷ h) (one_real real others) = omega (arith, saves-taken h others, one-taken (try_save x) real)

-- saves with a summary as tries, of which those that their summary refused made no store
same-try : (x : Step) → Real (try_step x) → try_save (as_save x) ≡ try_step x
same-try x (made z s) =
    ap (λ (b : Bool). try_save (record { entry = x.entry; minute_fits = x.minute_fits; allowance = x.allowance; answer = pick b (Ok x.answer.count) (Err (fault x.answer.number)) }))
    (eq-eqb x.answer.number 0 z)
    ∙ (λ i. record { entry = x.entry; given = x.allowance; stores = x.answer.count; number = sym z i })
same-try x (refused z few s) =
    ap (λ (b : Bool). try_save (record { entry = x.entry; minute_fits = x.minute_fits; allowance = x.allowance; answer = pick b (Ok x.answer.count) (Err (fault x.answer.number)) }))
    (ne_eqb x.answer.number 0 z)
    ∙ (λ i. record { entry = x.entry; given = x.allowance; stores = sym s i; number = own_number x.answer.number z few i })

no_stores : (x : Step) → Real (try_step x) → summary_refused x ≡ true → x.answer.count ≡ 0
no_stores x (made z s) r =
    let quiet : summary_refused x ≡ false = ap (λ (n : ℕ). eqb n 37 || eqb n 24) z in
    let k : ◌≡◌ {A = ℕ} 1 0 = ap (λ (b : Bool). pick b 1 0) (sym r ∙ quiet) in
    absurd (omega (arith, k))
no_stores x (refused z few s) r = s

more-records : (x : Try) (h : List Try) → records_in (x ∷ h) ≡ records_in h ++ pick (closes x) (x.entry ∷ []) []
more-records x h = unfold records_in in refl

more-taken : (x : Try) (h : List Try) → taken_in (x ∷ h) ≡ taken_in h + pick (ltb 0 x.stores) 1 0
more-taken x h = unfold taken_in in refl

pub record SameOnSheet (saves : List Save) (ts : List Try) : Type 0 where
  pub records : records_in (map try_save saves) ≡ records_in ts
  pub taken : taken_in (map try_save saves) ≡ taken_in ts

pub same-on-sheet : (steps : List Step) → AllReal (map try_step steps) → SameOnSheet (saves_tried steps) (map try_step steps)
unfolding saves_tried
same-on-sheet [] none_real = record { records = refl; taken = refl }
same-on-sheet (x ∷ h) (one_real real others) = go (summary_refused x) refl (same-on-sheet h others)
  where
    go : (b : Bool) → summary_refused x ≡ b → SameOnSheet (saves_tried h) (map try_step h)
        → SameOnSheet (pick b (saves_tried h) (as_save x ∷ saves_tried h)) (try_step x ∷ map try_step h)
    go true r rest =
        let idle = idle-one (try_step x) (no_stores x real r) in
        let nothing : ◌≡◌ {A = ℕ} (pick (ltb 0 x.answer.count) 1 0) 0 = ap (λ (b : Bool). pick b 1 0) idle.1 in
        record {
          records = rest.records ∙ sym (append-nil (records_in (map try_step h)))
              ∙ ap (λ (b : Bool). records_in (map try_step h) ++ pick b (x.entry ∷ []) []) (sym idle.0) ∙ sym (more-records (try_step x) (map try_step h));
          taken = omega (arith, rest.taken, nothing, more-taken (try_step x) (map try_step h));
        }
    go false r rest =
        let same = same-try x real in
        record {
          records = ap (λ (y : Try). records_in (y ∷ map try_save (saves_tried h))) same ∙ more-records (try_step x) (map try_save (saves_tried h))
              ∙ ap (λ (l : List Entry). l ++ pick (closes (try_step x)) (x.entry ∷ []) []) rest.records ∙ sym (more-records (try_step x) (map try_step h));
          taken = ap (λ (y : Try). taken_in (y ∷ map try_save (saves_tried h))) same ∙ more-taken (try_step x) (map try_save (saves_tried h))
              ∙ ap (λ (k : ℕ). k + pick (ltb 0 x.answer.count) 1 0) rest.taken ∙ sym (more-taken (try_step x) (map try_step h));
        }

-- where neither 37 nor 24 stopped a round, its saves with a summary are the sheet's own
pub all_own : (allowance : ℕ) (steps : List Step) → Rules allowance (map try_step steps) → AllReal (map try_step steps)
    → number_of (map try_step steps) ≢ 37 → number_of (map try_step steps) ≢ 24 → map try_save (saves_tried steps) ≡ map try_step steps
unfolding saves_tried
all_own allowance [] rules none_real a b = refl
all_own allowance (x ∷ h) (next y rules before left given) (one_real real others) a b =
    let own : summary_refused x ≡ false = ap (λ (c : Bool). c || eqb x.answer.number 24) (ne_eqb x.answer.number 37 a) ∙ ne_eqb x.answer.number 24 b in
    let rest = all_own allowance h rules others (λ q. absurd (omega (arith, before, q))) (λ q. absurd (omega (arith, before, q))) in
    ap (λ (c : Bool). map try_save (pick c (saves_tried h) (as_save x ∷ saves_tried h))) own ∙ (λ i. same-try x real i ∷ rest i)
