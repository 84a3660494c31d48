-- What each kind of change answers, and what it makes of a board: of one not so kept nothing, by 38; else none of its rows, one of them, or a run.
-- All go by the tests of the number.
use Rattle.std.specs.Prelude.{Option, None, Some}
use mathlib.Core.Path.{◌≡◌, refl, sym, ◌∙◌, ap, subst}
use mathlib.Core.Bool.{Bool, true, false, not}
use mathlib.Core.List.{List}
use Prim.Native.Nat.{ℕ, ◌<◌, ◌≤◌}
use native.Mathlib.Omega.{arith}
use lib.Dec.{eqb}
use lib.ListN.{length, set}
use borrow.Author.Tests.{eqb-false}
use Rattle.frame.specs.declared.Reading.{Reading}
use Rattle.frame.specs.Level.{Level, place_lost}
use Rattle.frame.specs.Reply.{refused_by}
use Rattle.frame.specs.Pick.{pick}
use Rattle.board.specs.declared.Row.{Row}
use Rattle.board.specs.declared.value.Change.{Change}
use Rattle.board.specs.Gauge.{outside_by}
use Rattle.board.specs.Row.{with_reading, with_fault, sets_fault}
use Rattle.board.specs.Order.{in_address_order, if_in_order}
use Rattle.board.specs.declared.value.Found.{Found}
use Rattle.board.specs.declared.value.Hearing.{Hearing}
use Rattle.board.specs.Inside.ByValue.{moved, made, FitsIn, onward, Sees, Finds, Changes, ChangesOn, change_of, faulty_hearing, hearing_of, heard_change, wrong_by, said_of}
use Rattle.board.proofs.Faults.{sets-26}
use Rattle.board.proofs.Named.{named-number, named-place}
use Rattle.board.proofs.Carried.{carry-one}
use Rattle.std.specs.Prelude.{Result, Ok, Err}
use Rattle.frame.specs.declared.faults.Fault.{Fault}
use Rattle.frame.specs.declared.faults.Fault.TheVariants.{OutsideProfile}
use Rattle.frame.specs.Faults.{fault, number_of, place_named}

-- On a board not so kept every call answers 38 and changes no row.
pub out_of_order : (board : List Row) (number : ℕ) (after : List Row) (n : ℕ) (c : Option Change) → in_address_order board ≡ false → n ≡ 38 → c ≡ None → Changes board (if_in_order board number 38) (if_in_order board after board) n c
out_of_order board number after n c k is none = rw (is, none, k) (record { answers = refl; leaves = refl; fits = λ d e. cc })

-- On one so kept, what the call does.
pub so-kept : (board : List Row) (number : ℕ) (after : List Row) (n : ℕ) (c : Option Change) → in_address_order board ≡ true → Changes board number after n c → Changes board (if_in_order board number 38) (if_in_order board after board) n c
so-kept board number after n c k made = rw k made

-- What a search found is none, or it is not.
pub no-other : {A : Type 0} (r : Option A) → ((x : A) → r ≡ Some x → ⊥) → r ≡ None
no-other None none = refl
no-other (Some x) none = absurd (none x refl)

-- So of the changes of a call: where nothing was found, and where something was.
module _ (found : Option Found) (address : ℕ) (number : List Row → ℕ) (after : List Row → List Row) (n : ℕ) (c : Option Change) where
  pub changes-none : found ≡ None → n ≡ 38 → c ≡ None → ChangesOn found address number after n c
  changes-none none is unchanged = record { on = λ board finds. out_of_order board _ _ n c (subst (Finds board address) none finds) is unchanged }

  pub changes-some : (f : Found) → found ≡ Some f → ((board : List Row) → Sees board address f → Changes board (number board) (after board) n c) → ChangesOn found address number after n c
  changes-some f some made =
      record { on = λ board finds. let sees = subst (Finds board address) some finds in so-kept board _ _ n c sees.order (made board sees) }

-- And of what is answered by value, where nothing was, and where something was.
pub answers-none : {A : Type 0} (found : Option Found) (address : ℕ) (answer y : A) (x : List Row → A) → found ≡ None → answer ≡ y → (board : List Row) → Finds board address found → answer ≡ if_in_order board (x board) y
answers-none found address answer y x none is board finds =
    is ∙ sym (ap (λ (t : Bool). pick t (x board) y) (subst (Finds board address) none finds))

pub answers-some : {A : Type 0} (found : Option Found) (f : Found) (address : ℕ) (answer y : A) (x : List Row → A) → found ≡ Some f → ((board : List Row) → Sees board address f → answer ≡ x board) → (board : List Row) → Finds board address found → answer ≡ if_in_order board (x board) y
answers-some found f address answer y x some is board finds =
    let sees = subst (Finds board address) some finds in is board sees ∙ sym (ap (λ (t : Bool). pick t (x board) y) sees.order)

module _ (board : List Row) where
  -- a change of one row
  put-there : (at : ℕ) (row : Row) → at < length board → (moved (change_of at row) board ≡ set board at row) × FitsIn (length board) (change_of at row)
  put-there at row l = (carry-one at row board, onward refl refl (omega arith))

  -- a change that fits is the only one that there is
  alone : (c : Change) → FitsIn (length board) c → (d : Change) → Some c ≡ Some d → FitsIn (length board) d
  alone c fits d e = let same : c ≡ d = cc in subst (FitsIn (length board)) same fits

  -- a refusal changes no row
  pub refuses : (n number : ℕ) (changed : List Row) → eqb n 0 ≡ false → number ≡ n → Changes board number (pick (eqb number 0) changed board) n None
  refuses n number changed z e = rw e (rw z (record { answers = refl; leaves = refl; fits = λ d e. cc }))

  -- number 0 leaves what the change makes of the board
  pub alters : (number : ℕ) (changed : List Row) (c : Change) → number ≡ 0 → moved c board ≡ changed → FitsIn (length board) c → Changes board number (pick (eqb number 0) changed board) 0 (Some c)
  alters number changed c e is fits = rw e (record { answers = refl; leaves = is; fits = alone c fits })

  module _ (at : ℕ) (row : Row) (minute : ℕ) (r : Reading) (level : Level) where
    -- what a hearing leaves, by whether the reply was good, a digit was unreadable, and the fault is set; and the place that it names
    abbrev Left : Bool → Bool → Bool → ℕ → List Row
    Left is-good is-seven is_set number = pick is-good (set board at (with_reading row r minute)) (pick is_set (set board at (with_fault row number (pick is-seven (place_lost level) 0))) board)

    abbrev Heard : Bool → Bool → Bool → ℕ → Result Hearing Fault → Type 0
    Heard is-good is-seven is_set number a = Changes board number (Left is-good is-seven is_set number) (said_of (wrong_by a)).number (heard_change a) × ((said_of (wrong_by a)).place ≡ pick is-seven (place_lost level) 0)

    -- a hearing refused before the reply is read
    pub unheard : (f : Fault) (number : ℕ) → eqb (number_of f) 0 ≡ false → eqb (number_of f) 7 ≡ false → sets_fault (number_of f) ≡ false → place_named f ≡ 0 → number ≡ number_of f → Heard (eqb number 0) (eqb number 7) (sets_fault number) number (Err f)
    unheard f number z v s p e = rw (e, z, v, s) (record { answers = refl; leaves = refl; fits = λ d e. cc }, p)

    abbrev Heard-as : ℕ → Result Hearing Fault → Type 0
    Heard-as number a = Heard (eqb number 0) (eqb number 7) (sets_fault number) number a

    -- a faulty reply is counted
    counted : (f : Fault) (number p : ℕ) → number_of f ≡ number → place_named f ≡ p → at < length board
        → Changes board number (set board at (with_fault row number p)) (said_of (Some f)).number (Some (faulty_hearing at row f).change) × ((said_of (Some f)).place ≡ p)
    counted f number p e q l =
        let t = put-there at (with_fault row (number_of f) (place_named f)) l in
        (record { answers = e; leaves = t.0 ∙ ap (λ (n : ℕ). set board at (with_fault row n (place_named f))) e ∙ ap (λ (k : ℕ). set board at (with_fault row number k)) q; fits = alone _ t.1 }, q)

    -- what a refusal of the frame makes, whatever its number but 0
    refused-by : (is-seven is_set : Bool) (f : Fault) (number : ℕ) → number_of f ≡ number → place_named f ≡ pick is-seven (place_lost level) 0 → sets_fault number ≡ is_set → at < length board
        → Heard false is-seven is_set number (hearing_of at row minute (Err f))
    refused-by is-seven true f number e q s l = rw (ap sets_fault e ∙ s) (counted f number _ e q l)
    refused-by is-seven false f number e q s l = rw (ap sets_fault e ∙ s) (record { answers = e; leaves = refl; fits = λ d e. cc }, q)

    -- whether the temperature read is outside the row's profile
    abbrev out : Bool
    out = outside_by row.settings row.gauge r.temperature

    -- what a reading makes: it is set, or 26
    read-by : (is-out : Bool) → at < length board → Heard-as (pick is-out 26 0) (Ok (pick is-out (faulty_hearing at row OutsideProfile) (record { change = change_of at (with_reading row r minute); wrong = None })))
    read-by true l = rw sets-26 (counted OutsideProfile 26 0 refl refl l)
    read-by false l = let t = put-there at (with_reading row r minute) l in (record { answers = refl; leaves = t.0; fits = alone _ t.1 }, refl)

    -- what the frame's answer makes, by whether it refuses: the fault has the number, and the place beside 7
    heard-by : (good : Bool) (fault : ℕ) → eqb fault 0 ≡ good → fault ≤ 38 → at < length board → Heard-as (pick (not good) fault (pick out 26 0)) (hearing_of at row minute (pick good (Ok r) (Err (refused_by level fault))))
    heard-by true fault z s l = read-by out l
    heard-by false fault z s l =
        let some : fault ≡ 0 → ⊥ = eqb-false fault 0 z in
        rw z (refused-by (eqb fault 7) (sets_fault fault) (refused_by level fault) fault (named-number level fault some s) (named-place level fault s) refl l)

    pub hears : (fault number : ℕ) (answer : Result Reading Fault) → answer ≡ pick (eqb fault 0) (Ok r) (Err (refused_by level fault))
        → number ≡ pick (not (eqb fault 0)) fault (pick out 26 0) → fault ≤ 38 → at < length board → Heard-as number (hearing_of at row minute answer)
    hears fault number answer e n s l = rw (e, n) (heard-by (eqb fault 0) fault refl s l)
