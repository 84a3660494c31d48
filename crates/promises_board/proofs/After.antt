-- What each call leaves of the board, by the number that it answers; and what the frame answers for a row, by its number. Each law puts the number
-- into the definition and takes the tests of it.
use mathlib.Core.Path.{◌≡◌, refl, sym, ◌∙◌, ap}
use mathlib.Core.Bool.{Bool, true, false, not}
use mathlib.Core.List.{List, [], ◌∷◌}
use Prim.Native.Nat.{ℕ, ◌<◌, ◌≤◌}
use native.Mathlib.Omega.{arith}
use lib.Dec.{eqb, ltb}
use lib.ListN.{set, drop}
use borrow.Author.Tests.{lt-ltb, le-ltb, eqb-true, eqb-false}
use Rattle.frame.specs.declared.Reading.{Reading}
use Rattle.frame.specs.Faults.{◌gives◌, first_of, number_of, fault}
use Rattle.frame.specs.Line.{line, formed}
use Rattle.frame.specs.Pick.{pick}
use Rattle.frame.specs.Level.{Level, level_of, place_lost}
use Rattle.frame.specs.Reply.{ReadsReply, mode_in, reply_tests, reply_fault, refused_by, reply_of, reading_at}
use Rattle.frame.proofs.Numbers.{own_number, names-seven, reply-small}
use Rattle.board.specs.declared.Row.{Row}
use Rattle.board.specs.Row.{free_row, new_row, with_reading, with_fault, sets_fault, heard_at}
use Rattle.board.specs.Rows.{place_of, place_free, row_of}
use Rattle.board.specs.Calls.{enrol_number, fault_by, outside_at, hear_number, hear_place, hear_rows, find_number, looked_at, row_told, refused_look}
use Rattle.promises_order.proofs.Order.{first_small}
use Rattle.promises_order.specs.OldBoard.{old_enrol_rows as enrol_rows, old_remove_rows as remove_rows}
use Rattle.std.specs.Prelude.{Result, Ok, Err}
use Rattle.frame.specs.declared.faults.Fault.{Fault}
use Rattle.frame.specs.declared.faults.Fault.TheVariants.{InNoChart}

module _ (board : List Row) (settings address gauge : ℕ) where
  pub enrol-keeps : eqb (enrol_number board settings address gauge) 0 ≡ false → enrol_rows board settings address gauge ≡ board
  unfolding enrol_rows
  enrol-keeps e = ap (λ (t : Bool). pick t (set board (place_free board) (new_row settings address gauge)) board) e

  pub enrol-sets : enrol_number board settings address gauge ≡ 0 → enrol_rows board settings address gauge ≡ set board (place_free board) (new_row settings address gauge)
  unfolding enrol_rows
  enrol-sets e = ap (λ (n : ℕ). pick (eqb n 0) (set board (place_free board) (new_row settings address gauge)) board) e

module _ (board : List Row) (address : ℕ) where
  pub remove-keeps : eqb (find_number board address) 0 ≡ false → remove_rows board address ≡ board
  unfolding remove_rows
  remove-keeps e = ap (λ (t : Bool). pick t (set board (place_of address board) free_row) board) e

  pub remove-sets : find_number board address ≡ 0 → remove_rows board address ≡ set board (place_of address board) free_row
  unfolding remove_rows
  remove-sets e = ap (λ (n : ℕ). pick (eqb n 0) (set board (place_of address board) free_row) board) e

  pub look-refused : (n : ℕ) → find_number board address ≡ n → eqb n 0 ≡ false → looked_at board address ≡ refused_look n
  unfolding looked_at
  look-refused n e z = ap (λ (m : ℕ). pick (eqb m 0) (row_told (row_of address board)) (refused_look m)) e ∙ ap (λ (t : Bool). pick t (row_told (row_of address board)) (refused_look n)) z

  pub look-told : find_number board address ≡ 0 → looked_at board address ≡ row_told (row_of address board)
  unfolding looked_at
  look-told e = ap (λ (m : ℕ). pick (eqb m 0) (row_told (row_of address board)) (refused_look m)) e

-- The number of a hearing, by whether the address is on the board and by its row.
abbrev pub number_by : (address count : ℕ) → List ℕ → Bool → Row → ℕ
number_by address count reply on row =
    first_of
    (ltb 999 address gives 11
    ∷ not (formed count reply) gives 14
    ∷ not on gives 17
    ∷ not (eqb (fault_by row address count reply) 0) gives fault_by row address count reply
    ∷ outside_at row count reply gives 26
    ∷ [])

module _ (board : List Row) (minute address count : ℕ) (reply : List ℕ) where
  abbrev number : ℕ
  number = hear_number board address count reply

  abbrev row : Row
  row = row_of address board

  abbrev good-rows : List Row
  good-rows = set board (place_of address board) (with_reading (heard_at row minute) (reading_at row.settings count (line reply)) minute)

  abbrev fault-rows : ℕ → List Row
  fault-rows n = set board (place_of address board) (with_fault (heard_at row minute) n (hear_place board address count reply))

  pub hear-keeps : eqb number 0 ≡ false → sets_fault number ≡ false → hear_rows board minute address count reply ≡ board
  unfolding hear_rows
  hear-keeps e f = ap (λ (t : Bool). pick t good-rows (pick (sets_fault number) (fault-rows number) board)) e ∙ ap (λ (t : Bool). pick t (fault-rows number) board) f

  pub hear-faults : eqb number 0 ≡ false → sets_fault number ≡ true → hear_rows board minute address count reply ≡ fault-rows number
  unfolding hear_rows
  hear-faults e f = ap (λ (t : Bool). pick t good-rows (pick (sets_fault number) (fault-rows number) board)) e ∙ ap (λ (t : Bool). pick t (fault-rows number) board) f

  -- the place that is answered: none beside another number than 7
  pub no_place : eqb number 7 ≡ false → hear_place board address count reply ≡ 0
  unfolding hear_place
  no_place e = ap (λ (t : Bool). pick t (place_lost (level_of (mode_in row.settings) (line reply))) 0) e

  pub its-place : number ≡ 7 → hear_place board address count reply ≡ place_lost (level_of (mode_in row.settings) (line reply))
  unfolding hear_place
  its-place e = ap (λ (n : ℕ). pick (eqb n 7) (place_lost (level_of (mode_in row.settings) (line reply))) 0) e

  pub hear-sets : number ≡ 0 → hear_rows board minute address count reply ≡ good-rows
  unfolding hear_rows
  hear-sets e = ap (λ (n : ℕ). pick (eqb n 0) good-rows (pick (sets_fault n) (fault-rows n) board)) e

-- What the frame answers: a reading and number 0, or a number that is not 0, with the place that its fault names.
module _ (settings address count : ℕ) (reply : List ℕ) where
  abbrev level : Level
  level = level_of (mode_in settings) (line reply)

  abbrev first : ℕ
  first = reply_fault settings address count reply

  -- an answer, by whether there is a fault
  abbrev by : Bool → Reading → Result Reading Fault
  by t r = pick t (Ok r) (Err (refused_by level first))

  refused-by : (t : Bool) (f : Fault) (r : Reading) → Err f ≡ by t r → (t ≡ false) × (f ≡ refused_by level first)
  refused-by true f r e = cc
  refused-by false f r e = (refl, cc)

  read-by : (t : Bool) (r got : Reading) → Ok got ≡ by t r → (t ≡ true) × (got ≡ r)
  read-by true r got e = (refl, cc)
  read-by false r got e = cc

  -- beside 7 its place, and beside any other number the number alone
  seven : (s : Bool) (p : ℕ) → eqb first 7 ≡ s → InNoChart p ≡ pick s (InNoChart (place_lost level)) (fault first) → (first ≡ 7) × (p ≡ place_lost level)
  seven true p v e = (eqb-true first 7 v, cc)
  seven false p v e = let same : first ≡ 7 = names-seven first p (sym e) in absurd (eqb-false first 7 v same)

  -- the number of a refusal is the fault's own
  numbered : (s : Bool) (f : Fault) → eqb first 7 ≡ s → (first ≡ 0 → ⊥) → first ≤ 38 → f ≡ pick s (InNoChart (place_lost level)) (fault first) → number_of f ≡ first
  numbered true f v some l e = ap number_of e ∙ sym (eqb-true first 7 v)
  numbered false f v some l e = ap number_of e ∙ own_number first some l

  pub refused-is : (f : Fault) → ReadsReply settings address count reply (Err f) → (reply_fault settings address count reply ≡ number_of f) × (eqb (number_of f) 0 ≡ false)
  unfolding reply_of
  refused-is f e =
      let p = refused-by (eqb first 0) f (reading_at settings count (line reply)) e.answers in
      let same : number_of f ≡ first = numbered (eqb first 7) f refl (eqb-false first 0 p.0) (reply-small settings address count reply) p.1 in
      (sym same, ap (λ (n : ℕ). eqb n 0) same ∙ p.0)

  pub lost-is : (place : ℕ) → ReadsReply settings address count reply (Err (InNoChart place)) → (reply_fault settings address count reply ≡ 7) × (place ≡ place_lost (level_of (mode_in settings) (line reply)))
  unfolding reply_of
  lost-is place e =
      let p = refused-by (eqb first 0) (InNoChart place) (reading_at settings count (line reply)) e.answers in
      seven (eqb first 7) place refl p.1

  pub read_is : (r : Reading) → ReadsReply settings address count reply (Ok r) → (reply_fault settings address count reply ≡ 0) × (r ≡ reading_at settings count (line reply))
  unfolding reply_of
  read_is r e =
      let p = read-by (eqb first 0) (reading_at settings count (line reply)) r e.answers in
      (eqb-true (reply_fault settings address count reply) 0 p.0, p.1)

  pub reads : reply_fault settings address count reply ≡ 0 → ReadsReply settings address count reply (Ok (reading_at settings count (line reply)))
  unfolding reply_of
  reads e = record { answers = sym (ap (λ (n : ℕ). pick (eqb n 0) (Ok (reading_at settings count (line reply))) (Err (refused_by level n))) e) }

  -- settings above 15 are refused by 10; else, of an address up to 999 and a reply in the right form, the number is at most 9
  pub settings-10 : 15 < settings → reply_fault settings address count reply ≡ 10
  unfolding reply_fault
  settings-10 l = simp (lt-ltb 15 settings l)

  pub at-most-9 : settings ≤ 15 → address ≤ 999 → formed count reply ≡ true → reply_fault settings address count reply ≤ 9
  unfolding reply_fault
  at-most-9 s a f =
      rw (le-ltb 15 settings s, le-ltb 999 address a, f)
      (first_small 9 (drop 3 (reply_tests settings address count reply)) (omega arith, (omega arith, (omega arith, (omega arith, (omega arith, (omega arith, (omega arith, (omega arith, (omega arith, tt))))))))))

  -- whatever is asked, it is at most 14
  pub at-most-14 : reply_fault settings address count reply ≤ 14
  unfolding reply_fault
  at-most-14 =
      first_small 14 (reply_tests settings address count reply)
      (omega arith, (omega arith, (omega arith, (omega arith, (omega arith, (omega arith, (omega arith, (omega arith, (omega arith, (omega arith, (omega arith, (omega arith, tt))))))))))))
