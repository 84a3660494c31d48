-- How long has it been bad, of today's calls. A look tells what it told of the board beside it (`SameHistory`), whose history counts the same. A row in use
-- is the row of its address, since none stands twice, and the board beside it has the same row. Of two hearings of rows so kept each is what it was.
use mathlib.Core.Path.{◌≡◌, refl, sym, ◌∙◌, ap, subst}
use mathlib.Core.Bool.{true}
use mathlib.Core.List.{List}
use Prim.Native.Nat.{ℕ, min}
use native.Mathlib.Omega.{arith}
use lib.ListN.{length}
use borrow.Author.Tests.{ltb-true, lt-ltb}
use Rattle.board.specs.declared.Heard.{Heard}
use Rattle.board.specs.declared.Row.{Row}
use Rattle.board.specs.Row.{is_in_use}
use Rattle.board.specs.Rows.{board_of, place_of}
use Rattle.board.specs.Calls.{Hears, heard_as}
use Rattle.promises_order.specs.Places.{row_at, OnBoard, Empty}
use Rattle.promises_order.specs.Order.{SoKept, SameInUse}
use Rattle.promises_order.specs.Calls.{hear, look_up}
use Rattle.promises_order.proofs.Order.{board-order}
use Rattle.promises_order.specs.Calls.{today}
use Rattle.promises_board.specs.Calls.{IsRowOf}
use Rattle.promises_board.specs.History.{History}
use Rattle.promises_board.specs.Since.{BoardSince}
use Rattle.promises_board.proofs.Places.{place-row, row_is, row_on}
use Rattle.promises_board.proofs.Now.{by_order}
use Rattle.promises_board.proofs.SameHistory.{beside, same-in-use, on_both, row-both, does-then}
use Rattle.promises_board.proofs.HistoryNow.{stays-kept, kept-once}
use Rattle.promises_board.proofs.Since.{board-since}

-- A row in use is the row of its address.
pub own_row : (rows : List Row) → SoKept rows → (i : ℕ) → OnBoard rows i → is_in_use (row_at rows i) ≡ true → IsRowOf rows (row_at rows i).address i
own_row rows so i on used =
    record {
      place = on;
      here = record { used = used; same = refl };
      first = λ j l h.
          let is : j ≡ i = kept-once rows so j i (row_at rows i).address (record { counts = omega (arith, l, on.counts); lent = omega (arith, l, on.lent) }) on h (record { used = used; same = refl }) in
          absurd (omega (arith, l, is));
    }

-- The row of an address on a board with the same rows in use.
module _ (rows others : List Row) (same : SameInUse rows others) (address i : ℕ) (p : IsRowOf others address i) where
  abbrev pub place-then : ℕ
  place-then = place_of address (board_of rows)

  pub row-then : IsRowOf rows address place-then
  row-then = place-row rows address (ltb-true place-then (length (board_of rows)) (on_both rows others same address ∙ lt-ltb (place_of address (board_of others)) (length (board_of others)) (row_on others address i p)))

  pub same_then : row_at rows place-then ≡ row_at others i
  same_then = sym (row_is rows address place-then row-then) ∙ row-both rows others same address ∙ row_is others address i p

count-and-fault : (start others : List Row) → Empty start → History today start others → (i : ℕ) → OnBoard others i → is_in_use (row_at others i) ≡ true
    → ((row_at others i).faulty ≡ 0 → (row_at others i).fault ≡ 0) × ((row_at others i).fault ≡ 0 → (row_at others i).faulty ≡ 0)
count-and-fault start others empty h i on used =
    let b = beside start others empty h in
    let same = same-in-use start others empty h in
    let p = own_row others (stays-kept.so-kept start others (stays-kept.empty start empty) h) i on used in
    let q = row-then b.rows others same (row_at others i).address i p in
    subst (λ (r : Row). (r.faulty ≡ 0 → r.fault ≡ 0) × (r.fault ≡ 0 → r.faulty ≡ 0)) (same_then b.rows others same (row_at others i).address i p)
    (board-since.count-and-fault start b.rows empty b.then (place-then b.rows others same (row_at others i).address i p) q.place q.here.used)

-- Two hearings in either order: of rows not so kept all four are refused by 38, and the rows stay.
either-38 : (rows one both : List Row) (m a k n b l : ℕ) (y z : List ℕ) (p q : Heard) → (SoKept rows → ⊥) → Hears rows m a k y p one → Hears one n b l z q both
    → (p ≡ heard_as 38 0) × (q ≡ heard_as 38 0) × (both ≡ rows)
either-38 rows one both m a k n b l y z p q none e f =
    let x = board-order.is_38 rows (hear m a k y) p one none e in
    let w = board-order.is_38 one (hear n b l z) q both (λ so. none (subst SoKept x.1 so)) f in
    (x.0, w.0, w.1 ∙ x.1)

either_order : (rows one both other again : List Row) (m a k n b l : ℕ) (y z : List ℕ) (p q r s : Heard) → (a ≡ b → ⊥)
    → Hears rows m a k y p one → Hears one n b l z q both → Hears rows n b l z r other → Hears other m a k y s again
    → (p ≡ s) × (q ≡ r) × (both ≡ again)
either_order rows one both other again m a k n b l y z p q r s ne hp hq hr hs =
    by_order rows
    (λ so.
    let then_one = board-order.keeps rows (hear m a k y) p one so hp in
    let then-other = board-order.keeps rows (hear n b l z) r other so hr in
    board-since.either_order rows one both other again m a k n b l y z p q r s ne (board-order.very_outcome rows (hear m a k y) p one so tt hp) (board-order.very_outcome one (hear n b l z) q both then_one tt hq)
    (board-order.very_outcome rows (hear n b l z) r other so tt hr) (board-order.very_outcome other (hear m a k y) s again then-other tt hs))
    (λ none.
    let x = either-38 rows one both m a k n b l y z p q none hp hq in
    let w = either-38 rows other again n b l m a k z y r s none hr hs in
    (x.0 ∙ sym w.1, x.1 ∙ sym w.0, x.2 ∙ sym w.2))

pub since-now : BoardSince today
since-now =
    record {
      count-and-fault = count-and-fault;
      counted_since = λ start rows empty h address told looks z.
          let b = beside start rows empty h in
          board-since.counted_since start b.rows empty b.then address told (does-then start b.rows rows empty b.calls (look_up address) told rows (looks, refl)).0 z ∙ ap (min 65535) (b.same_since address);
      latest_heard = λ start rows empty h address told looks z.
          let b = beside start rows empty h in
          board-since.latest_heard start b.rows empty b.then address told (does-then start b.rows rows empty b.calls (look_up address) told rows (looks, refl)).0 z ∙ b.same_latest address;
      either_order = either_order;
    }
