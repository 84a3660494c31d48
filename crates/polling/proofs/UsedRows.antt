-- On a board that is kept in order the rows in use are those before its first free place. Assumes nothing.
use mathlib.Core.Path.{◌≡◌, refl, sym, ap, ap₂, ◌∙◌}
use mathlib.Core.Bool.{Bool, true, false}
use mathlib.Core.List.{List, [], ◌∷◌, ◌++◌, map}
use Prim.Native.Nat.{ℕ, suc, ◌-◌, ◌≤◌}
use native.Mathlib.Omega.{arith}
use lib.ListN.{length, take, replicate, length-map}
use lib.Seq.{take-append-le, length-take-le}
use Rattle.frame.specs.Pick.{pick}
use Rattle.frame.proofs.Both.{both}
use Rattle.board.specs.declared.Row.{Row}
use Rattle.board.specs.Row.{is_free, free_row}
use Rattle.board.specs.Rows.{place_by, place_free}
use Rattle.board.specs.Order.{all_free, in_address_order_from, in_address_order, if_in_order}
use Rattle.board.specs.Inside.ByValue.{filled}
use Rattle.board.proofs.Places.{place-le}
use Rattle.board.proofs.Order.{First, first_free, first_used, first-of}
use Rattle.board.proofs.Carried.{free-place}
use Rattle.polling.specs.Beginning.{no_reply, used_rows, reply_for, begun_with, beginning, nothing_begun}
use Rattle.polling.specs.Calls.{begun}
use Rattle.polling.specs.Inside.Boards.{begun_by}

none-used : (rows : List Row) → all_free rows ≡ true → used_rows rows ≡ []
unfolding used_rows all_free
none-used [] e = refl
none-used (row ∷ rows) e =
    let t = both (is_free row) (all_free rows) e in
    ap (λ (b : Bool). pick b (used_rows rows) (row ∷ used_rows rows)) t.0 ∙ none-used rows t.1

pub used-front : (least : ℕ) (board : List Row) → in_address_order_from least board ≡ true → used_rows board ≡ take (place_free board) board
unfolding used_rows place_by
used-front least [] k = refl
used-front least (row ∷ rows) k = go (used-front (suc row.address) rows) (first-of least row rows k)
  where
    go : (in_address_order_from (suc row.address) rows ≡ true → used_rows rows ≡ take (place_free rows) rows) → First least row rows → pick (is_free row) (used_rows rows) (row ∷ used_rows rows) ≡ take (place_free (row ∷ rows)) (row ∷ rows)
    go rec (first_free f e) =
        ap (λ (b : Bool). pick b (used_rows rows) (row ∷ used_rows rows)) f ∙ none-used rows e ∙ sym (ap (λ (n : ℕ). take n (row ∷ rows)) (free-place true row rows f))
    go rec (first_used f n e) =
        ap (λ (b : Bool). pick b (used_rows rows) (row ∷ used_rows rows)) f ∙ ap (λ (l : List Row). row ∷ l) (rec e) ∙ sym (ap (λ (n : ℕ). take n (row ∷ rows)) (free-place false row rows f))

pub none_kept : (board : List Row) (minute : ℕ) → in_address_order board ≡ false → begun_by (replicate 30 no_reply) 0 38 ≡ if_in_order board (begun (beginning minute board) 0) (begun nothing_begun 38)
unfolding nothing_begun
none_kept board minute e = sym (ap (λ (b : Bool). pick b (begun (beginning minute board) 0) (begun (begun_with []) 38)) e)

pub all-kept : (board : List Row) (minute : ℕ) (held : List Row) (free : ℕ) → in_address_order board ≡ true → held ≡ filled board → free ≡ place_free board
    → begun_by (map (reply_for minute) (take free held) ++ replicate (30 - free) no_reply) free 0 ≡ if_in_order board (begun (beginning minute board) 0) (begun nothing_begun 38)
unfolding beginning nothing_begun
all-kept board minute held free e is place =
    let few : free ≤ length board = omega (arith, place, place-le is_free board) in
    let front : take free held ≡ used_rows board
    = ap (take free) is ∙ take-append-le free board (replicate (30 - length board) free_row) few ∙ ap (λ (n : ℕ). take n board) place ∙ sym (used-front 0 board e) in
    let long : length (map (reply_for minute) (used_rows board)) ≡ free
    = length-map (used_rows board) (reply_for minute) ∙ ap length (used-front 0 board e) ∙ ap (λ (n : ℕ). length (take n board)) (sym place) ∙ length-take-le free board few in
    ap₂ (λ (l : List Row) (n : ℕ). begun_by (map (reply_for minute) l ++ replicate (30 - n) no_reply) n 0) front (sym long)
    ∙ sym (ap (λ (b : Bool). pick b (begun (begun_with (map (reply_for minute) (used_rows board))) 0) (begun (begun_with []) 38)) e)
