-- The orders of the board's refusals: each call's list of tests is its table, asked in its order, and 38 is the test that its record asks before them.
use mathlib.Core.Path.{◌≡◌, refl, sym, ◌∙◌, ap}
use mathlib.Core.Bool.{Bool, true, false, not, ◌||◌}
use mathlib.Core.List.{List, [], ◌∷◌}
use Prim.Native.Nat.{ℕ}
use lib.Dec.{eqb, ltb}
use borrow.Author.Tests.{eqb-true}
use lib.ListN.{length}
use Rattle.frame.specs.Faults.{first_of}
use Rattle.frame.specs.Pick.{pick}
use Rattle.frame.specs.Reply.{reply_fault}
use Rattle.board.specs.declared.Heard.{Heard}
use Rattle.board.specs.declared.Looked.{Looked}
use Rattle.board.specs.declared.Row.{Row}
use Rattle.board.specs.Gauge.{unmarked, at_once}
use Rattle.board.specs.Rows.{board_of, on_board, row_of}
use Rattle.board.specs.Order.{in_address_order, if_in_order}
use Rattle.board.specs.Calls.{outside_at, enrol_number, hear_number, find_number, looked_at, row_told, refused_look, row_poll_number}
use Rattle.promises_frame.specs.FirstFault.{applies, reply_table}
use Rattle.promises_frame.proofs.FirstFault.{asked, given}
use Rattle.promises_board.specs.Orders.{enrol_table, enrol_order, hear_table, hear_order, find_table, find_order, row_poll_table, poll_order, BoardOrders}

-- The orders after 38.
abbrev pub enrol_rest : List ℕ
enrol_rest = 10 ∷ 11 ∷ 27 ∷ 18 ∷ 19 ∷ []

abbrev hear_rest : List ℕ
hear_rest = 11 ∷ 14 ∷ 17 ∷ 10 ∷ 1 ∷ 2 ∷ 3 ∷ 4 ∷ 5 ∷ 6 ∷ 7 ∷ 8 ∷ 9 ∷ 26 ∷ []

abbrev find_rest : List ℕ
find_rest = 11 ∷ 17 ∷ []

abbrev pub poll_rest : List ℕ
poll_rest = 11 ∷ 17 ∷ 28 ∷ 15 ∷ []

enrol-asks : (rows : List Row) (settings address gauge : ℕ) → enrol_number (board_of rows) settings address gauge ≡ first_of (asked (enrol_table rows settings address gauge) enrol_rest)
unfolding enrol_number
enrol-asks rows settings address gauge = refl

-- the two tests that give 28 are one line of the table
pub poll-asks : (rows : List Row) (address raise reset : ℕ) (out : List ℕ) → row_poll_number (board_of rows) address raise reset out ≡ first_of (asked (row_poll_table rows address raise reset out) poll_rest)
unfolding row_poll_number first_of
poll-asks rows address raise reset out = go (ltb 999 address) (not (on_board address (board_of rows))) (unmarked (row_of address (board_of rows)).gauge raise reset) (at_once raise reset)
  where
    go : (a b c d : Bool) → ◌≡◌ {A = ℕ} (pick a 11 (pick b 17 (pick c 28 (pick d 28 (pick (ltb (length out) 2) 15 0))))) (pick a 11 (pick b 17 (pick (c || d) 28 (pick (ltb (length out) 2) 15 0))))
    go a b true d = refl
    go a b false d = refl

-- what reading a reply gives, by its tests, of which a hearing has asked 11 and 14 already
abbrev reads : (a b d e₁ e₂ e₃ e₄ e₅ e₆ e₇ e₈ e₉ : Bool) → ℕ → ℕ
reads a b d e₁ e₂ e₃ e₄ e₅ e₆ e₇ e₈ e₉ n =
    pick d 10 (pick a 11 (pick b 14 (pick e₁ 1 (pick e₂ 2 (pick e₃ 3 (pick e₄ 4 (pick e₅ 5 (pick e₆ 6 (pick e₇ 7 (pick e₈ 8 (pick e₉ 9 n)))))))))))

hear-asks : (rows : List Row) (address count : ℕ) (reply : List ℕ) → hear_number (board_of rows) address count reply ≡ first_of (asked (hear_table rows address count reply) hear_rest)
unfolding hear_number reply_fault first_of
hear-asks rows address count reply =
    let t = reply_table (row_of address (board_of rows)).settings address count reply in
    go (applies t 11) (applies t 14) (not (on_board address (board_of rows))) (applies t 10) (applies t 1) (applies t 2) (applies t 3) (applies t 4) (applies t 5) (applies t 6) (applies t 7) (applies t 8) (applies t 9) (outside_at (row_of address (board_of rows)) count reply)
  where
    go : (a b c d e₁ e₂ e₃ e₄ e₅ e₆ e₇ e₈ e₉ f : Bool)
        → ◌≡◌ {A = ℕ} (pick a 11 (pick b 14 (pick c 17 (pick (not (eqb (reads a b d e₁ e₂ e₃ e₄ e₅ e₆ e₇ e₈ e₉ 0) 0)) (reads a b d e₁ e₂ e₃ e₄ e₅ e₆ e₇ e₈ e₉ 0) (pick f 26 0)))))
        (pick a 11 (pick b 14 (pick c 17 (reads false false d e₁ e₂ e₃ e₄ e₅ e₆ e₇ e₈ e₉ (pick f 26 0)))))
    go true b c d e₁ e₂ e₃ e₄ e₅ e₆ e₇ e₈ e₉ f = refl
    go false true c d e₁ e₂ e₃ e₄ e₅ e₆ e₇ e₈ e₉ f = refl
    go false false true d e₁ e₂ e₃ e₄ e₅ e₆ e₇ e₈ e₉ f = refl
    go false false false true e₁ e₂ e₃ e₄ e₅ e₆ e₇ e₈ e₉ f = refl
    go false false false false true e₂ e₃ e₄ e₅ e₆ e₇ e₈ e₉ f = refl
    go false false false false false true e₃ e₄ e₅ e₆ e₇ e₈ e₉ f = refl
    go false false false false false false true e₄ e₅ e₆ e₇ e₈ e₉ f = refl
    go false false false false false false false true e₅ e₆ e₇ e₈ e₉ f = refl
    go false false false false false false false false true e₆ e₇ e₈ e₉ f = refl
    go false false false false false false false false false true e₇ e₈ e₉ f = refl
    go false false false false false false false false false false true e₈ e₉ f = refl
    go false false false false false false false false false false false true e₉ f = refl
    go false false false false false false false false false false false false true f = refl
    go false false false false false false false false false false false false false f = refl

find-asks : (rows : List Row) (address : ℕ) → find_number (board_of rows) address ≡ first_of (asked (find_table rows address) find_rest)
unfolding find_number
find-asks rows address = refl

-- 38 before any other number
first-38 : (t : Bool) (n : ℕ) → pick t n 38 ≡ pick (not t) 38 n
first-38 true n = refl
first-38 false n = refl

enrol-first : (rows : List Row) (settings address gauge : ℕ) → if_in_order (board_of rows) (enrol_number (board_of rows) settings address gauge) 38 ≡ first_of (asked (enrol_table rows settings address gauge) enrol_order)
unfolding first_of
enrol-first rows settings address gauge =
    first-38 (in_address_order (board_of rows)) (enrol_number (board_of rows) settings address gauge) ∙ ap (pick (not (in_address_order (board_of rows))) 38) (enrol-asks rows settings address gauge)

poll-first : (rows : List Row) (address raise reset : ℕ) (out : List ℕ) → if_in_order (board_of rows) (row_poll_number (board_of rows) address raise reset out) 38 ≡ first_of (asked (row_poll_table rows address raise reset out) poll_order)
unfolding first_of
poll-first rows address raise reset out =
    first-38 (in_address_order (board_of rows)) (row_poll_number (board_of rows) address raise reset out) ∙ ap (pick (not (in_address_order (board_of rows))) 38) (poll-asks rows address raise reset out)

hear-first : (rows : List Row) (address count : ℕ) (reply : List ℕ) → if_in_order (board_of rows) (hear_number (board_of rows) address count reply) 38 ≡ first_of (asked (hear_table rows address count reply) hear_order)
unfolding first_of
hear-first rows address count reply =
    first-38 (in_address_order (board_of rows)) (hear_number (board_of rows) address count reply) ∙ ap (pick (not (in_address_order (board_of rows))) 38) (hear-asks rows address count reply)

find_first : (rows : List Row) (address : ℕ) → if_in_order (board_of rows) (find_number (board_of rows) address) 38 ≡ first_of (asked (find_table rows address) find_order)
unfolding first_of
find_first rows address =
    first-38 (in_address_order (board_of rows)) (find_number (board_of rows) address) ∙ ap (pick (not (in_address_order (board_of rows))) 38) (find-asks rows address)

-- the numbers of what a hearing and a look answer
heard-number : (t : Bool) (a b : Heard) → (pick t a b).number ≡ pick t a.number b.number
heard-number true a b = refl
heard-number false a b = refl

looked-number : (t : Bool) (a b : Looked) → (pick t a b).number ≡ pick t a.number b.number
looked-number true a b = refl
looked-number false a b = refl

look-number : (board : List Row) (address : ℕ) → (looked_at board address).number ≡ find_number board address
unfolding looked_at
look-number board address = go (eqb (find_number board address) 0) refl
  where
    go : (t : Bool) → eqb (find_number board address) 0 ≡ t → (pick (eqb (find_number board address) 0) (row_told (row_of address board)) (refused_look (find_number board address))).number ≡ find_number board address
    go true e = ap (λ (t : Bool). (pick t (row_told (row_of address board)) (refused_look (find_number board address))).number) e ∙ sym (eqb-true (find_number board address) 0 e)
    go false e = ap (λ (t : Bool). (pick t (row_told (row_of address board)) (refused_look (find_number board address))).number) e

look-first : (rows : List Row) (address : ℕ) → (if_in_order (board_of rows) (looked_at (board_of rows) address) (refused_look 38)).number ≡ first_of (asked (find_table rows address) find_order)
look-first rows address =
    looked-number (in_address_order (board_of rows)) (looked_at (board_of rows) address) (refused_look 38) ∙ ap (λ (n : ℕ). if_in_order (board_of rows) n 38) (look-number (board_of rows) address)
    ∙ find_first rows address

pub board-orders : BoardOrders
board-orders =
    record {
      enrol = λ rows settings address gauge answer after e. given (enrol_table rows settings address gauge) enrol_order answer (e.answers ∙ enrol-first rows settings address gauge);
      hear = λ rows minute address count reply answer after e. given (hear_table rows address count reply) hear_order answer.number (ap (λ (h : Heard). h.number) e.answers ∙ heard-number (in_address_order (board_of rows)) _ _ ∙ hear-first rows address count reply);
      remove = λ rows address answer after e. given (find_table rows address) find_order answer (e.answers ∙ find_first rows address);
      look = λ rows address answer e. given (find_table rows address) find_order answer.number (ap (λ (l : Looked). l.number) e.answers ∙ look-first rows address);
      poll = λ rows address raise reset out answer after e. given (row_poll_table rows address raise reset out) poll_order answer (e.answers ∙ poll-first rows address raise reset out);
    }
