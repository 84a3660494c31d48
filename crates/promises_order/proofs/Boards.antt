-- What a call asks of a board, by whether the address is on it, which row it has, and whether a row is free: two boards on which these are the same are
-- answered alike. And the rows after a call, from what it makes of the board.
use mathlib.Core.Path.{◌≡◌, ◌∙◌, ap}
use mathlib.Core.Bool.{Bool, not}
use mathlib.Core.List.{List, [], ◌∷◌, ◌++◌}
use Prim.Native.Nat.{ℕ}
use lib.Dec.{eqb, ltb}
use lib.ListN.{length, drop}
use Rattle.frame.specs.Faults.{◌gives◌, first_of}
use Rattle.frame.specs.Kinds.{is_set}
use Rattle.frame.specs.Level.{level_of, place_lost}
use Rattle.frame.specs.Line.{line, first_bytes, formed}
use Rattle.frame.specs.Pick.{pick}
use Rattle.frame.specs.Poll.{poll_line}
use Rattle.frame.specs.Reply.{mode_in}
use Rattle.board.specs.declared.Row.{Row}
use Rattle.board.specs.Gauge.{profile_misplaced, unmarked, at_once}
use Rattle.board.specs.Rows.{on_board, row_of, has_free}
use Rattle.board.specs.Calls.{enrol_number, fault_by, outside_at, hear_number, hear_place, find_number, looked_at, row_told, refused_look, row_poll_number, row_poll_bytes}

module _ (x y : List Row) (address : ℕ) (on : on_board address x ≡ on_board address y) where
  pub same-find : find_number x address ≡ find_number y address
  unfolding find_number
  same-find = ap (λ (t : Bool). first_of (ltb 999 address gives 11 ∷ not t gives 17 ∷ [])) on

  pub same-enrol : (settings gauge : ℕ) → has_free x ≡ has_free y → enrol_number x settings address gauge ≡ enrol_number y settings address gauge
  unfolding enrol_number
  same-enrol settings gauge free =
      ap (λ (t : Bool). first_of (ltb 15 settings gives 10 ∷ ltb 999 address gives 11 ∷ profile_misplaced settings gauge gives 27 ∷ t gives 18 ∷ not (has_free x) gives 19 ∷ [])) on
      ∙ ap (λ (t : Bool). first_of (ltb 15 settings gives 10 ∷ ltb 999 address gives 11 ∷ profile_misplaced settings gauge gives 27 ∷ on_board address y gives 18 ∷ not t gives 19 ∷ [])) free

  module _ (there : row_of address x ≡ row_of address y) where
    pub same-looked : looked_at x address ≡ looked_at y address
    unfolding looked_at
    same-looked = ap (λ (n : ℕ). pick (eqb n 0) (row_told (row_of address x)) (refused_look n)) same-find ∙ ap (λ (r : Row). pick (eqb (find_number y address) 0) (row_told r) (refused_look (find_number y address))) there

    module _ (count : ℕ) (reply : List ℕ) where
      abbrev number_by : Bool → Row → ℕ
      number_by t row =
          first_of
          (ltb 999 address gives 11 ∷ not (formed count reply) gives 14 ∷ not t gives 17 ∷ not (eqb (fault_by row address count reply) 0) gives fault_by row address count reply ∷ outside_at row count reply gives 26 ∷ [])

      pub same-hear : hear_number x address count reply ≡ hear_number y address count reply
      unfolding hear_number
      same-hear = ap (λ (t : Bool). number_by t (row_of address x)) on ∙ ap (number_by (on_board address y)) there

      abbrev named : Row → ℕ → ℕ
      named row n = pick (eqb n 7) (place_lost (level_of (mode_in row.settings) (line reply))) 0

      pub same-named : hear_place x address count reply ≡ hear_place y address count reply
      unfolding hear_place
      same-named = ap (named (row_of address x)) same-hear ∙ ap (λ (r : Row). named r (hear_number y address count reply)) there

    module _ (raise reset : ℕ) (out : List ℕ) where
      abbrev poll_by : Bool → Row → ℕ
      poll_by t row =
          first_of (ltb 999 address gives 11 ∷ not t gives 17 ∷ unmarked row.gauge raise reset gives 28 ∷ at_once raise reset gives 28 ∷ ltb (length out) 2 gives 15 ∷ [])

      pub same-poll : row_poll_number x address raise reset out ≡ row_poll_number y address raise reset out
      unfolding row_poll_number
      same-poll = ap (λ (t : Bool). poll_by t (row_of address x)) on ∙ ap (poll_by (on_board address y)) there

      pub same_bytes : row_poll_bytes x address raise reset out ≡ row_poll_bytes y address raise reset out
      unfolding row_poll_bytes
      same_bytes = ap (λ (n : ℕ). pick (eqb n 0) (first_bytes 2 (poll_line address (is_set raise) (is_set reset)) ++ drop 2 out) out) same-poll
