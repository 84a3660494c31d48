-- A hearing as a change: refused before the reply is read, or as the frame's answer has it. What the frame answers is opened just so far
-- that its number, its reading and its place are seen.
use Rattle.std.specs.Prelude.{Option, None, Some, Result, Err}
use mathlib.Core.Path.{◌≡◌, sym, refl, ◌∙◌, ap, subst}
use mathlib.Core.Bool.{Bool, true, false}
use mathlib.Core.List.{List}
use Prim.Native.Nat.{ℕ, ◌<◌, ◌≤◌}
use native.Mathlib.Omega.{arith}
use lib.Dec.{eqb}
use lib.ListN.{length}
use Rattle.frame.specs.declared.faults.Fault.{Fault}
use Rattle.frame.specs.declared.faults.Fault.TheVariants.{OutOfOrder}
use Rattle.frame.specs.declared.Reading.{Reading}
use Rattle.frame.specs.Faults.{number_of, place_named}
use Rattle.frame.specs.Level.{Level, level_of}
use Rattle.frame.specs.Line.{line, formed}
use Rattle.frame.specs.Pick.{pick}
use Rattle.frame.specs.Reply.{mode_in, reply_fault, reply_of, reading_at}
use Rattle.board.specs.declared.Row.{Row}
use Rattle.board.specs.declared.value.Found.{Found}
use Rattle.board.specs.declared.value.Hearing.{Hearing}
use Rattle.board.specs.Row.{heard_at, sets_fault}
use Rattle.board.specs.Rows.{place_of, row_of}
use Rattle.board.specs.Calls.{hear_number, hear_place, hear_rows}
use Rattle.board.specs.Inside.ByValue.{Stands, Sees, Finds, Changes, HearsOn, hearing_of, heard_change, wrong_by, said_of}
use Rattle.frame.proofs.Numbers.{reply-small}
use Rattle.board.proofs.Numbers.{hear-read}
use Rattle.board.proofs.OneRow.{out_of_order, so-kept, unheard, hears}

module _ (board : List Row) (minute address count : ℕ) (reply : List ℕ) where
  abbrev number : ℕ
  number = hear_number board address count reply

  -- the row of the address, heard at this minute
  abbrev row : Row
  row = heard_at (row_of address board) minute

  abbrev level : Level
  level = level_of (mode_in row.settings) (line reply)

  -- what a hearing answers, changes and names
  abbrev pub HearsAt : Result Hearing Fault → Type 0
  HearsAt answer = Changes board number (hear_rows board minute address count reply) (said_of (wrong_by answer)).number (heard_change answer) × ((said_of (wrong_by answer)).place ≡ hear_place board address count reply)

  pub hear-refuses : (f : Fault) → eqb (number_of f) 0 ≡ false → eqb (number_of f) 7 ≡ false → sets_fault (number_of f) ≡ false → place_named f ≡ 0 → number ≡ number_of f → HearsAt (Err f)
  unfolding hear_rows hear_place
  hear-refuses f z v s p e = unheard board (place_of address board) row minute (reading_at row.settings count (line reply)) level f number z v s p e

  here : address ≤ 999 → formed count reply ≡ true → place_of address board < length board → HearsAt (hearing_of (place_of address board) row minute (reply_of row.settings address count reply))
  unfolding hear_rows hear_place reply_of
  here a f l =
      hears board (place_of address board) row minute (reading_at row.settings count (line reply)) level (reply_fault row.settings address count reply) number (reply_of row.settings address count reply) refl (hear-read board address count reply a f l) (reply-small row.settings address count reply) l

  -- the same, of what a search found, and of an answer that was given
  pub hear-changes : (spot : ℕ) (found : Row) (answer : Result Reading Fault) (made : Result Hearing Fault) → Stands board address spot found → address ≤ 999 → formed count reply ≡ true → answer ≡ reply_of found.settings address count reply → made ≡ hearing_of spot (heard_at found minute) minute answer → HearsAt made
  hear-changes spot found answer made at a form w is =
      subst HearsAt
      (sym
      (is
      ∙ ap (λ (i : ℕ). hearing_of i (heard_at found minute) minute answer) at.place
      ∙ ap (λ (y : Row). hearing_of (place_of address board) (heard_at y minute) minute answer) at.there
      ∙ ap (λ (x : Result Reading Fault). hearing_of (place_of address board) row minute x) (w ∙ ap (λ (y : Row). reply_of y.settings address count reply) at.there)))
      (here a form (omega (arith, at.place, at.on)))

-- so on every board on which the search finds the same, and 38 on one not so kept
pub hears-on : (found : Option Found) (f : Found) (minute address count : ℕ) (reply : List ℕ) (answer : Result Hearing Fault) → found ≡ Some f → ((board : List Row) → Sees board address f → HearsAt board minute address count reply answer) → HearsOn found minute address count reply answer
hears-on found f minute address count reply answer is at =
    record {
      changes = record { on = λ board finds. let sees = subst (Finds board address) is finds in so-kept board _ _ _ _ sees.order (at board sees).0 };
      names = λ board finds. let sees = subst (Finds board address) is finds in (at board sees).1 ∙ sym (ap (λ (t : Bool). pick t (hear_place board address count reply) 0) sees.order);
    }

pub hears-none : (found : Option Found) (minute address count : ℕ) (reply : List ℕ) → found ≡ None → HearsOn found minute address count reply (Err OutOfOrder)
hears-none found minute address count reply k =
    record {
      changes = record { on = λ board finds. out_of_order board _ _ 38 None (subst (Finds board address) k finds) refl refl };
      names = λ board finds. sym (ap (λ (t : Bool). pick t (hear_place board address count reply) 0) (subst (Finds board address) k finds));
    }
