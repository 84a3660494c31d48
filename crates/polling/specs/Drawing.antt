-- Our request 16, obligation 3: drawing. The output is filled up to the end of the poll; then it is time to listen, and nothing is drawn.
use Rattle.std.specs.Prelude.{not, ◌||◌, List, [], ℕ, ◌+◌, eqb, take, drop}
use Rattle.frame.specs.Pick.{pick}
use Rattle.polling.specs.declared.Pace.{Pace}
use Rattle.polling.specs.declared.Polling.{Polling}
use Rattle.polling.specs.declared.Drew.{Drew}
use Rattle.polling.specs.Meant.{is_over, turn_of, try_drawn, draws, meant}

-- What is left to draw of this try: nothing in a round that is over, and nothing while it listens.
unfoldable pub to_draw : Pace → Polling → List ℕ
to_draw p w = pick (is_over w || not (eqb w.listening 0)) [] (drop w.passed (try_drawn p (turn_of w).address))

-- As much of it as there is room for.
unfoldable pub drawn_by : Pace → Polling → ℕ → List ℕ
drawn_by p w room = take room (to_draw p w)

-- The state after so many samples more: a round that is over, or that listens, drew none, and is as it means; else the poll may now be drawn.
unfoldable pub after_drawn : Pace → Polling → ℕ → Polling
after_drawn p w many = pick (is_over w || not (eqb w.listening 0)) (meant p w) (meant p (draws w (w.passed + many)))

-- What drawing leaves and tells: the lent state after it, and its answer.
pub record LeftByDrawing : Type 0 where
  pub polling : Polling
  pub count : ℕ
  pub over : ℕ
  pub number : ℕ

abbrev pub drew : Polling → (count over number : ℕ) → LeftByDrawing
drew w count over number = record { polling = w; count = count; over = over; number = number }

abbrev pub drew_with : Polling → Drew → LeftByDrawing
drew_with w told = drew w told.count told.over told.number
