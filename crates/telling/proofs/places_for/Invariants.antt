-- `telling::places_for` meets its contract: after i turns the first i places stand in the row, and zeros behind them. Assumes nothing.
use Rattle.std.proofs.Common.{◌≡◌}
use Rattle.sheet.specs.StoresTold.{zeros_behind}
use Rattle.sheet.specs.Inside.Rows.{up_from}
use Rattle.telling.proofs.places_for.Given as goal

abbrev pub invariant-loop-i : goal.invariant-loop-i
invariant-loop-i l = l.places ≡ zeros_behind (up_from 2 l.i)
