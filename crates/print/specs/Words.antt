-- A transmitter's settings by the lowest four bits of their byte, as document 01 has them: two of the mode, one of the type, one of the parity. The others say
-- nothing.
use Rattle.std.specs.Prelude.{ℕ, ◌%◌, eqb}
use Rattle.frame.specs.Pick.{pick}
use Rattle.frame.specs.Reply.{is1800, odd_parity}
use Rattle.print.specs.declared.settings.Mode.{Mode}
use Rattle.print.specs.declared.settings.Mode.TheVariants.{Fractional, Decimal, Metres20, Metres30}
use Rattle.print.specs.declared.settings.Transmitter.TheVariants.{Model1900, Model1800}
use Rattle.print.specs.declared.settings.Parity.TheVariants.{Even, Odd}
use Rattle.print.specs.declared.settings.Settings.{Settings}

abbrev pub mode_by : ℕ → Mode
mode_by n = pick (eqb n 0) Fractional (pick (eqb n 1) Decimal (pick (eqb n 2) Metres20 Metres30))

abbrev pub settings_of : ℕ → Settings
settings_of bits =
    record { mode = mode_by (bits % 4); transmitter = pick (is1800 bits) Model1800 Model1900; parity = pick (eqb (odd_parity bits) 1) Odd Even }
