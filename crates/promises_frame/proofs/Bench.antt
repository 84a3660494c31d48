-- The bench checks, by computing.
use mathlib.Core.Path.{refl}
use lib.Count.{ones, ones_in}
use Rattle.frame.specs.Line.{first_bytes, line, marks, formed}
use Rattle.frame.specs.Charts.{one_bit, two_bits, feet_tens, decimal, inches, sixteenths, turned, place_in}
use Rattle.frame.specs.Level.{mode_of, fractional_mode, decimal_mode, twenty_metre_mode, thirty_metre_mode, width_of, values_of, read_row, write_row}
use Rattle.frame.specs.Reply.{reply_line, body_of, reply_of, reply_fault}
use Rattle.frame.specs.Temperature.{heat1900, heat1800, put_heat_1900, put_heat_1800, put_degrees_1900}
use Rattle.frame.specs.Faults.{first_of}
use Rattle.promises_frame.specs.Bench.{BenchChecks}

pub bench-checks : BenchChecks
unfolding first_bytes line marks formed ones ones_in one_bit two_bits feet_tens decimal inches sixteenths turned place_in mode_of fractional_mode decimal_mode twenty_metre_mode thirty_metre_mode width_of values_of read_row write_row reply_line body_of reply_of reply_fault heat1900 heat1800 put_heat_1900 put_heat_1800 put_degrees_1900 first_of
bench-checks = record { every_one = refl }
