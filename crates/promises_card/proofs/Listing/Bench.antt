-- The definitions are computed at the document's bytes. Assumes nothing.
use mathlib.Core.Path.{refl}
use lib.Count.{ones}
use Rattle.frame.specs.Line.{line, formed, marks}
use Rattle.frame.specs.Charts.{place_in, turned, feet_tens, decimal}
use Rattle.frame.specs.Level.{read_row, width_of, mode_of, decimal_mode}
use Rattle.frame.specs.Faults.{first_of}
use Rattle.frame.specs.Reply.{reply_of, reply_fault}
use Rattle.sheet.specs.Bytes.{all_blank, same}
use Rattle.sheet.specs.Record.{passes, picture, fields_of, is_record}
use Rattle.sheet.specs.Slots.{slot_of, list_up_to}
use Rattle.listing.specs.Text.{digits_up_to}
use Rattle.listing.specs.Lines.{head_line, lines_up_to, reading_text, record_text, count_line, listing_of}
use Rattle.promises_card.specs.Listing.Bench.{ListingBench}

pub listing-bench : ListingBench
unfolding listing_of head_line lines_up_to reading_text record_text count_line digits_up_to slot_of list_up_to is_record fields_of picture passes same all_blank reply_of reply_fault first_of formed line marks ones read_row width_of mode_of decimal_mode feet_tens decimal place_in turned
listing-bench = record { three_lines = refl; no_slot = refl; one_byte_short = refl }
