-- The samples, by computing.
use mathlib.Core.Path.{refl}
use Rattle.frame.specs.Faults.{first_of}
use Rattle.enraf.specs.Check.{sum_after, block_check}
use Rattle.enraf.specs.Item.{all_characters, is_data, tail_of, kind_fits, text_fits, kind_in, characters_in, error_in}
use Rattle.enraf.specs.Record.{checked_of, item_record}
use Rattle.enraf.specs.Reading.{framed, check_right, addressed, item_in, read_fault}
use Rattle.promises_enraf.specs.Samples.{ItemSamples}

pub item-samples : ItemSamples
unfolding first_of sum_after block_check all_characters is_data tail_of kind_fits text_fits kind_in characters_in error_in checked_of item_record framed check_right addressed item_in read_fault
item-samples = record { every_one = refl }
