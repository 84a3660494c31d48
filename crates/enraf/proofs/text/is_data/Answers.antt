-- `enraf::text::is_data` meets its contract: the length, and then each byte. Assumes nothing.
use mathlib.Core.Path.{◌≡◌, ◌∙◌}
use Rattle.std.proofs.Common.{rules, tests}
use Rattle.std.proofs.lemmas.Iterator.{YieldsList-from_slice}
use Rattle.std.proofs.lemmas.Iterator.Search.{all_from_yields_List}
use Rattle.enraf.specs.Item.{is_character, all_characters, is_data}
use Rattle.enraf.proofs.Sums.{all-are}
use Rattle.enraf.proofs.text.is_data.Goals as goal

pub returns-then-matches : goal.returns-then-matches
unfolding is_data
returns-then-matches c =
    let part = c.args.part.now in
    let run = all_from_yields_List is_character _ _ c.all.result c.all.ensures.ran (YieldsList-from_slice part cc) (λ x b q k. search (rules, tests)) in
    let all : c.all.result ≡ all_characters part = run ∙ all-are part in
    search rules

pub returns-else-matches : goal.returns-else-matches
unfolding is_data
returns-else-matches c = search rules
