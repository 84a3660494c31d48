-- `forms::form::form_at` meets its contract: it is the item of std's split that has so many before it. Assumes nothing.
use Rattle.std.proofs.Common.{rules}
use Rattle.std.proofs.lemmas.Iterator.Consumers.{nth_from_yields_List}
use Rattle.std.proofs.lemmas.Iterator.Splits.{YieldsList-from_slice_split}
use Rattle.forms.proofs.form.form_at.Goals as goal

pub returns : goal.returns
returns c =
    let split = c.split.ensures in
    nth_from_yields_List _ _ _ c.nth.ensures.ran (YieldsList-from_slice_split _ _ _ split.rest split.done split.closure (λ x b q h. search rules))
