-- `summary::handed::lines_over` meets its contract: it is told by any of the 30 lines.
use mathlib.Core.Path.{◌≡◌, ◌∙◌}
use lib.ListN.{length}
use Rattle.std.proofs.Common.{rules, tests}
use Rattle.std.proofs.lemmas.Iterator.{YieldsList-from_slice}
use Rattle.std.proofs.lemmas.Iterator.Search.{any_from_yields_List}
use Rattle.std.specs.List.{list_any}
use Rattle.summary.specs.Handed.{counts_over}
use Rattle.summary.proofs.Every.{any-over}
use Rattle.summary.proofs.handed.lines_over.Goals as goal

pub returns : goal.returns
returns c =
    let told : c.any.result ≡ list_any counts_over c.args.s.now.lines = any_from_yields_List counts_over _ _ _ c.any.ensures.ran (YieldsList-from_slice c.args.s.now.lines cc) (λ x b q k. search (rules, tests)) in
    let long : length c.args.s.now.lines ≡ 30 = search rules in
    told ∙ any-over c.args.s.now long
