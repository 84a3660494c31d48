-- `telling::save_stores` meets its contract: by what the save would answer. Assumes nothing.
use mathlib.Core.Path.{sym, ◌∙◌}
use Rattle.sheet.specs.Look.{entry_with}
use Rattle.telling.proofs.Telling.{tells-stores, tells-refusal}
use Rattle.telling.proofs.save_stores.Goals as goal

pub returns-in-Ok : goal.returns-in-Ok
returns-in-Ok c = tells-stores c.args.sheet.now (entry_with c.args.head c.args.reply.now) _ (sym c.try_save.ensures ∙ c.in-Ok.is)

pub returns-in-Err : goal.returns-in-Err
returns-in-Err c = rw c.refused.ensures (tells-refusal c.args.sheet.now (entry_with c.args.head c.args.reply.now) _ (sym c.try_save.ensures ∙ c.in-Err.is))
