-- `sheet::view::look` meets its contract: what is seen through a view that was opened is what a look answers.
use mathlib.Core.Path.{ap, ◌∙◌}
use mathlib.Core.List.{List}
use Prim.Native.Nat.{ℕ}
use denote.Ref.{Bor}
use Rattle.sheet.specs.View.{seen_of}
use Rattle.sheet.proofs.view.Spans.{opened-seen}
use Rattle.sheet.proofs.view.look.Goals as goal

pub returns : goal.returns
returns c = record {
  answers = c.slot_in.ensures.answers
      ∙ ap (λ (b : Bor (List ℕ)). seen_of b.now c.open.result.slots c.args.slot) c.open.ensures.bytes
      ∙ ap (λ (n : ℕ). seen_of c.args.sheet.now n c.args.slot) c.open.ensures.slots
      ∙ opened-seen c.args.sheet.now c.args.slot;
}
