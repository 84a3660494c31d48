-- One outcome: what each call may answer is one thing and no other.
use Rattle.std.specs.Prelude.{List, ℕ}
use Rattle.areas.specs.declared.Plan.{Plan}
use Rattle.areas.specs.Check.{ChecksAreas}
use Rattle.areas.specs.Plan.{PlansAreas}
use Rattle.promises_frame.specs.One.{One}

pub record AreasOneOutcome : Type 0 where
  pub check : (site plan : List ℕ) → One ℕ (ChecksAreas site plan)
  pub plan : (site : List ℕ) → One Plan (PlansAreas site)
