-- What keeps the step's sums within their words: every legal state has it, and a step that closes nothing keeps it.
use Rattle.std.specs.Prelude.{◌≡◌, ◌-◌, ◌%◌, ◌^◌, ◌≤◌}
use Rattle.lines.specs.declared.SoFar.{SoFar}

pub record Safe (s : SoFar) : Type 0 where
  pub count : s.count ≤ 64
  pub pads : s.bits % 2 ^ (64 - s.count) ≡ 0
  pub run : s.run ≤ 10000
