-- One outcome, of the summary's calls: what a contract's record allows for given inputs, answer and sheet, is one thing and no other.
use Rattle.std.specs.Prelude.{List, ℕ}
use Rattle.sheet.specs.Record.{Entry}
use Rattle.summary.specs.declared.Summary.{Summary}
use Rattle.summary.specs.declared.Made.{Made}
use Rattle.summary.specs.declared.Kept.{Kept}
use Rattle.summary.specs.Calls.{MakesSummary, SavesWith}
use Rattle.promises_frame.specs.One.{One}

pub record SummaryOutcome : Type 0 where
  pub afresh : (sheet : List ℕ) → One Made (MakesSummary sheet)
  pub save : (sheet : List ℕ) (s : Summary) (e : Entry) (allowance : ℕ)
      → One (Kept × List ℕ) (λ o. SavesWith sheet s e allowance o.0 o.1)
