-- Own figures: a save changes only its own pair's figures, on any sheet and with any summary that is handed in.
use Rattle.std.specs.Prelude.{◌≡◌, ◌≢◌, true, false, List, [], ℕ, ◌+◌, ◌<◌, ◌≤◌, length}
use Rattle.frame.specs.Rising.{held_at}
use Rattle.summary.specs.declared.Line.{Line}
use Rattle.summary.specs.declared.Summary.{Summary}
use Rattle.summary.specs.Line.{pair_of}
use Rattle.summary.specs.Worked.{pair_in}
use Rattle.summary.specs.Handed.{lines_of}
use Rattle.promises_card.specs.Summary.Chain.{Step, Goes, is_closed}

-- The line of a pair in a summary, or none.
abbrev pub line_in : ℕ → Summary → List Line
line_in k s = held_at pair_of k (lines_of s)

-- `before` is what was handed in, with its 30 lines, and `after` what came back.
pub record Figures (k : ℕ) (before after : Summary) : Type 0 where
  -- Every line of another pair is the same.
  pub others-stay : (j : ℕ) → j ≢ k → line_in j after ≡ line_in j before
  -- Where the pair has a line, or one is free, the count of the others stays and the pair has a line.
  pub own : line_in k before ≢ [] → (after.others ≡ before.others) × (after.count ≡ before.count)
  pub new : line_in k before ≡ [] → before.count < 30
      → (after.others ≡ before.others) × ((after.count ≡ before.count + 1) × (line_in k after ≢ []))
  -- Else the lines stay, and the others are one more.
  pub other : line_in k before ≡ [] → 30 ≤ before.count → (after.lines ≡ before.lines) × (after.others ≡ before.others + 1)

pub record OwnFigures : Type 0 where
  pub closed : (s : List ℕ) (page : Summary) → length page.lines ≡ 30 → (x : Step) (t : List ℕ) → Goes s page x t → is_closed x ≡ true
      → Figures (pair_in x.entry) page x.answer.summary
  -- A broken save, one of no stores and a refused one leave the summary as it was.
  pub not-closed : (s : List ℕ) (page : Summary) (x : Step) (t : List ℕ) → Goes s page x t → is_closed x ≡ false → x.answer.summary ≡ page
