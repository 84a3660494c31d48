-- Our request 16, obligation 4: listening, from the first sample after the poll on.
use Rattle.std.specs.Prelude.{◌&&◌, List, [], ◌∷◌, ℕ, ◌+◌, eqb, leb}
use Rattle.frame.specs.Pick.{pick}
use Rattle.lines.specs.declared.SoFar.{SoFar}
use Rattle.lines.specs.Sample.{sample_of}
use Rattle.lines.specs.SoFar.{is_rest}
use Rattle.lines.specs.Step.{after, closes}
use Rattle.lines.specs.Hearing.{MessageTold, nothing, spoiled, told_of}
use Rattle.polling.specs.declared.Pace.{Pace}
use Rattle.polling.specs.Pace.{timing_of}

-- A try after some samples: it goes on, and the lines are left so; or it is settled by what was told, `nothing` being silence, at the last sample taken.
pub data Listened : Type 0 where
  still_going : (left : SoFar) (taken : ℕ) → Listened
  settled_by : (told : MessageTold) (taken : ℕ) → Listened

-- The same after so many samples more.
abbrev pub later : ℕ → Listened → Listened
later n (still_going left taken) = still_going left (n + taken)
later n (settled_by told taken) = settled_by told (n + taken)

-- Given up: 22 where a byte above 3 came, else 21.
abbrev pub given_up : SoFar → MessageTold
given_up s = spoiled (pick (eqb s.fault 22) 22 21)

-- What one sample more leaves, the lines being so after it and so many samples having been heard, is settled by the first of these: a message closes, or a
-- spoiled message; `wait` samples have been heard and the lines are still at rest, no low sample having come: silence; `longest` samples have been
-- heard and nothing has closed: given up.
unfoldable pub settle : Pace → SoFar → ℕ → Listened → Listened
settle p s passed more =
    pick (closes (timing_of p) s) (settled_by (told_of s) 1)
    (pick (is_rest s && leb p.wait passed) (settled_by nothing 1)
    (pick (leb p.longest passed) (settled_by (given_up s) 1) more))

-- Samples heard one after another as request 01 hears them, from the lines as they are and after so many, up to the one that settles the try.
unfoldable pub listen : Pace → SoFar → ℕ → List ℕ → Listened
listen p s passed [] = still_going s 0
listen p s passed (x ∷ xs) =
    let n = after (timing_of p) s (sample_of x) in settle p n (passed + 1) (later 1 (listen p n (passed + 1) xs))
