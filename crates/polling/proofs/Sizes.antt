-- How many samples a try draws. Assumes nothing.
use mathlib.Core.Path.{◌≡◌, refl, ap, ap₂, ◌∙◌}
use mathlib.Core.Bool.{Bool, true, false}
use mathlib.Core.List.{[]}
use Prim.Native.Nat.{ℕ, ◌+◌, ◌*◌, ◌≤◌}
use native.Mathlib.Omega.{arith}
use lib.Dec.{ltb}
use lib.ListN.{length, replicate, length-append, length-replicate}
use Rattle.frame.specs.Pick.{pick}
use Rattle.frame.specs.Line.{first_bytes}
use Rattle.frame.specs.Poll.{poll_line}
use Rattle.drawing.specs.Pulses.{drawing}
use Rattle.drawing.proofs.Rest.{drawing-long}
use Rattle.polling.specs.declared.Pace.{Pace}
use Rattle.polling.specs.Meant.{poll_drawn, try_drawn}
use Rattle.polling.proofs.Paces.{Good}

module _ (p : Pace) (address : ℕ) where
  poll-long : (t : Bool) → ltb 999 address ≡ t → length (poll_drawn p address) ≡ pick t 0 (16 * (p.low + p.still))
  unfolding poll_drawn
  poll-long true e = ap (λ (t : Bool). length (pick t [] (drawing p.low p.still 16 (first_bytes 2 (poll_line address false false))))) e
  poll-long false e =
      ap (λ (t : Bool). length (pick t [] (drawing p.low p.still 16 (first_bytes 2 (poll_line address false false))))) e
      ∙ drawing-long p.low p.still 16 (first_bytes 2 (poll_line address false false))

  pub try-long : (t : Bool) → ltb 999 address ≡ t → length (try_drawn p address) ≡ p.delay + pick t 0 (16 * (p.low + p.still))
  unfolding try_drawn
  try-long t e =
      length-append (replicate p.delay 0) (poll_drawn p address) ∙ ap₂ (λ (a b : ℕ). a + b) (length-replicate p.delay 0) (poll-long t e)

-- A try has not many.
pub try-short : (p : Pace) → Good p → (address : ℕ) → length (try_drawn p address) ≤ 2000000
try-short p g address = go (ltb 999 address) refl
  where
    go : (t : Bool) → ltb 999 address ≡ t → length (try_drawn p address) ≤ 2000000
    go true e = omega (arith, try-long p address true e, g.delay)
    go false e = omega (arith, try-long p address false e, g.delay, g.low, g.still)
