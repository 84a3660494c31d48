-- `enraf::writing::put_end` meets its contract: the part that is checked ends with the ETX just put. Assumes nothing.
use mathlib.Core.Path.{◌≡◌, ap, ◌∙◌}
use mathlib.Core.List.{List, [], ◌∷◌}
use Prim.Native.Nat.{ℕ, ◌-◌}
use native.Mathlib.Omega.{arith}
use lib.ListN.{take, drop}
use Rattle.putting.proofs.Added.{then, text-is}
use Rattle.enraf.specs.Check.{block_check}
use Rattle.enraf.proofs.writing.put_end.Goals as goal

pub returns : goal.returns
returns c =
    let t = c.args.text.now in
    let etx = c.byte.ensures in
    let end : c.byte.new.self.at - 1 ≡ t.at = omega (arith, etx.ends) in
    let check =
    c.check_of-check.ensures ∙ ap (λ (n : ℕ). block_check (take n (drop 1 c.byte.new.self.out.now))) end
    ∙ ap (λ (o : List ℕ). block_check (take t.at (drop 1 o))) etx.leaves in
    then etx (text-is (ap (λ (b : ℕ). b ∷ []) check) c.byte-2.ensures)
