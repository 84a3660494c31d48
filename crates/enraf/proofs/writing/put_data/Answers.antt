-- `enraf::writing::put_data` meets its contract: after so many turns as many characters were added. Assumes nothing.
use Rattle.std.proofs.Common.{refl, sym, ap, ◌≡◌, [], ◌∷◌, ◌++◌, ℕ, ◌+◌, ◌∙◌, get_or, take, add-one, arith}
use lib.Seq.{take-suc, take_all}
use Rattle.putting.proofs.Added.{then, text-is, at_most, nothing_added}
use Rattle.enraf.proofs.writing.put_data.Goals as goal

pub loop-character-init : goal.loop-character-init
loop-character-init c = nothing_added refl

pub byte-requires : goal.byte-requires
byte-requires c = let l = c.loop-character in let added = l.invariant in omega arith

pub loop-character-preserved : goal.loop-character-preserved
loop-character-preserved c =
    let s = c.args.characters.now in
    let l = c.loop-character in
    let i = l.character-index in
    let more : take i s ++ get_or s i 0 ∷ [] ≡ take (i + 1) s = sym (ap (λ (k : ℕ). take k s) (add-one i) ∙ take-suc s i 0 (omega arith)) in
    text-is more (then l.invariant c.byte.ensures)

pub returns : goal.returns
returns c =
    let s = c.args.characters.now in
    let l = c.loop-character in
    at_most (omega arith) (text-is (take_all l.character-index s (omega arith)) l.invariant)
