-- `summary::handed::levels_right` meets its contract: both levels are tested against the count of good replies.
use mathlib.Core.Path.{◌≡◌, refl}
use mathlib.Core.Bool.{Bool, true, false, not, ◌&&◌, beq}
use lib.Dec.{eqb}
use Rattle.frame.specs.Pick.{pick}
use Rattle.summary.specs.Line.{no_level}
use Rattle.summary.specs.Handed.{levels_right}
use Rattle.summary.proofs.handed.levels_right.Goals as goal

-- one level is as it is to be: the other decides
one-right : (a l h : Bool) → beq l a ≡ true → beq h a ≡ pick a (l && h) (not l && not h)
one-right true true true e = refl
one-right true true false e = refl
one-right false false true e = refl
one-right false false false e = refl
one-right true false h e = absurd (cc)
one-right false true h e = absurd (cc)

-- or it is not
one-wrong : (a l h : Bool) → beq l a ≡ false → beq l a ≡ pick a (l && h) (not l && not h)
one-wrong true true h e = absurd (cc)
one-wrong false false h e = absurd (cc)
one-wrong true false h e = refl
one-wrong false true h e = refl

pub returns-then-line-none : goal.returns-then-line-none
unfolding levels_right
returns-then-line-none c =
    let l = c.args.line in one-right (eqb l.good 0) (eqb l.lowest no_level) (eqb l.highest no_level) c.if-line-none.true

pub returns-else-line-none : goal.returns-else-line-none
unfolding levels_right
returns-else-line-none c =
    let l = c.args.line in one-wrong (eqb l.good 0) (eqb l.lowest no_level) (eqb l.highest no_level) c.if-line-none.false
