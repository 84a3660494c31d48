-- What records come to, and what more of them come to: by induction over them. Assumes nothing.
use mathlib.Core.Path.{◌≡◌, refl}
use mathlib.Core.List.{List, [], ◌∷◌, ◌++◌}
use Rattle.sheet.specs.Record.{Entry}
use Rattle.summary.specs.Worked.{reply_in}
use Rattle.layers.specs.declared.gauge.Gauged.{Gauged}
use Rattle.layers.specs.Gauged.{with_reply, gauged_with}

pub gauged-none : (g : Gauged) → gauged_with g [] ≡ g
unfolding gauged_with
gauged-none g = refl

pub gauged-one : (g : Gauged) (e : Entry) → gauged_with g (e ∷ []) ≡ with_reply g e.minute (reply_in e)
unfolding gauged_with
gauged-one g e = refl

pub gauged-append : (g : Gauged) (l m : List Entry) → gauged_with g (l ++ m) ≡ gauged_with (gauged_with g l) m
unfolding gauged_with
gauged-append g [] m = refl
gauged-append g (e ∷ l) m = gauged-append (with_reply g e.minute (reply_in e)) l m
