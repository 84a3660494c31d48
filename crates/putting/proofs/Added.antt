-- Texts added to an output, one after another: what was added is what `Puts` says of the output and the places in it. Assumes nothing.
use Rattle.std.proofs.Common.{refl, zero-add, subst, le_trans, [], take, drop, ◌≡◌, List, ◌++◌, ℕ, ◌+◌, ◌≤◌, length, ◌∙◌, sym, ap}
use Rattle.putting.specs.Puts.{Puts}
use Rattle.frame.proofs.Fronts.{front}
use lib.Seq.{take_at}
use Rattle.putting.proofs.Putting as putting
use Rattle.putting.specs.declared.Text.{Text}
use Rattle.putting.specs.Adds.{Adds}

-- what was added was put
pub puts : {t : List ℕ} {m : ℕ} {before after : Text} → Adds t m before after → Puts t m before.out.now before.at after.at after.out.now
puts a = record { ends = a.ends; leaves = a.leaves; within = a.within }

-- a text after a text
pub then : {t u : List ℕ} {m n : ℕ} {a b c : Text} → Adds t m a b → Adds u n b c → Adds (t ++ u) (m + n) a c
then {t} {u} {m} {n} {a} {b} {c} first second =
    let both = putting.then (puts first) (puts second) in
    record { same = second.same ∙ first.same; keeps = second.keeps ∙ first.keeps; ends = both.ends; leaves = both.leaves; within = both.within }

-- and behind a reference that ends with what was added
pub left-behind : {t out : List ℕ} {m : ℕ} {before after : Text} → Adds t m before after → out ≡ after.out.now → Puts t m before.out.now before.at after.at out
left-behind {t} {out} {m} {before} {after} a e = record { ends = a.ends; leaves = e ∙ a.leaves; within = a.within }

-- none
pub nothing_added : {t : List ℕ} {m : ℕ} {a : Text} → [] ≡ t → Adds t m a a
nothing_added {t} {m} {a} e =
    let p = putting.nothing_put {t = t} {out = a.out.now} {m = m} {at = a.at} e in
    record { same = refl; keeps = refl; ends = p.ends; leaves = p.leaves; within = p.within }

pub at_most : {t : List ℕ} {m n : ℕ} {a b : Text} → m ≤ n → Adds t m a b → Adds t n a b
at_most h x = record { same = x.same; keeps = x.keeps; ends = x.ends; leaves = x.leaves; within = le_trans x.within h }

pub text-is : {t u : List ℕ} {m : ℕ} {a b : Text} → t ≡ u → Adds t m a b → Adds u m a b
text-is {m = m} {a = a} {b = b} e x = subst (λ t. Adds t m a b) e x

-- the text was put first in an array of its own
pub put_first : (most : ℕ) (text line₀ line : List ℕ) (end : ℕ) → length text ≤ length line₀ → Puts text most line₀ 0 end line → take end line ≡ text
put_first most text line₀ line end fits put =
    let size : end ≡ length text = put.ends ∙ zero-add (length text) in
    ap (take end) (put.leaves ∙ front text line₀ fits) ∙ take_at text (drop (length text) line₀) end (sym size)

-- a part that is the text was added
pub handed : {part text : List ℕ} {m : ℕ} {a b : Text} → part ≡ text → length text ≤ m → Adds part (length part) a b → Adds text m a b
handed {part} {text} {m} e h x =
    let fits : length part ≤ m = rw e h in at_most fits (text-is e x)
