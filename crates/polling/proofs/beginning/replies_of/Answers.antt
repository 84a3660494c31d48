-- `polling::beginning::replies_of` meets its contract: each turn puts down one reply more.
use mathlib.Core.Path.{◌≡◌, refl, sym, ap, ◌∙◌}
use mathlib.Core.List.{List, [], ◌∷◌, ◌++◌, map}
use Prim.Native.Nat.{ℕ, suc, ◌+◌, ◌-◌, ◌<◌}
use native.Mathlib.Omega.{arith}
use native.Mathlib.Numerals.{add-one}
use lib.ListN.{length, get_or, take, set, replicate, length-map}
use lib.Seq.{take-suc, set_at, append_snoc, length-take-le, get_or-take}
use Rattle.board.specs.declared.Row.{Row}
use Rattle.board.specs.Row.{free_row}
use Rattle.round.specs.declared.Polled.{Polled}
use Rattle.polling.specs.Beginning.{no_reply, reply_for}
use Rattle.polling.proofs.beginning.replies_of.Goals.{Start}
use Rattle.polling.proofs.beginning.replies_of.Goals as goal

map_snoc : (f : Row → Polled) (rows : List Row) (row : Row) → map f (rows ++ row ∷ []) ≡ map f rows ++ f row ∷ []
map_snoc f [] row = refl
map_snoc f (x ∷ rows) row = ap (λ (l : List Polled). f x ∷ l) (map_snoc f rows row)

-- one row more
one_more : (minute : ℕ) (held : List Row) (i : ℕ) (x : Polled) → length held ≡ 30 → i < 30 → x ≡ reply_for minute (get_or held i free_row)
    → set (map (reply_for minute) (take i held) ++ replicate (30 - i) no_reply) i x ≡ map (reply_for minute) (take (i + 1) held) ++ replicate (30 - (i + 1)) no_reply
one_more minute held i x long less is =
    let f = reply_for minute in
    let k = 30 - (i + 1) in
    let left : 30 - i ≡ suc k = omega arith in
    ap (λ (n : ℕ). set (map f (take i held) ++ replicate n no_reply) i x) left
    ∙ set_at (map f (take i held)) no_reply (replicate k no_reply) x i (length-map (take i held) f ∙ length-take-le i held (omega arith))
    ∙ sym (append_snoc (map f (take i held)) x (replicate k no_reply))
    ∙ ap (λ (l : List Polled). l ++ replicate k no_reply)
    (ap (λ (y : Polled). map f (take i held) ++ y ∷ []) is ∙ sym (map_snoc f (take i held) (get_or held i free_row))
    ∙ ap (map f) (sym (take-suc held i free_row (omega arith)) ∙ ap (λ (n : ℕ). take n held) (sym (add-one i))))

thirty : (s : Start) → length s.args.held ≡ 30
thirty s = s.well_formed.0.1.0.1

pub loop-i-preserved : goal.loop-i-preserved
loop-i-preserved c =
    let l = c.loop-i in
    let a = c.args in
    let whole : length a.held ≡ 30 = thirty (goal.at.loop-i-preserved c).Start in
    let long : length (take a.count a.held) ≡ a.count = length-take-le a.count a.held (omega arith) in
    ap (λ (x : List Polled). set x l.i c.unanswered.result) l.invariant
    ∙ one_more a.minute a.held l.i c.unanswered.result whole (omega arith) (c.unanswered.ensures ∙ ap (reply_for a.minute) (get_or-take a.count a.held l.i free_row (omega arith)))

pub returns : goal.returns
returns c =
    let l = c.loop-i in
    let a = c.args in
    let whole : length a.held ≡ 30 = thirty (goal.at.returns c).Start in
    let long : length (take a.count a.held) ≡ a.count = length-take-le a.count a.held (omega arith) in
    let place : l.i ≡ a.count = omega arith in
    l.invariant ∙ ap (λ (k : ℕ). map (reply_for a.minute) (take k a.held) ++ replicate (30 - k) no_reply) place
