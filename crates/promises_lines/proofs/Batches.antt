-- Any batching: what a history told, and where it ended, are what its samples tell and leave, and nothing there knows of calls. A history from any state tells what
-- one from what the state means tells.
use mathlib.Core.Path.{◌≡◌, refl, sym, subst, ◌∙◌}
use mathlib.Core.Bool.{false}
use mathlib.Core.List.{List}
use Prim.Native.Nat.{ℕ}
use Rattle.lines.specs.declared.SoFar.{SoFar}
use Rattle.lines.specs.declared.LinesTold.{LinesTold}
use Rattle.lines.specs.Timing.{Timing, bad_timing}
use Rattle.lines.specs.SoFar.{meant}
use Rattle.lines.specs.Calls.{lines_answer, HearsLines}
use Rattle.promises_lines.specs.History.{Said, History, begun, called}
use Rattle.promises_lines.specs.Batches.{Batches}
use Rattle.promises_lines.proofs.Legal.{Legal, view, is-legal}
use Rattle.promises_lines.proofs.Ends.{good, meant-legal, meant_itself, heard-by}
use Rattle.promises_lines.proofs.States.{alike, every-state}
use Rattle.promises_lines.proofs.Streams.{history}

same-so : (t : Timing) (from : SoFar) → bad_timing t ≡ false → {samples : List ℕ} {told other : List Said} {end last : SoFar} → Legal from
    → History t from samples told end → History t from samples other last → (told ≡ other) × (end ≡ last)
same-so t from e l h k =
    let a = history t e (good t e) l h in
    let b = history t e (good t e) l k in
    (a.all ∙ sym b.all, a.last ∙ sym b.last)

-- a state means what its meaning means, so a call hears both alike
by-meaning : (t : Timing) (s : SoFar) (xs : List ℕ) (a : LinesTold) → bad_timing t ≡ false → HearsLines s t.least t.most t.gap xs a
    → HearsLines (meant s) t.least t.most t.gap xs a
by-meaning t s xs a e c =
    alike s (meant s) t.least t.most t.gap xs a e (sym (meant_itself (meant s) (is-legal (meant-legal s)))) c
    (heard-by (meant s) t.least t.most t.gap xs (lines_answer (meant s) t xs) e (record { answers = refl }))

from-meaning : (t : Timing) (from : SoFar) → bad_timing t ≡ false → {samples : List ℕ} {told : List Said} {end : SoFar} → History t from samples told end
    → History t (meant from) samples told (meant end)
from-meaning t from e begun = begun
from-meaning t from e (called {samples = xs} {told = ts} {s = s} batch a h c) =
    let left = every-state.left s t.least t.most t.gap batch a e c in
    subst (History t (meant from) _ _) (sym (meant_itself a.so_far left)) (called batch a (from-meaning t from e h) (by-meaning t s batch a e c))

pub batches : Batches
batches =
    record {
      same = λ t from e l samples told other end last h k. same-so t from e (view from l) h k;
      from_any = λ t from e samples told other end last h k.
          same-so t (meant from) e (meant-legal from) (from-meaning t from e h) (from-meaning t from e k);
    }
