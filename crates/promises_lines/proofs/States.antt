-- Begun again, and every state: a close leaves the lines at rest, and quiet samples leave a legal state.
use mathlib.Core.Path.{◌≡◌, refl, sym, ap, ◌∙◌}
use mathlib.Core.Bool.{true, false}
use mathlib.Core.List.{List, []}
use Prim.Native.Nat.{ℕ}
use native.Mathlib.Omega.{arith}
use Rattle.lines.specs.declared.SoFar.{SoFar}
use Rattle.lines.specs.declared.LinesTold.{LinesTold}
use Rattle.lines.specs.Timing.{Timing, timing, bad_timing}
use Rattle.lines.specs.SoFar.{rest_state, spoilt_by, legal, meant}
use Rattle.lines.specs.Hearing.{Hearing, hear}
use Rattle.lines.specs.Calls.{answered, lines_answer, HearsLines}
use Rattle.promises_lines.specs.History.{tellings}
use Rattle.promises_lines.specs.States.{BegunAgain, EveryState}
use Rattle.promises_lines.proofs.Legal.{rest, spoilt, is-legal}
use Rattle.promises_lines.proofs.Ends.{Ends, still_open, closed_at, good, split, meant-legal, meant_itself, heard-by}
use Rattle.promises_lines.proofs.Takes.{told-nothing}
use Rattle.promises_lines.proofs.Reached.{reached-from}

module _ (t : Timing) (s : SoFar) (xs : List ℕ) (h : Hearing) (a : LinesTold) (is : a ≡ answered h) where
  at-rest-again : Ends t s xs h → (tellings a ≡ [] → ⊥) → a.so_far ≡ rest_state
  at-rest-again (still_open r) e = absurd (e (told-nothing t s xs h a is r))
  at-rest-again (closed_at r) e = ap (λ (x : LinesTold). x.so_far) (is ∙ ap answered r.is)

  left-legal : Ends t s xs h → legal a.so_far ≡ true
  left-legal (still_open r) = ap (λ (x : LinesTold). legal x.so_far) (is ∙ ap answered r.is) ∙ is-legal r.ok
  left-legal (closed_at r) = ap (λ (x : LinesTold). legal x.so_far) (is ∙ ap answered r.is) ∙ is-legal rest

pub begun-again : BegunAgain
begun-again =
    record {
      at_rest = λ s least most gap xs a e c told.
          let t = timing least most gap in
          at-rest-again t (meant s) xs (hear t (meant s) xs) a (heard-by s least most gap xs a e c) (split t (good t e) (meant s) (meant-legal s) xs) told;
    }

-- What two states mean being the same, they are heard alike.
pub alike : (s u : SoFar) (least most gap : ℕ) (xs : List ℕ) (a : LinesTold) → bad_timing (timing least most gap) ≡ false → meant s ≡ meant u
    → HearsLines s least most gap xs a → lines_answer u (timing least most gap) xs ≡ answered (hear (timing least most gap) (meant u) xs) → HearsLines u least most gap xs a
alike s u least most gap xs a e same c is =
    record { answers = heard-by s least most gap xs a e c ∙ ap (λ (n : SoFar). answered (hear (timing least most gap) n xs)) same ∙ sym is }

strange-meant : (s : SoFar) → legal s ≡ false → meant s ≡ meant (spoilt_by 21 0)
unfolding meant
strange-meant s e = rw e (sym (meant_itself (spoilt_by 21 0) (is-legal (spoilt 21 0 (omega arith) (omega arith) (omega arith)))))

pub every-state : EveryState
every-state =
    record {
      beginning = is-legal rest;
      left = λ s least most gap xs a e c.
          let t = timing least most gap in
          left-legal t (meant s) xs (hear t (meant s) xs) a (heard-by s least most gap xs a e c) (split t (good t e) (meant s) (meant-legal s) xs);
      strange = λ s least most gap xs a e l c.
          let u : SoFar = spoilt_by 21 0 in
          alike s u least most gap xs a e (strange-meant s l) c
          (heard-by u least most gap xs (lines_answer u (timing least most gap) xs) e (record { answers = refl }));
      reached = reached-from;
    }
