-- What a call tells, and histories of calls from the beginning: a number or bits are told once, idle tells nothing, and a history goes along with what its
-- parts equal.
use mathlib.Core.Path.{◌≡◌, refl, sym, ap, ap₂, subst, ◌∙◌}
use mathlib.Core.Bool.{false, ◌&&◌}
use mathlib.Core.List.{List, [], ◌∷◌, ◌++◌, map, append-nil}
use Prim.Native.Nat.{ℕ, zero, suc, ◌+◌}
use native.Mathlib.Omega.{arith}
use borrow.Author.Tests.{ne_eqb}
use lib.Dec.{eqb}
use lib.ListN.{length, take, replicate, length-replicate}
use lib.Seq.{take_all}
use Rattle.frame.specs.Pick.{pick}
use Rattle.lines.specs.declared.SoFar.{SoFar}
use Rattle.lines.specs.declared.LinesTold.{LinesTold}
use Rattle.lines.specs.Sample.{Sample, idle, sample_of}
use Rattle.lines.specs.Timing.{Timing, timing, bad_timing}
use Rattle.lines.specs.SoFar.{rest_state}
use Rattle.lines.specs.Hearing.{nothing, hearing, hear}
use Rattle.lines.specs.Calls.{answered, lines_answer, HearsLines}
use Rattle.promises_lines.specs.History.{Said, bits_of, said, tellings, History, called}
use Rattle.promises_lines.proofs.Legal.{rest, is-legal}
use Rattle.promises_lines.proofs.Quiet.{quiet-hear}
use Rattle.promises_lines.proofs.Ends.{good, meant_itself, heard-by}
use Rattle.promises_lines.proofs.Runs.{rest-idle}

-- A call that tells a number or bits tells them once.
pub tells-number : (a : LinesTold) → (a.number ≡ 0 → ⊥) → tellings a ≡ said a ∷ []
tells-number a h = rw (ne_eqb a.number 0 h)

pub tells-bits : (a : LinesTold) → a.number ≡ 0 → (a.count ≡ 0 → ⊥) → tellings a ≡ said a ∷ []
tells-bits a e h =
    ap (λ (m : ℕ). pick (eqb m 0 && eqb a.count 0) [] (said a ∷ [])) e ∙ rw (ne_eqb a.count 0 h)

pub tells-nothing : (a : LinesTold) → a.number ≡ 0 → a.count ≡ 0 → tellings a ≡ []
tells-nothing a e h = ap₂ (λ (m k : ℕ). pick (eqb m 0 && eqb k 0) [] (said a ∷ [])) e h

-- A report has no bits.
pub reported : (a : LinesTold) → a.count ≡ 0 → said a ≡ record { number = a.number; bits = [] }
unfolding bits_of
reported a e = ap (λ (k : ℕ). record { number = a.number; bits = bits_of k a.message }) e

pub one-not-none : {x : Said} {ys : List Said} → ys ≡ x ∷ [] → ys ≡ [] → ⊥
one-not-none p q = let z : ◌≡◌ {A = ℕ} 0 1 = cc in omega arith

-- The one answer that a call from the beginning has.
abbrev pub answer_to : Timing → List ℕ → LinesTold
answer_to t xs = lines_answer rest_state (timing t.least t.most t.gap) xs

pub answers : (t : Timing) (xs : List ℕ) → HearsLines rest_state t.least t.most t.gap xs (answer_to t xs)
answers t xs = record { answers = refl }

-- A history moved along what its parts equal.
pub moved : {t : Timing} {xs ys : List ℕ} {ts us : List Said} {s r : SoFar} → xs ≡ ys → ts ≡ us → s ≡ r → History t rest_state xs ts s → History t rest_state ys us r
moved {t} {xs} {ys} {ts} {us} {s} {r} p q e h =
    subst (λ (z : SoFar). History t rest_state ys us z) e
    (subst (λ (z : List Said). History t rest_state ys z s) q (subst (λ (z : List ℕ). History t rest_state z ts s) p h))

-- Idle.
idle-kinds : (k : ℕ) → map sample_of (replicate k 0) ≡ replicate k idle
idle-kinds zero = refl
idle-kinds (suc k) = ap (λ (ks : List Sample). idle ∷ ks) (idle-kinds k)

idle-heard : (t : Timing) → bad_timing t ≡ false → (k : ℕ) → answer_to t (replicate k 0) ≡ answered (hearing nothing rest_state k)
unfolding hear
idle-heard t fine k =
    heard-by rest_state t.least t.most t.gap (replicate k 0) (answer_to t (replicate k 0)) fine (answers t (replicate k 0))
    ∙ ap (λ (n : SoFar). answered (hear t n (replicate k 0))) (meant_itself rest_state (is-legal rest))
    ∙ ap (λ (xs : List ℕ). answered (hear t rest_state xs)) (sym (append-nil (replicate k 0)))
    ∙ ap answered
    (quiet-hear t rest_state rest_state (replicate k 0) [] (rw (idle-kinds k) (rest-idle t (good t fine) k))
    ∙ (let size : length (replicate {A = ℕ} k 0) + 0 ≡ k = omega (arith, length-replicate {A = ℕ} k 0) in ap (hearing nothing rest_state) size))

-- A history that left the lines at rest, and idle after it.
pub idle-after : (t : Timing) → bad_timing t ≡ false → {xs : List ℕ} {told : List Said} → History t rest_state xs told rest_state → (still : ℕ)
    → History t rest_state (xs ++ replicate still 0) told rest_state
idle-after t fine {xs} {told} h still =
    let e = idle-heard t fine still in
    moved
    (ap (λ (l : List ℕ). xs ++ l)
    (ap (λ (a : LinesTold). take a.taken (replicate still 0)) e ∙ take_all still (replicate still 0) (omega (arith, length-replicate {A = ℕ} still 0))))
    (ap (λ (a : LinesTold). told ++ tellings a) e ∙ append-nil told) (ap (λ (a : LinesTold). a.so_far) e)
    (called (replicate still 0) (answer_to t (replicate still 0)) h (answers t (replicate still 0)))
