-- All that samples tell, and the state after them, as two folds that know of no batches. A call tells and leaves what its samples do, so a history does.
use mathlib.Core.Path.{◌≡◌, refl, sym, ap, ap₂, ◌∙◌}
use mathlib.Core.Bool.{false}
use mathlib.Core.List.{List, [], ◌∷◌, ◌++◌, map, append_assoc}
use Prim.Native.Nat.{ℕ, ◌+◌}
use native.Mathlib.Omega.{arith}
use lib.ListN.{length, take}
use lib.Seq.{take_all, take-append-add}
use borrow.Author.Tests.{ne_eqb}
use Rattle.frame.specs.Pick.{pick}
use Rattle.lines.specs.declared.SoFar.{SoFar}
use Rattle.lines.specs.declared.LinesTold.{LinesTold}
use Rattle.lines.specs.Sample.{Sample, idle, sample_of}
use Rattle.lines.specs.Timing.{Timing, bad_timing}
use Rattle.lines.specs.SoFar.{rest_state}
use Rattle.lines.specs.Step.{after, closes}
use Rattle.lines.specs.Hearing.{MessageTold, Hearing, hearing, told_of, number_told, count_told, bytes_told, hear}
use Rattle.lines.specs.Calls.{answered, HearsLines}
use Rattle.promises_lines.specs.History.{Said, bits_of, tellings, History, begun, called}
use Rattle.promises_lines.proofs.Legal.{Legal, rest, Closing, message, report, is-legal}
use Rattle.promises_lines.proofs.Quiet.{Quiet}
use Rattle.promises_lines.proofs.Ends.{Good, Still, Shut, Ends, still_open, closed_at, split, meant_itself, heard-by}

abbrev pub said_of : MessageTold → Said
said_of told = record { number = number_told told; bits = bits_of (count_told told) (bytes_told told) }

abbrev pub next : Timing → SoFar → Sample → SoFar
next t s k = pick (closes t (after t s k)) rest_state (after t s k)

abbrev pub telling : Timing → SoFar → Sample → List Said
telling t s k = pick (closes t (after t s k)) (said_of (told_of (after t s k)) ∷ []) []

unfoldable pub tells : Timing → SoFar → List Sample → List Said
tells t s [] = []
tells t s (k ∷ ks) = telling t s k ++ tells t (next t s k) ks

unfoldable pub ends : Timing → SoFar → List Sample → SoFar
ends t s [] = s
ends t s (k ∷ ks) = ends t (next t s k) ks

pub tells-append : (t : Timing) (s : SoFar) (ks js : List Sample) → tells t s (ks ++ js) ≡ tells t s ks ++ tells t (ends t s ks) js
unfolding tells ends
tells-append t s [] js = refl
tells-append t s (k ∷ ks) js =
    ap (λ (x : List Said). telling t s k ++ x) (tells-append t (next t s k) ks js)
    ∙ sym (append_assoc (telling t s k) (tells t (next t s k) ks) (tells t (ends t (next t s k) ks) js))

ends-append : (t : Timing) (s : SoFar) (ks js : List Sample) → ends t s (ks ++ js) ≡ ends t (ends t s ks) js
unfolding ends
ends-append t s [] js = refl
ends-append t s (k ∷ ks) js = ends-append t (next t s k) ks js

pub quiet-tells : (t : Timing) (s n : SoFar) (ks : List Sample) → Quiet t s ks n → tells t s ks ≡ []
unfolding tells
quiet-tells t s n [] q = refl
quiet-tells t s n (k ∷ ks) q = rw q.0 (quiet-tells t (after t s k) n ks q.1)

pub quiet-ends : (t : Timing) (s n : SoFar) (ks : List Sample) → Quiet t s ks n → ends t s ks ≡ n
unfolding ends
quiet-ends t s n [] q = q
quiet-ends t s n (k ∷ ks) q = rw q.0 (quiet-ends t (after t s k) n ks q.1)

-- Quiet samples first.
pub quiet-first : (t : Timing) (s n : SoFar) (ks js : List Sample) → Quiet t s ks n → tells t s (ks ++ js) ≡ tells t n js
quiet-first t s n ks js q = tells-append t s ks js ∙ ap₂ (λ (x : List Said) (m : SoFar). x ++ tells t m js) (quiet-tells t s n ks q) (quiet-ends t s n ks q)

-- What closes is told once.
pub told-once : {n : SoFar} → Closing n → (taken : ℕ) → tellings (answered (hearing (told_of n) rest_state taken)) ≡ said_of (told_of n) ∷ []
told-once (message bits run count p c) taken = rw (ne_eqb count 0 (omega arith))
told-once (report number run p q) taken = simp (ne_eqb number 0 (omega arith))

pub map-append : (xs ys : List ℕ) → map sample_of (xs ++ ys) ≡ map sample_of xs ++ map sample_of ys
map-append [] ys = refl
map-append (x ∷ xs) ys = ap (λ (ks : List Sample). sample_of x ∷ ks) (map-append xs ys)

-- The samples that a call took, what it told and what it left.
pub record Took (t : Timing) (s : SoFar) (xs : List ℕ) (a : LinesTold) : Type 0 where
  pub told : tells t s (map sample_of (take a.taken xs)) ≡ tellings a
  pub left : ends t s (map sample_of (take a.taken xs)) ≡ a.so_far
  pub ok : Legal a.so_far

took-still : (t : Timing) (s : SoFar) (xs : List ℕ) (h : Hearing) → Still t s xs h → Took t s xs (answered h)
took-still t s xs h r =
    rw r.is
    (record {
      told = rw (take_all (length xs) xs (omega arith)) (quiet-tells t s r.left (map sample_of xs) r.quiet);
      left = rw (take_all (length xs) xs (omega arith)) (quiet-ends t s r.left (map sample_of xs) r.quiet);
      ok = r.ok;
    })

took-shut : (t : Timing) (s : SoFar) (xs : List ℕ) (h : Hearing) → Shut t s xs h → Took t s xs (answered h)
unfolding tells ends
took-shut t s xs h r =
    let b : List ℕ = r.before in
    let n : SoFar = after t r.at idle in
    let taken : take (length b + 1) xs ≡ b ++ 0 ∷ [] = ap (take (length b + 1)) r.whole ∙ take-append-add b (0 ∷ r.more) 1 in
    let kinds : map sample_of (take (length b + 1) xs) ≡ map sample_of b ++ idle ∷ [] = ap (map sample_of) taken ∙ map-append b (0 ∷ []) in
    rw r.is
    (record {
      told = ap (tells t s) kinds ∙ quiet-first t s r.at (map sample_of b) (idle ∷ []) r.quiet ∙ rw r.closed (sym (told-once r.closing (length b + 1)));
      left = ap (ends t s) kinds ∙ ends-append t s (map sample_of b) (idle ∷ []) ∙ ap (λ (m : SoFar). ends t m (idle ∷ [])) (quiet-ends t s r.at (map sample_of b) r.quiet) ∙ rw r.closed;
      ok = rest;
    })

pub took : (t : Timing) → bad_timing t ≡ false → Good t → (s : SoFar) → Legal s → (xs : List ℕ) (a : LinesTold) → HearsLines s t.least t.most t.gap xs a → Took t s xs a
took t e g s l xs a c = rw (heard-by s t.least t.most t.gap xs a e c, meant_itself s (is-legal l)) (go (split t g s l xs))
  where
    go : Ends t s xs (hear t s xs) → Took t s xs (answered (hear t s xs))
    go (still_open r) = took-still t s xs (hear t s xs) r
    go (closed_at r) = took-shut t s xs (hear t s xs) r

-- A history.
pub record Told-so (t : Timing) (from : SoFar) (xs : List ℕ) (told : List Said) (end : SoFar) : Type 0 where
  pub all : told ≡ tells t from (map sample_of xs)
  pub last : end ≡ ends t from (map sample_of xs)
  pub ok : Legal end

pub history : (t : Timing) → bad_timing t ≡ false → Good t → {from end : SoFar} {xs : List ℕ} {told : List Said} → Legal from → History t from xs told end → Told-so t from xs told end
unfolding tells ends
history t e g l begun = record { all = refl; last = refl; ok = l }
history t e g {from} l (called {samples = xs} {told = ts} {s = s} batch a h c) =
    let r = history t e g l h in
    let w = took t e g s r.ok batch a c in
    let ks : List Sample = map sample_of xs in
    let js : List Sample = map sample_of (take a.taken batch) in
    record {
      all = ap₂ (λ (x y : List Said). x ++ y) r.all (sym w.told ∙ ap (λ (m : SoFar). tells t m js) r.last)
          ∙ sym (tells-append t from ks js) ∙ ap (tells t from) (sym (map-append xs (take a.taken batch)));
      last = sym w.left ∙ ap (λ (m : SoFar). ends t m js) r.last ∙ sym (ends-append t from ks js) ∙ ap (ends t from) (sym (map-append xs (take a.taken batch)));
      ok = w.ok;
    }
