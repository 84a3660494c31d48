-- Samples that go on, from one state of the lines to another: none of them settles the try. They close nothing, the lines are at rest after them where all were idle, and
-- a byte above 3 is remembered. What one call does is to go on, or to go on up to one sample that settles.
use mathlib.Core.Path.{◌≡◌, refl, sym, ap, ap₂, subst, ◌∙◌}
use mathlib.Core.Bool.{Bool, true, false, ◌&&◌, ◌||◌, and-true, and_assoc, or-false, or_assoc}
use mathlib.Core.List.{List, [], ◌∷◌, ◌++◌, map}
use Prim.Native.Nat.{ℕ, zero, suc, ◌+◌, ◌≤◌}
use native.Mathlib.Omega.{arith}
use native.Mathlib.Nat.{add-zero}
use lib.ListN.{length, take}
use Rattle.frame.specs.Pick.{pick}
use Rattle.lines.specs.declared.SoFar.{SoFar}
use Rattle.lines.specs.Sample.{Sample, sample_of}
use Rattle.lines.specs.SoFar.{is_rest}
use Rattle.polling.specs.declared.Pace.{Pace}
use Rattle.polling.specs.declared.Polling.{Polling}
use Rattle.polling.specs.Pace.{timing_of, bad_pace}
use Rattle.polling.specs.Meant.{listens}
use Rattle.polling.specs.Listening.{Listened, still_going, settled_by, later, listen}
use Rattle.promises_lines.specs.Runs.{is_idle, is_foreign}
use Rattle.promises_lines.proofs.Legal.{Legal}
use Rattle.promises_lines.proofs.Quiet.{Quiet}
use Rattle.promises_lines.proofs.Numbers.{marked, remembers}
use Rattle.promises_polling.specs.History.{any}
use Rattle.promises_polling.proofs.Path.{Way, stop, draw_one, hear_on, ending, told_at}
use Rattle.promises_polling.proofs.Heard.{next, stays-legal, not-closed, listen-one}
use Rattle.promises_polling.proofs.Rest.{rest-step}

abbrev pub Going : Pace → SoFar → ℕ → List ℕ → SoFar → Type 0
Going p s q [] n = s ≡ n
Going p s q (x ∷ xs) n = (ending p (next p s x) (q + 1) ≡ false) × Going p (next p s x) (q + 1) xs n

pub going-append : (p : Pace) (s m n : SoFar) (q : ℕ) (xs ys : List ℕ) → Going p s q xs m → Going p m (q + length xs) ys n → Going p s q (xs ++ ys) n
going-append p s m n q [] ys e h = subst (λ (k : ℕ). Going p s k ys n) (add-zero q) (subst (λ (z : SoFar). Going p z (q + 0) ys n) (sym e) h)
going-append p s m n q (x ∷ xs) ys g h =
    let sum : q + length (x ∷ xs) ≡ q + 1 + length xs = omega arith in
    (g.0, going-append p (next p s x) m n (q + 1) xs ys g.1 (subst (λ (k : ℕ). Going p m k ys n) sum h))

-- A part of them.
pub going-part : (p : Pace) (s n : SoFar) (q : ℕ) (xs : List ℕ) → Going p s q xs n → (k : ℕ) → (m : SoFar) × Going p s q (take k xs) m
going-part p s n q xs g zero = (s, refl)
going-part p s n q [] g (suc k) = (s, refl)
going-part p s n q (x ∷ xs) g (suc k) = let r = going-part p (next p s x) n (q + 1) xs g.1 k in (r.0, (g.0, r.1))

pub going-quiet : (p : Pace) (s n : SoFar) (q : ℕ) (xs : List ℕ) → Going p s q xs n → Quiet (timing_of p) s (map sample_of xs) n
going-quiet p s n q [] g = g
going-quiet p s n q (x ∷ xs) g = (not-closed p (next p s x) (q + 1) g.0, going-quiet p (next p s x) n (q + 1) xs g.1)

-- All idle, and a byte above 3, over kinds of samples.
unfoldable pub all_idle_in : List Sample → Bool
all_idle_in [] = true
all_idle_in (k ∷ ks) = is_idle k && all_idle_in ks

unfoldable pub foreign_among : List Sample → Bool
foreign_among [] = false
foreign_among (k ∷ ks) = is_foreign k || foreign_among ks

pub going-keeps : (p : Pace) → bad_pace p ≡ false → (s n : SoFar) (q : ℕ) → Legal s → (xs : List ℕ) → Going p s q xs n
    → Legal n × (is_rest n ≡ (is_rest s && all_idle_in (map sample_of xs))) × (marked n ≡ (marked s || foreign_among (map sample_of xs)))
unfolding all_idle_in foreign_among
going-keeps p fine s n q l [] g =
    (subst Legal g l, ap is_rest (sym g) ∙ sym (and-true (is_rest s)), ap marked (sym g) ∙ sym (or-false (marked s)))
going-keeps p fine s n q l (x ∷ xs) g =
    let k : Sample = sample_of x in
    let legal : Legal (next p s x) = stays-legal p fine l k (not-closed p (next p s x) (q + 1) g.0) in
    let r = going-keeps p fine (next p s x) n (q + 1) legal xs g.1 in (
      r.0,
      r.1 ∙ ap (λ (b : Bool). b && all_idle_in (map sample_of xs)) (rest-step (timing_of p) l k) ∙ and_assoc (is_rest s) (is_idle k) (all_idle_in (map sample_of xs)),
      r.2 ∙ ap (λ (b : Bool). b || foreign_among (map sample_of xs)) (remembers (timing_of p) l k) ∙ or_assoc (marked s) (is_foreign k) (foreign_among (map sample_of xs)),
    )

-- A state that goes on is not yet settled.
pub going-last : (p : Pace) (s n : SoFar) (q : ℕ) (xs : List ℕ) → Going p s q xs n → 1 ≤ length xs → ending p n (q + length xs) ≡ false
going-last p s n q [] g h = absurd (omega arith)
going-last p s n q (x ∷ []) g h = subst (λ (z : SoFar). ending p z (q + 1) ≡ false) g.1 g.0
going-last p s n q (x ∷ y ∷ ys) g h =
    let sum : q + 1 + length (y ∷ ys) ≡ q + length (x ∷ y ∷ ys) = omega arith in
    subst (λ (k : ℕ). ending p n k ≡ false) sum (going-last p (next p s x) n (q + 1) (y ∷ ys) g.1 (omega arith))

-- A way that settles nothing goes on.
pub record Onward (p : Pace) (u : Polling) (xs : List ℕ) (e : Polling) : Type 0 where
  pub left : SoFar
  pub goes : Going p u.lines u.passed xs left
  pub end : e ≡ listens u left (u.passed + length xs)

itself : (u : Polling) → u.listening ≡ 1 → u ≡ listens u u.lines (u.passed + 0)
itself u z = λ i. record { round = u.round; lines = u.lines; passed = sym (add-zero u.passed) i; at = u.at; tried = u.tried; listening = z i }

pub onward : (p : Pace) {u e : Polling} {ds xs : List ℕ} → Way p any u ds xs [] e → u.listening ≡ 1 → Onward p u xs e
onward p {u} stop z = record { left = u.lines; goes = refl; end = itself u z }
onward p {u} (draw_one o y l h) z = absurd (omega (arith, y, z))
onward p {u} (hear_on {xs = xs} x o y l f h) z =
    let r = onward p h refl in
    let sum : u.passed + 1 + length xs ≡ u.passed + length (x ∷ xs) = omega arith in
    record { left = r.left; goes = (f, r.goes); end = r.end ∙ ap (listens u r.left) sum }

-- What one call does.
pub data Outcome (p : Pace) (s : SoFar) (q : ℕ) (ys : List ℕ) (l : Listened) : Type 0 where
  open_yet : (n : SoFar) → Going p s q ys n → l ≡ still_going n (length ys) → Outcome p s q ys l
  ended_at : (before : List ℕ) (x : ℕ) (more : List ℕ) (n : SoFar) → ys ≡ before ++ x ∷ more → Going p s q before n
      → ending p (next p n x) (q + length before + 1) ≡ true → l ≡ settled_by (told_at p (next p n x) (q + length before + 1)) (length before + 1) → Outcome p s q ys l

module _ (p : Pace) (s : SoFar) (q x : ℕ) (ys : List ℕ) (f : ending p (next p s x) (q + 1) ≡ false) where
  one_more : (l : Listened) → Outcome p (next p s x) (q + 1) ys l → Outcome p s q (x ∷ ys) (later 1 l)
  one_more l (open_yet n g e) = let sum : 1 + length ys ≡ length (x ∷ ys) = omega arith in open_yet n (f, g) (ap (later 1) e ∙ ap (still_going n) sum)
  one_more l (ended_at before y more n w g d e) =
      let sum : q + 1 + length before + 1 ≡ q + length (x ∷ before) + 1 = omega arith in
      let size : 1 + (length before + 1) ≡ length (x ∷ before) + 1 = omega arith in
      ended_at (x ∷ before) y more n (ap (λ (l : List ℕ). x ∷ l) w) (f, g) (subst (λ (k : ℕ). ending p (next p n y) k ≡ true) sum d)
      (ap (later 1) e ∙ ap₂ (λ (k i : ℕ). settled_by (told_at p (next p n y) k) i) sum size)

pub outcome : (p : Pace) (s : SoFar) (q : ℕ) (ys : List ℕ) → Outcome p s q ys (listen p s q ys)
outcome p s q [] = open_yet s refl (unfold listen in refl)
outcome p s q (x ∷ ys) = go (ending p (next p s x) (q + 1)) refl (outcome p (next p s x) (q + 1) ys)
  where
    go : (b : Bool) → ending p (next p s x) (q + 1) ≡ b → Outcome p (next p s x) (q + 1) ys (listen p (next p s x) (q + 1) ys) → Outcome p s q (x ∷ ys) (listen p s q (x ∷ ys))
    go true f o =
        let sum : q + 1 ≡ q + 0 + 1 = omega arith in
        ended_at [] x ys s refl refl (subst (λ (k : ℕ). ending p (next p s x) k ≡ true) sum f)
        (listen-one p s q x ys (next p s x) refl ∙ ap (λ (b : Bool). pick b (settled_by (told_at p (next p s x) (q + 1)) 1) (later 1 (listen p (next p s x) (q + 1) ys))) f
        ∙ ap (λ (k : ℕ). settled_by (told_at p (next p s x) k) 1) sum)
    go false f o =
        subst (Outcome p s q (x ∷ ys))
        (sym (listen-one p s q x ys (next p s x) refl ∙ ap (λ (b : Bool). pick b (settled_by (told_at p (next p s x) (q + 1)) 1) (later 1 (listen p (next p s x) (q + 1) ys))) f))
        (one_more p s q x ys f (listen p (next p s x) (q + 1) ys) o)
