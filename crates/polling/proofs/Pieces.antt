-- A piece of the samples, cut where the limit is reached or before it, is listened to as the lines hear it: what closes within it settles the try; else it is
-- settled at its last sample, where that reaches the limit, or goes on behind it. By induction on the piece. Assumes nothing.
use mathlib.Core.Path.{◌≡◌, refl, sym, ap, ap₂, subst, ◌∙◌}
use mathlib.Core.Bool.{Bool, true, false, ◌&&◌}
use mathlib.Core.List.{List, [], ◌∷◌, ◌++◌}
use Prim.Native.Nat.{ℕ, suc, ◌+◌, ◌<◌, ◌≤◌}
use native.Mathlib.Omega.{arith}
use native.Mathlib.Nat.{add_assoc}
use lib.Dec.{eqb, leb}
use lib.ListN.{length}
use borrow.Author.Tests.{leb-false, lt-leb}
use Rattle.frame.specs.Pick.{pick}
use Rattle.lines.specs.declared.SoFar.{SoFar}
use Rattle.lines.specs.Sample.{sample_of}
use Rattle.lines.specs.SoFar.{rest_state, is_rest}
use Rattle.lines.specs.Step.{after, closes}
use Rattle.lines.specs.Hearing.{MessageTold, nothing, message, spoiled, Hearing, hearing, told_of, number_told, count_told, hear}
use Rattle.lines.specs.Hearing as lines
use Rattle.polling.specs.declared.Pace.{Pace}
use Rattle.polling.specs.Pace.{timing_of}
use Rattle.polling.specs.Listening.{Listened, still_going, settled_by, later, given_up, settle, listen}
use Rattle.polling.specs.Inside.Ears.{Ready, limit_of, end_of}
use Rattle.polling.proofs.Paces.{Good}
use Rattle.polling.proofs.Resting.{ready-after, up-after, closes-some}

pub later-later : (i j : ℕ) (l : Listened) → later i (later j l) ≡ later (i + j) l
later-later i j (still_going left taken) = ap (still_going left) (sym (add_assoc i j taken))
later-later i j (settled_by told taken) = ap (settled_by told) (sym (add_assoc i j taken))

later-pick : (i : ℕ) (b : Bool) (x y : Listened) → later i (pick b x y) ≡ pick b (later i x) (later i y)
later-pick i true x y = refl
later-pick i false x y = refl

-- Nothing is told by count and number 0.
abbrev pub untold : MessageTold → Bool
untold told = eqb (count_told told) 0 && eqb (number_told told) 0

module _ (p : Pace) (g : Good p) where
  -- a sample that closes nothing settles at the limit
  rest-limit : (n : SoFar) (passed : ℕ) (more : Listened) (b c : Bool) → is_rest n ≡ b → leb p.wait passed ≡ c
      → pick (b && c) (settled_by nothing 1) (pick (leb p.longest passed) (settled_by (given_up n) 1) more)
      ≡ pick (leb (pick b p.wait p.longest) passed) (settled_by (pick b nothing (given_up n)) 1) more
  rest-limit n passed more true true r w = sym (ap (λ (z : Bool). pick z (settled_by nothing 1) more) w)
  rest-limit n passed more true false r w =
      let short : leb p.longest passed ≡ false = lt-leb p.longest passed (omega (arith, leb-false p.wait passed w, g.wait)) in
      ap (λ (z : Bool). pick z (settled_by (given_up n) 1) more) short ∙ sym (ap (λ (z : Bool). pick z (settled_by nothing 1) more) w)
  rest-limit n passed more false c r w = refl

  at-limit : (n : SoFar) (passed : ℕ) (more : Listened) → closes (timing_of p) n ≡ false
      → settle p n passed more ≡ pick (leb (limit_of p n) passed) (settled_by (end_of n) 1) more
  unfolding settle
  at-limit n passed more e =
      ap (λ (z : Bool). pick z (settled_by (told_of n) 1) (pick (is_rest n && leb p.wait passed) (settled_by nothing 1) (pick (leb p.longest passed) (settled_by (given_up n) 1) more))) e
      ∙ rest-limit n passed more (is_rest n) (leb p.wait passed) refl refl

  at-close : (n : SoFar) (passed : ℕ) (more : Listened) → closes (timing_of p) n ≡ true → settle p n passed more ≡ settled_by (told_of n) 1
  unfolding settle
  at-close n passed more e =
      ap (λ (z : Bool). pick z (settled_by (told_of n) 1) (pick (is_rest n && leb p.wait passed) (settled_by nothing 1) (pick (leb p.longest passed) (settled_by (given_up n) 1) more))) e

  -- no sample makes the limit nearer
  limit-by : (s n : SoFar) (b c : Bool) → is_rest s ≡ b → is_rest n ≡ c → (b ≡ false → c ≡ false) → pick b p.wait p.longest ≤ pick c p.wait p.longest
  limit-by s n true true r m up = omega arith
  limit-by s n true false r m up = g.wait
  limit-by s n false true r m up = let z = up refl in absurd (absurd-bool z)
    where
      absurd-bool : true ≡ false → ⊥
      absurd-bool z = let y : ◌≡◌ {A = ℕ} 0 1 = ap (λ (b : Bool). pick b 0 1) z in omega arith
  limit-by s n false false r m up = omega arith

  limit-grows : (s : SoFar) → Ready s → (x : ℕ) → limit_of p s ≤ limit_of p (after (timing_of p) s (sample_of x))
  limit-grows s r x =
      let n = after (timing_of p) s (sample_of x) in
      limit-by s n (is_rest s) (is_rest n) refl refl (up-after (timing_of p) s r (sample_of x))

  -- What is behind a piece that closed nothing and left the lines so.
  abbrev pub Behind : SoFar → (passed many : ℕ) → List ℕ → Listened
  Behind n passed many zs = pick (leb (limit_of p n) (passed + many)) (settled_by (end_of n) many) (later many (listen p n (passed + many) zs))

  -- How a piece ends.
  pub data Part (s : SoFar) (passed : ℕ) (ys zs : List ℕ) (h : Hearing) : Type 0 where
    shut : untold h.told ≡ false → h.taken ≤ length ys → listen p s passed (ys ++ zs) ≡ settled_by h.told h.taken → Part s passed ys zs h
    onward : h.told ≡ nothing → h.taken ≡ length ys → Ready h.left → listen p s passed (ys ++ zs) ≡ Behind h.left passed (length ys) zs → Part s passed ys zs h

  told-some : (n : SoFar) (b : Bool) → eqb n.fault 0 ≡ b → (eqb n.count 0 && eqb n.fault 0) ≡ false → untold (pick b (message n.count n.bits) (spoiled n.fault)) ≡ false
  told-some n true f e = ap (λ (z : Bool). eqb n.count 0 && z) (sym f) ∙ e
  told-some n false f e = f

  module _ (s : SoFar) (r : Ready s) (passed x : ℕ) (ys zs : List ℕ) where
    abbrev n : SoFar
    n = after (timing_of p) s (sample_of x)

    closed-here : closes (timing_of p) n ≡ true → Part s passed (x ∷ ys) zs (hear (timing_of p) s (x ∷ ys))
    unfolding hear listen
    closed-here e =
        let h : hear (timing_of p) s (x ∷ ys) ≡ hearing (told_of n) rest_state 1 = ap (λ (z : Bool). pick z (hearing (told_of n) rest_state 1) (lines.later 1 (hear (timing_of p) n ys))) e in
        subst (Part s passed (x ∷ ys) zs) (sym h)
        (shut (told-some n (eqb n.fault 0) refl (closes-some (timing_of p) s r g.some_gap (sample_of x) e)) (omega arith)
        (at-close n (passed + 1) (later 1 (listen p n (passed + 1) (ys ++ zs))) e))

    open-here : closes (timing_of p) n ≡ false → (hear (timing_of p) s (x ∷ ys) ≡ lines.later 1 (hear (timing_of p) n ys))
        × (listen p s passed (x ∷ ys ++ zs) ≡ pick (leb (limit_of p n) (passed + 1)) (settled_by (end_of n) 1) (later 1 (listen p n (passed + 1) (ys ++ zs))))
    unfolding hear listen
    open-here e = (
      ap (λ (z : Bool). pick z (hearing (told_of n) rest_state 1) (lines.later 1 (hear (timing_of p) n ys))) e,
      at-limit n (passed + 1) (later 1 (listen p n (passed + 1) (ys ++ zs))) e,
    )

  -- One sample before a piece.
  module _ (s : SoFar) (r : Ready s) (passed x y : ℕ) (ys zs : List ℕ) (e : closes (timing_of p) (after (timing_of p) s (sample_of x)) ≡ false)
      (far : passed + 1 < limit_of p s) where
    abbrev m : SoFar
    m = after (timing_of p) s (sample_of x)

    both-here : (hear (timing_of p) s (x ∷ y ∷ ys) ≡ lines.later 1 (hear (timing_of p) m (y ∷ ys)))
        × (listen p s passed (x ∷ y ∷ ys ++ zs) ≡ later 1 (listen p m (passed + 1) (y ∷ ys ++ zs)))
    both-here =
        let o = open-here s r passed x (y ∷ ys) zs e in
        let not_yet : leb (limit_of p m) (passed + 1) ≡ false = lt-leb (limit_of p m) (passed + 1) (omega (arith, limit-grows s r x)) in
        (o.0, o.1 ∙ ap (λ (z : Bool). pick z (settled_by (end_of m) 1) (later 1 (listen p m (passed + 1) (y ∷ ys ++ zs)))) not_yet)

    before : Part m (passed + 1) (y ∷ ys) zs (hear (timing_of p) m (y ∷ ys)) → Part s passed (x ∷ y ∷ ys) zs (hear (timing_of p) s (x ∷ y ∷ ys))
    before (shut told few is) =
        subst (Part s passed (x ∷ y ∷ ys) zs) (sym both-here.0)
        (shut told (omega (arith, few)) (both-here.1 ∙ ap (later 1) is))
    before (onward told all left is) =
        let k = length (y ∷ ys) in
        let h = hear (timing_of p) m (y ∷ ys) in
        let sum : passed + 1 + k ≡ passed + suc k = omega arith in
        let next : 1 + k ≡ suc k = omega arith in
        subst (Part s passed (x ∷ y ∷ ys) zs) (sym both-here.0)
        (onward told (omega (arith, all)) left
        (both-here.1 ∙ ap (later 1) is
        ∙ later-pick 1 (leb (limit_of p h.left) (passed + 1 + k)) (settled_by (end_of h.left) k) (later k (listen p h.left (passed + 1 + k) zs))
        ∙ ap (pick (leb (limit_of p h.left) (passed + 1 + k)) (settled_by (end_of h.left) (1 + k))) (later-later 1 k (listen p h.left (passed + 1 + k) zs))
        ∙ ap₂ (λ (i j : ℕ). pick (leb (limit_of p h.left) j) (settled_by (end_of h.left) i) (later i (listen p h.left j zs))) next sum))

  last_one : (s : SoFar) → Ready s → (passed x : ℕ) (zs : List ℕ) → closes (timing_of p) (after (timing_of p) s (sample_of x)) ≡ false
      → Part s passed (x ∷ []) zs (hear (timing_of p) s (x ∷ []))
  unfolding hear
  last_one s r passed x zs e =
      let o = open-here s r passed x [] zs e in
      subst (Part s passed (x ∷ []) zs) (sym o.0) (onward refl refl (ready-after (timing_of p) s r g.gap (sample_of x) e) o.1)

  pub part : (s : SoFar) → Ready s → (passed x : ℕ) (ys zs : List ℕ) → ((j : ℕ) → 1 ≤ j → j < suc (length ys) → passed + j < limit_of p s)
      → Part s passed (x ∷ ys) zs (hear (timing_of p) s (x ∷ ys))
  part s r passed x [] zs near = go (closes (timing_of p) (after (timing_of p) s (sample_of x))) refl
    where
      go : (b : Bool) → closes (timing_of p) (after (timing_of p) s (sample_of x)) ≡ b → Part s passed (x ∷ []) zs (hear (timing_of p) s (x ∷ []))
      go true e = closed-here s r passed x [] zs e
      go false e = last_one s r passed x zs e
  part s r passed x (y ∷ ys) zs near = go (λ ready near. part m ready (passed + 1) y ys zs near) (closes (timing_of p) m) refl
    where
      m : SoFar
      m = after (timing_of p) s (sample_of x)

      go : (Ready m → ((j : ℕ) → 1 ≤ j → j < suc (length ys) → passed + 1 + j < limit_of p m) → Part m (passed + 1) (y ∷ ys) zs (hear (timing_of p) m (y ∷ ys)))
          → (b : Bool) → closes (timing_of p) m ≡ b → Part s passed (x ∷ y ∷ ys) zs (hear (timing_of p) s (x ∷ y ∷ ys))
      go rec true e = closed-here s r passed x (y ∷ ys) zs e
      go rec false e =
          before s r passed x y ys zs e (near 1 (omega arith) (omega arith))
          (rec (ready-after (timing_of p) s r g.gap (sample_of x) e) (λ j a b. omega (arith, near (j + 1) (omega arith) (omega arith), limit-grows s r x)))
