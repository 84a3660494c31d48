-- Stores made at once, where no two go to one place: the sheet is the one after making them one by one, since each byte is that of the one store that
-- goes there, or what it was. So steps come to stores in order. Assumes nothing.
use mathlib.Core.Path.{◌≡◌, refl, sym, ap, subst, ◌∙◌}
use mathlib.Core.Logic.{◌≢◌, ◌⊎◌, inl, inr}
use mathlib.Core.Bool.{Bool, true, false}
use mathlib.Core.List.{List, [], ◌∷◌, ◌++◌}
use Prim.Native.Nat.{ℕ, zero, suc, ◌<◌}
use native.Mathlib.Omega.{arith}
use borrow.Author.Tests.{eqb-true, eqb-false}
use lib.Dec.{eqb}
use lib.ListN.{length, get_or, take, drop, length-append, take-append-drop}
use lib.Seq.{ext_get_or, take-append-add}
use Rattle.sheet.specs.Stores.{Store, ◌puts◌, made}
use Rattle.sheet.proofs.Storing.{made-append, made-length}
use Rattle.sheet.proofs.StorePlaces.{Places, places-at, places-all, made-keeps, made-stored}
use Rattle.promises_card.specs.Sheet.OneSave.{nth}
use Rattle.promises_card.specs.Sheet.InSteps.{AtOnce, Stepped, none_made, step_made, stores_in}

-- A byte is the place of some store, or of none.
abbrev Goes : List Store → ℕ → Type 0
Goes ps i = (k : ℕ) × (k < length ps) × ((nth ps k).place ≡ i)

abbrev None : List Store → ℕ → Type 0
None ps i = (k : ℕ) → k < length ps → (nth ps k).place ≢ i

which : (ps : List Store) (i : ℕ) → Goes ps i ⊎ None ps i
which [] i = inr (λ k h. absurd (omega arith))
which (p ∷ ps) i = go (eqb p.place i) refl (which ps i)
  where
    none : p.place ≢ i → None ps i → None (p ∷ ps) i
    none here later zero h = here
    none here later (suc k) h = later k (omega arith)

    go : (b : Bool) → eqb p.place i ≡ b → Goes ps i ⊎ None ps i → Goes (p ∷ ps) i ⊎ None (p ∷ ps) i
    go true q r = inl (0, omega arith, eqb-true p.place i q)
    go false q (inl r) = inl (suc r.0, omega (arith, r.1), r.2)
    go false q (inr r) = inr (none (eqb-false p.place i q) r)

-- No two stores go to one place.
abbrev pub Apart : List Store → Type 0
Apart [] = Unit {0}
Apart (p ∷ ps) = Places (λ n. n ≢ p.place) ps × Apart ps

pub apart-all : (ps : List Store) → ((j k : ℕ) → j < k → k < length ps → (nth ps j).place ≢ (nth ps k).place) → Apart ps
apart-all [] h = tt
apart-all (p ∷ ps) h = (
  places-all (λ n. n ≢ p.place) ps (0 puts 0) (λ k l same. h 0 (suc k) (omega arith) (omega arith) (sym same)),
  apart-all ps (λ j k l m. h (suc j) (suc k) (omega arith) (omega arith)),
)

apart-at : (ps : List Store) → Apart ps → (k j : ℕ) → k < j → j < length ps → (nth ps j).place ≢ (nth ps k).place
apart-at [] a k j h l = absurd (omega arith)
apart-at (p ∷ ps) a k zero h l = absurd (omega arith)
apart-at (p ∷ ps) a zero (suc j) h l = places-at (λ n. n ≢ p.place) ps j (0 puts 0) a.0 (omega arith)
apart-at (p ∷ ps) a (suc k) (suc j) h l = apart-at ps a.1 k j (omega arith) (omega arith)

-- What holds of some stores and others behind them holds of each.
places-split : (P : ℕ → Type 0) (ps qs : List Store) → Places P (ps ++ qs) → Places P ps × Places P qs
places-split P [] qs h = (tt, h)
places-split P (p ∷ ps) qs h =
    let r = places-split P ps qs h.1 in
    ((h.0, r.0), r.1)

apart-split : (ps qs : List Store) → Apart (ps ++ qs) → Apart ps × Apart qs
apart-split [] qs h = (tt, h)
apart-split (p ∷ ps) qs h =
    let r = apart-split ps qs h.1 in
    (((places-split (λ n. n ≢ p.place) ps qs h.0).0, r.0), r.1)

pub apart-take : (n : ℕ) (ps : List Store) → Apart ps → Apart (take n ps)
apart-take n ps a = (apart-split (take n ps) (drop n ps) (subst Apart (sym (take-append-drop n ps)) a)).0

module _ (s : List ℕ) (ps : List Store) (apart : Apart ps) (inside : Places (λ n. n < length s) ps) where
  stored_there : (k : ℕ) → k < length ps → get_or (made s ps) (nth ps k).place 0 ≡ (nth ps k).byte
  stored_there k h =
      made-stored s ps k (0 puts 0) h (places-at (λ n. n < length s) ps k (0 puts 0) inside h) (λ j m l. apart-at ps apart k j m l)

  kept_there : (i : ℕ) → None ps i → get_or (made s ps) i 0 ≡ get_or s i 0
  kept_there i none = made-keeps i 0 s ps (places-all (λ n. n ≢ i) ps (0 puts 0) none)

  pub made-at-once : AtOnce s ps (made s ps)
  made-at-once = record { as_long = made-length s ps; stored = stored_there; kept = kept_there }

  pub at-once-made : (t : List ℕ) → AtOnce s ps t → t ≡ made s ps
  at-once-made t o = ext_get_or 0 t (made s ps) (o.as_long ∙ sym (made-length s ps)) (λ i h. byte i (which ps i))
    where
      byte : (i : ℕ) → Goes ps i ⊎ None ps i → get_or t i 0 ≡ get_or (made s ps) i 0
      byte i (inl r) =
          ap (λ (n : ℕ). get_or t n 0) (sym r.2) ∙ o.stored r.0 r.1 ∙ sym (stored_there r.0 r.1)
          ∙ ap (λ (n : ℕ). get_or (made s ps) n 0) r.2
      byte i (inr none) = o.kept i none ∙ sym (kept_there i none)

-- Steps, one after another.
abbrev Inside : List ℕ → List Store → Type 0
Inside s ps = Places (λ n. n < length s) ps

inside-after : (s : List ℕ) (ps qs : List Store) → Inside s qs → Inside (made s ps) qs
inside-after s ps qs h = subst (λ (m : ℕ). Places (λ n. n < m) qs) (sym (made-length s ps)) h

pub steps-made : {s t : List ℕ} {steps : List (List Store)} → Stepped s steps t → Apart (stores_in steps) → Inside s (stores_in steps)
    → t ≡ made s (stores_in steps)
unfolding made
steps-made none_made a h = refl
steps-made (step_made {s = s} {t = m} {u = u} {ps = ps} {steps = steps} o rest) a h =
    let parts = apart-split ps (stores_in steps) a in
    let ins = places-split (λ n. n < length s) ps (stores_in steps) h in
    let first : m ≡ made s ps = at-once-made s ps parts.0 ins.0 m o in
    let within : Inside m (stores_in steps) = subst (λ (l : List ℕ). Inside l (stores_in steps)) (sym first) (inside-after s ps (stores_in steps) ins.1) in
    steps-made rest parts.1 within ∙ ap (λ (l : List ℕ). made l (stores_in steps)) first ∙ sym (made-append s ps (stores_in steps))

pub steps-can : (steps : List (List Store)) (s : List ℕ) → Apart (stores_in steps) → Inside s (stores_in steps) → (t : List ℕ) × Stepped s steps t
steps-can [] s a h = (s, none_made)
steps-can (ps ∷ steps) s a h =
    let parts = apart-split ps (stores_in steps) a in
    let ins = places-split (λ n. n < length s) ps (stores_in steps) h in
    let rest = steps-can steps (made s ps) parts.1 (inside-after s ps (stores_in steps) ins.1) in
    (rest.0, step_made (made-at-once s ps parts.0 ins.0) rest.1)

-- The first steps have the first stores.
pub steps_first : (j : ℕ) (steps : List (List Store)) → stores_in (take j steps) ≡ take (length (stores_in (take j steps))) (stores_in steps)
steps_first zero steps = refl
steps_first (suc j) [] = refl
steps_first (suc j) (ps ∷ steps) =
    let some = stores_in (take j steps) in
    ap (λ (l : List Store). ps ++ l) (steps_first j steps) ∙ sym (take-append-add ps (stores_in steps) (length some))
    ∙ ap (λ (n : ℕ). take n (ps ++ stores_in steps)) (sym (length-append ps some))
