-- A plan's runs are areas put end to end: cut from the site run by run, and measured back.
use mathlib.Core.Path.{◌≡◌, refl, sym, ap, ◌∙◌}
use mathlib.Core.Bool.{true, ◌&&◌}
use mathlib.Core.List.{List, [], ◌∷◌, ◌++◌, map}
use Prim.Native.Nat.{ℕ, zero, suc, ◌<◌, ◌≤◌}
use native.Mathlib.Omega.{arith}
use borrow.Author.Tests.{eqb-true, leb-true, le-leb}
use lib.Dec.{leb}
use lib.ListN.{length, get_or, take, drop, length-append, take-append-drop}
use lib.Seq.{take-append_seam, drop-append_seam, length-take-le}
use Rattle.frame.proofs.Both.{both}
use Rattle.areas.specs.Site.{feet, tenths, total, is_area}
use Rattle.areas.specs.Check.{keeps}
use Rattle.areas.proofs.Joining.{area-by}
use Rattle.promises_areas.specs.Plans.{Allowed, end_to_end}

-- An area is one that is allowed.
pub area-allowed : (a : List ℕ) → is_area a ≡ true → Allowed a
unfolding is_area
area-allowed a h =
    let three = both (leb 1 (length a) && leb (length a) 30 && leb (total feet a) 10000) (leb (total tenths a) 500) h in
    let two = both (leb 1 (length a) && leb (length a) 30) (leb (total feet a) 10000) three.0 in
    let one = both (leb 1 (length a)) (leb (length a) 30) two.0 in
    record {
      not_empty = leb-true 1 (length a) one.0;
      at_most_30 = leb-true (length a) 30 one.1;
      feet_within = leb-true (total feet a) 10000 two.1;
      ohms_within = leb-true (total tenths a) 500 three.1;
    }

pub allowed-area : (a : List ℕ) → Allowed a → is_area a ≡ true
allowed-area a h =
    area-by a true true true true (le-leb 1 (length a) h.not_empty) (le-leb (length a) 30 h.at_most_30)
    (le-leb (total feet a) 10000 h.feet_within) (le-leb (total tenths a) 500 h.ohms_within)

-- What it says that the runs of a plan are kept: of the first, and of those behind it.
pub record First (site : List ℕ) (n : ℕ) (plan : List ℕ) : Type 0 where
  pub there : n ≤ length site
  pub area : is_area (take n site) ≡ true
  pub behind : keeps (drop n site) plan ≡ true

pub first-kept : (site : List ℕ) (n : ℕ) (plan : List ℕ) → keeps site (n ∷ plan) ≡ true → First site n plan
unfolding keeps
first-kept site n plan h =
    let two = both (leb n (length site) && is_area (take n site)) (keeps (drop n site) plan) h in
    let one = both (leb n (length site)) (is_area (take n site)) two.0 in
    record { there = leb-true n (length site) one.0; area = one.1; behind = two.1 }

pub kept-first : (site : List ℕ) (n : ℕ) (plan : List ℕ) → First site n plan → keeps site (n ∷ plan) ≡ true
unfolding keeps
kept-first site n plan f = λ i. (le-leb n (length site) f.there i && f.area i && f.behind i)

pub none_left : (site : List ℕ) → keeps site [] ≡ true → site ≡ []
unfolding keeps
none_left [] h = refl
none_left (t ∷ site) h =
    let z : suc (length site) ≡ 0 = eqb-true (suc (length site)) 0 h in
    absurd (omega arith)

-- The runs cut from a site.
abbrev pub cut : List ℕ → List ℕ → List (List ℕ)
cut site [] = []
cut site (n ∷ plan) = take n site ∷ cut (drop n site) plan

pub cut-count : (site plan : List ℕ) → length (cut site plan) ≡ length plan
cut-count site [] = refl
cut-count site (n ∷ plan) = ap suc (cut-count (drop n site) plan)

pub cut-sizes : (site plan : List ℕ) → keeps site plan ≡ true → map length (cut site plan) ≡ plan
cut-sizes site [] h = refl
cut-sizes site (n ∷ plan) h =
    let f = first-kept site n plan h in
    λ i. length-take-le n site f.there i ∷ cut-sizes (drop n site) plan f.behind i

pub cut-covers : (site plan : List ℕ) → keeps site plan ≡ true → end_to_end (cut site plan) ≡ site
cut-covers site [] h = sym (none_left site h)
cut-covers site (n ∷ plan) h =
    ap (λ (l : List ℕ). take n site ++ l) (cut-covers (drop n site) plan (first-kept site n plan h).behind) ∙ take-append-drop n site

pub cut-each : (site plan : List ℕ) → keeps site plan ≡ true → (k : ℕ) → k < length (cut site plan) → Allowed (get_or (cut site plan) k [])
cut-each site [] h k l = absurd (omega arith)
cut-each site (n ∷ plan) h zero l = area-allowed (take n site) (first-kept site n plan h).area
cut-each site (n ∷ plan) h (suc k) l = cut-each (drop n site) plan (first-kept site n plan h).behind k (omega arith)

-- Areas put end to end are kept by their sizes.
pub areas-kept : (areas : List (List ℕ)) → ((k : ℕ) → k < length areas → Allowed (get_or areas k [])) → keeps (end_to_end areas) (map length areas) ≡ true
unfolding keeps
areas-kept [] h = refl
areas-kept (a ∷ areas) h =
    let r = end_to_end areas in
    let join = length-append a r in
    kept-first (a ++ r) (length a) (map length areas)
    (record {
      there = omega arith;
      area = ap is_area (take-append_seam a r) ∙ allowed-area a (h 0 (omega arith));
      behind = ap (λ (l : List ℕ). keeps l (map length areas)) (drop-append_seam a r) ∙ areas-kept areas (λ k l. h (suc k) (omega arith));
    })

pub map-count : (areas : List (List ℕ)) → length (map length areas) ≡ length areas
map-count [] = refl
map-count (a ∷ areas) = ap suc (map-count areas)
