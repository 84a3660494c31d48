-- Where stores go, and what they leave alone: a rule of the places of some stores, the stores of a record within its slot, and stores moved along.
-- Assumes nothing.
use mathlib.Core.Path.{◌≡◌, refl, sym, ap, ◌∙◌}
use mathlib.Core.Logic.{◌≢◌}
use mathlib.Core.List.{List, [], ◌∷◌, ◌++◌}
use Prim.Native.Nat.{ℕ, zero, suc, ◌+◌, ◌<◌, ◌≤◌}
use native.Mathlib.Nat.{add-zero}
use native.Mathlib.Omega.{arith}
use lib.ListN.{length, get_or, take, drop, set, length-set}
use lib.Seq.{get_or-set_same, get_or-set_other, drop-set-add, take-set-lt}
use Rattle.sheet.specs.Record.{Entry, after_length, length_of, length_bytes}
use Rattle.sheet.specs.Stores.{Store, ◌puts◌, made, ascending, length_stores, stores}

-- A rule that holds of every place of some stores.
abbrev pub Places : (ℕ → Type 0) → List Store → Type 0
Places P [] = Unit {0}
Places P (p ∷ ps) = P p.place × Places P ps

pub places-weaker : (P Q : ℕ → Type 0) → ((n : ℕ) → P n → Q n) → (ps : List Store) → Places P ps → Places Q ps
places-weaker P Q f [] h = tt
places-weaker P Q f (p ∷ ps) h = (f p.place h.0, places-weaker P Q f ps h.1)

pub places-take : (P : ℕ → Type 0) (n : ℕ) (ps : List Store) → Places P ps → Places P (take n ps)
places-take P zero ps h = tt
places-take P (suc n) [] h = tt
places-take P (suc n) (p ∷ ps) h = (h.0, places-take P n ps h.1)

pub places-append : (P : ℕ → Type 0) (ps qs : List Store) → Places P ps → Places P qs → Places P (ps ++ qs)
places-append P [] qs h k = k
places-append P (p ∷ ps) qs h k = (h.0, places-append P ps qs h.1 k)

pub places-at : (P : ℕ → Type 0) (ps : List Store) (k : ℕ) (d : Store) → Places P ps → k < length ps → P (get_or ps k d).place
places-at P [] k d h l = absurd (omega arith)
places-at P (p ∷ ps) zero d h l = h.0
places-at P (p ∷ ps) (suc k) d h l = places-at P ps k d h.1 (omega arith)

-- A byte to which no store goes stays.
pub made-keeps : (i d : ℕ) (s : List ℕ) (ps : List Store) → Places (λ n. n ≢ i) ps → get_or (made s ps) i d ≡ get_or s i d
unfolding made
made-keeps i d s [] h = refl
made-keeps i d s (p ∷ ps) h = made-keeps i d (set s p.place p.byte) ps h.1 ∙ get_or-set_other s p.place i p.byte d (λ e. h.0 (sym e))

-- Places from one on, up to another.
abbrev pub Between : ℕ → ℕ → ℕ → Type 0
Between lo hi n = (lo ≤ n) × (n < hi)

pub ascending-between : (p : ℕ) (bs : List ℕ) → Places (Between p (p + length bs)) (ascending p bs)
unfolding ascending
ascending-between p [] = tt
ascending-between p (b ∷ bs) =
    let wider : (n : ℕ) → Between (p + 1) (p + 1 + length bs) n → Between p (p + suc (length bs)) n = λ n h. (omega arith, omega arith) in
    let rest = places-weaker (Between (p + 1) (p + 1 + length bs)) (Between p (p + suc (length bs))) wider (ascending (p + 1) bs) in
    ((omega arith, omega arith), rest (ascending-between (p + 1) bs))

-- A record's stores lie in its slot.
pub stores-between : (at : ℕ) (e : Entry) → Places (Between at (at + (length_of e + 2))) (stores at e)
unfolding stores
stores-between at e =
    let body = ascending (at + 2) (after_length e) in
    let slot = Between at (at + (length_of e + 2)) in
    let wider : (n : ℕ) → Between (at + 2) (at + 2 + length_of e) n → slot n = λ n h. (omega arith, omega arith) in
    let inside = places-weaker (Between (at + 2) (at + 2 + length_of e)) slot wider body (ascending-between (at + 2) (after_length e)) in
    places-append slot body (length_stores at e) inside ((omega arith, omega arith), ((omega arith, omega arith), tt))

-- Stores moved along by a distance.
abbrev pub moved : ℕ → List Store → List Store
moved at [] = []
moved at (q ∷ qs) = (at + q.place) puts q.byte ∷ moved at qs

pub moved-append : (at : ℕ) (ps qs : List Store) → moved at (ps ++ qs) ≡ moved at ps ++ moved at qs
moved-append at [] qs = refl
moved-append at (p ∷ ps) qs = ap (λ (l : List Store). (at + p.place) puts p.byte ∷ l) (moved-append at ps qs)

pub moved-take : (at n : ℕ) (qs : List Store) → take n (moved at qs) ≡ moved at (take n qs)
moved-take at zero qs = refl
moved-take at (suc n) [] = refl
moved-take at (suc n) (q ∷ qs) = ap (λ (l : List Store). (at + q.place) puts q.byte ∷ l) (moved-take at n qs)

ascending-moved : (at p r : ℕ) (bs : List ℕ) → r ≡ at + p → ascending r bs ≡ moved at (ascending p bs)
unfolding ascending
ascending-moved at p r [] e = refl
ascending-moved at p r (b ∷ bs) e =
    λ i. e i puts b ∷ ascending-moved at (p + 1) (r + 1) bs (omega arith) i

pub stores-moved : (at : ℕ) (e : Entry) → stores at e ≡ moved at (stores 0 e)
unfolding stores
stores-moved at e =
    let high = get_or (length_bytes e) 0 0 in
    let low = get_or (length_bytes e) 1 0 in
    let same : at ≡ at + 0 = sym (add-zero at) in
    let front : ascending (at + 2) (after_length e) ≡ moved at (ascending 2 (after_length e)) = ascending-moved at 2 (at + 2) (after_length e) refl in
    (λ i. front i ++ (at + 1) puts low ∷ same i puts high ∷ []) ∙ sym (moved-append at (ascending 2 (after_length e)) (1 puts low ∷ 0 puts high ∷ []))

-- A part of a sheet after stores that all go into it is the part with those stores made in it.
pub part-made : (size at : ℕ) (s : List ℕ) (qs : List Store) → Places (λ n. n < size) qs
    → take size (drop at (made s (moved at qs))) ≡ made (take size (drop at s)) qs
unfolding made
part-made size at s [] h = refl
part-made size at s (q ∷ qs) h =
    part-made size at (set s (at + q.place) q.byte) qs h.1
    ∙ ap (λ (l : List ℕ). made (take size l) qs) (drop-set-add at s q.place q.byte)
    ∙ ap (λ (l : List ℕ). made l qs) (take-set-lt size (drop at s) q.place q.byte h.0)

-- A rule that holds at each place holds of all.
pub places-all : (P : ℕ → Type 0) (ps : List Store) (d : Store) → ((k : ℕ) → k < length ps → P (get_or ps k d).place) → Places P ps
places-all P [] d h = tt
places-all P (p ∷ ps) d h = (h 0 (omega arith), places-all P ps d (λ k l. h (suc k) (omega arith)))

-- A byte that is stored in a place to which no later store goes stands there.
pub made-stored : (s : List ℕ) (ps : List Store) (k : ℕ) (d : Store) → k < length ps → (get_or ps k d).place < length s
    → ((j : ℕ) → k < j → j < length ps → (get_or ps j d).place ≢ (get_or ps k d).place) → get_or (made s ps) (get_or ps k d).place 0 ≡ (get_or ps k d).byte
unfolding made
made-stored s [] k d h l o = absurd (omega arith)
made-stored s (p ∷ ps) zero d h l o =
    made-keeps p.place 0 (set s p.place p.byte) ps (places-all (λ n. n ≢ p.place) ps d (λ j m. o (suc j) (omega arith) (omega arith)))
    ∙ get_or-set_same s p.place p.byte 0 l
made-stored s (p ∷ ps) (suc k) d h l o =
    made-stored (set s p.place p.byte) ps k d (omega arith) (rw length-set l) (λ j m n. o (suc j) (omega arith) (omega arith))
