-- Samples put into an output that is idle where they go: a pulse put alone is its bit put whole, since the idle after it is there already. Assumes
-- nothing.
use mathlib.Core.Path.{◌≡◌, refl, sym, ap, ap₂, ◌∙◌}
use mathlib.Core.Bool.{Bool, true, false}
use mathlib.Core.List.{List, [], ◌∷◌, ◌++◌}
use Prim.Native.Nat.{ℕ, zero, suc, ◌+◌, ◌-◌, ◌≤◌, ◌<◌, min}
use native.Mathlib.Omega.{arith}
use native.Mathlib.Numerals.{unary_clauses}
use native.Mathlib.Nat.{zero-add}
use borrow.Author.Tests.{leb-true, leb-false}
use lib.Dec.{leb}
use lib.ListN.{length, get_or, take, drop, set, replicate, length-take, length-drop, length-replicate, get_or-replicate, get_or-append}
use lib.Seq.{sets, set-get_or, get_or-set_other, drop_at, length-sets}
use Rattle.std.proofs.lemmas.List.{take_min}
use Rattle.frame.proofs.Fronts.{front}
use Rattle.frame.proofs.Parts.{sets-append}
use Rattle.drawing.specs.Pulses.{low_sample, bit_after}
use Rattle.drawing.specs.Inside.Fills.{Fills}
use Rattle.drawing.proofs.Rest.{one, one-long, two_runs, rest_of, next_bit}

-- an output that is idle from a place up to another
abbrev pub Idle : (out : List ℕ) (at end : ℕ) → Type 0
Idle out at end = (k : ℕ) → at ≤ k → k < end → get_or out k 0 ≡ 0

-- idle put where it is idle
already : (out : List ℕ) (at n : ℕ) → Idle out at (at + n) → sets out at (replicate n 0) ≡ out
already out at zero idle = refl
already out at (suc n) idle =
    ap (λ (l : List ℕ). sets l (suc at) (replicate n 0)) (ap (set out at) (sym (idle at (omega arith) (omega arith))) ∙ set-get_or out at 0)
    ∙ already out (suc at) n (λ k a b. idle k (omega arith) (omega arith))

-- what lies after the bytes that are put
beyond : (vs out : List ℕ) (at k : ℕ) → at + length vs ≤ k → get_or (sets out at vs) k 0 ≡ get_or out k 0
beyond [] out at k h = refl
beyond (v ∷ vs) out at k h = beyond vs (set out at v) (suc at) k (omega arith) ∙ get_or-set_other out at k v 0 (λ e. omega arith)

-- the first of two parts, and what it leaves of the second
pub take-both : (n : ℕ) (xs ys : List ℕ) → take n (xs ++ ys) ≡ take n xs ++ take (n - length xs) ys
take-both zero [] ys = refl
take-both zero (x ∷ xs) ys = let z : 0 - suc (length xs) ≡ 0 = omega arith in rw z
take-both (suc n) [] ys = simp unary_clauses refl
take-both (suc n) (x ∷ xs) ys = simp unary_clauses (ap (λ (l : List ℕ). x ∷ l) (take-both n xs ys))

take-run : (n m x : ℕ) → ◌≡◌ {A = List ℕ} (take n (replicate m x)) (replicate (min n m) x)
take-run zero m x = let z : min 0 m ≡ 0 = omega arith in sym (ap (λ (k : ℕ). replicate k x) z)
take-run (suc n) zero x = let z : min (suc n) 0 ≡ 0 = omega arith in sym (ap (λ (k : ℕ). replicate k x) z)
take-run (suc n) (suc m) x =
    let s : suc (min n m) ≡ min (suc n) (suc m) = omega arith in
    ap (λ (l : List ℕ). x ∷ l) (take-run n m x) ∙ ap (λ (k : ℕ). replicate k x) s

-- where nothing is left to put, the place says nothing
at_place : (out rest : List ℕ) (i n s : ℕ) → sets out (i + min n s) (take (n - s) rest) ≡ sets out (i + s) (take (n - s) rest)
at_place out rest i n s = go (leb s n) refl
  where
    go : (b : Bool) → leb s n ≡ b → sets out (i + min n s) (take (n - s) rest) ≡ sets out (i + s) (take (n - s) rest)
    go true e =
        let h = leb-true s n e in
        let p : min n s ≡ s = omega arith in
        ap (λ (k : ℕ). sets out (i + k) (take (n - s) rest)) p
    go false e =
        let h = leb-false s n e in
        let z : n - s ≡ 0 = omega arith in
        ap (λ (k : ℕ). sets out (i + min n s) (take k rest)) z ∙ sym (ap (λ (k : ℕ). sets out (i + s) (take k rest)) z)

-- two runs that are cut at an end stay before it
before-end : (i n end r t w k : ℕ) → i ≤ end → n ≡ end - i → w ≡ min n r → k < i + w + min (n - r) t → k < end
before-end i n end r t w k room is e less = omega arith

-- all idle first
pub idle-first : (out : List ℕ) (end : ℕ) → end ≤ length out → Idle (sets out 0 (replicate (end - 0) 0)) 0 end
idle-first out end h k a b =
    let n : end - 0 ≡ end = omega arith in
    let idle : List ℕ = replicate end 0 in
    let long : length idle ≡ end = length-replicate end 0 in
    ap (λ (m : ℕ). get_or (sets out 0 (replicate m 0)) k 0) n
    ∙ ap (λ (l : List ℕ). get_or l k 0) (front idle out (omega (arith, long)))
    ∙ get_or-append idle (drop (length idle) out) 0 k (omega (arith, long))
    ∙ get_or-replicate end k 0 0 b

-- bytes put over as many others
put-over : (vs ws out : List ℕ) → length vs ≡ length ws → length ws ≤ length out → sets (sets out 0 vs) 0 ws ≡ sets out 0 ws
put-over vs ws out same h =
    let size : length (sets out 0 vs) ≡ length out = length-sets out 0 vs in
    front ws (sets out 0 vs) (omega arith)
    ∙ ap (λ (l : List ℕ). ws ++ drop (length ws) l) (front vs out (omega arith))
    ∙ ap (λ (l : List ℕ). ws ++ l) (drop_at vs (drop (length vs) out) (length ws) same ∙ ap (λ (k : ℕ). drop k out) same)
    ∙ sym (front ws out h)

-- put over an output that was made idle, as many samples as there are or fit
pub filled : (samples out after : List ℕ) (end : ℕ) → end ≡ min (length out) (length samples)
    → after ≡ sets (sets out 0 (replicate (end - 0) 0)) 0 (take end samples)
    → Fills samples out 0 end after
filled samples out after end is put =
    let fits : end ≡ min (length out - 0) (length samples) = omega arith in
    let same : take end samples ≡ take (length out - 0) samples = ap (λ (n : ℕ). take n samples) fits ∙ take_min (length out - 0) samples in
    let size : length (take end samples) ≡ end = length-take end samples ∙ omega arith in
    let idle : List ℕ = replicate (end - 0) 0 in
    let long : length idle ≡ end - 0 = length-replicate (end - 0) 0 in
    record {
      ends = sym (zero-add (length (take (length out - 0) samples)) ∙ sym (ap length same) ∙ size);
      leaves = put ∙ put-over idle (take end samples) out (omega arith) (omega arith) ∙ ap (sets out 0) same;
    }

module _ (low still : ℕ) where
  -- one bit from a sample on, up to an end
  bit-taken : (n passed line : ℕ)
      → take n (drop passed (replicate low line ++ replicate still 0))
      ≡ replicate (min n (low - passed)) line ++ replicate (min (n - (low - passed)) (still - (passed - low))) 0
  bit-taken n passed line =
      ap (take n) (two_runs passed low still line)
      ∙ take-both n (replicate (low - passed) line) (replicate (still - (passed - low)) 0)
      ∙ ap₂ (λ (xs ys : List ℕ). xs ++ ys) (take-run n (low - passed) line)
      (ap (λ (k : ℕ). take (n - k) (replicate (still - (passed - low)) 0)) (length-replicate (low - passed) line)
      ∙ take-run (n - (low - passed)) (still - (passed - low)) 0)

  -- a pulse put where it is idle is its bit put whole
  pulse-alone : (out : List ℕ) (i end passed line : ℕ) → i ≤ end → Idle out i end
      → sets out i (take (end - i) (drop passed (replicate low line ++ replicate still 0))) ≡ sets out i (replicate (min end (i + (low - passed)) - i) line)
  pulse-alone out i end passed line room idle =
      let n = end - i in
      let m = min n (low - passed) in
      let z = min (n - (low - passed)) (still - (passed - low)) in
      let long = length-replicate m line in
      let size : m ≡ min end (i + (low - passed)) - i = omega arith in
      ap (sets out i) (bit-taken n passed line)
      ∙ sym (sets-append (replicate m line) (replicate z 0) out i)
      ∙ already (sets out i (replicate m line)) (i + length (replicate m line)) z
      (λ k a b. beyond (replicate m line) out i k a ∙ idle k (omega arith) (before-end i n end (low - passed) (still - (passed - low)) _ k room refl long b))
      ∙ ap (λ (k : ℕ). sets out i (replicate k line)) size

  -- a turn: the pulse of a bit, and then the bits after it
  pub turn : (message : List ℕ) (count : ℕ) (out mid : List ℕ) (bit passed i end line : ℕ) → bit < count → passed ≤ low + still → i ≤ end → Idle out i end
      → line ≡ low_sample (bit_after message bit)
      → mid ≡ sets out i (replicate (min end (i + (low - passed)) - i) line)
      → sets out i (take (end - i) (rest_of low still message bit (count - bit) passed))
      ≡ sets mid (i + (low + still - passed)) (take (end - (i + (low + still - passed))) (rest_of low still message (bit + 1) (count - (bit + 1)) 0))
  turn message count out mid bit passed i end line more part room idle is put =
      let n = end - i in
      let s = low + still - passed in
      let b = bit_after message bit in
      let d = drop passed (one low still b) in
      let later = rest_of low still message (bit + 1) (count - (bit + 1)) 0 in
      let size : length d ≡ s = length-drop passed (one low still b) ∙ ap (λ (k : ℕ). k - passed) (one-long low still b) in
      let left : count - bit - 1 ≡ count - (bit + 1) = omega arith in
      let ends : n - s ≡ end - (i + s) = omega arith in
      ap (λ (l : List ℕ). sets out i (take n l))
      (next_bit low still message bit (count - bit) passed (omega arith) part ∙ ap (λ (k : ℕ). d ++ rest_of low still message (bit + 1) k 0) left)
      ∙ ap (sets out i) (take-both n d later)
      ∙ sym (sets-append (take n d) (take (n - length d) later) out i)
      ∙ ap₂ (λ (l : List ℕ) (k : ℕ). sets l (i + length (take n d)) (take (n - k) later))
      (pulse-alone out i end passed (low_sample b) room idle ∙ sym (put ∙ ap (λ (x : ℕ). sets out i (replicate (min end (i + (low - passed)) - i) x)) is)) size
      ∙ ap (λ (k : ℕ). sets mid (i + k) (take (n - s) later)) (length-take n d ∙ ap (min n) size)
      ∙ at_place mid later i n s
      ∙ ap (λ (k : ℕ). sets mid (i + s) (take k later)) ends

  -- the rest of the output stays idle
  pub still-idle : (out mid : List ℕ) (passed i end line : ℕ) → i ≤ end → Idle out i end
      → mid ≡ sets out i (replicate (min end (i + (low - passed)) - i) line)
      → Idle mid (i + (low + still - passed)) end
  still-idle out mid passed i end line room idle put k a b =
      ap (λ (l : List ℕ). get_or l k 0) put
      ∙ beyond (replicate (min end (i + (low - passed)) - i) line) out i k (omega (arith, length-replicate (min end (i + (low - passed)) - i) line))
      ∙ idle k (omega arith) b
