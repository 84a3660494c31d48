-- Samples put into an output from its front, one part after another, as many as fit. Assumes nothing.
use mathlib.Core.Path.{◌≡◌, refl, sym, ap, ap₂, subst, ◌∙◌}
use mathlib.Core.Bool.{Bool, true, false, not}
use mathlib.Core.List.{List, [], ◌∷◌, ◌++◌, append-nil, append_assoc}
use Prim.Native.Nat.{ℕ, zero, suc, ◌+◌, ◌-◌, ◌<◌, ◌≤◌, min}
use native.Mathlib.Omega.{arith}
use lib.Dec.{eqb, ltb}
use lib.ListN.{length, take, drop, replicate, length-take, length-drop, length-append, length-replicate, drop_of_length-le}
use lib.Seq.{take-nil, drop-nil, take_all, take_at, drop_at, drop-drop}
use borrow.Author.Tests.{le-ltb, lt-ltb, ltb-true, ltb-false}
use Rattle.frame.specs.Pick.{pick}
use Rattle.frame.specs.Line.{first_bytes, formed}
use Rattle.frame.specs.Faults.{first_of}
use Rattle.frame.specs.Poll.{poll_line, write_poll_fault}
use Rattle.drawing.specs.declared.Done.{Done}
use Rattle.drawing.specs.Pulses.{bad_pulse, drawing}
use Rattle.drawing.specs.Calls.{draw_fault, done, portion, Draws}
use Rattle.drawing.proofs.Idle.{take-both}
use Rattle.drawing.proofs.Rest.{drop-run, drop-both}
use Rattle.polling.specs.declared.Pace.{Pace}
use Rattle.polling.specs.Meant.{poll_drawn, try_drawn}
use Rattle.polling.specs.Inside.Puts.{Puts}

pub take-run : (n m x k : ℕ) → k ≡ min m n → ◌≡◌ {A = List ℕ} (take n (replicate m x)) (replicate k x)
take-run zero m x k e = let z : k ≡ 0 = omega arith in rw z
take-run (suc n) zero x k e = let z : k ≡ 0 = omega arith in rw z
take-run (suc n) (suc m) x zero e = absurd (omega arith)
take-run (suc n) (suc m) x (suc k) e = ap (λ (l : List ℕ). x ∷ l) (take-run n m x k (omega arith))

-- a part after a part, which is put into the rest of the output
pub then : (xs ys out mid tail : List ℕ) (end more : ℕ) → Puts xs out end mid → Puts ys (drop end mid) more tail → Puts (xs ++ ys) out (end + more) (take end mid ++ tail)
then xs ys out mid tail end more first second =
    let n : ℕ = length out in
    let some = length-take n xs in
    let here : length (take n xs) ≡ end = sym first.count in
    let behind : drop end mid ≡ drop end out = ap (drop end) first.leaves ∙ drop_at (take n xs) (drop end out) end here in
    let front : take end mid ≡ take n xs = ap (take end) first.leaves ∙ take_at (take n xs) (drop end out) end here in
    let room : length (drop end mid) ≡ n - length xs = ap length behind ∙ length-drop end out ∙ omega (arith, first.count, some) in
    let whole = take-both n xs ys in
    let rest : take (length (drop end mid)) ys ≡ take (n - length xs) ys = ap (λ (k : ℕ). take k ys) room in
    record {
      count = ap₂ (λ (a b : ℕ). a + b) first.count (second.count ∙ ap length rest) ∙ sym (length-append (take n xs) (take (n - length xs) ys)) ∙ ap length (sym whole);
      leaves = ap₂ (λ (a b : List ℕ). a ++ b) front (second.leaves ∙ ap₂ (λ (a b : List ℕ). a ++ drop more b) rest behind ∙ ap (λ (l : List ℕ). take (n - length xs) ys ++ l) (drop-drop more end out))
          ∙ sym (append_assoc (take n xs) (take (n - length xs) ys) (drop (end + more) out))
          ∙ ap (λ (l : List ℕ). l ++ drop (end + more) out) (sym whole);
    }

-- as many as fit
pub fits_in : {xs out after : List ℕ} {many : ℕ} → Puts xs out many after → (many ≤ length out) × (many ≤ length xs) × (length after ≡ length out)
fits_in {xs} {out} {after} {many} f =
    let some = length-take (length out) xs in (
      omega (arith, f.count),
      omega (arith, f.count),
      ap length f.leaves ∙ length-append (take (length out) xs) (drop many out) ∙ omega (arith, f.count, some, length-drop many out),
    )

pub samples-are : (xs ys out after : List ℕ) (many : ℕ) → xs ≡ ys → Puts xs out many after → Puts ys out many after
samples-are xs ys out after many e f =
    record { count = f.count ∙ ap (λ (l : List ℕ). length (take (length out) l)) e; leaves = f.leaves ∙ ap (λ (l : List ℕ). take (length out) l ++ drop many out) e }

-- nothing is there
pub none : (xs out : List ℕ) → xs ≡ [] → Puts xs out 0 out
none xs out e =
    let z : take (length out) xs ≡ [] = ap (take (length out)) e ∙ take-nil (length out) in
    record { count = sym (ap length z); leaves = sym (ap (λ (l : List ℕ). l ++ drop 0 out) z) }

-- the two bytes of a poll
pub poll-bytes : (address : ℕ) → address ≤ 999
    → pick (eqb (write_poll_fault address (0 ∷ 0 ∷ [])) 0) (first_bytes 2 (poll_line address false false) ++ drop 2 (0 ∷ 0 ∷ [])) (0 ∷ 0 ∷ []) ≡ first_bytes 2 (poll_line address false false)
unfolding write_poll_fault first_of
poll-bytes address h =
    ap (λ (b : Bool). pick (eqb (pick b 11 0) 0) (first_bytes 2 (poll_line address false false) ++ []) (0 ∷ 0 ∷ [])) (le-ltb 999 address h)
    ∙ append-nil (first_bytes 2 (poll_line address false false))

-- they are written where the address has a poll, and else refused
pub has-poll : (address : ℕ) → write_poll_fault address (0 ∷ 0 ∷ []) ≡ 0 → address ≤ 999
unfolding write_poll_fault first_of
has-poll address h = go (ltb 999 address) refl h
  where
    go : (b : Bool) → ltb 999 address ≡ b → ◌≡◌ {A = ℕ} (pick b 11 0) 0 → address ≤ 999
    go true e h = absurd (omega (arith, h))
    go false e h = ltb-false 999 address e

pub has-none : (address : ℕ) → (write_poll_fault address (0 ∷ 0 ∷ []) ≡ 0 → ⊥) → 999 < address
unfolding write_poll_fault first_of
has-none address h = go (ltb 999 address) refl h
  where
    go : (b : Bool) → ltb 999 address ≡ b → (◌≡◌ {A = ℕ} (pick b 11 0) 0 → ⊥) → 999 < address
    go true e h = ltb-true 999 address e
    go false e h = absurd (h refl)

two_formed : (n : ℕ) → formed 16 (first_bytes 2 n) ≡ true
unfolding formed first_bytes
two_formed n = refl

module _ (p : Pace) (address from : ℕ) (out : List ℕ) where
  pub no-poll : 999 < address → Puts (drop from (poll_drawn p address)) out 0 out
  unfolding poll_drawn
  no-poll h =
      none (drop from (poll_drawn p address)) out
      (ap (λ (b : Bool). drop from (pick b [] (drawing p.low p.still 16 (first_bytes 2 (poll_line address false false))))) (lt-ltb 999 address h) ∙ drop-nil from)

  -- what `sisal_draw` draws of it
  pub its-poll : address ≤ 999 → bad_pulse p.low p.still ≡ false → (bytes : List ℕ) → bytes ≡ first_bytes 2 (poll_line address false false) → (answer : Done) (after : List ℕ)
      → Draws p.low p.still 16 bytes from out answer after → Puts (drop from (poll_drawn p address)) out answer.count after
  unfolding poll_drawn draw_fault first_of portion
  its-poll h good bytes is answer after d =
      let poll : List ℕ = drawing p.low p.still 16 bytes in
      let part : List ℕ = take (length out) (drop from poll) in
      let ok : draw_fault p.low p.still 16 bytes ≡ 0 = ap₂ (λ (a b : Bool). pick a 20 (pick (not b) 14 0)) good (ap (formed 16) is ∙ two_formed (poll_line address false false)) in
      let count : answer.count ≡ length part = ap (λ (x : Done). x.count) (d.answers ∙ ap (λ (n : ℕ). pick (eqb n 0) (done (length part) 0) (done 0 n)) ok) in
      let left : after ≡ part ++ drop (length part) out = d.leaves ∙ ap (λ (n : ℕ). pick (eqb n 0) (part ++ drop (length part) out) out) ok in
      let same : drop from poll ≡ drop from (poll_drawn p address) =
      ap (λ (l : List ℕ). drop from (drawing p.low p.still 16 l)) is
      ∙ sym (ap (λ (b : Bool). drop from (pick b [] (drawing p.low p.still 16 (first_bytes 2 (poll_line address false false))))) (le-ltb 999 address h)) in
      samples-are (drop from poll) (drop from (poll_drawn p address)) out after answer.count same
      (record { count = count; leaves = left ∙ ap (λ (n : ℕ). part ++ drop n out) (sym count) })

  -- a try is the rest of its delay, and then the rest of its poll
  pub rest-of-try : replicate (p.delay - from) 0 ++ drop (from - p.delay) (poll_drawn p address) ≡ drop from (try_drawn p address)
  unfolding try_drawn
  rest-of-try =
      sym (drop-both from (replicate p.delay 0) (poll_drawn p address)
      ∙ ap₂ (λ (a : List ℕ) (n : ℕ). a ++ drop (from - n) (poll_drawn p address)) (drop-run from p.delay 0) (length-replicate p.delay 0))

  -- the delay's samples, and then the poll's in the rest of the output
  pub two-parts : (mid tail : List ℕ) (end more still before : ℕ) → still ≡ p.delay - from → before ≡ from - p.delay → Puts (replicate still 0) out end mid
      → Puts (drop before (poll_drawn p address)) (take (length mid - end) (drop end mid)) more tail
      → Puts (drop from (try_drawn p address)) out (end + more) (take end mid ++ (tail ++ drop (length mid - end) (drop end mid)))
  two-parts mid tail end more still before e f first second =
      let n : ℕ = length mid - end in
      let long = length-drop end mid in
      let all : take n (drop end mid) ≡ drop end mid = take_all n (drop end mid) (omega (arith, long)) in
      let none : drop n (drop end mid) ≡ [] = drop_of_length-le (drop end mid) {i = n} (omega (arith, long)) in
      let one : Puts (replicate (p.delay - from) 0) out end mid = subst (λ (k : ℕ). Puts (replicate k 0) out end mid) e first in
      let two : Puts (drop (from - p.delay) (poll_drawn p address)) (drop end mid) more tail
      = subst (λ (k : ℕ). Puts (drop k (poll_drawn p address)) (drop end mid) more tail) f (subst (λ (l : List ℕ). Puts (drop before (poll_drawn p address)) l more tail) all second) in
      let behind : tail ≡ tail ++ drop n (drop end mid) = sym (ap (λ (l : List ℕ). tail ++ l) none ∙ append-nil tail) in
      subst (λ (l : List ℕ). Puts (drop from (try_drawn p address)) out (end + more) (take end mid ++ l)) behind
      (samples-are (replicate (p.delay - from) 0 ++ drop (from - p.delay) (poll_drawn p address)) (drop from (try_drawn p address)) out (take end mid ++ tail) (end + more) rest-of-try
      (then (replicate (p.delay - from) 0) (drop (from - p.delay) (poll_drawn p address)) out mid tail end more one two))
