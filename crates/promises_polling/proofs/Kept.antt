-- What a round keeps whatever is heard: how many replies it has, and of each its address and its settings. Where each transmitter has a poll, a settled try leaves a
-- state that means itself.
use mathlib.Core.Path.{◌≡◌, refl, sym, ap, subst, ◌∙◌}
use mathlib.Core.Bool.{Bool, true, false}
use mathlib.Core.List.{List, [], ◌++◌, map}
use Prim.Native.Nat.{ℕ, ◌+◌, ◌*◌, ◌<◌, ◌≤◌}
use native.Mathlib.Omega.{arith}
use lib.Dec.{leb, ltb}
use lib.ListN.{length, get_or, length-append, length-replicate, replicate, get_or-map}
use lib.Seq.{map-set_same}
use borrow.Author.Tests.{le-ltb, ltb-false, leb-false, lt-ltb}
use Rattle.frame.specs.Pick.{pick}
use Rattle.frame.specs.Line.{first_bytes}
use Rattle.frame.specs.Poll.{poll_line}
use Rattle.lines.specs.Hearing.{MessageTold}
use Rattle.lines.proofs.Cases.{none_of}
use Rattle.drawing.specs.Pulses.{drawing}
use Rattle.round.specs.declared.Polled.{Polled}
use Rattle.polling.specs.declared.Pace.{Pace}
use Rattle.polling.specs.declared.Polling.{Polling}
use Rattle.polling.specs.Pace.{bad_pace}
use Rattle.polling.specs.Beginning.{no_entry}
use Rattle.polling.specs.Meant.{is_over, turn_of, poll_drawn, try_drawn, meant}
use Rattle.polling.specs.Settling.{is_answered, asked_again, answered_with, replied}
use Rattle.promises_polling.specs.Batches.{AllPolled}
use Rattle.promises_drawing.proofs.Places.{drawing-long}
use Rattle.promises_polling.proofs.Paces.{fine-pace}
use Rattle.promises_polling.proofs.Meaning.{try_of, meant-over, meant-draws}
use Rattle.promises_polling.proofs.Path.{settled_in}

-- How long a try is.
pub try-long : (p : Pace) (address : ℕ) → address ≤ 999 → length (try_drawn p address) ≡ p.delay + 16 * (p.low + p.still)
unfolding try_drawn poll_drawn
try-long p address h =
    let poll = drawing p.low p.still 16 (first_bytes 2 (poll_line address false false)) in
    ap (λ (b : Bool). length (replicate p.delay 0 ++ pick b [] poll)) (le-ltb 999 address h) ∙ length-append (replicate p.delay 0) poll
    ∙ omega (arith, length-replicate {A = ℕ} p.delay 0, drawing-long p.low p.still 16 (first_bytes 2 (poll_line address false false)))

pub try-short : (p : Pace) (address : ℕ) → 999 < address → length (try_drawn p address) ≡ p.delay
unfolding try_drawn poll_drawn
try-short p address h =
    ap (λ (b : Bool). length (replicate p.delay 0 ++ pick b [] (drawing p.low p.still 16 (first_bytes 2 (poll_line address false false))))) (lt-ltb 999 address h)
    ∙ length-append (replicate p.delay 0) [] ∙ omega (arith, length-replicate {A = ℕ} p.delay 0)

-- What stays.
module _ (p : Pace) (minute : ℕ) (w : Polling) (told : MessageTold) where
  abbrev after : Polling
  after = settled_in p minute w told

  pub same_count : after.round.count ≡ w.round.count
  same_count = go (is_answered p w told)
    where
      go : (b : Bool) → (pick b (answered_with minute told w) (asked_again w)).round.count ≡ w.round.count
      go true = refl
      go false = refl

  pub same_parts : (f : Polled → ℕ) → f (replied minute told (turn_of w)) ≡ f (turn_of w) → map f after.round.replies ≡ map f w.round.replies
  same_parts f e = go (is_answered p w told)
    where
      go : (b : Bool) → map f (pick b (answered_with minute told w) (asked_again w)).round.replies ≡ map f w.round.replies
      go true = map-set_same f w.round.replies w.at (replied minute told (turn_of w)) no_entry e
      go false = refl

  pub same-part : (f : Polled → ℕ) → f (replied minute told (turn_of w)) ≡ f (turn_of w) → (i : ℕ) → f (get_or after.round.replies i no_entry) ≡ f (get_or w.round.replies i no_entry)
  same-part f e i =
      sym (get_or-map f after.round.replies i no_entry) ∙ ap (λ (l : List ℕ). get_or l i (f no_entry)) (same_parts f e)
      ∙ get_or-map f w.round.replies i no_entry

  pub same_address : (i : ℕ) → (get_or after.round.replies i no_entry).address ≡ (get_or w.round.replies i no_entry).address
  same_address i = same-part (λ (r : Polled). r.address) refl i

  pub still-polled : AllPolled w → AllPolled after
  still-polled h i l = subst (λ (n : ℕ). n ≤ 999) (sym (same_address i)) (h i (subst (λ (n : ℕ). i < n) same_count l))

-- Its turn is below the count, where a round is not over.
pub at-below : (w : Polling) → is_over w ≡ false → (w.at < w.round.count) × (w.round.count ≤ 30)
at-below w e =
    let r = none_of (ltb 30 w.round.count) (leb w.round.count w.at) e in
    (leb-false w.round.count w.at r.1, ltb-false 30 w.round.count r.0)

-- A try of a transmitter that has a poll has a sample.
pub some-try : (p : Pace) → bad_pace p ≡ false → (w : Polling) → AllPolled w → is_over w ≡ false → 0 < length (try_of p w)
some-try p fine w h e =
    let f = fine-pace p fine in
    let some = f.low in
    let size = try-long p (turn_of w).address (h w.at (at-below w e).0) in
    omega (arith, some, size)

pub settled-itself : (p : Pace) → bad_pace p ≡ false → (minute : ℕ) (w : Polling) (told : MessageTold) → AllPolled w → is_over w ≡ false
    → meant p (settled_in p minute w told) ≡ settled_in p minute w told
settled-itself p fine minute w told h e = go (is_answered p w told) refl
  where
    next : (b : Bool) → is_answered p w told ≡ b → (c : Bool) → is_over (answered_with minute told w) ≡ c → b ≡ true → meant p (answered_with minute told w) ≡ answered_with minute told w
    next b f true g t = meant-over p (answered_with minute told w) g
    next b f false g t =
        let polled : AllPolled (settled_in p minute w told) = still-polled p minute w told h in
        let is : settled_in p minute w told ≡ answered_with minute told w = ap (λ (x : Bool). pick x (answered_with minute told w) (asked_again w)) (f ∙ t) in
        meant-draws p (answered_with minute told w) 0 g (some-try p fine (answered_with minute told w) (subst AllPolled is polled) g)

    go : (b : Bool) → is_answered p w told ≡ b → meant p (pick b (answered_with minute told w) (asked_again w)) ≡ pick b (answered_with minute told w) (asked_again w)
    go true f = next true f (is_over (answered_with minute told w)) refl refl
    go false f = meant-draws p (asked_again w) 0 e (some-try p fine w h e)
