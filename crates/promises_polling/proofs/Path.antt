-- A way through states one sample at a time, which knows of no calls: each state draws its next sample, or takes one and goes on, or takes one that settles the
-- try. What settles it is a test of the state after the sample and of how many were heard.
use mathlib.Core.Path.{◌≡◌, refl, subst}
use mathlib.Core.Bool.{Bool, true, false, ◌&&◌, ◌||◌}
use mathlib.Core.List.{List, [], ◌∷◌, ◌++◌}
use Prim.Native.Nat.{ℕ, ◌+◌, ◌<◌}
use lib.Dec.{leb}
use lib.ListN.{length, get_or}
use Rattle.frame.specs.Pick.{pick}
use Rattle.frame.specs.Line.{mark}
use Rattle.lines.specs.declared.SoFar.{SoFar}
use Rattle.lines.specs.Sample.{sample_of}
use Rattle.lines.specs.SoFar.{is_rest}
use Rattle.lines.specs.Step.{after, closes}
use Rattle.lines.specs.Hearing.{MessageTold, nothing, told_of, number_told}
use Rattle.polling.specs.declared.Pace.{Pace}
use Rattle.polling.specs.declared.Polling.{Polling}
use Rattle.polling.specs.Pace.{timing_of}
use Rattle.polling.specs.Meant.{is_over, draws, listens, meant}
use Rattle.polling.specs.Listening.{Listened, settled_by, given_up, settle}
use Rattle.polling.specs.Settling.{is_answered, asked_again, answered_with}
use Rattle.promises_polling.specs.History.{Clock, Shows, Verdict}
use Rattle.promises_lines.proofs.Legal.{Legal}
use Rattle.promises_polling.proofs.Meaning.{try_of}

-- The lines after one sample more.
abbrev pub heard_now : Pace → Polling → ℕ → SoFar
heard_now p w x = after (timing_of p) w.lines (sample_of x)

-- Whether a try is settled that has the lines so after so many samples, and by what.
abbrev pub silent_now : Pace → SoFar → ℕ → Bool
silent_now p s q = is_rest s && leb p.wait q

abbrev pub ending : Pace → SoFar → ℕ → Bool
ending p s q = closes (timing_of p) s || silent_now p s q || leb p.longest q

abbrev pub told_at : Pace → SoFar → ℕ → MessageTold
told_at p s q = pick (closes (timing_of p) s) (told_of s) (pick (silent_now p s q) nothing (given_up s))

pub settle-by : (p : Pace) (s : SoFar) (q : ℕ) (more : Listened) → settle p s q more ≡ pick (ending p s q) (settled_by (told_at p s q) 1) more
unfolding settle
settle-by p s q more = go (closes (timing_of p) s) (silent_now p s q) (leb p.longest q)
  where
    go : (a b c : Bool)
        → pick a (settled_by (told_of s) 1) (pick b (settled_by nothing 1) (pick c (settled_by (given_up s) 1) more))
        ≡ pick (a || b || c) (settled_by (pick a (told_of s) (pick b nothing (given_up s))) 1) more
    go true b c = refl
    go false true c = refl
    go false false true = refl
    go false false false = refl

-- The state after a settled try, and what is told of it.
abbrev pub settled_in : Pace → ℕ → Polling → MessageTold → Polling
settled_in p minute w told = pick (is_answered p w told) (answered_with minute told w) (asked_again w)

abbrev pub verdict_by : (reply answered over number : ℕ) → Verdict
verdict_by reply answered over number = record { reply = reply; answered = answered; over = over; number = number }

abbrev pub verdict_in : Pace → ℕ → Polling → MessageTold → Verdict
verdict_in p minute w told =
    pick (is_answered p w told) (verdict_by w.at 1 (mark (is_over (answered_with minute told w))) (number_told told)) (verdict_by w.at 0 0 (number_told told))

pub data Way (p : Pace) (clock : Clock) : Polling → (drawn taken : List ℕ) → List Verdict → Polling → Type 0 where
  stop : {w : Polling} → Way p clock w [] [] [] w
  draw_one : {w e : Polling} {ds xs : List ℕ} {vs : List Verdict} → is_over w ≡ false → w.listening ≡ 0 → w.passed < length (try_of p w)
      → Way p clock (meant p (draws w (w.passed + 1))) ds xs vs e
      → Way p clock w (get_or (try_of p w) w.passed 0 ∷ ds) xs vs e
  hear_on : {w e : Polling} {ds xs : List ℕ} {vs : List Verdict} (x : ℕ) → is_over w ≡ false → w.listening ≡ 1 → Legal w.lines
      → ending p (heard_now p w x) (w.passed + 1) ≡ false
      → Way p clock (listens w (heard_now p w x) (w.passed + 1)) ds xs vs e
      → Way p clock w ds (x ∷ xs) vs e
  hear_end : {w e : Polling} {ds xs : List ℕ} {vs : List Verdict} (minute x : ℕ) → Shows clock minute → is_over w ≡ false → w.listening ≡ 1 → Legal w.lines
      → ending p (heard_now p w x) (w.passed + 1) ≡ true
      → Way p clock (meant p (settled_in p minute w (told_at p (heard_now p w x) (w.passed + 1)))) ds xs vs e
      → Way p clock w ds (x ∷ xs) (verdict_in p minute w (told_at p (heard_now p w x) (w.passed + 1)) ∷ vs) e

-- Two ways, one behind the other.
pub join : {p : Pace} {clock : Clock} {w m e : Polling} {ds bs xs ys : List ℕ} {vs us : List Verdict} → Way p clock w ds xs vs m → Way p clock m bs ys us e
    → Way p clock w (ds ++ bs) (xs ++ ys) (vs ++ us) e
join stop k = k
join (draw_one e z l h) k = draw_one e z l (join h k)
join (hear_on x e z l f h) k = hear_on x e z l f (join h k)
join (hear_end minute x c e z l f h) k = hear_end minute x c e z l f (join h k)

-- A way moved along what its parts equal.
pub moved : {p : Pace} {clock : Clock} {w v e f : Polling} {ds bs xs ys : List ℕ} {vs us : List Verdict} → w ≡ v → ds ≡ bs → xs ≡ ys → vs ≡ us → e ≡ f
    → Way p clock w ds xs vs e → Way p clock v bs ys us f
moved {p} {clock} {w} {v} {e} {f} {ds} {bs} {xs} {ys} {vs} {us} a b c d g h =
    subst (λ (z : Polling). Way p clock v bs ys us z) g
    (subst (λ (z : List Verdict). Way p clock v bs ys z e) d
    (subst (λ (z : List ℕ). Way p clock v bs z vs e) c
    (subst (λ (z : List ℕ). Way p clock v z xs vs e) b (subst (λ (z : Polling). Way p clock z ds xs vs e) a h))))
