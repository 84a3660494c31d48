-- Drawn, then heard: pulse by pulse, the runs since the last gap grow by a pulse and its idle, which are quiet; after the last pulse the idle closes at
-- the gap, and the runs are the bits drawn.
use mathlib.Core.Path.{◌≡◌, refl, sym, ap, ap₂, ◌∙◌}
use mathlib.Core.Bool.{Bool, true, false}
use mathlib.Core.List.{List, [], ◌∷◌, ◌++◌, map, append_assoc, append-nil}
use Prim.Native.Nat.{ℕ, zero, suc, ◌+◌, ◌-◌, ◌<◌, ◌≤◌}
use native.Mathlib.Omega.{arith}
use lib.ListN.{length, replicate, replicate-append-replicate, length-replicate, length-append}
use borrow.Author.Tests.{le-leb, lt-leb}
use Rattle.frame.specs.Pick.{pick}
use Rattle.frame.specs.Line as frame
use Rattle.lines.specs.declared.SoFar.{SoFar}
use Rattle.lines.specs.declared.LinesTold.{LinesTold}
use Rattle.lines.specs.Sample.{Sample, idle, mark, space, sample_of}
use Rattle.lines.specs.Timing.{Timing}
use Rattle.lines.specs.SoFar.{rest_state}
use Rattle.lines.specs.Step.{after, closes}
use Rattle.lines.specs.Hearing.{Hearing, hearing, told_of, later, hear}
use Rattle.lines.specs.Calls.{answered}
use Rattle.promises_lines.specs.History.{Said, said}
use Rattle.promises_lines.specs.Runs.{Run, is_idle, idle_last, all_pulses, bits_in, all_idle, unspoiled, at_gap}
use Rattle.promises_lines.specs.Drawn.{Pulse, drawn, WellDrawn, DrawnThenHeard}
use Rattle.promises_lines.proofs.Legal.{rest, is-legal}
use Rattle.promises_lines.proofs.Quiet.{Quiet, quiet-hear}
use Rattle.promises_lines.proofs.Ends.{Good, good, meant_itself, heard-by}
use Rattle.promises_lines.proofs.Streams.{said_of}
use Rattle.promises_lines.proofs.Segments.{run, count_in, count-is, state_of, not-all}
use Rattle.promises_lines.proofs.SegmentSteps.{Differs, closes_as}
use Rattle.promises_lines.proofs.Runs.{rest-idle, quiet-run, before_last, quiet-gap, last-idle, last-closes}

abbrev kind_of : Bool → Sample
kind_of true = mark
kind_of false = space

kinds : (n : ℕ) (x : ℕ) (k : Sample) → sample_of x ≡ k → map sample_of (replicate n x) ≡ replicate n k
kinds zero x k e = refl
kinds (suc n) x k e = ap₂ (λ (y : Sample) (ys : List Sample). y ∷ ys) e (kinds n x k e)

-- A quiet run of one byte.
hear-run : (t : Timing) (s n : SoFar) (x : ℕ) (k : Sample) (i : ℕ) (ys : List ℕ) → sample_of x ≡ k → Quiet t s (replicate i k) n
    → hear t s (replicate i x ++ ys) ≡ later i (hear t n ys)
hear-run t s n x k i ys e q =
    quiet-hear t s n (replicate i x) ys (rw (kinds i x k e) q) ∙ ap (λ (m : ℕ). later m (hear t n ys)) (length-replicate i x)

-- The gap.
hear-close : (t : Timing) (s : SoFar) (ys : List ℕ) → closes t (after t s idle) ≡ true → hear t s (0 ∷ ys) ≡ hearing (told_of (after t s idle)) rest_state 1
unfolding hear
hear-close t s ys e = rw e

hear-gap : (t : Timing) (g : Good t) (b : List Run) → Differs idle b → all_idle b ≡ false → (ys : List ℕ)
    → hear t (state_of t b) (replicate t.gap 0 ++ ys) ≡ hearing (told_of (state_of t (run idle t.gap ∷ b))) rest_state t.gap
hear-gap t g b d o ys =
    let some = g.some in
    let parts : t.gap ≡ t.gap - 1 + suc 0 = omega arith in
    let cut : replicate t.gap 0 ++ ys ≡ replicate (t.gap - 1) 0 ++ (0 ∷ ys)
    = ap (λ (m : ℕ). replicate m 0 ++ ys) parts ∙ ap (λ (x : List ℕ). x ++ ys) (sym (replicate-append-replicate (t.gap - 1) (suc 0) 0))
    ∙ append_assoc (replicate (t.gap - 1) 0) (0 ∷ []) ys in
    let s : SoFar = before_last t g b d o in
    let whole : t.gap - 1 + 1 ≡ t.gap = omega arith in
    ap (hear t (state_of t b)) cut ∙ hear-run t (state_of t b) s 0 idle (t.gap - 1) (0 ∷ ys) refl (quiet-gap t g b d o)
    ∙ ap (later (t.gap - 1)) (hear-close t s ys (last-closes t g b d o))
    ∙ ap₂ (λ (n : SoFar) (m : ℕ). hearing (told_of n) rest_state m) (last-idle t g b d o) whole

-- What a hearing told and took.
pub record Gives (h : Hearing) (bits : List ℕ) (taken : ℕ) : Type 0 where
  pub told : said_of h.told ≡ record { number = 0; bits = bits }
  pub took : h.taken ≡ taken

gives-later : (n : ℕ) (h : Hearing) (bits : List ℕ) (taken : ℕ) → Gives h bits taken → Gives (later n h) bits (n + taken)
gives-later n h bits taken r = record { told = r.told; took = ap (λ (m : ℕ). n + m) r.took }

head-is : {x y : Said} → x ∷ [] ≡ y ∷ [] → x ≡ y
head-is e = cc

-- One pulse more on runs that are unspoiled and end idle.
module _ (t : Timing) (g : Good t) (b : List Run) (p : Pulse) (clean : all_pulses t b ≡ true) (before : idle_last b ≡ true) (long : t.least ≤ p.low) (short : p.low ≤ t.most) where
  abbrev with_pulse : List Run
  with_pulse = run (kind_of p.is_mark) p.low ∷ b

  other-kind : (x : Bool) → Differs (kind_of x) b
  other-kind x = go b before x
    where
      go : (c : List Run) → idle_last c ≡ true → (x : Bool) → Differs (kind_of x) c
      go [] e x = omega arith
      go (r ∷ c) e true = λ k. let f : ◌≡◌ {A = Bool} false true = sym (ap is_idle k) ∙ e in let z : ◌≡◌ {A = ℕ} 0 1 = cc in omega arith
      go (r ∷ c) e false = λ k. let f : ◌≡◌ {A = Bool} false true = sym (ap is_idle k) ∙ e in let z : ◌≡◌ {A = ℕ} 0 1 = cc in omega arith

  hear-pulse : (ys : List ℕ) → hear t (state_of t b) (replicate p.low (pick p.is_mark 1 2) ++ ys) ≡ later p.low (hear t (state_of t with_pulse) ys)
  hear-pulse ys = go p.is_mark
    where
      some : 1 ≤ p.low
      some = let l = g.least in omega arith

      go : (x : Bool) → hear t (state_of t b) (replicate p.low (pick x 1 2) ++ ys) ≡ later p.low (hear t (state_of t (run (kind_of x) p.low ∷ b)) ys)
      go true =
          hear-run t (state_of t b) (state_of t (run mark p.low ∷ b)) 1 mark p.low ys refl (quiet-run t g b mark p.low (other-kind true) (let l = g.least in omega arith) refl)
      go false =
          hear-run t (state_of t b) (state_of t (run space p.low ∷ b)) 2 space p.low ys refl (quiet-run t g b space p.low (other-kind false) (let l = g.least in omega arith) refl)

  pulse-clean : all_pulses t with_pulse ≡ true
  pulse-clean = go p.is_mark
    where
      go : (x : Bool) → all_pulses t (run (kind_of x) p.low ∷ b) ≡ true
      go true = unfold all_pulses in rw (clean, before, le-leb t.least p.low long, le-leb p.low t.most short)
      go false = unfold all_pulses in rw (clean, before, le-leb t.least p.low long, le-leb p.low t.most short)

  pulse-bits : bits_in with_pulse ≡ bits_in b ++ frame.mark p.is_mark ∷ []
  pulse-bits = go p.is_mark
    where
      go : (x : Bool) → bits_in (run (kind_of x) p.low ∷ b) ≡ bits_in b ++ frame.mark x ∷ []
      go true = unfold bits_in in refl
      go false = unfold bits_in in refl

  pulse-count : count_in with_pulse ≡ count_in b + 1
  pulse-count = go p.is_mark
    where
      go : (x : Bool) → count_in (run (kind_of x) p.low ∷ b) ≡ count_in b + 1
      go true = refl
      go false = refl

  pulse-open : all_idle with_pulse ≡ false
  pulse-open = go p.is_mark
    where
      go : (x : Bool) → all_idle (run (kind_of x) p.low ∷ b) ≡ false
      go true = not-all t b p.low mark refl
      go false = not-all t b p.low space refl

  not-idle : Differs idle with_pulse
  not-idle = go p.is_mark
    where
      go : (x : Bool) → kind_of x ≡ idle → ⊥
      go true e = let z : ◌≡◌ {A = ℕ} 0 1 = cc in omega arith
      go false e = let z : ◌≡◌ {A = ℕ} 0 1 = cc in omega arith

  -- The last pulse, and the gap after it.
  last-pulse : count_in b + 1 ≤ 64 → (ys : List ℕ)
      → Gives (hear t (state_of t b) (replicate p.low (pick p.is_mark 1 2) ++ (replicate t.gap 0 ++ ys))) (bits_in b ++ frame.mark p.is_mark ∷ []) (p.low + t.gap)
  last-pulse room ys =
      rw (hear-pulse (replicate t.gap 0 ++ ys), hear-gap t g with_pulse not-idle pulse-open ys)
      (record { told = head-is (closes_as t g with_pulse pulse-open t.gap ∙ message-told); took = refl })
    where
      message-told : at_gap t with_pulse ≡ record { number = 0; bits = bits_in b ++ frame.mark p.is_mark ∷ [] } ∷ []
      message-told =
          unfold at_gap unspoiled in
          rw (pulse-open, pulse-clean, le-leb (length (bits_in with_pulse)) 64 (omega (arith, count-is with_pulse, pulse-count)))
          (ap (λ (x : List ℕ). record { number = 0; bits = x } ∷ []) pulse-bits)

  -- A pulse with less idle than the gap after it.
  hear-both : 1 ≤ p.still → p.still < t.gap → (ys : List ℕ)
      → hear t (state_of t b) (replicate p.low (pick p.is_mark 1 2) ++ (replicate p.still 0 ++ ys))
      ≡ later p.low (later p.still (hear t (state_of t (run idle p.still ∷ with_pulse)) ys))
  hear-both some less ys =
      hear-pulse (replicate p.still 0 ++ ys)
      ∙ ap (later p.low)
      (hear-run t (state_of t with_pulse) (state_of t (run idle p.still ∷ with_pulse)) 0 idle p.still ys refl
      (quiet-run t g with_pulse idle p.still not-idle some (lt-leb t.gap p.still less)))

-- Idle after a pulse changes neither the bits nor that they are pulses.
idle-clean : (t : Timing) (b : List Run) (n : ℕ) → all_pulses t b ≡ true → all_pulses t (run idle n ∷ b) ≡ true
unfolding all_pulses
idle-clean t b n e = rw e

idle-bits : (b : List Run) (n : ℕ) → bits_in (run idle n ∷ b) ≡ bits_in b
unfolding bits_in
idle-bits b n = append-nil (bits_in b)

abbrev bit_drawn : Pulse → ℕ
bit_drawn q = frame.mark q.is_mark

-- The parts of a drawing.
regroup : (a b c d : List ℕ) → a ++ b ++ c ++ d ≡ a ++ (b ++ (c ++ d))
regroup a b c d = simp append_assoc

sizes : (n x m : ℕ) (c : List ℕ) → length (replicate n x ++ replicate m 0 ++ c) ≡ n + (m + length c)
sizes n x m c =
    length-append (replicate n x ++ replicate m 0) c
    ∙ ap (λ (k : ℕ). k + length c) (length-append (replicate n x) (replicate m 0) ∙ ap₂ (λ (j k : ℕ). j + k) (length-replicate n x) (length-replicate m 0)) ∙ omega arith

regive : (h k : Hearing) (xs ys : List ℕ) (n m : ℕ) → h ≡ k → xs ≡ ys → n ≡ m → Gives k ys m → Gives h xs n
regive h k xs ys n m p q r g =
    record {
      told = ap (λ (x : Hearing). said_of x.told) p ∙ g.told ∙ ap (λ (x : List ℕ). record { number = 0; bits = x }) (sym q);
      took = ap (λ (x : Hearing). x.taken) p ∙ g.took ∙ sym r;
    }

hear-drawn : (t : Timing) (g : Good t) (ps : List Pulse) (p : Pulse) (b : List Run) → WellDrawn t p ps → all_pulses t b ≡ true → idle_last b ≡ true
    → count_in b + length (p ∷ ps) ≤ 64 → (more : List ℕ)
    → Gives (hear t (state_of t b) (drawn (p ∷ ps) ++ more)) (bits_in b ++ map bit_drawn (p ∷ ps)) (length (drawn (p ∷ ps)))
unfolding drawn
hear-drawn t g [] p b w clean before room more =
    let x : ℕ = pick p.is_mark 1 2 in
    let gap : p.still ≡ t.gap = w.2 in
    let whole : replicate p.low x ++ replicate p.still 0 ++ [] ++ more ≡ replicate p.low x ++ (replicate t.gap 0 ++ more)
    = regroup (replicate p.low x) (replicate p.still 0) [] more ∙ ap (λ (n : ℕ). replicate p.low x ++ (replicate n 0 ++ more)) gap in
    regive (hear t (state_of t b) (replicate p.low x ++ replicate p.still 0 ++ [] ++ more))
    (hear t (state_of t b) (replicate p.low x ++ (replicate t.gap 0 ++ more))) (bits_in b ++ bit_drawn p ∷ []) (bits_in b ++ bit_drawn p ∷ [])
    (length (replicate p.low x ++ replicate p.still 0 ++ [])) (p.low + t.gap) (ap (hear t (state_of t b)) whole) refl
    (sizes p.low x p.still [] ∙ omega arith) (last-pulse t g b p clean before w.0 w.1 room more)
hear-drawn t g (q ∷ ps) p b w clean before room more =
    let x : ℕ = pick p.is_mark 1 2 in
    let c : List Run = with_pulse t g b p clean before w.0 w.1 in
    let rest_of : List ℕ = drawn (q ∷ ps) in
    let h : Hearing = hear t (state_of t (run idle p.still ∷ c)) (rest_of ++ more) in
    let count = pulse-count t g b p clean before w.0 w.1 in
    let r : Gives h (bits_in (run idle p.still ∷ c) ++ map bit_drawn (q ∷ ps)) (length rest_of)
    = hear-drawn t g ps q (run idle p.still ∷ c) w.4 (idle-clean t c p.still (pulse-clean t g b p clean before w.0 w.1)) refl (omega arith) more in
    regive (hear t (state_of t b) (replicate p.low x ++ replicate p.still 0 ++ rest_of ++ more)) (later p.low (later p.still h))
    (bits_in b ++ map bit_drawn (p ∷ q ∷ ps)) (bits_in (run idle p.still ∷ c) ++ map bit_drawn (q ∷ ps))
    (length (replicate p.low x ++ replicate p.still 0 ++ rest_of)) (p.low + (p.still + length rest_of))
    (ap (hear t (state_of t b)) (regroup (replicate p.low x) (replicate p.still 0) rest_of more) ∙ hear-both t g b p clean before w.0 w.1 w.2 w.3 (rest_of ++ more))
    (sym (ap (λ (y : List ℕ). y ++ map bit_drawn (q ∷ ps)) (idle-bits c p.still ∙ pulse-bits t g b p clean before w.0 w.1) ∙ append_assoc (bits_in b) (bit_drawn p ∷ []) (map bit_drawn (q ∷ ps))))
    (sizes p.low x p.still rest_of)
    (gives-later p.low (later p.still h) _ _ (gives-later p.still h _ _ r))

pub drawn-then-heard : DrawnThenHeard
unfolding all_pulses bits_in
drawn-then-heard =
    record {
      heard = λ t e p ps w few quiet more a c.
          let g = good t e in
          let r = hear-drawn t g ps p [] w refl refl (omega arith) more in
          let s : hear t rest_state (replicate quiet 0 ++ drawn (p ∷ ps) ++ more) ≡ later quiet (hear t rest_state (drawn (p ∷ ps) ++ more))
          = ap (hear t rest_state) (append_assoc (replicate quiet 0) (drawn (p ∷ ps)) more) ∙ hear-run t rest_state rest_state 0 idle quiet (drawn (p ∷ ps) ++ more) refl (rest-idle t g quiet) in
          let is : a ≡ answered (later quiet (hear t rest_state (drawn (p ∷ ps) ++ more)))
          = heard-by rest_state t.least t.most t.gap (replicate quiet 0 ++ drawn (p ∷ ps) ++ more) a e c
          ∙ ap (λ (n : SoFar). answered (hear t n (replicate quiet 0 ++ drawn (p ∷ ps) ++ more))) (meant_itself rest_state (is-legal rest)) ∙ ap answered s in (
            ap (λ (x : LinesTold). x.number) is ∙ ap (λ (x : Said). x.number) r.told,
            ap (λ (x : LinesTold). (said x).bits) is ∙ ap (λ (x : Said). x.bits) r.told,
            ap (λ (x : LinesTold). x.taken) is ∙ ap (λ (n : ℕ). quiet + n) r.took,
          );
    }
