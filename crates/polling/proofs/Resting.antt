-- Whether the lines are at rest: idle leaves them so, and once something is open or a line is low no sample leaves them at rest that closes nothing. Assumes
-- nothing.
use mathlib.Core.Path.{◌≡◌, refl, sym, ap, subst, ◌∙◌}
use mathlib.Core.Bool.{Bool, true, false, ◌&&◌, ◌||◌, true≢false}
use Prim.Native.Nat.{ℕ, ◌+◌, ◌≤◌, min}
use native.Mathlib.Omega.{arith}
use lib.Dec.{eqb, leb, ltb}
use borrow.Author.Tests.{eqb-true, ne_eqb, leb-true, not-true}
use Rattle.frame.specs.Pick.{pick, within}
use Rattle.frame.proofs.Both.{both}
use Rattle.lines.specs.declared.SoFar.{SoFar}
use Rattle.lines.specs.Sample.{Sample, idle, mark, space, both as bothLow, foreign}
use Rattle.lines.specs.Timing.{Timing}
use Rattle.lines.specs.SoFar.{so_far, rest_state, spoilt_by, has_no_bits, is_rest, is_between, is_in_run, is_spoilt, pads_clear, is_open, legal, meant}
use Rattle.lines.specs.Step.{with_bit, run_ended, longer_idle, after_idle, after_low, after_both, after, closes}
use Rattle.lines.specs.Inside.Safe.{Safe}
use Rattle.lines.proofs.Cases.{of-pick, either}
use Rattle.lines.proofs.Kept.{kept, bare}
use Rattle.polling.specs.Inside.Ears.{quiet, Ready}

-- Rest is all zeros.
pub rest-is : (s : SoFar) → is_rest s ≡ true → s ≡ rest_state
rest-is s e =
    let a = both (eqb s.fault 0 && eqb s.line 0 && has_no_bits s) (eqb s.run 0) e in
    let b = both (eqb s.fault 0 && eqb s.line 0) (has_no_bits s) a.0 in
    let c = both (eqb s.fault 0) (eqb s.line 0) b.0 in
    let d = both (eqb s.bits 0) (eqb s.count 0) b.1 in
    let bits = eqb-true s.bits 0 d.0 in
    let run = eqb-true s.run 0 a.1 in
    let count = eqb-true s.count 0 d.1 in
    let line = eqb-true s.line 0 c.1 in
    let fault = eqb-true s.fault 0 c.0 in
    λ i. so_far (bits i) (run i) (count i) (line i) (fault i)

-- Lines that are not quiet are not at rest.
pub loud : (s : SoFar) → quiet s ≡ false → is_rest s ≡ false
loud s q = go (is_rest s) refl
  where
    go : (b : Bool) → is_rest s ≡ b → is_rest s ≡ false
    go false e = e
    go true e = absurd (true≢false (sym (ap quiet (rest-is s e)) ∙ q))

-- A line low, and both, leave them loud; so does any sample that finds them so.
low-loud : (line : ℕ) → 1 ≤ line → (s : SoFar) → quiet (after_low line s) ≡ false
unfolding after_low
low-loud line some s =
    let up : eqb line 0 ≡ false = ne_eqb line 0 (λ e. omega arith) in
    of-pick (λ (n : SoFar). quiet n ≡ false) (eqb s.fault 0)
    (pick (eqb s.line 0) (so_far s.bits 1 s.count line 0)
    (pick (eqb s.line line) (so_far s.bits (min (s.run + 1) 1001) s.count line 0) (spoilt_by 21 0)))
    (spoilt_by s.fault 0)
    (λ e. of-pick (λ (n : SoFar). quiet n ≡ false) (eqb s.line 0) (so_far s.bits 1 s.count line 0)
    (pick (eqb s.line line) (so_far s.bits (min (s.run + 1) 1001) s.count line 0) (spoilt_by 21 0))
    (λ e. ap (λ (b : Bool). b && eqb s.count 0 && true) up)
    (λ e. of-pick (λ (n : SoFar). quiet n ≡ false) (eqb s.line line) (so_far s.bits (min (s.run + 1) 1001) s.count line 0) (spoilt_by 21 0)
    (λ e. ap (λ (b : Bool). b && eqb s.count 0 && true) up)
    (λ e. refl)))
    (λ e. e)

both-loud : (number : ℕ) → 1 ≤ number → (s : SoFar) → quiet (after_both number s) ≡ false
unfolding after_both
both-loud number some s = of-pick (λ (n : ℕ). quiet (spoilt_by n 0) ≡ false) (eqb s.fault 22) 22 number (λ e. refl) (λ e. ne_eqb number 0 (λ e. omega arith))

ended-loud : (least most : ℕ) (s : SoFar) → quiet (run_ended least most s) ≡ false
unfolding run_ended with_bit
ended-loud least most s =
    of-pick (λ (n : SoFar). quiet n ≡ false) (within least most s.run && ltb s.count 64) (with_bit s) (spoilt_by 21 1)
    (λ e. ap (λ (b : Bool). b && true) (ne_eqb (s.count + 1) 0 (λ e. omega arith)))
    (λ e. refl)

longer-loud : (s : SoFar) → quiet s ≡ false → quiet (longer_idle s) ≡ false
unfolding longer_idle
longer-loud s q =
    of-pick (λ (n : SoFar). quiet n ≡ false) (is_open s) (so_far s.bits (s.run + 1) s.count 0 s.fault) s
    (λ e. not-true (eqb s.count 0 && eqb s.fault 0) e)
    (λ e. q)

idle-loud : (least most : ℕ) (s : SoFar) → quiet s ≡ false → quiet (after_idle least most s) ≡ false
unfolding after_idle
idle-loud least most s q =
    of-pick (λ (n : SoFar). quiet n ≡ false) (eqb s.line 0) (longer_idle s) (run_ended least most s) (λ e. longer-loud s q) (λ e. ended-loud least most s)

pub stays-loud : (t : Timing) (s : SoFar) → quiet s ≡ false → (k : Sample) → quiet (after t s k) ≡ false
stays-loud t s q idle = idle-loud t.least t.most s q
stays-loud t s q mark = low-loud 1 (omega arith) s
stays-loud t s q space = low-loud 2 (omega arith) s
stays-loud t s q bothLow = both-loud 21 (omega arith) s
stays-loud t s q foreign = both-loud 22 (omega arith) s

-- From rest, a sample leaves them at rest or loud.
abbrev Heeds : SoFar → Type 0
Heeds n = quiet n ≡ true → is_rest n ≡ true

is-loud : (n : SoFar) → quiet n ≡ false → Heeds n
is-loud n q e = absurd (true≢false (sym e ∙ q))

from-rest : (t : Timing) (k : Sample) → Heeds (after t rest_state k)
unfolding after_idle longer_idle
from-rest t idle = λ e. refl
from-rest t mark = is-loud (after_low 1 rest_state) (low-loud 1 (omega arith) rest_state)
from-rest t space = is-loud (after_low 2 rest_state) (low-loud 2 (omega arith) rest_state)
from-rest t bothLow = is-loud (after_both 21 rest_state) (both-loud 21 (omega arith) rest_state)
from-rest t foreign = is-loud (after_both 22 rest_state) (both-loud 22 (omega arith) rest_state)

module _ (t : Timing) (s : SoFar) (ready : Ready s) where
  -- what is not at rest is loud
  woken : is_rest s ≡ false → quiet s ≡ false
  woken e = go (quiet s) refl
    where
      go : (b : Bool) → quiet s ≡ b → quiet s ≡ false
      go false q = q
      go true q = absurd (true≢false (sym (ready.quiet_rests q) ∙ e))

  heeds-after : (k : Sample) → Heeds (after t s k)
  heeds-after k = go (is_rest s) refl
    where
      go : (b : Bool) → is_rest s ≡ b → Heeds (after t s k)
      go true e = subst (λ (n : SoFar). Heeds (after t n k)) (sym (rest-is s e)) (from-rest t k)
      go false e = is-loud (after t s k) (stays-loud t s (woken e) k)

  -- a sample that closes nothing leaves them ready
  pub ready-after : t.gap ≤ 10000 → (k : Sample) → closes t (after t s k) ≡ false → Ready (after t s k)
  ready-after gap k on = record { safe = (kept t s gap ready.safe k).1 on; quiet_rests = heeds-after k }

  pub up-after : (k : Sample) → is_rest s ≡ false → is_rest (after t s k) ≡ false
  up-after k e = loud (after t s k) (stays-loud t s (woken e) k)

  -- what closes has a bit, or is spoiled
  pub closes-some : 1 ≤ t.gap → (k : Sample) → closes t (after t s k) ≡ true → (eqb (after t s k).count 0 && eqb (after t s k).fault 0) ≡ false
  closes-some gap k e = go (eqb (after t s k).count 0 && eqb (after t s k).fault 0) refl
    where
      n : SoFar
      n = after t s k

      go : (b : Bool) → (eqb n.count 0 && eqb n.fault 0) ≡ b → (eqb n.count 0 && eqb n.fault 0) ≡ false
      go false q = q
      go true q =
          let shut = both (eqb n.line 0) (leb t.gap n.run) e in
          let two = both (eqb n.count 0) (eqb n.fault 0) q in
          let still : quiet n ≡ true = ap (λ (b : Bool). b && eqb n.count 0 && eqb n.fault 0) shut.0 ∙ ap (λ (b : Bool). b && eqb n.fault 0) two.0 ∙ two.1 in
          let none : n.run ≡ 0 = ap (λ (m : SoFar). m.run) (rest-is n (heeds-after k still)) in
          let some = leb-true t.gap n.run shut.1 in
          absurd (omega arith)

-- The beginning is ready, and so is what any state means.
pub rest-ready : Ready rest_state
rest-ready = record { safe = bare 0 0 (omega arith); quiet_rests = λ e. refl }

between-loud : (s : SoFar) → is_between s ≡ true → quiet s ≡ false
between-loud s e =
    let a = both (eqb s.fault 0 && eqb s.line 0 && leb 1 s.count && pads_clear s) (within 1 9999 s.run) e in
    let b = both (eqb s.fault 0 && eqb s.line 0 && leb 1 s.count) (pads_clear s) a.0 in
    let c = both (eqb s.fault 0 && eqb s.line 0) (leb 1 s.count) b.0 in
    let d = both (eqb s.fault 0) (eqb s.line 0) c.0 in
    let some = leb-true 1 s.count c.1 in
    ap (λ (b : Bool). b && eqb s.count 0 && eqb s.fault 0) d.1 ∙ ap (λ (b : Bool). b && eqb s.fault 0) (ne_eqb s.count 0 (λ e. omega arith))

run-loud : (s : SoFar) → is_in_run s ≡ true → quiet s ≡ false
run-loud s e =
    let a = both (eqb s.fault 0 && within 1 2 s.line && pads_clear s) (within 1 1001 s.run) e in
    let b = both (eqb s.fault 0 && within 1 2 s.line) (pads_clear s) a.0 in
    let c = both (eqb s.fault 0) (within 1 2 s.line) b.0 in
    let some = leb-true 1 s.line (both (leb 1 s.line) (leb s.line 2) c.1).0 in
    ap (λ (b : Bool). b && eqb s.count 0 && eqb s.fault 0) (ne_eqb s.line 0 (λ e. omega arith))

spoilt-loud : (s : SoFar) → is_spoilt s ≡ true → quiet s ≡ false
spoilt-loud s e =
    let a = both (within 21 22 s.fault && eqb s.line 0 && has_no_bits s) (leb s.run 9999) e in
    let b = both (within 21 22 s.fault && eqb s.line 0) (has_no_bits s) a.0 in
    let c = both (within 21 22 s.fault) (eqb s.line 0) b.0 in
    let some = leb-true 21 s.fault (both (leb 21 s.fault) (leb s.fault 22) c.0).0 in
    let d = both (eqb s.bits 0) (eqb s.count 0) b.1 in
    ap (λ (b : Bool). b && eqb s.count 0 && eqb s.fault 0) c.1 ∙ ap (λ (b : Bool). b && eqb s.fault 0) d.1 ∙ ne_eqb s.fault 0 (λ e. omega arith)

legal-heeds : (s : SoFar) → legal s ≡ true → Heeds s
unfolding legal
legal-heeds s e =
    either (is_rest s || is_between s || is_in_run s) (is_spoilt s) e
    (λ e. either (is_rest s || is_between s) (is_in_run s) e
    (λ e. either (is_rest s) (is_between s) e (λ e. λ q. e) (λ e. is-loud s (between-loud s e))) (λ e. is-loud s (run-loud s e)))
    (λ e. is-loud s (spoilt-loud s e))

pub meant-ready : (s : SoFar) → Safe (meant s) → Ready (meant s)
unfolding meant
meant-ready s safe = record { safe = safe; quiet_rests = of-pick Heeds (legal s) s (spoilt_by 21 0) (λ e. legal-heeds s e) (λ e. is-loud (spoilt_by 21 0) refl) }
