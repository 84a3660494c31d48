-- Samples like the last one: what so many of them do one by one is what `grown` says, up to the one that closes. Assumes nothing.
use mathlib.Core.Path.{◌≡◌, refl, sym, ap, subst, ◌∙◌}
use mathlib.Core.Bool.{Bool, true, false, ◌&&◌}
use mathlib.Core.List.{List}
use Prim.Native.Nat.{ℕ, zero, suc, ◌+◌, ◌-◌, ◌<◌, ◌≤◌, min}
use native.Mathlib.Omega.{arith}
use borrow.Author.Tests.{eq-eqb, ne_eqb, eqb-true, leb-false, le-leb, lt-leb}
use lib.Dec.{eqb, leb, ltb}
use lib.ListN.{length, get_or, drop}
use Rattle.frame.specs.Pick.{pick}
use Rattle.lines.specs.declared.SoFar.{SoFar}
use Rattle.lines.specs.Sample.{sample_of}
use Rattle.lines.specs.Timing.{Timing}
use Rattle.lines.specs.SoFar.{so_far, spoilt_by, rest_state, is_open}
use Rattle.lines.specs.Step.{with_bit, run_ended, longer_idle, after_idle, after_low, after_both, after, closes}
use Rattle.lines.specs.Hearing.{hearing, told_of, later, hear}
use Rattle.lines.specs.Inside.Runs.{Alike, endless, wanted_of, grown}
use Rattle.lines.specs.Inside.Safe.{Safe}
use Rattle.lines.proofs.Cases.{of-pick}
use Rattle.lines.proofs.Steps.{next-closed, next-open, low-sample, foreign-sample}

-- What a sample leaves, by what more of the same do: nothing; the idle run is longer; the run of marks or of spaces is longer.
pub data Kind (t : Timing) (x : ℕ) (s : SoFar) : Type 0 where
  still : eqb x 0 && is_open s ≡ false → ((k : ℕ) → grown x k s ≡ s) → after t s (sample_of x) ≡ s → Kind t x s
  idles : x ≡ 0 → s.line ≡ 0 → is_open s ≡ true → Kind t x s
  lows : 1 ≤ x → x ≤ 2 → s.line ≡ x → s.fault ≡ 0 → s.run ≤ 1001 → Kind t x s

-- an idle sample leaves idle
idle-line : (least most : ℕ) (s : SoFar) → (after_idle least most s).line ≡ 0
unfolding after_idle longer_idle run_ended with_bit
idle-line least most s =
    of-pick (λ (n : SoFar). n.line ≡ 0) (eqb s.line 0) (longer_idle s) (run_ended least most s)
    (λ e. of-pick (λ (n : SoFar). n.line ≡ 0) (is_open s) (so_far s.bits (s.run + 1) s.count 0 s.fault) s (λ o. refl) (λ o. eqb-true s.line 0 e))
    (λ e. of-pick (λ (n : SoFar). n.line ≡ 0) (leb least s.run && leb s.run most && ltb s.count 64) (with_bit s) (spoilt_by 21 1) (λ o. refl) (λ o. refl))

-- where nothing is open, an idle sample more changes nothing
idle-kind : (t : Timing) (s : SoFar) → s.line ≡ 0 → Kind t 0 s
unfolding grown after_idle longer_idle
idle-kind t s line = go (is_open s) refl
  where
    go : (b : Bool) → is_open s ≡ b → Kind t 0 s
    go true e = idles refl line e
    go false e = still e (λ k. simp e) (simp (eq-eqb s.line 0 line, e))

-- a spoiled message stays what it is
spoilt-kind : (t : Timing) (x f : ℕ) → 1 ≤ x → after t (spoilt_by f 0) (sample_of x) ≡ spoilt_by f 0 → Kind t x (spoilt_by f 0)
unfolding grown
spoilt-kind t x f h e =
    let low : eqb x 0 ≡ false = ne_eqb x 0 (omega arith) in
    still (simp low) (λ k. simp low) e

low-kind : (t : Timing) (x : ℕ) (s : SoFar) → 1 ≤ x → x ≤ 2 → Kind t x (after_low x s)
unfolding after_low
low-kind t x s h l =
    of-pick (Kind t x) (eqb s.fault 0)
    (pick (eqb s.line 0) (so_far s.bits 1 s.count x 0)
    (pick (eqb s.line x) (so_far s.bits (min (s.run + 1) 1001) s.count x 0) (spoilt_by 21 0)))
    (spoilt_by s.fault 0)
    (λ e. of-pick (Kind t x) (eqb s.line 0) (so_far s.bits 1 s.count x 0)
    (pick (eqb s.line x) (so_far s.bits (min (s.run + 1) 1001) s.count x 0) (spoilt_by 21 0))
    (λ e. lows h l refl refl (omega arith))
    (λ e. of-pick (Kind t x) (eqb s.line x) (so_far s.bits (min (s.run + 1) 1001) s.count x 0) (spoilt_by 21 0)
    (λ e. lows h l refl refl (omega arith))
    (λ e. spoilt-kind t x 21 h (sym (low-sample t (spoilt_by 21 0) x h l)))))
    (λ e. spoilt-kind t x s.fault h (sym (low-sample t (spoilt_by s.fault 0) x h l) ∙ simp e))

both-kind : (t : Timing) (s : SoFar) → Kind t 3 (after_both 21 s)
unfolding after_both
both-kind t s =
    of-pick (λ (f : ℕ). Kind t 3 (spoilt_by f 0)) (eqb s.fault 22) 22 21 (λ e. spoilt-kind t 3 22 (omega arith) refl) (λ e. spoilt-kind t 3 21 (omega arith) refl)

foreign-kind : (t : Timing) (x : ℕ) (s : SoFar) → 3 < x → Kind t x (after_both 22 s)
unfolding after_both
foreign-kind t x s h =
    of-pick (λ (f : ℕ). Kind t x (spoilt_by f 0)) (eqb s.fault 22) 22 22 (λ e. again) (λ e. again)
  where
    again : Kind t x (spoilt_by 22 0)
    again = spoilt-kind t x 22 (omega arith) (sym (foreign-sample t (spoilt_by 22 0) x h))

-- Whatever a sample leaves is of a kind.
pub kind : (t : Timing) (x : ℕ) (s : SoFar) → Kind t x (after t s (sample_of x))
kind t zero s = idle-kind t (after t s (sample_of 0)) (idle-line t.least t.most s)
kind t (suc zero) s = low-kind t 1 s (omega arith) (omega arith)
kind t (suc (suc zero)) s = low-kind t 2 s (omega arith) (omega arith)
kind t (suc (suc (suc zero))) s = both-kind t s
kind t (suc (suc (suc (suc x)))) s =
    let above : 3 < suc (suc (suc (suc x))) = omega arith in
    subst (Kind t (suc (suc (suc (suc x))))) (foreign-sample t s (suc (suc (suc (suc x)))) above) (foreign-kind t (suc (suc (suc (suc x)))) s above)

-- Samples like the last one, in a batch.
module _ (t : Timing) (x : ℕ) (s : SoFar) (gap : t.gap ≤ 10000) (safe : Safe s) (own : Kind t x s) (on : closes t s ≡ false) where
  abbrev wanted : ℕ
  wanted = wanted_of t.gap x s

  -- none of them is none
  none_more : (k : Kind t x s) → grown x 0 s ≡ s
  unfolding grown
  none_more (still w same e) = same 0
  none_more (idles z line o) =
      let run : min (s.run + 0) 10000 ≡ s.run = omega (arith, safe.run) in
      simp (eq-eqb x 0 z, o, run)
  none_more (lows h l line fault r) =
      let run : min (s.run + 0) 1001 ≡ s.run = omega arith in
      simp (ne_eqb x 0 (omega arith), ne_eqb s.line 0 (omega arith), run)

  -- one more
  one_more : (k : Kind t x s) (n : ℕ) → n < wanted → grown x (n + 1) s ≡ after t (grown x n s) (sample_of x)
  unfolding grown wanted_of after_idle longer_idle after_low
  one_more (still w same e) n h = same (n + 1) ∙ sym e ∙ ap (λ (u : SoFar). after t u (sample_of x)) (sym (same n))
  one_more (idles z line o) n h =
      let more : n < t.gap - s.run = simp (eq-eqb x 0 z, o) at h in
      let run : min (s.run + (n + 1)) 10000 ≡ min (s.run + n) 10000 + 1 = omega arith in
      simp (eq-eqb x 0 z, o, run, eq-eqb s.line 0 line) (λ i. so_far s.bits (min (s.run + n) 10000 + 1) s.count (line i) s.fault)
  one_more (lows h l line fault r) n w =
      let idle : eqb x 0 ≡ false = ne_eqb x 0 (omega arith) in
      let low : eqb s.line 0 ≡ false = ne_eqb s.line 0 (omega arith) in
      let this : (m : ℕ) → grown x m s ≡ so_far s.bits (min (s.run + m) 1001) s.count s.line 0
      = λ m. simp (idle, low) (λ i. so_far s.bits (min (s.run + m) 1001) s.count s.line (fault i)) in
      let run : min (s.run + (n + 1)) 1001 ≡ min (min (s.run + n) 1001 + 1) 1001 = omega arith in
      let now = so_far s.bits (min (s.run + n) 1001) s.count s.line 0 in
      let next : after_low x now ≡ so_far s.bits (min (min (s.run + n) 1001 + 1) 1001) s.count x 0 = simp (low, eq-eqb s.line x line) in
      this (n + 1) ∙ (λ i. so_far s.bits (run i) s.count (line i) 0) ∙ sym next ∙ low-sample t now x h l
      ∙ ap (λ (u : SoFar). after t u (sample_of x)) (sym (this n))

  -- closes nothing before the last one wanted
  not_yet : (k : Kind t x s) (n : ℕ) → n < wanted → closes t (grown x n s) ≡ false
  unfolding grown wanted_of
  not_yet (still w same e) n h = ap (closes t) (same n) ∙ on
  not_yet (idles z line o) n h =
      let more : n < t.gap - s.run = simp (eq-eqb x 0 z, o) at h in
      simp (eq-eqb x 0 z, o, eq-eqb s.line 0 line, lt-leb t.gap (min (s.run + n) 10000) (omega arith))
  not_yet (lows h l line fault r) n w =
      let low : eqb s.line 0 ≡ false = ne_eqb s.line 0 (omega arith) in
      simp (ne_eqb x 0 (omega arith), low)

  pub grown-safe : (k : ℕ) → Safe (grown x k s)
  unfolding grown
  grown-safe k =
      let idle = so_far s.bits (min (s.run + k) 10000) s.count s.line s.fault in
      let low = so_far s.bits (min (s.run + k) 1001) s.count s.line s.fault in
      of-pick Safe (eqb x 0) (pick (is_open s) idle s) (pick (eqb s.line 0) s low)
      (λ e. of-pick Safe (is_open s) idle s (λ o. record { count = safe.count; pads = safe.pads; run = omega arith }) (λ o. safe))
      (λ e. of-pick Safe (eqb s.line 0) s low (λ o. safe) (λ o. record { count = safe.count; pads = safe.pads; run = omega arith }))

  -- So many more that close nothing, at once.
  pub many_more : (xs : List ℕ) (i k : ℕ) → k < wanted → i + k ≤ length xs → Alike xs i (i + k) x
      → later i (hear t s (drop i xs)) ≡ later (i + k) (hear t (grown x k s) (drop (i + k) xs))
  many_more xs i zero h l alike =
      let here : i ≡ i + 0 = omega arith in
      λ j. later (here j) (hear t (sym (none_more own) j) (drop (here j) xs))
  many_more xs i (suc k) h l alike =
      let place : i + k + 1 ≡ i + suc k = omega arith in
      let count : k + 1 ≡ suc k = omega arith in
      let sample : get_or xs (i + k) 0 ≡ x = alike (i + k) (omega arith) (omega arith) in
      let step : grown x (k + 1) s ≡ after t (grown x k s) (sample_of (get_or xs (i + k) 0)) =
      one_more own k (omega arith) ∙ ap (λ (b : ℕ). after t (grown x k s) (sample_of b)) (sym sample) in
      many_more xs i k (omega arith) (omega arith) (λ j a b. alike j a (omega arith))
      ∙ next-open t (grown x k s) (grown x (k + 1) s) xs (i + k) (omega arith) step (not_yet own (k + 1) (omega arith))
      ∙ (λ j. later (place j) (hear t (grown x (count j) s) (drop (place j) xs)))

  -- the last one wanted closes, and tells what is open
  at_last : (k : Kind t x s) (n : ℕ) → n + 1 ≡ wanted → n + 1 < endless → (closes t (grown x (n + 1) s) ≡ true) × (told_of (grown x (n + 1) s) ≡ told_of s)
  unfolding grown wanted_of
  at_last (still w same e) n h l =
      let far : n + 1 ≡ endless = h ∙ simp w in
      absurd (omega arith)
  at_last (idles z line o) n h l =
      let last : n + 1 ≡ t.gap - s.run = h ∙ simp (eq-eqb x 0 z, o) in
      (simp (eq-eqb x 0 z, o, eq-eqb s.line 0 line, le-leb t.gap (min (s.run + (n + 1)) 10000) (omega arith)), simp (eq-eqb x 0 z, o))
  at_last (lows h l line fault r) n e w =
      let far : n + 1 ≡ endless = e ∙ simp (ne_eqb x 0 (omega arith)) in
      absurd (omega arith)

  -- as many as are wanted are some
  some-wanted : (k : Kind t x s) → 1 ≤ wanted
  unfolding wanted_of
  some-wanted (still w same e) = simp w (omega arith)
  some-wanted (idles z line o) =
      let below : s.run < t.gap = leb-false t.gap s.run (simp (eq-eqb s.line 0 line) at on) in
      simp (eq-eqb x 0 z, o) (omega arith)
  some-wanted (lows h l line fault r) = simp (ne_eqb x 0 (omega arith)) (omega arith)

  -- As many as are wanted close.
  pub enough-more : (xs : List ℕ) (i n : ℕ) → n ≡ wanted → n < endless → i + n ≤ length xs → Alike xs i (i + n) x
      → later i (hear t s (drop i xs)) ≡ hearing (told_of s) rest_state (i + n)
  enough-more xs i zero e l h alike = absurd (omega (arith, some-wanted own, e))
  enough-more xs i (suc k) e l h alike =
      let place : i + k + 1 ≡ i + suc k = omega arith in
      let sample : get_or xs (i + k) 0 ≡ x = alike (i + k) (omega arith) (omega arith) in
      let step : grown x (k + 1) s ≡ after t (grown x k s) (sample_of (get_or xs (i + k) 0)) =
      one_more own k (omega (arith, e)) ∙ ap (λ (b : ℕ). after t (grown x k s) (sample_of b)) (sym sample) in
      let last = at_last own k (omega (arith, e)) (omega arith) in
      many_more xs i k (omega (arith, e)) (omega arith) (λ j a b. alike j a (omega arith))
      ∙ next-closed t (grown x k s) (grown x (k + 1) s) xs (i + k) (omega arith) step last.0
      ∙ (λ j. hearing (last.1 j) rest_state (place j))
