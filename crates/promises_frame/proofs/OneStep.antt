-- One step, one bit. Of two neighbours in a row either the digits below the top one are neighbours, or they end and begin again: there the chart below is
-- turned, so that the ends meet and only the top digit's code changes. A reply holds a mode's digits among zeros.
use mathlib.Core.Path.{◌≡◌, refl, sym, ap, ap₂, subst, ◌∙◌}
use mathlib.Core.Logic.{◌⊎◌, inl, inr}
use mathlib.Core.Bool.{Bool, true, false, not}
use mathlib.Core.List.{List, [], ◌∷◌}
use Prim.Native.Nat.{ℕ, ◌+◌, ◌-◌, ◌*◌, ◌/◌, ◌%◌, ◌^◌, ◌<◌, ◌≤◌}
use native.Mathlib.Omega.{arith}
use native.Mathlib.Nat.{div-add-mod', mod-lt, lt_of_le_of_lt, zero-div, zero-mod}
use lib.Arith.{digits_div, digits_mod, mul_pred}
use lib.ListN.{get_or}
use Rattle.frame.specs.declared.Reading.{Reading}
use Rattle.frame.specs.Pick.{pick}
use Rattle.frame.specs.Line.{line, field, bit}
use Rattle.frame.specs.Charts.{Chart, size_of, is_odd, turned, code_of, one_bit, two_bits, feet_tens, decimal, inches, sixteenths}
use Rattle.frame.specs.Level.{Mode, known, width_of, values_of, write_row, mode_of, fractional_mode, decimal_mode, twenty_metre_mode, thirty_metre_mode, last_bit_of, digits_of, level_of}
use Rattle.frame.specs.Temperature.{is_absent}
use Rattle.frame.specs.Reply.{mode_in, size_for, reply_line}
use Rattle.frame.proofs.EachMode.{every-mode}
use Rattle.promises_frame.specs.Bits.{AreBytes, bit_at}
use Rattle.promises_frame.specs.Calls.{ReplyLeft}
use Rattle.promises_frame.specs.OneStep.{OneDiffers, bit_in, OneBitApart, Stepwise, StepwiseRow, Neighbours, OneStep}
use Rattle.promises_frame.proofs.Cases.{by-lt}
use Rattle.promises_frame.proofs.Fields.{within}
use Rattle.promises_frame.proofs.Bytes.{bit-line, bits-written}
use Rattle.promises_frame.proofs.Lines.{same-field}
use Rattle.promises_frame.proofs.Narrow.{NarrowRow, values-pos, digit_lt, fits}
use Rattle.promises_frame.proofs.Levels.{fit, digits_in, digits-fit, level-known}
use Rattle.promises_frame.proofs.LevelPlace.{placed}
use Rattle.promises_frame.proofs.ReplySent.{sent}
use Rattle.promises_frame.proofs.ReplyHeard.{size_small}
use Rattle.promises_frame.proofs.WrittenThenRead.{left-first}
use Rattle.promises_frame.proofs.OneBit.{turned_round, moved, mixed, upper-step, lower-step, among-zeros}
use Rattle.promises_frame.proofs.StepwiseCharts.{one_bit-stepwise, two_bits-stepwise, feet_tens-stepwise, decimal-stepwise, inches-stepwise, sixteenths-stepwise}

narrow : (row : List Chart) → StepwiseRow row → NarrowRow row
narrow [] ok = tt
narrow (c ∷ cs) ok = (record { some = ok.0.some; within = ok.0.within }, narrow cs ok.1)

-- After an odd digit comes an even one, and after an even digit an odd one.
odd-next : (d : ℕ) → is_odd (d + 1) ≡ not (is_odd d)
odd-next d =
    by-lt (d % 2) 1
    (λ h.
    let now : d % 2 ≡ 0 = omega arith in
    let next : (d + 1) % 2 ≡ 1 = omega arith in
    rw (now, next))
    (λ h.
    let now : d % 2 ≡ 1 = omega arith in
    let next : (d + 1) % 2 ≡ 0 = omega arith in
    rw (now, next))

-- The last digit of an even number of them is odd.
odd-last : (size : ℕ) → 0 < size → size % 2 ≡ 0 → is_odd (size - 1) ≡ true
odd-last size some even =
    let last : (size - 1) % 2 ≡ 1 = omega arith in
    rw last

-- The code of a chart's first digit is that of its last where the chart is turned.
code-ends : (c : Chart) → 0 < size_of c → (b : Bool) → code_of (not b) c 0 ≡ code_of b c (size_of c - 1)
unfolding turned
code-ends c some true =
    let first : 0 ≡ size_of c - 1 - (size_of c - 1) = omega arith in
    ap (λ (i : ℕ). get_or c.codes i 0) first
code-ends c some false =
    let last : size_of c - 1 - 0 ≡ size_of c - 1 = omega arith in
    ap (λ (i : ℕ). get_or c.codes i 0) last

-- The ends meet: a row's first value after an odd digit is written as its last value after an even one, and the other way round.
ends-meet : (row : List Chart) → StepwiseRow row → (b : Bool) → write_row row (not b) 0 ≡ write_row row b (values_of row - 1)
unfolding write_row values_of
ends-meet [] ok b = refl
ends-meet (c ∷ cs) ok b =
    let many : ℕ = values_of cs in
    let p : 0 < many = values-pos cs (narrow cs ok.1) in
    let l : many - 1 < many = omega arith in
    let last : size_of c * many - 1 ≡ (size_of c - 1) * many + (many - 1) = mul_pred ok.0.some p in
    let digit : (size_of c * many - 1) / many ≡ size_of c - 1 = ap (λ (n : ℕ). n / many) last ∙ digits_div (size_of c - 1) l in
    let rest : (size_of c * many - 1) % many ≡ many - 1 = ap (λ (n : ℕ). n % many) last ∙ digits_mod (size_of c - 1) l in
    rw (zero-div many, zero-mod many, digit, rest, odd-last (size_of c) ok.0.some ok.0.even)
    (ap₂ (λ (x y : ℕ). x * 2 ^ width_of cs + y) (code-ends c ok.0.some b) (ends-meet cs ok.1 true))

-- Neighbouring digits' codes, in the chart as it stands and turned.
code_step : (c : Chart) → Stepwise c → (odd : Bool) (d : ℕ) → d + 1 < size_of c → OneBitApart c.width (code_of odd c d) (code_of odd c (d + 1))
unfolding turned
code_step c ok true d h =
    let i : ℕ = size_of c - 1 - (d + 1) in
    let up : i + 1 ≡ size_of c - 1 - d = omega arith in
    turned_round
    (subst (λ (k : ℕ). OneBitApart c.width (get_or c.codes i 0) (get_or c.codes k 0)) up (ok.neighbours i (omega arith)))
code_step c ok false d h = ok.neighbours d h

-- The next value by digit and rest: within the rest, or after its end. These are laws of their own since `omega` reads all that stands around it.
next-within : (v d r many : ℕ) → d * many + r ≡ v → v + 1 ≡ d * many + (r + 1)
next-within v d r many all = omega (arith, all)

rest-ends : (r many : ℕ) → r < many → many ≤ r + 1 → r ≡ many - 1
rest-ends r many low high = omega arith

next-after : (v d r many : ℕ) → d * many + r ≡ v → r < many → many ≤ r + 1 → v + 1 ≡ (d + 1) * many + 0
next-after v d r many all low high = omega (arith, all)

step : (row : List Chart) → StepwiseRow row → (odd : Bool) (v : ℕ) → v + 1 < values_of row
    → OneBitApart (width_of row) (write_row row odd v) (write_row row odd (v + 1))
unfolding write_row width_of values_of
step [] ok odd v h = absurd (omega arith)
step (c ∷ cs) ok odd v h =
    let many : ℕ = values_of cs in
    let p : 0 < many = values-pos cs (narrow cs ok.1) in
    let d : ℕ = v / many in
    let r : ℕ = v % many in
    let all : d * many + r ≡ v = div-add-mod' v many in
    let lo : ℕ = write_row cs (is_odd d) r in
    let under : lo < 2 ^ width_of cs = fits cs (narrow cs ok.1) (is_odd d) r (mod-lt v p) in
    by-lt (r + 1) many
    (λ k.
    let next : v + 1 ≡ d * many + (r + 1) = next-within v d r many all in
    let digit : (v + 1) / many ≡ d = ap (λ (n : ℕ). n / many) next ∙ digits_div d k in
    let rest : (v + 1) % many ≡ r + 1 = ap (λ (n : ℕ). n % many) next ∙ digits_mod d k in
    rw (digit, rest)
    (lower-step c.width (width_of cs) (code_of odd c d) lo (write_row cs (is_odd d) (r + 1)) under
    (fits cs (narrow cs ok.1) (is_odd d) (r + 1) k) (step cs ok.1 (is_odd d) r k)))
    (λ k.
    let last : r ≡ many - 1 = rest-ends r many (mod-lt v p) k in
    let next : v + 1 ≡ (d + 1) * many + 0 = next-after v d r many all (mod-lt v p) k in
    let digit : (v + 1) / many ≡ d + 1 = ap (λ (n : ℕ). n / many) next ∙ digits_div (d + 1) p in
    let rest : (v + 1) % many ≡ 0 = ap (λ (n : ℕ). n % many) next ∙ digits_mod (d + 1) p in
    let above : d + 1 < size_of c = subst (λ (n : ℕ). n < size_of c) digit (digit_lt c many (v + 1) p h) in
    let meet : write_row cs (is_odd (d + 1)) 0 ≡ lo =
    ap (λ (b : Bool). write_row cs b 0) (odd-next d) ∙ ends-meet cs ok.1 (is_odd d) ∙ ap (write_row cs (is_odd d)) (sym last) in
    rw (digit, rest, meet) (upper-step c.width (width_of cs) (code_of odd c d) (code_of odd c (d + 1)) lo under (code_step c ok.0 odd d above)))

-- The four modes.
modes : (k : ℕ) → StepwiseRow (mode_of k).row
unfolding fractional_mode decimal_mode twenty_metre_mode thirty_metre_mode
modes =
    every-mode (λ (m : Mode). StepwiseRow m.row)
    (feet_tens-stepwise, (decimal-stepwise, (inches-stepwise, (sixteenths-stepwise, tt))))
    (feet_tens-stepwise, (decimal-stepwise, (decimal-stepwise, (decimal-stepwise, tt))))
    (one_bit-stepwise, (decimal-stepwise, (decimal-stepwise, (decimal-stepwise, (decimal-stepwise, tt)))))
    (two_bits-stepwise, (decimal-stepwise, (decimal-stepwise, (decimal-stepwise, (decimal-stepwise, tt)))))

-- Bits 16 to 37 are a mode's digits and zeros around them.
around : (k : ℕ) → ((mode_of k).first - 16) + (width_of (mode_of k).row + (37 - last_bit_of (mode_of k))) ≡ 22
unfolding fractional_mode decimal_mode twenty_metre_mode thirty_metre_mode width_of one_bit two_bits feet_tens decimal inches sixteenths
around =
    every-mode (λ (m : Mode). (m.first - 16) + (width_of m.row + (37 - last_bit_of m)) ≡ 22) refl refl refl refl

level-step : (k v : ℕ) → v + 1 ≤ (mode_of k).largest
    → OneBitApart 22 (digits_of (mode_of k) v * 2 ^ (37 - last_bit_of (mode_of k))) (digits_of (mode_of k) (v + 1) * 2 ^ (37 - last_bit_of (mode_of k)))
level-step k v h =
    let m : Mode = mode_of k in
    let w : ℕ = width_of m.row in
    let apart : OneBitApart w (digits_of m v) (digits_of m (v + 1)) =
    rw (digits_in m v (omega arith), digits_in m (v + 1) h) (step m.row (modes k) false v (lt_of_le_of_lt h (fit k).room)) in
    subst (λ (n : ℕ). OneBitApart n (digits_of m v * 2 ^ (37 - last_bit_of m)) (digits_of m (v + 1) * 2 ^ (37 - last_bit_of m))) (around k)
    (among-zeros (m.first - 16) w (37 - last_bit_of m) (digits_of m v) (digits_of m (v + 1)) (digits-fit m (fit k) v) (digits-fit m (fit k) (v + 1)) apart)

-- The bits 16 to 37 of a reply that was left, by its line and by its level.
size-large : (absent : Bool) → 5 ≤ pick absent 5 7
size-large true = omega arith
size-large false = omega arith

in_bytes : (i size : ℕ) → 16 ≤ i → i ≤ 37 → 5 ≤ size → (1 ≤ i) × (i ≤ 8 * size)
in_bytes i size p q large = (omega arith, omega arith)

in-line : (i : ℕ) → 16 ≤ i → i ≤ 37 → (1 ≤ i) × (i ≤ 64)
in-line i p q = (omega arith, omega arith)

in-level : (i : ℕ) → 1 ≤ i → i ≤ 22 → (16 ≤ i + 15) × (i + 15 ≤ 37)
in-level i p q = (omega arith, omega arith)

level-place : (n i : ℕ) → 1 ≤ i → i ≤ 22 → bit n (i + 15) ≡ bit_in 22 (field n 16 37) i
level-place n i p q =
    let down : 37 - (i + 15) ≡ 22 - i = omega arith in
    let one : i + 15 + 1 - (i + 15) ≡ 1 = omega arith in
    within n 16 37 (i + 15) (i + 15) (omega arith) (omega arith) (omega arith) (omega arith)
    ∙ ap₂ (λ (x y : ℕ). field n 16 37 / 2 ^ x % 2 ^ y) down one

level-field : (n w : ℕ) → ((i : ℕ) → 16 ≤ i → i ≤ 37 → bit w i ≡ bit n i) → field w 16 37 ≡ field n 16 37
level-field n w e = same-field n w 16 37 (omega arith) (omega arith) e

one_less : (v w most : ℕ) → w ≡ v + 1 → w ≤ most → v ≤ most
one_less v w most e h = omega arith

module _ (settings address : ℕ) (r : Reading) (hs : settings ≤ 15) (ha : address ≤ 999) (bytes : List ℕ) (left : ReplyLeft settings address r bytes) where
  abbrev n : ℕ
  n = reply_line settings address r

  abbrev level : ℕ
  level = digits_of (mode_in settings) r.level * 2 ^ (37 - last_bit_of (mode_in settings))

  bit-left : (i : ℕ) → 16 ≤ i → i ≤ 37 → bit_at bytes i ≡ bit n i
  bit-left i p q =
      let inside = in_bytes i (size_for r) p q (size-large (is_absent r.temperature)) in
      ap (λ (s : List ℕ). bit_at s i) (left-first settings address r hs ha bytes left).1
      ∙ bits-written (size_for r) n i (size_small (is_absent r.temperature)) inside.0 inside.1

  level-bit : (i : ℕ) → 1 ≤ i → i ≤ 22 → bit_at bytes (i + 15) ≡ bit_in 22 level i
  level-bit i p q =
      let inside = in-level i p q in
      bit-left (i + 15) inside.0 inside.1 ∙ level-place n i p q
      ∙ ap (λ (x : ℕ). x / 2 ^ (22 - i) % 2) (sent settings address r ha).top.level

  -- Bytes with these bits hold this level.
  as-left : r.level ≤ (mode_in settings).largest → (t : List ℕ) → AreBytes t → ((i : ℕ) → 16 ≤ i → i ≤ 37 → bit_at t i ≡ bit_at bytes i)
      → level_of (mode_in settings) (line t) ≡ known r.level
  as-left h t ok same =
      let k : ℕ = settings % 4 in
      let m : Mode = mode_in settings in
      let bits : field (line t) 16 37 ≡ level =
      level-field n (line t) (λ i p q. bit-line t ok i (in-line i p q).0 (in-line i p q).1 ∙ same i p q ∙ bit-left i p q)
      ∙ (sent settings address r ha).top.level in
      level-known m (fit k) (line t) r.level ((placed k).holds (line t) (digits_of m r.level) (digits-fit m (fit k) r.level) bits).0 h

module _ (settings address : ℕ) (r s : Reading) (one next : List ℕ) (h : Neighbours settings address r s one next) where
  replies : OneDiffers 16 37 (bit_at one) (bit_at next)
  replies =
      let k : ℕ = settings % 4 in
      let m : Mode = mode_in settings in
      let range : r.level + 1 ≤ m.largest = subst (λ (v : ℕ). v ≤ m.largest) h.above h.level_in in
      let apart : OneBitApart 22 (digits_of m r.level * 2 ^ (37 - last_bit_of m)) (digits_of m s.level * 2 ^ (37 - last_bit_of m)) =
      subst (λ (v : ℕ). OneBitApart 22 (digits_of m r.level * 2 ^ (37 - last_bit_of m)) (digits_of m v * 2 ^ (37 - last_bit_of m))) (sym h.above)
      (level-step k r.level range) in
      moved 15 refl refl (level-bit settings address r h.settings_in h.address_in one h.one_left)
      (level-bit settings address s h.settings_in h.address_in next h.next-left) apart

  caught : (between : List ℕ) → AreBytes between
      → ((i : ℕ) → 16 ≤ i → i ≤ 37 → (bit_at between i ≡ bit_at one i) ⊎ (bit_at between i ≡ bit_at next i))
      → (level_of (mode_in settings) (line between) ≡ known r.level) ⊎ (level_of (mode_in settings) (line between) ≡ known s.level)
  caught between ok each = go (mixed replies (bit_at between) each)
    where
      go : ((i : ℕ) → 16 ≤ i → i ≤ 37 → bit_at between i ≡ bit_at one i) ⊎ ((i : ℕ) → 16 ≤ i → i ≤ 37 → bit_at between i ≡ bit_at next i)
          → (level_of (mode_in settings) (line between) ≡ known r.level) ⊎ (level_of (mode_in settings) (line between) ≡ known s.level)
      go (inl a) =
          let range = one_less r.level s.level (mode_in settings).largest h.above h.level_in in
          inl (as-left settings address r h.settings_in h.address_in one h.one_left range between ok a)
      go (inr b) = inr (as-left settings address s h.settings_in h.address_in next h.next-left h.level_in between ok b)

pub one-step : OneStep
one-step = record { row = step; modes = modes; replies = replies; caught = caught }
