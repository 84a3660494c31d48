-- The line of a written reply. It is a sum of parts, each within its own bits, so that each field is its part; and its parity is right.
use mathlib.Core.Path.{◌≡◌, refl, sym, ap, subst, ◌∙◌}
use mathlib.Core.Bool.{Bool, true, false, true≢false}
use Prim.Native.Nat.{ℕ, ◌+◌, ◌-◌, ◌*◌, ◌/◌, ◌%◌, ◌^◌, ◌<◌, ◌≤◌}
use native.Mathlib.Omega.{arith}
use native.Mathlib.Nat.{add_assoc, mod-lt}
use lib.Dec.{lit<}
use Rattle.frame.specs.Pick.{pick}
use Rattle.frame.specs.Line.{field, bit, put, mark, marks, first_bytes}
use Rattle.frame.specs.declared.Reading.{Reading}
use Rattle.frame.specs.Level.{Mode, digits_of, last_bit_of}
use Rattle.frame.specs.Temperature.{is_absent, put_heat}
use Rattle.frame.specs.Reply.{mode_in, is1800, odd_parity, size_for, count_for, body_of, parity_for, reply_line}
use Rattle.frame.proofs.Sums.{heat-low, no-heat}
use Rattle.promises_frame.proofs.Digits.{mark-lt, three}
use Rattle.promises_frame.proofs.Levels.{fit, digits-fit}
use Rattle.promises_frame.proofs.LevelPlace.{placed}
use Rattle.promises_frame.proofs.LastBit.{parity-law}

-- The parts above bit 40, over whatever stands from there on.
pub record Head (n x y z l p q : ℕ) : Type 0 where
  pub short : n < 2 ^ 64
  pub start : bit n 1 ≡ 1
  pub unused : field n 2 3 ≡ 0
  pub hundreds : field n 4 7 ≡ x
  pub tens : field n 8 11 ≡ y
  pub ones : field n 12 15 ≡ z
  pub level : field n 16 37 ≡ l
  pub alarm1 : bit n 38 ≡ p
  pub alarm0 : bit n 39 ≡ q

head : (n x y z l p q rest : ℕ) → n ≡ put 1 1 + (put x 7 + put y 11 + put z 15) + put l 37 + put p 38 + put q 39 + rest
    → x ≤ 9 → y ≤ 9 → z ≤ 9 → l < 2 ^ 22 → p < 2 → q < 2 → rest < 2 ^ 25 → Head n x y z l p q
head n x y z l p q rest e hx hy hz hl hp hq hr = omega arith

-- The bits from 40 on, under the others as one number c: a temperature and the parity, or the parity alone.
pub record Tail (n body heat parity : ℕ) (absent : Bool) : Type 0 where
  pub clear : n % 2 ^ (64 - 8 * pick absent 5 7) ≡ 0
  pub warmth : absent ≡ false → field n 40 55 ≡ field heat 40 55
  pub before : field n 1 (8 * pick absent 4 6 + 7) ≡ field body 1 (8 * pick absent 4 6 + 7)
  pub last : bit n (8 * pick absent 4 6 + 8) ≡ parity
  pub empty : bit body (8 * pick absent 4 6 + 8) ≡ 0

tail-56 : (n body c h parity : ℕ) → h < 2 ^ 16 → parity < 2 → body ≡ c * 2 ^ 25 + h * 2 ^ 9 → n ≡ body + parity * 2 ^ 8
    → Tail n body (h * 2 ^ 9) parity false
tail-56 n body c h parity hh hp e f =
    record { clear = omega arith; warmth = λ _. omega arith; before = ap (λ (x : ℕ). x % 2 ^ 55) (cut n body c h parity hp e f); last = omega arith; empty = omega arith }
  where
    cut : (n body c h parity : ℕ) → parity < 2 → body ≡ c * 2 ^ 25 + h * 2 ^ 9 → n ≡ body + parity * 2 ^ 8 → n / 2 ^ 9 ≡ body / 2 ^ 9
    cut n body c h parity hp e f = omega arith

tail-40 : (n body c parity : ℕ) → parity < 2 → body ≡ c * 2 ^ 25 → n ≡ body + parity * 2 ^ 24 → Tail n body 0 parity true
tail-40 n body c parity hp e f =
    record { clear = omega arith; warmth = λ no. absurd (true≢false no); before = ap (λ (x : ℕ). x % 2 ^ 39) (cut n body c parity hp e f); last = omega arith; empty = omega arith }
  where
    cut : (n body c parity : ℕ) → parity < 2 → body ≡ c * 2 ^ 25 → n ≡ body + parity * 2 ^ 24 → n / 2 ^ 25 ≡ body / 2 ^ 25
    cut n body c parity hp e f = omega arith

-- The marks of the line are those of the body and the parity bit, so that they are even or odd as asked.
with-last : (m k a b p : ℕ) → m + b ≡ k + a → a ≡ p → b ≡ 0 → m ≡ k + p
with-last m k a b p e f g = omega arith

marks-sent : (n body heat parity : ℕ) (absent : Bool) → Tail n body heat parity absent
    → marks (first_bytes (pick absent 5 7) n) ≡ marks (first_bytes (pick absent 5 7) body) + parity
marks-sent n body heat parity true t =
    with-last (marks (first_bytes 5 n)) (marks (first_bytes 5 body)) (bit n 40) (bit body 40) parity
    (parity-law body n 4 (omega arith) t.before) t.last t.empty
marks-sent n body heat parity false t =
    with-last (marks (first_bytes 7 n)) (marks (first_bytes 7 body)) (bit n 56) (bit body 56) parity
    (parity-law body n 6 (omega arith) t.before) t.last t.empty

evened : (m k odd : ℕ) → odd < 2 → m ≡ k + (k + odd) % 2 → m % 2 ≡ odd
evened m k odd h e = omega arith

-- A reply as it is written.
pub record Sent (settings address : ℕ) (r : Reading) (n : ℕ) : Type 0 where
  pub top : Head n (address / 100) (address / 10 % 10) (address % 10) (digits_of (mode_in settings) r.level * 2 ^ (37 - last_bit_of (mode_in settings))) (mark r.alarm1) (mark r.alarm0)
  pub clear : n % 2 ^ (64 - 8 * size_for r) ≡ 0
  pub warmth : is_absent r.temperature ≡ false → field n 40 55 ≡ field (put_heat (is1800 settings) r.temperature) 40 55
  pub parity : marks (first_bytes (size_for r) n) % 2 ≡ odd_parity settings

tail : (body c heat parity : ℕ) (absent : Bool) → (absent ≡ true → heat ≡ 0) → heat < 2 ^ 25 → heat % 2 ^ 9 ≡ 0 → parity < 2
    → body ≡ c * 2 ^ 25 + heat
    → Tail (body + put parity (pick absent 40 56)) body heat parity absent
tail body c heat parity true none hh hc hp e =
    subst (λ (x : ℕ). Tail (body + put parity 40) body x parity true) (sym (none refl)) (tail-40 (body + put parity 40) body c parity hp (e ∙ bare c heat (none refl)) refl)
  where
    bare : (c heat : ℕ) → heat ≡ 0 → c * 2 ^ 25 + heat ≡ c * 2 ^ 25
    bare c heat e = omega arith
tail body c heat parity false none hh hc hp e =
    let is : heat / 2 ^ 9 * 2 ^ 9 ≡ heat = omega arith in
    subst (λ (x : ℕ). Tail (body + put parity 56) body x parity false) is
    (tail-56 (body + put parity 56) body c (heat / 2 ^ 9) parity (omega arith) hp (e ∙ ap (λ (x : ℕ). c * 2 ^ 25 + x) (sym is)) refl)

-- The head of a line over its tail, and the number that the head is.
rest_lt : (heat parity : ℕ) (absent : Bool) → (absent ≡ true → heat ≡ 0) → heat < 2 ^ 25 → heat % 2 ^ 9 ≡ 0 → parity < 2
    → heat + put parity (pick absent 40 56) < 2 ^ 25
rest_lt heat parity true none hh hc hp = let e : heat ≡ 0 = none refl in omega arith
rest_lt heat parity false none hh hc hp = omega arith

top-number : (x y z l p q heat : ℕ) → put 1 1 + (put x 7 + put y 11 + put z 15) + put l 37 + put p 38 + put q 39 + heat
    ≡ (2 ^ 38 + x * 2 ^ 32 + y * 2 ^ 28 + z * 2 ^ 24 + l * 2 ^ 2 + p * 2 + q) * 2 ^ 25 + heat
top-number x y z l p q heat = omega arith

-- The body of a reply, its level moved to end at bit 37.
body-sum : (settings address : ℕ) (r : Reading) → body_of settings address r
    ≡ put 1 1 + (put (address / 100) 7 + put (address / 10 % 10) 11 + put (address % 10) 15)
    + put (digits_of (mode_in settings) r.level * 2 ^ (37 - last_bit_of (mode_in settings))) 37
    + put (mark r.alarm1) 38 + put (mark r.alarm0) 39 + put_heat (is1800 settings) r.temperature
unfolding body_of
body-sum settings address r =
    ap (λ (x : ℕ). put 1 1 + (put (address / 100) 7 + put (address / 10 % 10) 11 + put (address % 10) 15) + x
    + put (mark r.alarm1) 38 + put (mark r.alarm0) 39 + put_heat (is1800 settings) r.temperature)
    ((placed (settings % 4)).moved (digits_of (mode_in settings) r.level))

pub sent : (settings address : ℕ) (r : Reading) → address ≤ 999 → Sent settings address r (reply_line settings address r)
unfolding reply_line
sent settings address r h =
    let m : Mode = mode_in settings in
    let t = three address h in
    let x : ℕ = address / 100 in
    let y : ℕ = address / 10 % 10 in
    let z : ℕ = address % 10 in
    let l : ℕ = digits_of m r.level * 2 ^ (37 - last_bit_of m) in
    let p : ℕ = mark r.alarm1 in
    let q : ℕ = mark r.alarm0 in
    let heat : ℕ = put_heat (is1800 settings) r.temperature in
    let place = heat-low (is1800 settings) r.temperature in
    let none = no-heat (is1800 settings) r.temperature in
    let body : ℕ = body_of settings address r in
    let parity : ℕ = parity_for settings (first_bytes (size_for r) body) in
    let absent : Bool = is_absent r.temperature in
    let bit : parity < 2 = mod-lt (marks (first_bytes (size_for r) body) + odd_parity settings) (lit< tt) in
    let upper : ℕ = put 1 1 + (put x 7 + put y 11 + put z 15) + put l 37 + put p 38 + put q 39 in
    let c : ℕ = 2 ^ 38 + x * 2 ^ 32 + y * 2 ^ 28 + z * 2 ^ 24 + l * 2 ^ 2 + p * 2 + q in
    let bottom : Tail (body + put parity (count_for r)) body heat parity absent
    = tail body c heat parity absent none place.small place.ends bit (body-sum settings address r ∙ top-number x y z l p q heat) in
    record {
      top = head (body + put parity (count_for r)) x y z l p q (heat + put parity (count_for r))
          (ap (λ (b : ℕ). b + put parity (count_for r)) (body-sum settings address r) ∙ add_assoc upper heat (put parity (count_for r)))
          t.0 t.1 t.2 ((placed (settings % 4)).narrow (digits_of m r.level) (digits-fit m (fit (settings % 4)) r.level))
          (mark-lt r.alarm1) (mark-lt r.alarm0) (rest_lt heat parity absent none place.small place.ends bit);
      clear = bottom.clear;
      warmth = bottom.warmth;
      parity = evened (marks (first_bytes (size_for r) (body + put parity (count_for r)))) (marks (first_bytes (size_for r) body)) (odd_parity settings)
          (mod-lt (settings / 8) (lit< tt)) (marks-sent (body + put parity (count_for r)) body heat parity absent bottom);
    }
