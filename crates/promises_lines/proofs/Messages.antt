-- The bits of a message in form fix its bytes: those that the count covers are told, and the others are 0. And the bytes that a call of the lines hands
-- over are bytes, and hold the bits that it tells.
use mathlib.Core.Path.{◌≡◌, refl, sym, ap, ap₂, subst, ◌∙◌}
use mathlib.Core.Bool.{true, false}
use mathlib.Core.List.{List, [], ◌∷◌, ◌++◌}
use Prim.Native.Nat.{ℕ, zero, suc, ◌-◌, ◌*◌, ◌/◌, ◌%◌, ◌^◌, ◌<◌, ◌≤◌}
use native.Mathlib.Omega.{arith}
use lib.Dec.{eqb}
use lib.ListN.{length, get_or, take, length-append, length-take, get_or-append, get_or-eq_default}
use lib.Seq.{get_or_at, get_or-take}
use Rattle.frame.specs.Line.{line, first_bytes, formed, bytes_for}
use Rattle.frame.proofs.Tables.{pick-case}
use Rattle.lines.specs.declared.SoFar.{SoFar}
use Rattle.lines.specs.declared.LinesTold.{LinesTold}
use Rattle.lines.specs.Timing.{Timing, timing, bad_timing, timing_fault}
use Rattle.lines.specs.SoFar.{meant}
use Rattle.lines.specs.Hearing.{MessageTold, nothing, message, spoiled, number_told, count_told, bytes_told, hear}
use Rattle.lines.specs.Calls.{answered, lines_answer, HearsLines}
use Rattle.promises_frame.specs.Bits.{AreBytes, bit_at}
use Rattle.promises_frame.proofs.Cases.{by-lt, by_le}
use Rattle.promises_frame.proofs.Bytes.{bit-line}
use Rattle.promises_frame.proofs.Lines.{bytes-first_bytes, first_bytes-line, same_first}
use Rattle.promises_frame.proofs.BitsAreBits.{bits-are-bits}
use Rattle.promises_lines.specs.History.{bits_of}
use Rattle.promises_lines.specs.Form.{bytes_in}
use Rattle.promises_lines.proofs.Ends.{heard-by}

-- A row of bits, place by place.
pub bits-long : (k : ℕ) (s : List ℕ) → length (bits_of k s) ≡ k
unfolding bits_of
bits-long zero s = refl
bits-long (suc k) s = omega (arith, length-append (bits_of k s) (bit_at s (suc k) ∷ []), bits-long k s)

pub bit_in : (k : ℕ) (s : List ℕ) (j : ℕ) → j < k → get_or (bits_of k s) j 0 ≡ bit_at s (suc j)
unfolding bits_of
bit_in zero s j h = absurd (omega arith)
bit_in (suc k) s j h =
    by-lt j k (λ l. get_or-append (bits_of k s) (bit_at s (suc k) ∷ []) 0 j (omega (arith, bits-long k s)) ∙ bit_in k s j l)
    (λ l.
    let same : j ≡ k = omega arith in
    get_or_at (bits_of k s) (bit_at s (suc k)) [] 0 j (bits-long k s ∙ sym same) ∙ ap (λ (i : ℕ). bit_at s (suc i)) (sym same))

-- Bytes in form with the same bits are the same.
pub same_bytes : (count : ℕ) (x y : List ℕ) → AreBytes x → AreBytes y → formed count x ≡ true → formed count y ≡ true → bits_of count x ≡ bits_of count y → x ≡ y
same_bytes count x y ox oy fx fy e =
    let p = (bits-are-bits.form count x ox).0 fx in
    let q = (bits-are-bits.form count y oy).0 fy in
    let size : length x ≡ length y = p.size ∙ sym q.size in
    let small : length x ≤ 8 = omega (arith, p.size, p.at_most_64) in
    sym (first_bytes-line x ox small)
    ∙ same_first (length x) (line y) (line x) small
    (λ i lo hi.
    bit-line x ox i lo (omega arith)
    ∙ by_le i count (λ h. sym (told i x lo h) ∙ ap (λ (l : List ℕ). get_or l (i - 1) 0) e ∙ told i y lo h)
    (λ h. p.pads i h hi ∙ sym (q.pads i h (omega arith)))
    ∙ sym (bit-line y oy i lo (omega arith)))
    ∙ ap (λ (k : ℕ). first_bytes k (line y)) size ∙ first_bytes-line y oy (omega arith)
  where
    told : (i : ℕ) (s : List ℕ) → 1 ≤ i → i ≤ count → get_or (bits_of count s) (i - 1) 0 ≡ bit_at s i
    told i s lo h =
        let back : suc (i - 1) ≡ i = omega arith in
        bit_in count s (i - 1) (omega arith) ∙ ap (bit_at s) back

-- The first bits stand in the first bytes.
pub bits-front : (k size : ℕ) (m : List ℕ) → k ≤ 8 * size → bits_of k (take size m) ≡ bits_of k m
unfolding bits_of
bits-front zero size m h = refl
bits-front (suc k) size m h =
    ap₂ (λ (xs : List ℕ) (b : ℕ). xs ++ b ∷ []) (bits-front k size m (omega arith))
    (ap (λ (x : ℕ). x / 2 ^ (7 - (suc k - 1) % 8) % 2) (get_or-take size m ((suc k - 1) / 8) 0 (omega arith)))

front_bytes : (k : ℕ) (m : List ℕ) → AreBytes m → AreBytes (take k m)
front_bytes k m ok i =
    by-lt i k (λ h. rw (get_or-take k m i 0 h) (ok i))
    (λ h. rw (get_or-eq_default (take k m) 0 {n = i} (omega (arith, length-take k m))) (omega arith))

-- What a call hands over.
told-bytes : (x : MessageTold) → AreBytes (bytes_told x)
told-bytes nothing = bytes-first_bytes 8 0 (omega arith)
told-bytes (message count bits) = bytes-first_bytes 8 bits (omega arith)
told-bytes (spoiled number) = bytes-first_bytes 8 0 (omega arith)

answer-bytes : (s : SoFar) (t : Timing) (xs : List ℕ) → AreBytes (lines_answer s t xs).message
unfolding lines_answer
answer-bytes s t xs =
    pick-case (λ (a : LinesTold). AreBytes a.message) (eqb (timing_fault t) 0) (told-bytes (hear t (meant s) xs).told) (told-bytes nothing)

pub handed-bytes : (s : SoFar) (least most gap : ℕ) (xs : List ℕ) (a : LinesTold) → HearsLines s least most gap xs a → AreBytes (bytes_in a)
handed-bytes s least most gap xs a c =
    front_bytes (bytes_for a.count) a.message
    (subst (λ (b : LinesTold). AreBytes b.message) (sym c.answers) (answer-bytes s (timing least most gap) xs))

pub handed-bits : (a : LinesTold) → bits_of a.count (bytes_in a) ≡ bits_of a.count a.message
handed-bits a = bits-front a.count (bytes_for a.count) a.message (omega arith)

-- A number is told without bits, and bits without a number.
number-or-bits : (x : MessageTold) → (number_told x ≡ 0 → ⊥) → count_told x ≡ 0
number-or-bits nothing h = refl
number-or-bits (message count bits) h = absurd (h refl)
number-or-bits (spoiled number) h = refl

bits-or-number : (x : MessageTold) → (count_told x ≡ 0 → ⊥) → number_told x ≡ 0
bits-or-number nothing h = refl
bits-or-number (message count bits) h = refl
bits-or-number (spoiled number) h = absurd (h refl)

module _ (s : SoFar) (t : Timing) (xs : List ℕ) (a : LinesTold) (good : bad_timing t ≡ false) (c : HearsLines s t.least t.most t.gap xs a) where
  is : a ≡ answered (hear t (meant s) xs)
  is = heard-by s t.least t.most t.gap xs a good c

  pub no_bits : (a.number ≡ 0 → ⊥) → a.count ≡ 0
  no_bits h =
      ap (λ (b : LinesTold). b.count) is
      ∙ number-or-bits (hear t (meant s) xs).told (λ e. h (ap (λ (b : LinesTold). b.number) is ∙ e))

  pub no_number : (a.count ≡ 0 → ⊥) → a.number ≡ 0
  no_number h =
      ap (λ (b : LinesTold). b.number) is
      ∙ bits-or-number (hear t (meant s) xs).told (λ e. h (ap (λ (b : LinesTold). b.count) is ∙ e))
