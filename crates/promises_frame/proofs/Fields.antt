-- Laws of the bits of a line: a field within a field, and two fields that join.
use mathlib.Core.Path.{◌≡◌, sym, ap, ap₂, ◌∙◌}
use Prim.Native.Nat.{ℕ, ◌+◌, ◌-◌, ◌*◌, ◌/◌, ◌%◌, ◌^◌, ◌<◌, ◌≤◌}
use native.Mathlib.Omega.{arith}
use native.Mathlib.Nat.{mul-div_cancel, mod-eq_of_lt, mod-lt}
use lib.Pow.{pow_pos, shr-shr, mod-pow-add, mod-mod-pow}
use lib.Pow as Pow
use Rattle.frame.specs.Line.{field, put}

-- A number put into bits that hold it is the field of those bits.
pub put-field : (v a b : ℕ) → v < 2 ^ (b + 1 - a) → field (put v b) a b ≡ v
put-field v a b h = ap (λ (x : ℕ). x % 2 ^ (b + 1 - a)) (mul-div_cancel v (pow_pos (64 - b))) ∙ mod-eq_of_lt h

pub field_lt : (n a b : ℕ) → field n a b < 2 ^ (b + 1 - a)
field_lt n a b = mod-lt (n / 2 ^ (64 - b)) (pow_pos (b + 1 - a))

-- A line cut after bit b, and cut again after an earlier bit.
cut : (n b d : ℕ) → d ≤ b → b ≤ 64 → n / 2 ^ (64 - d) ≡ n / 2 ^ (64 - b) / 2 ^ (b - d)
cut n b d h k =
    ap (λ (x : ℕ). n / 2 ^ x) (apart 64 b d h k) ∙ sym (shr-shr n (64 - b) (b - d))
  where
    apart : (e b d : ℕ) → d ≤ b → b ≤ e → e - d ≡ e - b + (b - d)
    apart e b d h k = omega arith

-- Bits c to d within bits a to b.
pub within : (n a b c d : ℕ) → a ≤ c → c ≤ d → d ≤ b → b ≤ 64 → field n c d ≡ field n a b / 2 ^ (b - d) % 2 ^ (d + 1 - c)
within n a b c d p q r s =
    let m : ℕ = n / 2 ^ (64 - b) in
    let whole : b + 1 - a ≡ d + 1 - a + (b - d) = omega arith in
    let inner : d + 1 - a ≡ c - a + (d + 1 - c) = omega arith in
    ap (λ (x : ℕ). x % 2 ^ (d + 1 - c)) (cut n b d r s)
    ∙ sym (mod-mod-pow (m / 2 ^ (b - d)) (c - a) (d + 1 - c))
    ∙ ap (λ (x : ℕ). m / 2 ^ (b - d) % 2 ^ x % 2 ^ (d + 1 - c)) (sym inner)
    ∙ ap (λ (x : ℕ). x % 2 ^ (d + 1 - c)) (sym (Pow.field m (d + 1 - a) (b - d)) ∙ ap (λ (x : ℕ). m % 2 ^ x / 2 ^ (b - d)) (sym whole))

-- Where two lines agree in bits a to b, they agree in every part of them.
pub same-within : (n m a b c d : ℕ) → a ≤ c → c ≤ d → d ≤ b → b ≤ 64 → field n a b ≡ field m a b → field n c d ≡ field m c d
same-within n m a b c d p q r s e =
    within n a b c d p q r s ∙ ap (λ (x : ℕ). x / 2 ^ (b - d) % 2 ^ (d + 1 - c)) e ∙ sym (within m a b c d p q r s)

-- Bits a to c are bits a to b, then bits after b to c.
pub join : (n a b c : ℕ) → a ≤ b + 1 → b ≤ c → c ≤ 64 → field n a c ≡ field n a b * 2 ^ (c - b) + field n (b + 1) c
join n a b c p q r =
    let m : ℕ = n / 2 ^ (64 - c) in
    let whole : c + 1 - a ≡ b + 1 - a + (c - b) = omega arith in
    let rest : c - b ≡ c + 1 - (b + 1) = omega arith in
    ap (λ (x : ℕ). m % 2 ^ x) whole ∙ mod-pow-add m (b + 1 - a) (c - b)
    ∙ ap₂ (λ (x y : ℕ). x % 2 ^ (b + 1 - a) * 2 ^ (c - b) + m % 2 ^ y) (sym (cut n c b q r)) rest
