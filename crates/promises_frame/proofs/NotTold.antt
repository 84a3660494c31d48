-- The positions not told, as they are written: each is a part of the line that is always the same.
use mathlib.Core.Path.{◌≡◌, refl, sym, ap, ◌∙◌}
use mathlib.Core.Bool.{Bool, true, false, not, ◌&&◌, false≢true}
use Prim.Native.Nat.{ℕ, ◌-◌, ◌%◌, ◌^◌, ◌+◌, ◌<◌, ◌≤◌}
use native.Mathlib.Omega.{arith}
use native.Mathlib.Nat.{zero-div, zero-mod}
use lib.IntN.{pos}
use borrow.Author.Tests.{ne_eqb}
use Rattle.frame.specs.declared.Temperature.{Temperature}
use Rattle.frame.specs.declared.Temperature.TheVariants.{Degrees, Above, Below, Absent}
use Rattle.frame.specs.Line.{field, bit, mark}
use Rattle.frame.specs.Temperature.{put_degrees_1900, put_heat_1900, put_heat_1800, put_heat}
use Rattle.promises_frame.specs.NotTold.{is_range_error, NotTold, bit_2, bit_3, sign_of_zero, sign_beside, hundred_beside, digits_beside, as_we_write}
use Rattle.frame.specs.Temperature.{is_below}
use Rattle.promises_frame.proofs.Fields.{same-within}

-- The sign of a zero, of either type.
plus-zero : (ty : Bool) → bit (put_heat ty (Degrees (pos 0))) 41 ≡ 1
unfolding put_heat_1900 put_heat_1800 put_degrees_1900
plus-zero true = refl
plus-zero false = refl

-- Sign, hundred and digits beside an error.
sign-error : (t : Temperature) → is_range_error t ≡ true → bit (put_heat_1800 t) 41 ≡ as_we_write t 41
unfolding put_heat_1800
sign-error (Degrees d) e = absurd (false≢true e)
sign-error Above e = refl
sign-error Below e = refl
sign-error Absent e = absurd (false≢true e)

hundred-error : (t : Temperature) → is_range_error t ≡ true → bit (put_heat_1800 t) 42 ≡ as_we_write t 42
unfolding put_heat_1800
hundred-error (Degrees d) e = absurd (false≢true e)
hundred-error Above e = refl
hundred-error Below e = refl
hundred-error Absent e = absurd (false≢true e)

digits-error : (t : Temperature) → is_range_error t ≡ true → field (put_heat_1800 t) 44 55 ≡ field 0 44 55
unfolding put_heat_1800
digits-error (Degrees d) e = absurd (false≢true e)
digits-error Above e = refl
digits-error Below e = refl
digits-error Absent e = absurd (false≢true e)

zero_bit : (i : ℕ) → bit 0 i ≡ 0
zero_bit i = ap (λ (x : ℕ). x % 2 ^ (i + 1 - i)) (zero-div (2 ^ (64 - i))) ∙ zero-mod (2 ^ (i + 1 - i))

ours-0 : (t : Temperature) (i : ℕ) → 41 < i → as_we_write t i ≡ 0
ours-0 t i h = ap (λ (b : Bool). mark (b && not (is_below t))) (ne_eqb i 41 (λ e. omega arith))

-- A line that starts with zeros at 2 and 3 and holds the temperature written, if it has one.
pub as-ours : (ty : Bool) (t : Temperature) (w : ℕ) → field w 2 3 ≡ 0 → (i : ℕ) → NotTold ty t i
    → (40 ≤ i → field w 40 55 ≡ field (put_heat ty t) 40 55) → bit w i ≡ as_we_write t i
as-ours ty t w u i bit_2 h = omega arith
as-ours ty t w u i bit_3 h = omega arith
as-ours ty t w u i (sign_of_zero e) h =
    same-within w (put_heat ty t) 40 55 41 41 (omega arith) (omega arith) (omega arith) (omega arith) (h (omega arith))
    ∙ ap (λ (x : Temperature). bit (put_heat ty x) 41) e ∙ plus-zero ty ∙ sym (ap (λ (x : Temperature). as_we_write x 41) e)
as-ours ty t w u i (sign_beside e f) h =
    same-within w (put_heat ty t) 40 55 41 41 (omega arith) (omega arith) (omega arith) (omega arith) (h (omega arith))
    ∙ ap (λ (b : Bool). bit (put_heat b t) 41) e ∙ sign-error t f
as-ours ty t w u i (hundred_beside e f) h =
    same-within w (put_heat ty t) 40 55 42 42 (omega arith) (omega arith) (omega arith) (omega arith) (h (omega arith))
    ∙ ap (λ (b : Bool). bit (put_heat b t) 42) e ∙ hundred-error t f
as-ours ty t w u i (digits_beside e f j from to) h =
    same-within w (put_heat ty t) 40 55 j j (omega arith) (omega arith) to (omega arith) (h (omega arith))
    ∙ ap (λ (b : Bool). bit (put_heat b t) j) e
    ∙ same-within (put_heat_1800 t) 0 44 55 j j from (omega arith) to (omega arith) (digits-error t f)
    ∙ zero_bit j ∙ sym (ours-0 t j (omega arith))
