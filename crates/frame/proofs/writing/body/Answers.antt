-- `frame::writing::body` meets its contract: an absent temperature has no bits, and any other those of its number of tenths. Assumes nothing.
use mathlib.Core.Path.{◌≡◌, sym, ap, ◌∙◌}
use mathlib.Core.Bool.{true, false}
use Prim.Native.Nat.{ℕ, ◌+◌, ◌^◌, ◌<◌}
use native.Mathlib.Nat.{add-zero}
use mir.Syntax.{w16}
use mir.Facts.{to_z-of_z}
use native.Mathlib.Omega.{arith}
use Rattle.frame.specs.Temperature.{is_absent, put_heat}
use Rattle.frame.specs.Reply.{is1800, body_of}
use Rattle.frame.specs.Inside.Written.{front_of}
use Rattle.frame.proofs.Sums.{heat-low, no-heat, front-small}
use Rattle.frame.proofs.Tenths.{heat-is}
use Rattle.frame.proofs.writing.body.Goals.{After-write}
use Rattle.frame.proofs.writing.body.Goals as goal

-- the bits of the temperature
heat : (c : After-write) → let a = c.args in c.write.result ≡ put_heat (is1800 a.settings) a.reading.temperature
heat c =
    let a = c.args in
    let t : is_absent a.reading.temperature ≡ false = sym c.is_absent.ensures ∙ c.if-is_absent.false in
    rw (c.write.ensures, c.of_1800.ensures, to_z-of_z {w = w16} {z = c.tenths.result} (record { sfits = c.tenths.type_inv }), c.tenths.ensures) (heat-is (is1800 a.settings) a.reading.temperature t)

low : (c : After-write) → c.write.result < 2 ^ 25
low c =
    let a = c.args in
    rw (heat c) (heat-low (is1800 a.settings) a.reading.temperature).small

front : (c : After-write) → c.front-front.result < 2 ^ 63 + 2 ^ 62
front c =
    let a = c.args in
    rw c.front-front.ensures (front-small a.settings a.address a.reading c.requires)

pub returns-then-is_absent : goal.returns-then-is_absent
unfolding body_of
returns-then-is_absent c =
    let a = c.args in
    let t : is_absent a.reading.temperature ≡ true = sym c.is_absent.ensures ∙ c.if-is_absent.true in
    c.front-front.ensures ∙ sym (add-zero (front_of a.settings a.address a.reading)) ∙ ap (λ (n : ℕ). front_of a.settings a.address a.reading + n) (sym (no-heat (is1800 a.settings) a.reading.temperature t))

pub overflow_add-result : goal.overflow_add-result
overflow_add-result c = omega (arith, front c, low c)

pub returns : goal.returns
unfolding body_of
returns c =
    let a = c.args in
    rw (c.front-front.ensures, heat c)
