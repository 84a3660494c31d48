-- `listing::lines::put_reading` meets its contract: its parts are put one after another, and their texts joined are the reading's. Assumes nothing.
use mathlib.Core.Path.{◌≡◌, ap}
use mathlib.Core.Bool.{Bool, true, false}
use mathlib.Core.List.{List, [], ◌∷◌}
use Prim.Native.Nat.{ℕ}
use Rattle.frame.specs.Line.{mark}
use Rattle.putting.specs.Digit.{digit}
use Rattle.listing.specs.Text.{digits_up_to}
use Rattle.listing.specs.Lines.{alarm_text, reading_text}
use Rattle.putting.proofs.Added.{then, text-is}
use Rattle.listing.proofs.lines.put_reading.Goals as goal

-- the byte of an alarm is its text
alarm-digit : (on : Bool) (byte : ℕ) → byte ≡ digit (mark on) → ◌≡◌ {A = List ℕ} (byte ∷ []) (alarm_text on)
unfolding digits_up_to
alarm-digit true byte e = ap (λ (b : ℕ). b ∷ []) e
alarm-digit false byte e = ap (λ (b : ℕ). b ∷ []) e

pub returns : goal.returns
unfolding reading_text
returns c =
    let r = c.args.r in
    then
    (then
    (then (then (then (then c.put_short.ensures c.byte.ensures) c.put_temperature.ensures) c.byte-2.ensures)
    (text-is (alarm-digit r.alarm1 _ c.alarm.ensures) c.byte-3.ensures))
    c.byte-4.ensures)
    (text-is (alarm-digit r.alarm0 _ c.alarm-2.ensures) c.byte-5.ensures)
