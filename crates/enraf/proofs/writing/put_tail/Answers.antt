-- `enraf::writing::put_tail` meets its contract, kind by kind: its parts are put one after another. Assumes nothing.
use mathlib.Core.Path.{◌≡◌, sym, ap}
use mathlib.Core.List.{[], ◌∷◌, ◌++◌}
use Prim.Native.Nat.{◌+◌}
use native.Mathlib.Omega.{arith}
use lib.ListN.{length, length-append}
use Rattle.putting.proofs.Added.{then, text-is, at_most, nothing_added}
use Rattle.enraf.specs.Item.{ampersand}
use Rattle.enraf.specs.Inside.{kind_number}
use Rattle.enraf.proofs.SixKinds.{error-few, characters-few}
use Rattle.enraf.proofs.Tails.{tail-alone, tail-setting, tail-taken, tail-setting-taken, tail-value, tail-error}
use Rattle.enraf.proofs.writing.put_tail.Goals as goal

pub byte-requires : goal.byte-requires
byte-requires c =
    let a = c.args in
    let long = ap length (tail-setting _ a.error a.characters.now (ap kind_number c.in-Setting.is)) in
    omega arith

pub put_data-requires : goal.put_data-requires
put_data-requires c =
    let a = c.args in
    let long = ap length (tail-setting _ a.error a.characters.now (ap kind_number c.in-Setting.is)) in
    omega arith

pub byte-requires-in-Taken : goal.byte-requires-in-Taken
byte-requires-in-Taken c =
    let a = c.args in
    let long = ap length (tail-taken _ a.error a.characters.now (ap kind_number c.in-Taken.is)) in
    omega arith

pub byte-requires-in-SettingTaken : goal.byte-requires-in-SettingTaken
byte-requires-in-SettingTaken c =
    let a = c.args in
    let long = ap length (tail-setting-taken _ a.error a.characters.now (ap kind_number c.in-SettingTaken.is)) in
    omega arith

pub put_data-requires-in-SettingTaken : goal.put_data-requires-in-SettingTaken
put_data-requires-in-SettingTaken c =
    let a = c.args in
    let long = ap length (tail-setting-taken _ a.error a.characters.now (ap kind_number c.in-SettingTaken.is)) in
    let joined : length (a.characters.now ++ ampersand ∷ []) ≡ length a.characters.now + 1 = length-append a.characters.now (ampersand ∷ []) in
    omega arith

pub byte-requires-in-SettingTaken-2 : goal.byte-requires-in-SettingTaken-2
byte-requires-in-SettingTaken-2 c =
    let a = c.args in
    let long = ap length (tail-setting-taken _ a.error a.characters.now (ap kind_number c.in-SettingTaken.is)) in
    let joined : length (a.characters.now ++ ampersand ∷ []) ≡ length a.characters.now + 1 = length-append a.characters.now (ampersand ∷ []) in
    omega arith

pub put_data-requires-in-Value : goal.put_data-requires-in-Value
put_data-requires-in-Value c =
    let a = c.args in
    let long = ap length (tail-value _ a.error a.characters.now (ap kind_number c.in-Value.is)) in
    omega arith

pub byte-requires-in-Failed : goal.byte-requires-in-Failed
byte-requires-in-Failed c =
    let a = c.args in
    let long = ap length (tail-error _ a.error a.characters.now (ap kind_number c.in-Failed.is)) in
    omega arith

pub put_three-requires : goal.put_three-requires
put_three-requires c =
    let a = c.args in
    let long = ap length (tail-error _ a.error a.characters.now (ap kind_number c.in-Failed.is)) in
    record { room = omega arith; n_bound = error-few _ a.error a.characters.now c.requires.characters_value }

pub returns-in-Setting : goal.returns-in-Setting
returns-in-Setting c =
    let a = c.args in
    let few = characters-few _ a.error a.characters.now c.requires.characters_value in
    at_most (omega arith) (text-is (sym (tail-setting _ a.error a.characters.now (ap kind_number c.in-Setting.is))) (then c.byte.ensures c.put_data.ensures))

pub returns-in-Taken : goal.returns-in-Taken
returns-in-Taken c =
    let a = c.args in
    let few = characters-few _ a.error a.characters.now c.requires.characters_value in
    at_most (omega arith) (text-is (sym (tail-taken _ a.error a.characters.now (ap kind_number c.in-Taken.is))) c.byte-in-Taken.ensures)

pub returns-in-SettingTaken : goal.returns-in-SettingTaken
returns-in-SettingTaken c =
    let a = c.args in
    let few = characters-few _ a.error a.characters.now c.requires.characters_value in
    at_most (omega arith) (text-is (sym (tail-setting-taken _ a.error a.characters.now (ap kind_number c.in-SettingTaken.is))) (then c.byte-in-SettingTaken.ensures (then c.put_data-in-SettingTaken.ensures c.byte-in-SettingTaken-2.ensures)))

pub returns-in-Value : goal.returns-in-Value
returns-in-Value c =
    let a = c.args in
    let few = characters-few _ a.error a.characters.now c.requires.characters_value in
    at_most (omega arith) (text-is (sym (tail-value _ a.error a.characters.now (ap kind_number c.in-Value.is))) c.put_data-in-Value.ensures)

pub returns-in-Failed : goal.returns-in-Failed
returns-in-Failed c =
    let a = c.args in
    let few = characters-few _ a.error a.characters.now c.requires.characters_value in
    at_most (omega arith) (text-is (sym (tail-error _ a.error a.characters.now (ap kind_number c.in-Failed.is))) (then c.byte-in-Failed.ensures c.put_three.ensures))

pub returns-in-Alone : goal.returns-in-Alone
returns-in-Alone c =
    let a = c.args in
    nothing_added (sym (tail-alone _ a.error a.characters.now (ap kind_number c.in-Alone.is)))
