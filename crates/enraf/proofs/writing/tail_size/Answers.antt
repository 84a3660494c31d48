-- `enraf::writing::tail_size` meets its contract, kind by kind; data has at most 16 characters. Assumes nothing.
use mathlib.Core.Path.{ap}
use native.Mathlib.Omega.{arith}
use lib.ListN.{length, length-append}
use Rattle.enraf.specs.Inside.{kind_number}
use Rattle.enraf.proofs.SixKinds.{characters-few}
use Rattle.enraf.proofs.Tails.{tail-setting, tail-setting-taken, tail-value}
use Rattle.enraf.proofs.writing.tail_size.Goals as goal

pub returns-in-Setting : goal.returns-in-Setting
returns-in-Setting c =
    let a = c.args in
    let long = ap length (tail-setting _ a.error a.characters.now (ap kind_number c.in-Setting.is)) in
    let few = characters-few _ a.error a.characters.now c.requires in
    (omega arith, omega arith)

pub returns-in-SettingTaken : goal.returns-in-SettingTaken
returns-in-SettingTaken c =
    let a = c.args in
    let long = ap length (tail-setting-taken _ a.error a.characters.now (ap kind_number c.in-SettingTaken.is)) in
    let few = characters-few _ a.error a.characters.now c.requires in
    (omega (arith, simp length-append at long), omega arith)

pub returns-in-Value : goal.returns-in-Value
returns-in-Value c =
    let a = c.args in
    let long = ap length (tail-value _ a.error a.characters.now (ap kind_number c.in-Value.is)) in
    let few = characters-few _ a.error a.characters.now c.requires in
    (omega arith, omega arith)
