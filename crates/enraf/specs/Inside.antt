-- The numbers of the kinds of item that the code names.
use Rattle.std.specs.Prelude.{◌≡◌, ℕ, ◌<◌, ◌⊎◌, Result, MatchResult}
use Rattle.enraf.specs.declared.kind.ItemKind.{ItemKind}
use Rattle.enraf.specs.declared.kind.ItemKind.TheVariants.{Alone, Setting, Taken, SettingTaken, Value, Failed}
use Rattle.enraf.specs.declared.kind.UnknownKind.{UnknownKind}
use Rattle.enraf.specs.Item.{alone, setting, taken, setting_taken, value, failed}

abbrev pub kind_number : ItemKind → ℕ
kind_number Alone = alone
kind_number Setting = setting
kind_number Taken = taken
kind_number SettingTaken = setting_taken
kind_number Value = value
kind_number Failed = failed

-- A number names its kind, and a number below 1 or above 6 none.
abbrev pub Names : ℕ → Result ItemKind UnknownKind → Type 0
Names n r = MatchResult r (λ kind. kind_number kind ≡ n) (λ _. (n < alone) ⊎ (failed < n))
