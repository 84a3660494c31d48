-- The layers by their numbers, as what is drawn of them is said.
use Rattle.std.specs.Prelude.{◌≡◌, ℕ, ◌<◌, Result, MatchResult}
use Rattle.layers.specs.declared.layer.Layer.{Layer}
use Rattle.layers.specs.declared.layer.Layer.TheVariants.{Levels, Temperatures, Faults, Alarm1, Alarm0, FaultList}
use Rattle.layers.specs.declared.layer.UnknownLayer.{UnknownLayer}

abbrev pub number_of : Layer → ℕ
number_of Levels = 0
number_of Temperatures = 1
number_of Faults = 2
number_of Alarm1 = 3
number_of Alarm0 = 4
number_of FaultList = 5

-- A number names its layer, and a number above 5 none.
abbrev pub Names : ℕ → Result Layer UnknownLayer → Type 0
Names n r = MatchResult r (λ layer. number_of layer ≡ n) (λ _. 5 < n)
