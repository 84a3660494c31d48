-- Only one version: two answers that the contract of `sisal_version` allows are equal, since it names the number.
use mathlib.Core.Path.{◌≡◌, sym, ◌∙◌}
use Prim.Native.Nat.{ℕ}
use Rattle.export.specs.Version.{SisalVersion}

pub version-one : (a b : ℕ) → SisalVersion a → SisalVersion b → a ≡ b
version-one a b x y = x.answers ∙ sym y.answers
