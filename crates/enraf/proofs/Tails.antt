-- What follows the letters, kind by kind. Assumes nothing.
use mathlib.Core.Path.{◌≡◌, ap}
use mathlib.Core.List.{List, [], ◌∷◌, ◌++◌}
use Prim.Native.Nat.{ℕ}
use Rattle.enraf.specs.Item.{equals, ampersand, exclamation, digit_characters, tail_of}

module _ (kind error : ℕ) (d : List ℕ) where
  pub tail-alone : kind ≡ 1 → tail_of kind error d ≡ []
  unfolding tail_of
  tail-alone h = ap (λ (k : ℕ). tail_of k error d) h

  pub tail-setting : kind ≡ 2 → tail_of kind error d ≡ equals ∷ d
  unfolding tail_of
  tail-setting h = ap (λ (k : ℕ). tail_of k error d) h

  pub tail-taken : kind ≡ 3 → tail_of kind error d ≡ ampersand ∷ []
  unfolding tail_of
  tail-taken h = ap (λ (k : ℕ). tail_of k error d) h

  pub tail-setting-taken : kind ≡ 4 → tail_of kind error d ≡ equals ∷ d ++ ampersand ∷ []
  unfolding tail_of
  tail-setting-taken h = ap (λ (k : ℕ). tail_of k error d) h

  pub tail-value : kind ≡ 5 → tail_of kind error d ≡ d
  unfolding tail_of
  tail-value h = ap (λ (k : ℕ). tail_of k error d) h

  pub tail-error : kind ≡ 6 → tail_of kind error d ≡ exclamation ∷ digit_characters error
  unfolding tail_of
  tail-error h = ap (λ (k : ℕ). tail_of k error d) h
