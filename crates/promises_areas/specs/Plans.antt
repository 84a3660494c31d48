-- A plan in the words of document 02, as the areas themselves: consecutive runs of transmitters, at most 8, none empty, each with at most 30
-- transmitters, 10,000 feet and 50 ohms in total, which put end to end are the site.
use Rattle.std.specs.Prelude.{◌≡◌, List, [], ◌∷◌, ◌++◌, map, ℕ, ◌<◌, ◌≤◌, length, get_or}
use Rattle.areas.specs.Site.{feet, tenths, total}

pub record Allowed (area : List ℕ) : Type 0 where
  pub not_empty : 1 ≤ length area
  pub at_most_30 : length area ≤ 30
  pub feet_within : total feet area ≤ 10000
  pub ohms_within : total tenths area ≤ 500

abbrev pub end_to_end : List (List ℕ) → List ℕ
end_to_end [] = []
end_to_end (area ∷ areas) = area ++ end_to_end areas

-- A plan, given by the number of transmitters of each area, is one of areas of the site.
pub record PlanOf (site plan : List ℕ) : Type 0 where
  pub areas : List (List ℕ)
  pub sizes : map length areas ≡ plan
  pub covers : end_to_end areas ≡ site
  pub at_most_8 : length areas ≤ 8
  pub each : (k : ℕ) → k < length areas → Allowed (get_or areas k [])
