-- In an accepted plan every transmitter lies in exactly one area.
use Rattle.std.specs.Prelude.{◌≡◌, List, [], ◌∷◌, ℕ, zero, suc, ◌+◌, ◌<◌, ◌≤◌, length, get_or}
use Rattle.areas.specs.Check.{ChecksAreas}

-- Where the k-th area of a plan begins: behind the transmitters of those before it.
abbrev pub area_begins : List ℕ → ℕ → ℕ
area_begins plan zero = 0
area_begins [] (suc k) = 0
area_begins (n ∷ plan) (suc k) = n + area_begins plan k

-- Place i of the site lies in the k-th area.
pub record LiesIn (plan : List ℕ) (i k : ℕ) : Type 0 where
  pub there : k < length plan
  pub from : area_begins plan k ≤ i
  pub before : i < area_begins plan k + get_or plan k 0

pub record InOne (plan : List ℕ) (i : ℕ) : Type 0 where
  pub area : ℕ
  pub lies : LiesIn plan i area
  pub only : (k : ℕ) → LiesIn plan i k → k ≡ area

pub record EachOnce : Type 0 where
  pub in_one : (site plan : List ℕ) (answer : ℕ) → ChecksAreas site plan answer → answer ≡ 0 → (i : ℕ) → i < length site → InOne plan i
  -- and no area reaches beyond the site
  pub within : (site plan : List ℕ) (answer : ℕ) → ChecksAreas site plan answer → answer ≡ 0 → (i k : ℕ) → LiesIn plan i k → i < length site
