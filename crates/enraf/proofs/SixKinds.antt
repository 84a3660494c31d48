-- What it says of a kind that it fits its error's number and its data. Assumes nothing.
use mathlib.Core.Path.{◌≡◌}
use mathlib.Core.Bool.{Bool, true, false, ◌&&◌}
use mathlib.Core.List.{List}
use Prim.Native.Nat.{ℕ, ◌≤◌}
use native.Mathlib.Omega.{arith}
use borrow.Author.Tests.{leb-true, eqb-true}
use lib.Dec.{eqb, leb}
use lib.ListN.{length}
use Rattle.frame.specs.Pick.{pick}
use Rattle.frame.proofs.Both.{both}
use Rattle.enraf.specs.Item.{Item, alone, failed, is_letter, all_characters, is_data, has_data, kind_fits, text_fits}

-- data has 16 characters or fewer
pub data-few : (d : List ℕ) → is_data d ≡ true → length d ≤ 16
unfolding is_data
data-few d h = leb-true (length d) 16 (both (leb 1 (length d)) (leb (length d) 16) (both (leb 1 (length d) && leb (length d) 16) (all_characters d) h).0).1

module _ (kind error : ℕ) (d : List ℕ) (h : kind_fits kind error d ≡ true) where
  named : (leb alone kind && leb kind failed) ≡ true
  unfolding kind_fits
  named = (both (leb alone kind && leb kind failed) (pick (has_data kind) (is_data d) (eqb (length d) 0)) (both (leb alone kind && leb kind failed && pick (has_data kind) (is_data d) (eqb (length d) 0)) (pick (eqb kind failed) (leb error 999) (eqb error 0)) h).0).0

  pub data-fits : pick (has_data kind) (is_data d) (eqb (length d) 0) ≡ true
  unfolding kind_fits
  data-fits = (both (leb alone kind && leb kind failed) (pick (has_data kind) (is_data d) (eqb (length d) 0)) (both (leb alone kind && leb kind failed && pick (has_data kind) (is_data d) (eqb (length d) 0)) (pick (eqb kind failed) (leb error 999) (eqb error 0)) h).0).1

  pub error-fits : pick (eqb kind failed) (leb error 999) (eqb error 0) ≡ true
  unfolding kind_fits
  error-fits = (both (leb alone kind && leb kind failed && pick (has_data kind) (is_data d) (eqb (length d) 0)) (pick (eqb kind failed) (leb error 999) (eqb error 0)) h).1

  pub one-of-six : (1 ≤ kind) × (kind ≤ 6)
  one-of-six = (leb-true 1 kind (both (leb alone kind) (leb kind failed) named).0, leb-true kind 6 (both (leb alone kind) (leb kind failed) named).1)

  pub error-few : error ≤ 999
  error-few = go (eqb kind failed) error-fits
    where
      go : (b : Bool) → pick b (leb error 999) (eqb error 0) ≡ true → error ≤ 999
      go true e = leb-true error 999 e
      go false e = let z : error ≡ 0 = eqb-true error 0 e in omega arith

  pub characters-few : length d ≤ 16
  characters-few = go (has_data kind) data-fits
    where
      go : (b : Bool) → pick b (is_data d) (eqb (length d) 0) ≡ true → length d ≤ 16
      go true e = data-few d e
      go false e = let z : length d ≡ 0 = eqb-true (length d) 0 e in omega arith

-- an item whose text fits has a kind that fits
pub fits-kind : (i : Item) → text_fits i ≡ true → kind_fits i.kind i.error i.characters ≡ true
unfolding text_fits
fits-kind i h = (both (is_letter i.first && is_letter i.second) (kind_fits i.kind i.error i.characters) h).1
