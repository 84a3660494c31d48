-- Document 02, request 13: STX, CIU address digit, two transmission digits, B, Z, item, ETX, block check.
use Rattle.std.specs.Prelude.{List, [], ◌∷◌, ◌++◌, ℕ, ◌/◌, ◌%◌}
use Rattle.putting.specs.Digit.{digit}
use Rattle.enraf.specs.Check.{block_check}
use Rattle.enraf.specs.Item.{Item, tail_of}

abbrev pub STX : ℕ
STX = 0x02

abbrev pub ETX : ℕ
ETX = 0x03

abbrev pub B : ℕ
B = 0x42

abbrev pub Z : ℕ
Z = 0x5a

-- An item's record up to the ETX, without the STX: what the block check is of ("with STX excluded and ETX included").
unfoldable pub checked_of : Item → List ℕ
checked_of i =
    digit i.ciu ∷ digit (i.gauge / 10) ∷ digit (i.gauge % 10) ∷ B ∷ Z ∷ i.first ∷ i.second
    ∷ tail_of i.kind i.error i.characters ++ ETX ∷ []

unfoldable pub item_record : Item → List ℕ
item_record i = STX ∷ checked_of i ++ block_check (checked_of i) ∷ []
