-- Document 02, request 13: what reading a record answers.
use Rattle.std.specs.Prelude.{◌≡◌, Bool, not, ◌&&◌, List, [], ◌∷◌, ◌++◌, ℕ, ◌+◌, ◌-◌, ◌*◌, eqb, leb, length, get_or, take, drop, replicate}
use Rattle.frame.specs.Pick.{pick}
use Rattle.frame.specs.Faults.{◌gives◌, first_of}
use Rattle.enraf.specs.declared.ItemTold.{ItemTold}
use Rattle.enraf.specs.Check.{block_check}
use Rattle.enraf.specs.Item.{Item, is_digit, digit_at, text_fits, kind_in, error_in, characters_in}
use Rattle.enraf.specs.Record.{STX, ETX, B, Z}

-- The frame: at least 10 bytes, with STX, B, Z and ETX in their places. The ETX is the last byte but one.
unfoldable pub framed : List ℕ → Bool
framed s =
    leb 10 (length s) && eqb (get_or s 0 0) STX && eqb (get_or s 4 0) B && eqb (get_or s 5 0) Z && eqb (get_or s (length s - 2) 0) ETX

-- The block check is the last byte, whole: of all bytes before it but the STX.
unfoldable pub check_right : List ℕ → Bool
check_right s = eqb (get_or s (length s - 1) 0) (block_check (take (length s - 2) (drop 1 s)))

-- Both addresses are decimal digits; a wildcard is none.
unfoldable pub addressed : List ℕ → Bool
addressed s = is_digit (get_or s 1 0) && is_digit (get_or s 2 0) && is_digit (get_or s 3 0)

-- What the bytes of a record say: the item's letters stand behind the Z, and what follows them reaches up to the ETX.
abbrev pub tail_in : List ℕ → List ℕ
tail_in s = take (length s - 10) (drop 8 s)

unfoldable pub item_in : List ℕ → Item
item_in s =
    record {
      ciu = digit_at s 1;
      gauge = digit_at s 2 * 10 + digit_at s 3;
      first = get_or s 6 0;
      second = get_or s 7 0;
      kind = kind_in (tail_in s);
      error = error_in (tail_in s);
      characters = characters_in (tail_in s);
    }

-- Reading: 29 framing, 30 block check, 31 addresses, 32 item text.
unfoldable pub read_fault : List ℕ → ℕ
read_fault s =
    first_of
    (not (framed s) gives 29
    ∷ not (check_right s) gives 30
    ∷ not (addressed s) gives 31
    ∷ not (text_fits (item_in s)) gives 32
    ∷ [])

-- An item told in integers, its data from the first character on and 0 after it; beside a refusal all else is 0.
abbrev pub told_in_integers : Item → ItemTold
told_in_integers i =
    record {
      characters = i.characters ++ replicate (16 - length i.characters) 0;
      error = i.error;
      ciu = i.ciu;
      gauge = i.gauge;
      first = i.first;
      second = i.second;
      kind = i.kind;
      length = length i.characters;
      number = 0;
    }

abbrev pub refused : ℕ → ItemTold
refused number =
    record { characters = replicate 16 0; error = 0; ciu = 0; gauge = 0; first = 0; second = 0; kind = 0; length = 0; number = number }

-- The item that an answer tells.
abbrev pub item_told : ItemTold → Item
item_told t =
    record {
      ciu = t.ciu;
      gauge = t.gauge;
      first = t.first;
      second = t.second;
      kind = t.kind;
      error = t.error;
      characters = take t.length t.characters;
    }

-- What `sisal_read_item` answers.
pub record ReadsItem (s : List ℕ) (answer : ItemTold) : Type 0 where
  pub answers : answer ≡ pick (eqb (read_fault s) 0) (told_in_integers (item_in s)) (refused (read_fault s))
