-- Document 01, "The month sheet": a record, and the 32 bytes of a slot that hold it.
use Rattle.std.specs.Prelude.{Bool, not, ◌&&◌, List, [], ◌∷◌, ◌++◌, ℕ, ◌-◌, eqb, ltb, length, get_or, take, drop, replicate}
use Rattle.frame.specs.Line.{bytes_for, formed}
use Rattle.frame.specs.Faults.{Test, ◌gives◌, first_of}
use Rattle.sheet.specs.Bytes.{big_endian, number_in, FF, same}

-- A record, whole: settings, minute, polled address, bit count and reply bytes.
pub record Entry : Type 0 where
  pub settings : ℕ
  pub minute : ℕ
  pub address : ℕ
  pub count : ℕ
  pub reply : List ℕ

abbrev pub entry_of : ℕ → ℕ → ℕ → ℕ → List ℕ → Entry
entry_of settings minute address count reply =
    record { settings = settings; minute = minute; address = address; count = count; reply = reply }

-- The checks that a record has to pass, by their fault numbers: settings above 15, an address above 999, a reply out of form.
abbrev pub checks : Entry → List Test
checks e = ltb 15 e.settings gives 10 ∷ ltb 999 e.address gives 11 ∷ not (formed e.count e.reply) gives 14 ∷ []

unfoldable pub passes : Entry → Bool
passes e = eqb (first_of (checks e)) 0

-- What follows the length: version 1, settings, minute (4), polled address (2), bit count (1), reply bytes (0 to 8).
abbrev pub after_length : Entry → List ℕ
after_length e = 1 ∷ e.settings ∷ big_endian 4 e.minute ++ big_endian 2 e.address ++ e.count ∷ e.reply

-- The length counts what follows it. It takes 2 bytes, the high one first.
abbrev pub length_of : Entry → ℕ
length_of e = length (after_length e)

abbrev pub length_bytes : Entry → List ℕ
length_bytes e = big_endian 2 (length_of e)

abbrev pub record_of : Entry → List ℕ
record_of e = length_bytes e ++ after_length e

-- The 32 bytes of a slot that holds a record: FF follows it.
unfoldable pub picture : Entry → List ℕ
picture e = record_of e ++ replicate (32 - length (record_of e)) FF

-- What the bytes of a slot say where a record stands there.
unfoldable pub fields_of : List ℕ → Entry
fields_of x =
    record {
      settings = get_or x 3 0;
      minute = number_in (take 4 (drop 4 x));
      address = number_in (take 2 (drop 8 x));
      count = get_or x 10 0;
      reply = take (bytes_for (get_or x 10 0)) (drop 11 x);
    }

-- A slot holds a record where every rule holds of what its bytes say, and they are the bytes of just that record.
unfoldable pub is_record : List ℕ → Bool
is_record x = passes (fields_of x) && same x (picture (fields_of x))
