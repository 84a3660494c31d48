-- Document 02, request 13: an item is two capital letters, alone, or followed by "=" and data for a setting; an answer adds "&" for taken, or is the
-- item with data, or the item, "!" and three digits. Data is 1 to 16 characters from 20 to 7E hex, none of them "&", "!" or "=".
use Rattle.std.specs.Prelude.{Bool, true, not, ◌&&◌, ◌||◌, List, [], ◌∷◌, ◌++◌, ℕ, ◌+◌, ◌-◌, ◌*◌, ◌/◌, ◌%◌, eqb, leb, length, get_or, take, drop}
use Rattle.frame.specs.Pick.{pick}
use Rattle.putting.specs.Digit.{digit}

-- What a record says: the CIU's address, the gauge's transmission address, the two letters, the kind, an error's number, and the data.
pub record Item : Type 0 where
  pub ciu : ℕ
  pub gauge : ℕ
  pub first : ℕ
  pub second : ℕ
  pub kind : ℕ
  pub error : ℕ
  pub characters : List ℕ

abbrev pub item_of : (ciu gauge first second kind error : ℕ) → List ℕ → Item
item_of ciu gauge first second kind error characters =
    record { ciu = ciu; gauge = gauge; first = first; second = second; kind = kind; error = error; characters = characters }

-- The six kinds: the item alone, which is a request or a command; a setting; "taken"; a setting taken; a value; an error.
abbrev pub alone : ℕ
alone = 1

abbrev pub setting : ℕ
setting = 2

abbrev pub taken : ℕ
taken = 3

abbrev pub setting_taken : ℕ
setting_taken = 4

abbrev pub value : ℕ
value = 5

abbrev pub failed : ℕ
failed = 6

-- The three signs.
abbrev pub equals : ℕ
equals = 0x3d

abbrev pub ampersand : ℕ
ampersand = 0x26

abbrev pub exclamation : ℕ
exclamation = 0x21

-- Decimal digits, as the characters that they are written by: "0" is 30 hex.
abbrev pub is_digit : ℕ → Bool
is_digit b = leb 0x30 b && leb b 0x39

abbrev pub digit_at : List ℕ → ℕ → ℕ
digit_at s k = get_or s k 0 - 0x30

abbrev pub digit_characters : ℕ → List ℕ
digit_characters n = digit (n / 100) ∷ digit (n / 10 % 10) ∷ digit (n % 10) ∷ []

-- Capital letters, and the characters of data.
abbrev pub is_letter : ℕ → Bool
is_letter b = leb 0x41 b && leb b 0x5a

abbrev pub is_character : ℕ → Bool
is_character b = leb 0x20 b && leb b 0x7e && not (eqb b ampersand) && not (eqb b exclamation) && not (eqb b equals)

unfoldable pub all_characters : List ℕ → Bool
all_characters [] = true
all_characters (b ∷ bs) = is_character b && all_characters bs

unfoldable pub is_data : List ℕ → Bool
is_data d = leb 1 (length d) && leb (length d) 16 && all_characters d

-- What follows the letters in each kind.
unfoldable pub tail_of : (kind error : ℕ) → List ℕ → List ℕ
tail_of kind error characters =
    pick (eqb kind setting) (equals ∷ characters)
    (pick (eqb kind taken) (ampersand ∷ [])
    (pick (eqb kind setting_taken) (equals ∷ characters ++ ampersand ∷ [])
    (pick (eqb kind value) characters
    (pick (eqb kind failed) (exclamation ∷ digit_characters error) []))))

-- An item's text can be written: capital letters, one of the six kinds, data in a setting and a value and nowhere else, an error's number in an error and
-- nowhere else.
abbrev pub has_data : ℕ → Bool
has_data kind = eqb kind setting || eqb kind setting_taken || eqb kind value

unfoldable pub kind_fits : (kind error : ℕ) → List ℕ → Bool
kind_fits kind error characters =
    leb alone kind && leb kind failed && pick (has_data kind) (is_data characters) (eqb (length characters) 0)
    && pick (eqb kind failed) (leb error 999) (eqb error 0)

unfoldable pub text_fits : Item → Bool
text_fits i = is_letter i.first && is_letter i.second && kind_fits i.kind i.error i.characters

-- What a text says by what follows its letters: nothing; "&" alone; "!" and three digits; "=" with "&" as the last character, or without. Anything else
-- can only be a value.
abbrev pub begins : List ℕ → ℕ
begins t = get_or t 0 0

abbrev pub ends : List ℕ → ℕ
ends t = get_or t (length t - 1) 0

abbrev pub is_taken : List ℕ → Bool
is_taken t = eqb (length t) 1 && eqb (begins t) ampersand

abbrev pub is_error : List ℕ → Bool
is_error t =
    eqb (length t) 4 && eqb (begins t) exclamation && is_digit (get_or t 1 0) && is_digit (get_or t 2 0) && is_digit (get_or t 3 0)

unfoldable pub kind_in : List ℕ → ℕ
kind_in t =
    pick (eqb (length t) 0) alone
    (pick (eqb (begins t) equals) (pick (eqb (ends t) ampersand) setting_taken setting)
    (pick (is_taken t) taken (pick (is_error t) failed value)))

unfoldable pub characters_in : List ℕ → List ℕ
characters_in t =
    pick (eqb (kind_in t) setting) (drop 1 t)
    (pick (eqb (kind_in t) setting_taken) (take (length t - 2) (drop 1 t)) (pick (eqb (kind_in t) value) t []))

unfoldable pub error_in : List ℕ → ℕ
error_in t = pick (eqb (kind_in t) failed) (digit_at t 1 * 100 + digit_at t 2 * 10 + digit_at t 3) 0
