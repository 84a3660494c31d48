-- How a page is read here: it is parted at each "<", and of the parts between, the tags, those are passed over that draw nothing and say nothing of a record. A tag
-- of any other name is read, whether the page's own definition knows it or not.
use Rattle.std.specs.Prelude.{Bool, true, false, not, ◌&&◌, ◌||◌, List, [], ◌∷◌, ℕ, eqb}
use Rattle.frame.specs.Pick.{pick}
use Rattle.listing.specs.Text.{ascii}

-- What stands before the next "<": a tag with the words after it.
unfoldable pub up_to : List ℕ → List ℕ
up_to [] = []
up_to (c ∷ t) = pick (eqb c 60) [] (c ∷ up_to t)

-- A tag's name: what stands before the first blank or ">".
unfoldable pub name_of : List ℕ → List ℕ
name_of [] = []
name_of (c ∷ t) = pick (eqb c 32 || eqb c 62) [] (c ∷ name_of t)

unfoldable pub alike : List ℕ → List ℕ → Bool
alike [] [] = true
alike [] (d ∷ u) = false
alike (c ∷ t) [] = false
alike (c ∷ t) (d ∷ u) = eqb c d && alike t u

unfoldable pub one_of : List ℕ → List (List ℕ) → Bool
unfolding alike
one_of t [] = false
one_of t (n ∷ ns) = alike t n || one_of t ns

-- A tag's end, "</", draws nothing; nor do these tags: the file's head, blocks of text, the frame of a picture, and its description.
unfoldable pub closes : List ℕ → Bool
closes [] = false
closes (c ∷ t) = eqb c 47

abbrev pub frames : List (List ℕ)
frames =
    ascii "div" ∷ ascii "span" ∷ ascii "wbr/" ∷ ascii "b" ∷ ascii "svg" ∷ ascii "desc" ∷ ascii "g" ∷ ascii "p" ∷ ascii "small" ∷ ascii "table" ∷ ascii "tr" ∷ ascii "th" ∷ ascii "details" ∷ ascii "summary" ∷ ascii "ul" ∷ ascii "main" ∷ ascii "body" ∷ ascii "style" ∷ ascii "meta" ∷ ascii "head" ∷ ascii "html" ∷ ascii "!DOCTYPE" ∷ []

unfoldable pub passed_over : List ℕ → Bool
unfolding name_of one_of closes
passed_over t = closes t || one_of (name_of t) frames

-- What is read of a text.
unfoldable pub read_of : List ℕ → List (List ℕ)
unfolding up_to passed_over
read_of [] = []
read_of (c ∷ t) = pick (eqb c 60) (pick (passed_over t) (read_of t) (up_to t ∷ read_of t)) (read_of t)

-- A name in the page's own writing has no "<".
unfoldable pub plain : List ℕ → Bool
plain [] = true
plain (c ∷ t) = not (eqb c 60) && plain t
