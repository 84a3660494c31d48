-- Document 02, request 14: transmitters in cable order, each with its added feet and tenths of an ohm, and what an area of them may have (document 000,
-- section 2.1).
use Rattle.std.specs.Prelude.{Bool, ◌&&◌, List, [], ◌∷◌, ℕ, ◌+◌, ◌/◌, ◌%◌, ◌^◌, leb, length}

-- A transmitter is handed over as one number: feet times 65,536, and tenths of an ohm.
abbrev pub feet : ℕ → ℕ
feet t = t / 2 ^ 16

abbrev pub tenths : ℕ → ℕ
tenths t = t % 2 ^ 16

-- A total over transmitters.
unfoldable pub total : (ℕ → ℕ) → List ℕ → ℕ
total f [] = 0
total f (t ∷ ts) = f t + total f ts

-- An area: not empty, at most 30 transmitters, 10,000 feet and 50 ohms, which are 500 tenths, in total.
unfoldable pub is_area : List ℕ → Bool
is_area a = leb 1 (length a) && leb (length a) 30 && leb (total feet a) 10000 && leb (total tenths a) 500
