-- The page of a card has what its list has: for each pair of the summary, in their order, one section, and in it what is drawn of the records of that pair and said
-- of them; and nothing else is drawn.
use Rattle.std.specs.Prelude.{◌≡◌, Bool, true, List, [], ◌∷◌, ◌++◌, ℕ, ◌/◌, ◌%◌, eqb, ltb, length, get_or, take}
use Prim.Native.String.{String}
use Rattle.frame.specs.declared.Reading.{Reading}
use Rattle.frame.specs.Pick.{pick}
use Rattle.sheet.specs.Record.{Entry}
use Rattle.sheet.specs.Slots.{list_of}
use Rattle.summary.specs.Worked.{reply_in, entries_of_pair, good_levels, faults, lowest_of, highest_of, kept_pairs, in_order}
use Rattle.listing.specs.Text.{ascii, in_decimal}
use Rattle.calendar.specs.declared.counting.Day.{Day}
use Rattle.forms.specs.Form.{fill}
use Rattle.forms.specs.Days.{moment_text}
use Rattle.forms.specs.Words.{fault_text}
use Rattle.layers.specs.Gauged.{gauged_of}
use Rattle.picture.specs.Page.{bound_text, last_text, heat_text, off_text, kinds_text}
use Rattle.picture.specs.Calls.{WritesPicture}
use Rattle.promises_picture.specs.Drawn.{point_in, heat_in, runs_by, lines_text}
use Rattle.promises_picture.specs.Reader.{read_of, plain}
use Rattle.std.specs.Prelude.{Option, Result, Ok, Err}
use Rattle.frame.specs.declared.faults.Fault.{Fault}
use Rattle.frame.specs.Faults.{number_of, place_named}

-- What a picture is called: the address, and what it shows.
abbrev pub titled : ℕ → String → List ℕ
titled address what = ascii "title>" ++ (in_decimal address ++ (ascii ": " ++ ascii what))

-- A line drawn through runs of points.
unfoldable pub drawn : List ℕ → List ℕ
drawn line = ascii "path d='" ++ (line ++ ascii "'/>")

-- A faulty reply: a bar at its minute, which says when it was and what; and the same in words.
abbrev pub fault_said : Option Day → ℕ → ℕ → ℕ → List ℕ
fault_said begin m n place = moment_text begin m ++ ascii ": " ++ fault_text n place

unfoldable pub bar_of : Option Day → ℕ → ℕ → ℕ → List (List ℕ)
bar_of begin m n place = fill (ascii "path d='M~,0v1'>") (m ∷ []) ∷ (ascii "title>" ++ fault_said begin m n place) ∷ []

abbrev pub bar_in : Option Day → ℕ → Result Reading Fault → List (List ℕ)
bar_in begin m (Ok r) = []
bar_in begin m (Err f) = bar_of begin m (number_of f) (place_named f)

unfoldable pub bars : Option Day → List Entry → List (List ℕ)
unfolding bar_of
bars begin [] = []
bars begin (e ∷ l) = bar_in begin e.minute (reply_in e) ++ bars begin l

unfoldable pub words_of : Option Day → ℕ → ℕ → ℕ → List (List ℕ)
words_of begin m n place = (ascii "li>" ++ fault_said begin m n place) ∷ []

abbrev pub words_in : Option Day → ℕ → Result Reading Fault → List (List ℕ)
words_in begin m (Ok r) = []
words_in begin m (Err f) = words_of begin m (number_of f) (place_named f)

unfoldable pub in_words : Option Day → List Entry → List (List ℕ)
unfolding words_of
in_words begin [] = []
in_words begin (e ∷ l) = words_in begin e.minute (reply_in e) ++ in_words begin l

-- An alarm of a good reply: a dot at its minute.
abbrev pub dot_in : (Reading → Bool) → ℕ → Result Reading Fault → List (List ℕ)
dot_in which m (Ok r) = pick (which r) (fill (ascii "path d='M~,0h1'/>") (m ∷ []) ∷ []) []
dot_in which m (Err f) = []

unfoldable pub dots : (Reading → Bool) → List Entry → List (List ℕ)
dots which [] = []
dots which (e ∷ l) = dot_in which e.minute (reply_in e) ++ dots which l

-- The pictures of a pair's records: levels where a reply was good, temperatures where there is one, faults and alarms.
abbrev pub levels_of : ℕ → List Entry → List (List ℕ)
levels_of address m = pick (eqb (length (good_levels m)) 0) [] (titled address "level" ∷ drawn (lines_text (runs_by point_in m)) ∷ [])

abbrev pub heats_of : ℕ → List Entry → List (List ℕ)
heats_of address m =
    pick (ltb (gauged_of m).warm (gauged_of m).cold) [] (titled address "temperature" ∷ drawn (lines_text (runs_by heat_in m)) ∷ [])

abbrev pub pictures_of : Option Day → ℕ → List Entry → List (List ℕ)
pictures_of begin address m =
    levels_of address m ++ heats_of address m ++ (titled address "faulty replies" ∷ bars begin m) ++ (titled address "alarm 1" ∷ dots (λ r. r.alarm1) m)
    ++ (titled address "alarm 0" ∷ dots (λ r. r.alarm0) m)

-- What is said of them in a table: lowest, highest and last level, temperatures, and how many replies were good, faulty, and of each fault.
abbrev pub table_of : Option Day → ℕ → List Entry → List (List ℕ)
table_of begin settings m =
    (ascii "td>" ++ bound_text settings (lowest_of (good_levels m))) ∷ (ascii "td>" ++ bound_text settings (highest_of (good_levels m)))
    ∷ (ascii "td>" ++ last_text begin settings (gauged_of m))
    ∷ (ascii "td>" ++ heat_text (gauged_of m) ++ off_text 0 (get_or (gauged_of m).counts 16 0) ++ off_text 1 (get_or (gauged_of m).counts 17 0))
    ∷ (ascii "td>" ++ fill (ascii "~ good, ~ faulty") (length (good_levels m) ∷ faults m ∷ []) ++ kinds_text (gauged_of m).counts 1 15)
    ∷ []

-- The section of a pair, of the records of that pair; and those of some pairs.
unfoldable pub section_of : Option Day → List Entry → ℕ → List (List ℕ)
section_of begin l k =
    ascii "section>" ∷ (ascii "h2>" ++ in_decimal (k / 0x10000) ++ ascii " ")
    ∷ pictures_of begin (k / 0x10000) (entries_of_pair k l) ++ table_of begin (k % 0x10000) (entries_of_pair k l) ++ in_words begin (entries_of_pair k l)

unfoldable pub sections_of : Option Day → List Entry → List ℕ → List (List ℕ)
sections_of begin l [] = []
sections_of begin l (k ∷ ks) = section_of begin l k ++ sections_of begin l ks

-- Above them: the card's name, and what each kind of line and mark looks like.
abbrev pub above_of : List ℕ → List (List ℕ)
above_of name =
    (ascii "title>" ++ name ++ ascii ": month sheet") ∷ (ascii "h1>" ++ name)
    ∷ ascii "title>level" ∷ ascii "path d='M0,1h4'/>" ∷ ascii "title>temperature" ∷ ascii "path d='M0,1h4'/>" ∷ ascii "title>faulty reply"
    ∷ ascii "path d='M2,0v2'/>" ∷ ascii "title>alarm 1" ∷ ascii "path d='M2,1h.1'/>" ∷ ascii "title>alarm 0" ∷ ascii "path d='M2,1h.1'/>" ∷ []

-- Of every call that wrote a page, with a name in the page's own writing: what is read of the bytes that it wrote is what stands above, and the sections of the
-- first 30 pairs of the list, in rising order, each of its own records.
pub record PageAsListed : Type 0 where
  pub whole : (s name : List ℕ) (begin : Option Day) (out : List ℕ) (answer : Result ℕ Fault) (after : List ℕ) (n : ℕ) → plain name ≡ true → WritesPicture s name begin out answer after → answer ≡ Ok n → read_of (take n after) ≡ above_of name ++ sections_of begin (list_of s) (in_order (kept_pairs (list_of s)))
