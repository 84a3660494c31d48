-- The page of a sheet, read: each part of it in turn, and then the whole. A part is a tag with plain words behind it, or some tags that are passed over; what the
-- call leaves begins with the page. Assumes nothing.
use mathlib.Core.Path.{◌≡◌, refl, sym, ap, subst, ◌∙◌}
use mathlib.Core.Bool.{Bool, true, false}
use mathlib.Core.List.{List, [], ◌∷◌, ◌++◌, map, append-nil, append_assoc}
use Prim.Native.Nat.{ℕ, ◌+◌, ◌-◌}
use native.Mathlib.Omega.{arith}
use lib.Dec.{eqb, ltb}
use lib.ListN.{length, get_or, take, drop}
use lib.Seq.{take_at}
use Rattle.frame.specs.declared.Reading.{Reading}
use Rattle.frame.specs.Pick.{pick}
use Rattle.sheet.specs.Record.{Entry}
use Rattle.sheet.specs.Slots.{list_of}
use Rattle.summary.specs.declared.Line.{Line}
use Rattle.summary.specs.Line.{pair_of}
use Rattle.summary.specs.Worked.{reply_in, entries_of_pair, figures, line_for, kept_pairs, in_order, other_records}
use Rattle.summary.proofs.PairFigures.{pair_line}
use Rattle.cards.specs.declared.counting.Tally.{Tally}
use Rattle.cards.specs.Tally.{tally_of}
use Rattle.listing.specs.Text.{ascii, in_decimal}
use Rattle.listing.specs.Calls.{Writes, write_fault}
use Rattle.calendar.specs.declared.counting.Day.{Day}
use Rattle.calendar.specs.Days.{days_from}
use Rattle.forms.specs.Form.{fill, first, others, choice}
use Rattle.forms.specs.Days.{year_text, month_day_text, moment_text}
use Rattle.forms.specs.Words.{mode_text, type_text, fault_text}
use Rattle.layers.specs.declared.gauge.Gauged.{Gauged}
use Rattle.layers.specs.Drawing as drawing
use Rattle.layers.specs.Drawing.{layer_text}
use Rattle.layers.specs.Gauged.{gauged_of}
use Rattle.picture.specs.Axis.{axis_of}
use Rattle.picture.specs.Page as page
use Rattle.picture.specs.Page.{heading_text, value_text, label_text, scale_text, begin_text, frame_text, level_row, heat_row, mark_row, tick_text, day_on_axis, days_text, rows_text, bound_text, last_text, heat_text, off_text, kinds_text, levels_text, figures_text, section_text, sections_text, style_text, legend_text, when_text, others_text, counts_text, top_text, lines_for, page_of}
use Rattle.promises_picture.specs.Drawn.{point_in, heat_in, runs_by, lines_text, faulty_mark_text, mark_in, faulty_marks, joined, alarm_in, alarms}
use Rattle.promises_picture.specs.Reader.{up_to, name_of, alike, one_of, closes, passed_over, read_of, plain}
use Rattle.promises_picture.specs.OnPage.{titled, drawn, bar_of, bar_in, bars, words_of, words_in, in_words, dot_in, dots, section_of, sections_of, above_of, PageAsListed}
use Rattle.promises_picture.proofs.EachFault as each
use Rattle.promises_picture.proofs.Read.{Part, nothing_said, then, text-is, says_is, a-tag, quiet-tag, lacks, words-first, form-next, all_words, one_number}
use Rattle.promises_picture.proofs.PlainWords.{Plain, join, either, none, number, filled, chosen, a-year, a-month-day, a-moment, a-level, degrees, a-mode, a-type, a-fault, a-bound, a-last, a-heat, off-scale, all_kinds, all_lines}
use Rattle.promises_picture.proofs.DrawnAsListed.{whole-line, whole-heat, marks-of, alarm1-of, alarm0-of}
use Rattle.std.specs.Prelude.{Option, None, Some, Result, Ok, Err}
use Rattle.frame.specs.declared.faults.Fault.{Fault}
use Rattle.frame.specs.Faults.{fault, number_of, place_named}

-- Texts joined otherwise: the parts of a heading, a frame, a mark and a table, each tag with the words behind it, and as the page's definition has them.
heading-flat : (s h a g q m c t e : List ℕ) → s ++ ((h ++ (a ++ g)) ++ ((q ++ ((m ++ c) ++ t)) ++ e)) ≡ (s ++ (h ++ (a ++ (g ++ q)))) ++ m ++ c ++ t ++ e
heading-flat s h a g q m c t e = simp append_assoc

frame-flat : (v d0 l0 d1 l1 d2 l2 d3 l3 d4 l4 t a c n d line e : List ℕ) → (v ++ (d0 ++ (l0 ++ (d1 ++ (l1 ++ (d2 ++ (l2 ++ (d3 ++ (l3 ++ (d4 ++ l4)))))))))) ++ ((t ++ (a ++ (c ++ n))) ++ (d ++ (line ++ e))) ≡ (v ++ (d0 ++ (l0 ++ (d1 ++ (l1 ++ (d2 ++ (l2 ++ (d3 ++ (l3 ++ (d4 ++ (l4 ++ (t ++ (a ++ c)))))))))))) ++ (n ++ d)) ++ (line ++ e)
frame-flat v d0 l0 d1 l1 d2 l2 d3 l3 d4 l4 t a c n d line e = simp append_assoc

mark-flat : (p d e t m c f z : List ℕ) → (p ++ (d ++ e)) ++ ((t ++ ((m ++ c) ++ f)) ++ z) ≡ (p ++ (d ++ (e ++ t))) ++ m ++ c ++ f ++ z
mark-flat p d e t m c f z = simp append_assoc

levels-flat : (a td low b high c late u : List ℕ) → a ++ ((td ++ low) ++ (b ++ ((td ++ high) ++ (c ++ ((td ++ late) ++ u))))) ≡ ((a ++ td) ++ low ++ (b ++ td) ++ high ++ (c ++ td) ++ late) ++ u
levels-flat a td low b high c late u = simp append_assoc

figures-flat : (levels d td h i j e r k z : List ℕ) → levels ++ (d ++ ((td ++ ((h ++ i) ++ j)) ++ (e ++ ((td ++ (r ++ k)) ++ z)))) ≡ levels ++ (d ++ td) ++ h ++ i ++ j ++ (e ++ (td ++ r)) ++ k ++ z
figures-flat levels d td h i j e r k z = simp append_assoc

-- tags by name: those that are read, and those that are passed over
section-plain : plain (ascii "section>") ≡ true
unfolding plain
section-plain = refl

section-is : (v : List ℕ) → passed_over (ascii "section>" ++ v) ≡ false
unfolding passed_over closes name_of one_of alike
section-is v = refl

section-tag : {body : List ℕ} → Plain body → Part (60 ∷ (ascii "section>" ++ body)) ((ascii "section>" ++ body) ∷ [])
section-tag {body} p = a-tag (ascii "section>") body section-plain p.is section-is

h1-plain : plain (ascii "h1>") ≡ true
unfolding plain
h1-plain = refl

h1-is : (v : List ℕ) → passed_over (ascii "h1>" ++ v) ≡ false
unfolding passed_over closes name_of one_of alike
h1-is v = refl

h1-tag : {body : List ℕ} → Plain body → Part (60 ∷ (ascii "h1>" ++ body)) ((ascii "h1>" ++ body) ∷ [])
h1-tag {body} p = a-tag (ascii "h1>") body h1-plain p.is h1-is

h2-plain : plain (ascii "h2>") ≡ true
unfolding plain
h2-plain = refl

h2-is : (v : List ℕ) → passed_over (ascii "h2>" ++ v) ≡ false
unfolding passed_over closes name_of one_of alike
h2-is v = refl

h2-tag : {body : List ℕ} → Plain body → Part (60 ∷ (ascii "h2>" ++ body)) ((ascii "h2>" ++ body) ∷ [])
h2-tag {body} p = a-tag (ascii "h2>") body h2-plain p.is h2-is

title-plain : plain (ascii "title>") ≡ true
unfolding plain
title-plain = refl

title-is : (v : List ℕ) → passed_over (ascii "title>" ++ v) ≡ false
unfolding passed_over closes name_of one_of alike
title-is v = refl

title-tag : {body : List ℕ} → Plain body → Part (60 ∷ (ascii "title>" ++ body)) ((ascii "title>" ++ body) ∷ [])
title-tag {body} p = a-tag (ascii "title>") body title-plain p.is title-is

path-plain : plain (ascii "path d='") ≡ true
unfolding plain
path-plain = refl

path-is : (v : List ℕ) → passed_over (ascii "path d='" ++ v) ≡ false
unfolding passed_over closes name_of one_of alike
path-is v = refl

path-tag : {body : List ℕ} → Plain body → Part (60 ∷ (ascii "path d='" ++ body)) ((ascii "path d='" ++ body) ∷ [])
path-tag {body} p = a-tag (ascii "path d='") body path-plain p.is path-is

mark-plain : plain (ascii "path d='M") ≡ true
unfolding plain
mark-plain = refl

mark-is : (v : List ℕ) → passed_over (ascii "path d='M" ++ v) ≡ false
unfolding passed_over closes name_of one_of alike
mark-is v = refl

mark-tag : {body : List ℕ} → Plain body → Part (60 ∷ (ascii "path d='M" ++ body)) ((ascii "path d='M" ++ body) ∷ [])
mark-tag {body} p = a-tag (ascii "path d='M") body mark-plain p.is mark-is

td-plain : plain (ascii "td>") ≡ true
unfolding plain
td-plain = refl

td-is : (v : List ℕ) → passed_over (ascii "td>" ++ v) ≡ false
unfolding passed_over closes name_of one_of alike
td-is v = refl

td-tag : {body : List ℕ} → Plain body → Part (60 ∷ (ascii "td>" ++ body)) ((ascii "td>" ++ body) ∷ [])
td-tag {body} p = a-tag (ascii "td>") body td-plain p.is td-is

li-plain : plain (ascii "li>") ≡ true
unfolding plain
li-plain = refl

li-is : (v : List ℕ) → passed_over (ascii "li>" ++ v) ≡ false
unfolding passed_over closes name_of one_of alike
li-is v = refl

li-tag : {body : List ℕ} → Plain body → Part (60 ∷ (ascii "li>" ++ body)) ((ascii "li>" ++ body) ∷ [])
li-tag {body} p = a-tag (ascii "li>") body li-plain p.is li-is

small_plain : plain (ascii "small>") ≡ true
unfolding plain
small_plain = refl

small_is : (v : List ℕ) → passed_over (ascii "small>" ++ v) ≡ true
unfolding passed_over closes name_of one_of alike
small_is v = refl

small-tag : {body : List ℕ} → Plain body → Part (60 ∷ (ascii "small>" ++ body)) []
small-tag {body} p = quiet-tag (ascii "small>") body small_plain p.is small_is

svg-plain : plain (ascii "svg class='l") ≡ true
unfolding plain
svg-plain = refl

svg-is : (v : List ℕ) → passed_over (ascii "svg class='l" ++ v) ≡ true
unfolding passed_over closes name_of one_of alike
svg-is v = refl

svg-tag : {body : List ℕ} → Plain body → Part (60 ∷ (ascii "svg class='l" ++ body)) []
svg-tag {body} p = quiet-tag (ascii "svg class='l") body svg-plain p.is svg-is

p-plain : plain (ascii "p>") ≡ true
unfolding plain
p-plain = refl

p-is : (v : List ℕ) → passed_over (ascii "p>" ++ v) ≡ true
unfolding passed_over closes name_of one_of alike
p-is v = refl

p-tag : {body : List ℕ} → Plain body → Part (60 ∷ (ascii "p>" ++ body)) []
p-tag {body} p = quiet-tag (ascii "p>") body p-plain p.is p-is

main-plain : plain (ascii "main style='--s:") ≡ true
unfolding plain
main-plain = refl

main-is : (v : List ℕ) → passed_over (ascii "main style='--s:" ++ v) ≡ true
unfolding passed_over closes name_of one_of alike
main-is v = refl

main-tag : {body : List ℕ} → Plain body → Part (60 ∷ (ascii "main style='--s:" ++ body)) []
main-tag {body} p = quiet-tag (ascii "main style='--s:") body main-plain p.is main-is

span-plain : plain (ascii "span>") ≡ true
unfolding plain
span-plain = refl

span-is : (v : List ℕ) → passed_over (ascii "span>" ++ v) ≡ true
unfolding passed_over closes name_of one_of alike
span-is v = refl

span-tag : {body : List ℕ} → Plain body → Part (60 ∷ (ascii "span>" ++ body)) []
span-tag {body} p = quiet-tag (ascii "span>") body span-plain p.is span-is

break-plain : plain (ascii "wbr/>") ≡ true
unfolding plain
break-plain = refl

break-is : (v : List ℕ) → passed_over (ascii "wbr/>" ++ v) ≡ true
unfolding passed_over closes name_of one_of alike
break-is v = refl

break-tag : {body : List ℕ} → Plain body → Part (60 ∷ (ascii "wbr/>" ++ body)) []
break-tag {body} p = quiet-tag (ascii "wbr/>") body break-plain p.is break-is

b-plain : plain (ascii "b>") ≡ true
unfolding plain
b-plain = refl

b-is : (v : List ℕ) → passed_over (ascii "b>" ++ v) ≡ true
unfolding passed_over closes name_of one_of alike
b-is v = refl

b-tag : {body : List ℕ} → Plain body → Part (60 ∷ (ascii "b>" ++ body)) []
b-tag {body} p = quiet-tag (ascii "b>") body b-plain p.is b-is

style-plain : plain (ascii "style>") ≡ true
unfolding plain
style-plain = refl

style-is : (v : List ℕ) → passed_over (ascii "style>" ++ v) ≡ true
unfolding passed_over closes name_of one_of alike
style-is v = refl

style-tag : {body : List ℕ} → Plain body → Part (60 ∷ (ascii "style>" ++ body)) []
style-tag {body} p = quiet-tag (ascii "style>") body style-plain p.is style-is

span-end-plain : plain (ascii "/span>") ≡ true
unfolding plain
span-end-plain = refl

span-end-is : (v : List ℕ) → passed_over (ascii "/span>" ++ v) ≡ true
unfolding passed_over closes name_of one_of alike
span-end-is v = refl

span-end-tag : {body : List ℕ} → Plain body → Part (60 ∷ (ascii "/span>" ++ body)) []
span-end-tag {body} p = quiet-tag (ascii "/span>") body span-end-plain p.is span-end-is

-- the heading of a section
heading-end : Part (ascii "</small></h2>\n") []
unfolding up_to read_of passed_over closes name_of one_of alike
heading-end = record { starts = λ u h. refl; reads = λ u h. refl }

blank : Plain (ascii " ")
unfolding plain
blank = record { is = refl }

semicolon : Plain (ascii "; ")
unfolding plain
semicolon = record { is = refl }

lacks-heading : lacks (ascii "<section><h2>") ≡ true
unfolding lacks
lacks-heading = refl

lacks-small : lacks (ascii " <small>") ≡ true
unfolding lacks
lacks-small = refl

heading-form : (n : ℕ) → ascii "<section><h2>" ++ (in_decimal n ++ ascii " <small>") ≡ fill (ascii "<section><h2>~ <small>") (n ∷ [])
heading-form n = sym (one_number (ascii "<section><h2>") (ascii " <small>") n lacks-heading lacks-small)

heading-is : (x : Line) → (ascii "<section>" ++ (ascii "<h2>" ++ (in_decimal x.address ++ (ascii " " ++ ascii "<small>")))) ++ mode_text x.settings ++ ascii "; " ++ type_text x.settings ++ ascii "</small></h2>\n" ≡ heading_text x
unfolding heading_text
heading-is x = ap (λ (f : List ℕ). f ++ mode_text x.settings ++ ascii "; " ++ type_text x.settings ++ ascii "</small></h2>\n") (heading-form x.address)

heading-part : (x : Line) → Part (heading_text x) (ascii "section>" ∷ (ascii "h2>" ++ in_decimal x.address ++ ascii " ") ∷ [])
heading-part x =
    text-is
    (heading-flat (ascii "<section>") (ascii "<h2>") (in_decimal x.address) (ascii " ") (ascii "<small>") (mode_text x.settings) (ascii "; ") (type_text x.settings) (ascii "</small></h2>\n") ∙ heading-is x)
    (then (section-tag none) (then (h2-tag (join (number x.address) blank)) (then (small-tag (join (join (a-mode x.settings) semicolon) (a-type x.settings))) heading-end)))

-- the rows: a scale, which says nothing that is read, and a frame
value-plain : (layer settings n : ℕ) → Plain (value_text layer settings n)
unfolding value_text
value-plain layer settings n = either (eqb layer 0) (a-level settings n) (either (eqb layer 1) (degrees n) none)

labels : plain (ascii "level|temperature|faults|alarm 1|alarm 0") ≡ true
unfolding plain
labels = refl

label-plain : (layer : ℕ) → Plain (label_text layer)
unfolding label_text
label-plain layer = chosen layer (ascii "level|temperature|faults|alarm 1|alarm 0") [] labels

scale-begun : Part (ascii "<div class='row'><div class='y'>") []
unfolding up_to read_of passed_over closes name_of one_of alike
scale-begun = record { starts = λ u h. refl; reads = λ u h. refl }

b_end : Part (ascii "</b>") []
unfolding up_to read_of passed_over closes name_of one_of alike
b_end = record { starts = λ u h. refl; reads = λ u h. refl }

scale-end : Part (ascii "</span></div>") []
unfolding up_to read_of passed_over closes name_of one_of alike
scale-end = record { starts = λ u h. refl; reads = λ u h. refl }

scale-part : (layer settings high low : ℕ) → Part (scale_text layer settings high low) []
unfolding scale_text
scale-part layer settings high low =
    let v = value_text layer settings high in
    let w = value_text layer settings low in
    let t = label_text layer in
    let flat : ascii "<div class='row'><div class='y'>" ++ ((60 ∷ (ascii "span>" ++ v)) ++ ((60 ∷ (ascii "/span>" ++ [])) ++ ((60 ∷ (ascii "b>" ++ t)) ++ (ascii "</b>" ++ ((60 ∷ (ascii "span>" ++ w)) ++ ascii "</span></div>"))))) ≡ scale_text layer settings high low = simp append_assoc in
    text-is
    flat
    (then scale-begun (then (span-tag (value-plain layer settings high)) (then (span-end-tag none) (then (b-tag (label-plain layer)) (then b_end (then (span-tag (value-plain layer settings low)) scale-end))))))

-- the view of a frame, and its form
view-0 : Plain (ascii "' viewBox='")
unfolding plain
view-0 = record { is = refl }

view-1 : Plain (ascii " -")
unfolding plain
view-1 = record { is = refl }

view-2 : Plain (ascii " ")
unfolding plain
view-2 = record { is = refl }

view-3 : Plain (ascii " ")
unfolding plain
view-3 = record { is = refl }

view-4 : Plain (ascii "' preserveAspectRatio='none' role='img'>")
unfolding plain
view-4 = record { is = refl }

abbrev view_of : ℕ → ℕ → ℕ → ℕ → ℕ → List ℕ
view_of n from top span height =
    in_decimal n ++ (ascii "' viewBox='" ++ (in_decimal from ++ (ascii " -" ++ (in_decimal top ++ (ascii " " ++ (in_decimal span ++ (ascii " " ++ (in_decimal height ++ ascii "' preserveAspectRatio='none' role='img'>"))))))))

view-plain : (n from top span height : ℕ) → Plain (view_of n from top span height)
view-plain n from top span height =
    join (number n) (join view-0 (join (number from) (join view-1 (join (number top) (join view-2 (join (number span) (join view-3 (join (number height) view-4))))))))

lacks-view-0 : lacks (ascii "<svg class='l") ≡ true
unfolding lacks
lacks-view-0 = refl

lacks-view-1 : lacks (ascii "' viewBox='") ≡ true
unfolding lacks
lacks-view-1 = refl

lacks-view-2 : lacks (ascii " -") ≡ true
unfolding lacks
lacks-view-2 = refl

lacks-view-3 : lacks (ascii " ") ≡ true
unfolding lacks
lacks-view-3 = refl

lacks-view-4 : lacks (ascii " ") ≡ true
unfolding lacks
lacks-view-4 = refl

lacks-view-5 : lacks (ascii "' preserveAspectRatio='none' role='img'><title>") ≡ true
unfolding lacks
lacks-view-5 = refl

lacks-view-6 : lacks (ascii ": ") ≡ true
unfolding lacks
lacks-view-6 = refl

view-form : (n from top span height address : ℕ) → fill (ascii "<svg class='l~' viewBox='~ -~ ~ ~' preserveAspectRatio='none' role='img'><title>~: ") (n ∷ from ∷ top ∷ span ∷ height ∷ address ∷ []) ≡ ascii "<svg class='l" ++ (in_decimal n ++ (ascii "' viewBox='" ++ (in_decimal from ++ (ascii " -" ++ (in_decimal top ++ (ascii " " ++ (in_decimal span ++ (ascii " " ++ (in_decimal height ++ (ascii "' preserveAspectRatio='none' role='img'><title>" ++ (in_decimal address ++ (ascii ": "))))))))))))
view-form n from top span height address =
    form-next (ascii "<svg class='l") (ascii "' viewBox='~ -~ ~ ~' preserveAspectRatio='none' role='img'><title>~: ") n (from ∷ top ∷ span ∷ height ∷ address ∷ []) lacks-view-0 ∙ ap (λ (r : List ℕ). ascii "<svg class='l" ++ (in_decimal n ++ r)) (form-next (ascii "' viewBox='") (ascii " -~ ~ ~' preserveAspectRatio='none' role='img'><title>~: ") from (top ∷ span ∷ height ∷ address ∷ []) lacks-view-1 ∙ ap (λ (r : List ℕ). ascii "' viewBox='" ++ (in_decimal from ++ r)) (form-next (ascii " -") (ascii " ~ ~' preserveAspectRatio='none' role='img'><title>~: ") top (span ∷ height ∷ address ∷ []) lacks-view-2 ∙ ap (λ (r : List ℕ). ascii " -" ++ (in_decimal top ++ r)) (form-next (ascii " ") (ascii " ~' preserveAspectRatio='none' role='img'><title>~: ") span (height ∷ address ∷ []) lacks-view-3 ∙ ap (λ (r : List ℕ). ascii " " ++ (in_decimal span ++ r)) (form-next (ascii " ") (ascii "' preserveAspectRatio='none' role='img'><title>~: ") height (address ∷ []) lacks-view-4 ∙ ap (λ (r : List ℕ). ascii " " ++ (in_decimal height ++ r)) (form-next (ascii "' preserveAspectRatio='none' role='img'><title>") (ascii ": ") address ([]) lacks-view-5 ∙ ap (λ (r : List ℕ). ascii "' preserveAspectRatio='none' role='img'><title>" ++ (in_decimal address ++ r)) (all_words (ascii ": ") [] lacks-view-6))))))

-- a frame: its view is passed over, its title is read, then what is drawn in it
path-end : Plain (ascii "'/>")
unfolding plain
path-end = record { is = refl }

frame-end : Part (ascii "</g></svg></div>\n") []
unfolding up_to read_of passed_over closes name_of one_of alike
frame-end = record { starts = λ u h. refl; reads = λ u h. refl }

called-0 : Plain (ascii ": level")
unfolding plain
called-0 = record { is = refl }

described-0 : Part (ascii "</title><desc>a point for each good reply, at its minute and level, joined where no faulty reply lies between</desc><g transform='scale(1,-1)'>") []
unfolding up_to read_of passed_over closes name_of one_of alike
described-0 = record { starts = λ u h. refl; reads = λ u h. refl }

called-1 : Plain (ascii ": temperature")
unfolding plain
called-1 = record { is = refl }

described-1 : Part (ascii "</title><desc>a point for each good reply that has a temperature, joined where no other reply lies between</desc><g transform='scale(1,-1)'>") []
unfolding up_to read_of passed_over closes name_of one_of alike
described-1 = record { starts = λ u h. refl; reads = λ u h. refl }

called-2 : Plain (ascii ": faulty replies")
unfolding plain
called-2 = record { is = refl }

described-2 : Part (ascii "</title><desc>a bar for each, at its minute</desc><g>") []
unfolding up_to read_of passed_over closes name_of one_of alike
described-2 = record { starts = λ u h. refl; reads = λ u h. refl }

called-3 : Plain (ascii ": alarm 1")
unfolding plain
called-3 = record { is = refl }

described-3 : Part (ascii "</title><desc>a round dot for each good reply that has it</desc><g>") []
unfolding up_to read_of passed_over closes name_of one_of alike
described-3 = record { starts = λ u h. refl; reads = λ u h. refl }

called-4 : Plain (ascii ": alarm 0")
unfolding plain
called-4 = record { is = refl }

described-4 : Part (ascii "</title><desc>a square dot for each good reply that has it</desc><g>") []
unfolding up_to read_of passed_over closes name_of one_of alike
described-4 = record { starts = λ u h. refl; reads = λ u h. refl }

lacks-body-0 : lacks (ascii "level</title><desc>a point for each good reply, at its minute and level, joined where no faulty reply lies between</desc><g transform='scale(1,-1)'><path d='") ≡ true
unfolding lacks
lacks-body-0 = refl

lacks-end-0 : lacks (ascii "'/></g></svg></div>\n") ≡ true
unfolding lacks
lacks-end-0 = refl

chosen-0 : choice 0 (ascii "level</title><desc>a point for each good reply, at its minute and level, joined where no faulty reply lies between</desc><g transform='scale(1,-1)'><path d='|temperature</title><desc>a point for each good reply that has a temperature, joined where no other reply lies between</desc><g transform='scale(1,-1)'><path d='|faulty replies</title><desc>a bar for each, at its minute</desc><g>|alarm 1</title><desc>a round dot for each good reply that has it</desc><g>|alarm 0</title><desc>a square dot for each good reply that has it</desc><g>") ≡ ascii "level</title><desc>a point for each good reply, at its minute and level, joined where no faulty reply lies between</desc><g transform='scale(1,-1)'><path d='"
unfolding choice first others
chosen-0 = refl

end-0 : choice 0 (ascii "'/></g></svg></div>\n|'/></g></svg></div>\n|</g></svg></div>\n|</g></svg></div>\n|</g></svg></div>\n") ≡ ascii "'/></g></svg></div>\n"
unfolding choice first others
end-0 = refl

ended-0 : ascii "'/></g></svg></div>\n" ≡ fill (choice 0 (ascii "'/></g></svg></div>\n|'/></g></svg></div>\n|</g></svg></div>\n|</g></svg></div>\n|</g></svg></div>\n")) []
ended-0 = sym (ap (λ (f : List ℕ). fill f []) end-0 ∙ all_words (ascii "'/></g></svg></div>\n") [] lacks-end-0)

begun-0 : (address from top span height : ℕ) → (ascii "<svg class='l" ++ (in_decimal 0 ++ (ascii "' viewBox='" ++ (in_decimal from ++ (ascii " -" ++ (in_decimal top ++ (ascii " " ++ (in_decimal span ++ (ascii " " ++ (in_decimal height ++ (ascii "' preserveAspectRatio='none' role='img'>" ++ (ascii "<title>" ++ (in_decimal address ++ ascii ": ")))))))))))) ++ ascii "level</title><desc>a point for each good reply, at its minute and level, joined where no faulty reply lies between</desc><g transform='scale(1,-1)'><path d='") ≡ begin_text 0 address from top span height
unfolding begin_text
begun-0 address from top span height =
    let view = sym (view-form 0 from top span height address) in
    let words : ascii "level</title><desc>a point for each good reply, at its minute and level, joined where no faulty reply lies between</desc><g transform='scale(1,-1)'><path d='" ≡ fill (choice 0 (ascii "level</title><desc>a point for each good reply, at its minute and level, joined where no faulty reply lies between</desc><g transform='scale(1,-1)'><path d='|temperature</title><desc>a point for each good reply that has a temperature, joined where no other reply lies between</desc><g transform='scale(1,-1)'><path d='|faulty replies</title><desc>a bar for each, at its minute</desc><g>|alarm 1</title><desc>a round dot for each good reply that has it</desc><g>|alarm 0</title><desc>a square dot for each good reply that has it</desc><g>")) [] = sym (ap (λ (f : List ℕ). fill f []) chosen-0 ∙ all_words (ascii "level</title><desc>a point for each good reply, at its minute and level, joined where no faulty reply lies between</desc><g transform='scale(1,-1)'><path d='") [] lacks-body-0) in
    λ i. view i ++ words i

frame-0 : (address from top span height : ℕ) {line : List ℕ} → Plain line → Part (begin_text 0 address from top span height ++ (line ++ fill (choice 0 (ascii "'/></g></svg></div>\n|'/></g></svg></div>\n|</g></svg></div>\n|</g></svg></div>\n|</g></svg></div>\n")) [])) (titled address "level" ∷ drawn line ∷ [])
unfolding drawn
frame-0 address from top span height {line} p =
    let whole = begun-0 address from top span height in
    text-is
    (frame-flat (ascii "<svg class='l") (in_decimal 0) (ascii "' viewBox='") (in_decimal from) (ascii " -") (in_decimal top) (ascii " ") (in_decimal span) (ascii " ") (in_decimal height) (ascii "' preserveAspectRatio='none' role='img'>") (ascii "<title>") (in_decimal address) (ascii ": ") (ascii "level") (ascii "</title><desc>a point for each good reply, at its minute and level, joined where no faulty reply lies between</desc><g transform='scale(1,-1)'><path d='") line (ascii "'/></g></svg></div>\n") ∙ (λ i. whole i ++ (line ++ ended-0 i)))
    (then (svg-tag (view-plain 0 from top span height)) (then (title-tag (join (number address) called-0)) (then described-0 (text-is (append_assoc (ascii "<path d='") (line ++ ascii "'/>") (ascii "</g></svg></div>\n") ∙ ap (λ (r : List ℕ). ascii "<path d='" ++ r) (append_assoc line (ascii "'/>") (ascii "</g></svg></div>\n"))) (then (path-tag (join p path-end)) frame-end)))))

lacks-body-1 : lacks (ascii "temperature</title><desc>a point for each good reply that has a temperature, joined where no other reply lies between</desc><g transform='scale(1,-1)'><path d='") ≡ true
unfolding lacks
lacks-body-1 = refl

lacks-end-1 : lacks (ascii "'/></g></svg></div>\n") ≡ true
unfolding lacks
lacks-end-1 = refl

chosen-1 : choice 1 (ascii "level</title><desc>a point for each good reply, at its minute and level, joined where no faulty reply lies between</desc><g transform='scale(1,-1)'><path d='|temperature</title><desc>a point for each good reply that has a temperature, joined where no other reply lies between</desc><g transform='scale(1,-1)'><path d='|faulty replies</title><desc>a bar for each, at its minute</desc><g>|alarm 1</title><desc>a round dot for each good reply that has it</desc><g>|alarm 0</title><desc>a square dot for each good reply that has it</desc><g>") ≡ ascii "temperature</title><desc>a point for each good reply that has a temperature, joined where no other reply lies between</desc><g transform='scale(1,-1)'><path d='"
unfolding choice first others
chosen-1 = refl

end-1 : choice 1 (ascii "'/></g></svg></div>\n|'/></g></svg></div>\n|</g></svg></div>\n|</g></svg></div>\n|</g></svg></div>\n") ≡ ascii "'/></g></svg></div>\n"
unfolding choice first others
end-1 = refl

ended-1 : ascii "'/></g></svg></div>\n" ≡ fill (choice 1 (ascii "'/></g></svg></div>\n|'/></g></svg></div>\n|</g></svg></div>\n|</g></svg></div>\n|</g></svg></div>\n")) []
ended-1 = sym (ap (λ (f : List ℕ). fill f []) end-1 ∙ all_words (ascii "'/></g></svg></div>\n") [] lacks-end-1)

begun-1 : (address from top span height : ℕ) → (ascii "<svg class='l" ++ (in_decimal 1 ++ (ascii "' viewBox='" ++ (in_decimal from ++ (ascii " -" ++ (in_decimal top ++ (ascii " " ++ (in_decimal span ++ (ascii " " ++ (in_decimal height ++ (ascii "' preserveAspectRatio='none' role='img'>" ++ (ascii "<title>" ++ (in_decimal address ++ ascii ": ")))))))))))) ++ ascii "temperature</title><desc>a point for each good reply that has a temperature, joined where no other reply lies between</desc><g transform='scale(1,-1)'><path d='") ≡ begin_text 1 address from top span height
unfolding begin_text
begun-1 address from top span height =
    let view = sym (view-form 1 from top span height address) in
    let words : ascii "temperature</title><desc>a point for each good reply that has a temperature, joined where no other reply lies between</desc><g transform='scale(1,-1)'><path d='" ≡ fill (choice 1 (ascii "level</title><desc>a point for each good reply, at its minute and level, joined where no faulty reply lies between</desc><g transform='scale(1,-1)'><path d='|temperature</title><desc>a point for each good reply that has a temperature, joined where no other reply lies between</desc><g transform='scale(1,-1)'><path d='|faulty replies</title><desc>a bar for each, at its minute</desc><g>|alarm 1</title><desc>a round dot for each good reply that has it</desc><g>|alarm 0</title><desc>a square dot for each good reply that has it</desc><g>")) [] = sym (ap (λ (f : List ℕ). fill f []) chosen-1 ∙ all_words (ascii "temperature</title><desc>a point for each good reply that has a temperature, joined where no other reply lies between</desc><g transform='scale(1,-1)'><path d='") [] lacks-body-1) in
    λ i. view i ++ words i

frame-1 : (address from top span height : ℕ) {line : List ℕ} → Plain line → Part (begin_text 1 address from top span height ++ (line ++ fill (choice 1 (ascii "'/></g></svg></div>\n|'/></g></svg></div>\n|</g></svg></div>\n|</g></svg></div>\n|</g></svg></div>\n")) [])) (titled address "temperature" ∷ drawn line ∷ [])
unfolding drawn
frame-1 address from top span height {line} p =
    let whole = begun-1 address from top span height in
    text-is
    (frame-flat (ascii "<svg class='l") (in_decimal 1) (ascii "' viewBox='") (in_decimal from) (ascii " -") (in_decimal top) (ascii " ") (in_decimal span) (ascii " ") (in_decimal height) (ascii "' preserveAspectRatio='none' role='img'>") (ascii "<title>") (in_decimal address) (ascii ": ") (ascii "temperature") (ascii "</title><desc>a point for each good reply that has a temperature, joined where no other reply lies between</desc><g transform='scale(1,-1)'><path d='") line (ascii "'/></g></svg></div>\n") ∙ (λ i. whole i ++ (line ++ ended-1 i)))
    (then (svg-tag (view-plain 1 from top span height)) (then (title-tag (join (number address) called-1)) (then described-1 (text-is (append_assoc (ascii "<path d='") (line ++ ascii "'/>") (ascii "</g></svg></div>\n") ∙ ap (λ (r : List ℕ). ascii "<path d='" ++ r) (append_assoc line (ascii "'/>") (ascii "</g></svg></div>\n"))) (then (path-tag (join p path-end)) frame-end)))))

lacks-body-2 : lacks (ascii "faulty replies</title><desc>a bar for each, at its minute</desc><g>") ≡ true
unfolding lacks
lacks-body-2 = refl

lacks-end-2 : lacks (ascii "</g></svg></div>\n") ≡ true
unfolding lacks
lacks-end-2 = refl

chosen-2 : choice 2 (ascii "level</title><desc>a point for each good reply, at its minute and level, joined where no faulty reply lies between</desc><g transform='scale(1,-1)'><path d='|temperature</title><desc>a point for each good reply that has a temperature, joined where no other reply lies between</desc><g transform='scale(1,-1)'><path d='|faulty replies</title><desc>a bar for each, at its minute</desc><g>|alarm 1</title><desc>a round dot for each good reply that has it</desc><g>|alarm 0</title><desc>a square dot for each good reply that has it</desc><g>") ≡ ascii "faulty replies</title><desc>a bar for each, at its minute</desc><g>"
unfolding choice first others
chosen-2 = refl

end-2 : choice 2 (ascii "'/></g></svg></div>\n|'/></g></svg></div>\n|</g></svg></div>\n|</g></svg></div>\n|</g></svg></div>\n") ≡ ascii "</g></svg></div>\n"
unfolding choice first others
end-2 = refl

ended-2 : ascii "</g></svg></div>\n" ≡ fill (choice 2 (ascii "'/></g></svg></div>\n|'/></g></svg></div>\n|</g></svg></div>\n|</g></svg></div>\n|</g></svg></div>\n")) []
ended-2 = sym (ap (λ (f : List ℕ). fill f []) end-2 ∙ all_words (ascii "</g></svg></div>\n") [] lacks-end-2)

begun-2 : (address from top span height : ℕ) → (ascii "<svg class='l" ++ (in_decimal 2 ++ (ascii "' viewBox='" ++ (in_decimal from ++ (ascii " -" ++ (in_decimal top ++ (ascii " " ++ (in_decimal span ++ (ascii " " ++ (in_decimal height ++ (ascii "' preserveAspectRatio='none' role='img'>" ++ (ascii "<title>" ++ (in_decimal address ++ ascii ": ")))))))))))) ++ ascii "faulty replies</title><desc>a bar for each, at its minute</desc><g>") ≡ begin_text 2 address from top span height
unfolding begin_text
begun-2 address from top span height =
    let view = sym (view-form 2 from top span height address) in
    let words : ascii "faulty replies</title><desc>a bar for each, at its minute</desc><g>" ≡ fill (choice 2 (ascii "level</title><desc>a point for each good reply, at its minute and level, joined where no faulty reply lies between</desc><g transform='scale(1,-1)'><path d='|temperature</title><desc>a point for each good reply that has a temperature, joined where no other reply lies between</desc><g transform='scale(1,-1)'><path d='|faulty replies</title><desc>a bar for each, at its minute</desc><g>|alarm 1</title><desc>a round dot for each good reply that has it</desc><g>|alarm 0</title><desc>a square dot for each good reply that has it</desc><g>")) [] = sym (ap (λ (f : List ℕ). fill f []) chosen-2 ∙ all_words (ascii "faulty replies</title><desc>a bar for each, at its minute</desc><g>") [] lacks-body-2) in
    λ i. view i ++ words i

frame-2 : (address from top span height : ℕ) {line : List ℕ} {ts : List (List ℕ)} → Part line ts → Part (begin_text 2 address from top span height ++ (line ++ fill (choice 2 (ascii "'/></g></svg></div>\n|'/></g></svg></div>\n|</g></svg></div>\n|</g></svg></div>\n|</g></svg></div>\n")) [])) (titled address "faulty replies" ∷ ts ++ [])
frame-2 address from top span height {line} {ts} p =
    let whole = begun-2 address from top span height in
    text-is
    (frame-flat (ascii "<svg class='l") (in_decimal 2) (ascii "' viewBox='") (in_decimal from) (ascii " -") (in_decimal top) (ascii " ") (in_decimal span) (ascii " ") (in_decimal height) (ascii "' preserveAspectRatio='none' role='img'>") (ascii "<title>") (in_decimal address) (ascii ": ") (ascii "faulty replies") (ascii "</title><desc>a bar for each, at its minute</desc><g>") line (ascii "</g></svg></div>\n") ∙ (λ i. whole i ++ (line ++ ended-2 i)))
    (then (svg-tag (view-plain 2 from top span height)) (then (title-tag (join (number address) called-2)) (then described-2 (then p frame-end))))

lacks-body-3 : lacks (ascii "alarm 1</title><desc>a round dot for each good reply that has it</desc><g>") ≡ true
unfolding lacks
lacks-body-3 = refl

lacks-end-3 : lacks (ascii "</g></svg></div>\n") ≡ true
unfolding lacks
lacks-end-3 = refl

chosen-3 : choice 3 (ascii "level</title><desc>a point for each good reply, at its minute and level, joined where no faulty reply lies between</desc><g transform='scale(1,-1)'><path d='|temperature</title><desc>a point for each good reply that has a temperature, joined where no other reply lies between</desc><g transform='scale(1,-1)'><path d='|faulty replies</title><desc>a bar for each, at its minute</desc><g>|alarm 1</title><desc>a round dot for each good reply that has it</desc><g>|alarm 0</title><desc>a square dot for each good reply that has it</desc><g>") ≡ ascii "alarm 1</title><desc>a round dot for each good reply that has it</desc><g>"
unfolding choice first others
chosen-3 = refl

end-3 : choice 3 (ascii "'/></g></svg></div>\n|'/></g></svg></div>\n|</g></svg></div>\n|</g></svg></div>\n|</g></svg></div>\n") ≡ ascii "</g></svg></div>\n"
unfolding choice first others
end-3 = refl

ended-3 : ascii "</g></svg></div>\n" ≡ fill (choice 3 (ascii "'/></g></svg></div>\n|'/></g></svg></div>\n|</g></svg></div>\n|</g></svg></div>\n|</g></svg></div>\n")) []
ended-3 = sym (ap (λ (f : List ℕ). fill f []) end-3 ∙ all_words (ascii "</g></svg></div>\n") [] lacks-end-3)

begun-3 : (address from top span height : ℕ) → (ascii "<svg class='l" ++ (in_decimal 3 ++ (ascii "' viewBox='" ++ (in_decimal from ++ (ascii " -" ++ (in_decimal top ++ (ascii " " ++ (in_decimal span ++ (ascii " " ++ (in_decimal height ++ (ascii "' preserveAspectRatio='none' role='img'>" ++ (ascii "<title>" ++ (in_decimal address ++ ascii ": ")))))))))))) ++ ascii "alarm 1</title><desc>a round dot for each good reply that has it</desc><g>") ≡ begin_text 3 address from top span height
unfolding begin_text
begun-3 address from top span height =
    let view = sym (view-form 3 from top span height address) in
    let words : ascii "alarm 1</title><desc>a round dot for each good reply that has it</desc><g>" ≡ fill (choice 3 (ascii "level</title><desc>a point for each good reply, at its minute and level, joined where no faulty reply lies between</desc><g transform='scale(1,-1)'><path d='|temperature</title><desc>a point for each good reply that has a temperature, joined where no other reply lies between</desc><g transform='scale(1,-1)'><path d='|faulty replies</title><desc>a bar for each, at its minute</desc><g>|alarm 1</title><desc>a round dot for each good reply that has it</desc><g>|alarm 0</title><desc>a square dot for each good reply that has it</desc><g>")) [] = sym (ap (λ (f : List ℕ). fill f []) chosen-3 ∙ all_words (ascii "alarm 1</title><desc>a round dot for each good reply that has it</desc><g>") [] lacks-body-3) in
    λ i. view i ++ words i

frame-3 : (address from top span height : ℕ) {line : List ℕ} {ts : List (List ℕ)} → Part line ts → Part (begin_text 3 address from top span height ++ (line ++ fill (choice 3 (ascii "'/></g></svg></div>\n|'/></g></svg></div>\n|</g></svg></div>\n|</g></svg></div>\n|</g></svg></div>\n")) [])) (titled address "alarm 1" ∷ ts ++ [])
frame-3 address from top span height {line} {ts} p =
    let whole = begun-3 address from top span height in
    text-is
    (frame-flat (ascii "<svg class='l") (in_decimal 3) (ascii "' viewBox='") (in_decimal from) (ascii " -") (in_decimal top) (ascii " ") (in_decimal span) (ascii " ") (in_decimal height) (ascii "' preserveAspectRatio='none' role='img'>") (ascii "<title>") (in_decimal address) (ascii ": ") (ascii "alarm 1") (ascii "</title><desc>a round dot for each good reply that has it</desc><g>") line (ascii "</g></svg></div>\n") ∙ (λ i. whole i ++ (line ++ ended-3 i)))
    (then (svg-tag (view-plain 3 from top span height)) (then (title-tag (join (number address) called-3)) (then described-3 (then p frame-end))))

lacks-body-4 : lacks (ascii "alarm 0</title><desc>a square dot for each good reply that has it</desc><g>") ≡ true
unfolding lacks
lacks-body-4 = refl

lacks-end-4 : lacks (ascii "</g></svg></div>\n") ≡ true
unfolding lacks
lacks-end-4 = refl

chosen-4 : choice 4 (ascii "level</title><desc>a point for each good reply, at its minute and level, joined where no faulty reply lies between</desc><g transform='scale(1,-1)'><path d='|temperature</title><desc>a point for each good reply that has a temperature, joined where no other reply lies between</desc><g transform='scale(1,-1)'><path d='|faulty replies</title><desc>a bar for each, at its minute</desc><g>|alarm 1</title><desc>a round dot for each good reply that has it</desc><g>|alarm 0</title><desc>a square dot for each good reply that has it</desc><g>") ≡ ascii "alarm 0</title><desc>a square dot for each good reply that has it</desc><g>"
unfolding choice first others
chosen-4 = refl

end-4 : choice 4 (ascii "'/></g></svg></div>\n|'/></g></svg></div>\n|</g></svg></div>\n|</g></svg></div>\n|</g></svg></div>\n") ≡ ascii "</g></svg></div>\n"
unfolding choice first others
end-4 = refl

ended-4 : ascii "</g></svg></div>\n" ≡ fill (choice 4 (ascii "'/></g></svg></div>\n|'/></g></svg></div>\n|</g></svg></div>\n|</g></svg></div>\n|</g></svg></div>\n")) []
ended-4 = sym (ap (λ (f : List ℕ). fill f []) end-4 ∙ all_words (ascii "</g></svg></div>\n") [] lacks-end-4)

begun-4 : (address from top span height : ℕ) → (ascii "<svg class='l" ++ (in_decimal 4 ++ (ascii "' viewBox='" ++ (in_decimal from ++ (ascii " -" ++ (in_decimal top ++ (ascii " " ++ (in_decimal span ++ (ascii " " ++ (in_decimal height ++ (ascii "' preserveAspectRatio='none' role='img'>" ++ (ascii "<title>" ++ (in_decimal address ++ ascii ": ")))))))))))) ++ ascii "alarm 0</title><desc>a square dot for each good reply that has it</desc><g>") ≡ begin_text 4 address from top span height
unfolding begin_text
begun-4 address from top span height =
    let view = sym (view-form 4 from top span height address) in
    let words : ascii "alarm 0</title><desc>a square dot for each good reply that has it</desc><g>" ≡ fill (choice 4 (ascii "level</title><desc>a point for each good reply, at its minute and level, joined where no faulty reply lies between</desc><g transform='scale(1,-1)'><path d='|temperature</title><desc>a point for each good reply that has a temperature, joined where no other reply lies between</desc><g transform='scale(1,-1)'><path d='|faulty replies</title><desc>a bar for each, at its minute</desc><g>|alarm 1</title><desc>a round dot for each good reply that has it</desc><g>|alarm 0</title><desc>a square dot for each good reply that has it</desc><g>")) [] = sym (ap (λ (f : List ℕ). fill f []) chosen-4 ∙ all_words (ascii "alarm 0</title><desc>a square dot for each good reply that has it</desc><g>") [] lacks-body-4) in
    λ i. view i ++ words i

frame-4 : (address from top span height : ℕ) {line : List ℕ} {ts : List (List ℕ)} → Part line ts → Part (begin_text 4 address from top span height ++ (line ++ fill (choice 4 (ascii "'/></g></svg></div>\n|'/></g></svg></div>\n|</g></svg></div>\n|</g></svg></div>\n|</g></svg></div>\n")) [])) (titled address "alarm 0" ∷ ts ++ [])
frame-4 address from top span height {line} {ts} p =
    let whole = begun-4 address from top span height in
    text-is
    (frame-flat (ascii "<svg class='l") (in_decimal 4) (ascii "' viewBox='") (in_decimal from) (ascii " -") (in_decimal top) (ascii " ") (in_decimal span) (ascii " ") (in_decimal height) (ascii "' preserveAspectRatio='none' role='img'>") (ascii "<title>") (in_decimal address) (ascii ": ") (ascii "alarm 0") (ascii "</title><desc>a square dot for each good reply that has it</desc><g>") line (ascii "</g></svg></div>\n") ∙ (λ i. whole i ++ (line ++ ended-4 i)))
    (then (svg-tag (view-plain 4 from top span height)) (then (title-tag (join (number address) called-4)) (then described-4 (then p frame-end))))

-- the marks of the faulty replies, and the same in words
says : Plain (ascii ": ")
unfolding plain
says = record { is = refl }

fault-words : (b : Option Day) (m n place : ℕ) → Plain (moment_text b m ++ ascii ": " ++ fault_text n place)
fault-words b m n place = join (join (a-moment b m) says) (a-fault n place)

bar-end : Plain (ascii ",0v1'>")
unfolding plain
bar-end = record { is = refl }

mark-end : Part (ascii "</title></path>") []
unfolding up_to read_of passed_over closes name_of one_of alike
mark-end = record { starts = λ u h. refl; reads = λ u h. refl }

item-end : Part (ascii "</li>") []
unfolding up_to read_of passed_over closes name_of one_of alike
item-end = record { starts = λ u h. refl; reads = λ u h. refl }

lacks-bar : lacks (ascii "<path d='M") ≡ true
unfolding lacks
lacks-bar = refl

lacks-bar-title : lacks (ascii ",0v1'><title>") ≡ true
unfolding lacks
lacks-bar-title = refl

lacks-bar-read : lacks (ascii "path d='M") ≡ true
unfolding lacks
lacks-bar-read = refl

lacks-bar-end : lacks (ascii ",0v1'>") ≡ true
unfolding lacks
lacks-bar-end = refl

bar-form : (m : ℕ) → ascii "<path d='M" ++ (in_decimal m ++ ascii ",0v1'><title>") ≡ fill (ascii "<path d='M~,0v1'><title>") (m ∷ [])
bar-form m = sym (one_number (ascii "<path d='M") (ascii ",0v1'><title>") m lacks-bar lacks-bar-title)

bar-is : (b : Option Day) (m n place : ℕ) → (ascii "<path d='M" ++ (in_decimal m ++ (ascii ",0v1'>" ++ ascii "<title>"))) ++ moment_text b m ++ ascii ": " ++ fault_text n place ++ ascii "</title></path>" ≡ faulty_mark_text b m n place
unfolding faulty_mark_text
bar-is b m n place = ap (λ (f : List ℕ). f ++ moment_text b m ++ ascii ": " ++ fault_text n place ++ ascii "</title></path>") (bar-form m)

bar-read : (b : Option Day) (m n place : ℕ) → (ascii "path d='M" ++ (in_decimal m ++ ascii ",0v1'>")) ∷ (ascii "title>" ++ (moment_text b m ++ ascii ": " ++ fault_text n place)) ∷ [] ≡ bar_of b m n place
unfolding bar_of
bar-read b m n place =
    ap (λ (f : List ℕ). f ∷ (ascii "title>" ++ (moment_text b m ++ ascii ": " ++ fault_text n place)) ∷ []) (sym (one_number (ascii "path d='M") (ascii ",0v1'>") m lacks-bar-read lacks-bar-end))

bar-part : (b : Option Day) (m n place : ℕ) → Part (faulty_mark_text b m n place) (bar_of b m n place)
bar-part b m n place =
    says_is
    (bar-read b m n place)
    (text-is
    (mark-flat (ascii "<path d='M") (in_decimal m) (ascii ",0v1'>") (ascii "<title>") (moment_text b m) (ascii ": ") (fault_text n place) (ascii "</title></path>") ∙ bar-is b m n place)
    (then (mark-tag (join (number m) bar-end)) (then (title-tag (fault-words b m n place)) mark-end)))

mark-part : (b : Option Day) (m : ℕ) (reply : Result Reading Fault) → Part (joined (mark_in b m reply)) (bar_in b m reply)
unfolding joined
mark-part b m (Ok r) = nothing_said
mark-part b m (Err f) =
    let text = faulty_mark_text b m (number_of f) (place_named f) in
    subst (λ (t : List (List ℕ)). Part (joined t) (bar_in b m (Err f))) (sym (each.mark-of b m f))
    (subst (λ (s : List (List ℕ)). Part (joined (text ∷ [])) s) (sym (each.bar-read-of b m f)) (text-is (sym (append-nil text)) (bar-part b m (number_of f) (place_named f))))

joined-none : [] ≡ joined []
unfolding joined
joined-none = refl

joined-both : (ts us : List (List ℕ)) → joined ts ++ joined us ≡ joined (ts ++ us)
unfolding joined
joined-both [] us = refl
joined-both (t ∷ ts) us = append_assoc t (joined ts) (joined us) ∙ ap (λ (r : List ℕ). t ++ r) (joined-both ts us)

marks-part : (b : Option Day) (l : List Entry) → Part (joined (faulty_marks b l)) (bars b l)
unfolding faulty_marks bars
marks-part b [] = text-is joined-none nothing_said
marks-part b (e ∷ l) =
    text-is (joined-both (mark_in b e.minute (reply_in e)) (faulty_marks b l)) (then (mark-part b e.minute (reply_in e)) (marks-part b l))

-- the alarms
dot-end : Plain (ascii ",0h1'/>")
unfolding plain
dot-end = record { is = refl }

lacks-dot : lacks (ascii ",0h1'/>") ≡ true
unfolding lacks
lacks-dot = refl

dot-part : (m : ℕ) → Part (fill (ascii "<path d='M~,0h1'/>") (m ∷ [])) (fill (ascii "path d='M~,0h1'/>") (m ∷ []) ∷ [])
dot-part m =
    let text = one_number (ascii "<path d='M") (ascii ",0h1'/>") m lacks-bar lacks-dot in
    let read = one_number (ascii "path d='M") (ascii ",0h1'/>") m lacks-bar-read lacks-dot in
    says_is (ap (λ (f : List ℕ). f ∷ []) (sym read)) (text-is (sym text) (mark-tag (join (number m) dot-end)))

one-dot : (t : Bool) (m : ℕ) → Part (joined (pick t (fill (ascii "<path d='M~,0h1'/>") (m ∷ []) ∷ []) [])) (pick t (fill (ascii "path d='M~,0h1'/>") (m ∷ []) ∷ []) [])
unfolding joined
one-dot true m = text-is (sym (append-nil (fill (ascii "<path d='M~,0h1'/>") (m ∷ [])))) (dot-part m)
one-dot false m = nothing_said

alarm-part : (which : Reading → Bool) (m : ℕ) (reply : Result Reading Fault) → Part (joined (alarm_in which m reply)) (dot_in which m reply)
alarm-part which m (Ok r) = one-dot (which r) m
alarm-part which m (Err f) = text-is joined-none nothing_said

alarms-part : (which : Reading → Bool) (l : List Entry) → Part (joined (alarms which l)) (dots which l)
unfolding alarms dots
alarms-part which [] = text-is joined-none nothing_said
alarms-part which (e ∷ l) =
    text-is (joined-both (alarm_in which e.minute (reply_in e)) (alarms which l)) (then (alarm-part which e.minute (reply_in e)) (alarms-part which l))

-- the faults in words
item-part : (b : Option Day) (m n place : ℕ) → Part (drawing.said_as b 1 m n place) (words_of b m n place)
unfolding words_of fill choice first others
item-part b m n place =
    let words = moment_text b m ++ ascii ": " ++ fault_text n place in
    let flat : (60 ∷ (ascii "li>" ++ words)) ++ ascii "</li>" ≡ drawing.said_as b 1 m n place = simp append_assoc in
    text-is flat (then (li-tag (fault-words b m n place)) item-end)

no-alarm-word : (m : ℕ) (r : Reading) → [] ≡ drawing.alarm_mark 5 m r
unfolding drawing.alarm_mark
no-alarm-word m r = refl

said-as : (b : Option Day) (m n place : ℕ) → drawing.said_as b 1 m n place ≡ drawing.fault_mark b 5 m n place
unfolding drawing.fault_mark
said-as b m n place = refl

word-part : (b : Option Day) (m : ℕ) (reply : Result Reading Fault) → Part (drawing.mark_text b 5 m reply) (words_in b m reply)
word-part b m (Ok r) = text-is (no-alarm-word m r) nothing_said
word-part b m (Err f) = text-is (said-as b m (number_of f) (place_named f)) (item-part b m (number_of f) (place_named f))

words_opened : (b : Option Day) (j : Bool) (e : Entry) (l : List Entry) → drawing.mark_text b 5 e.minute (reply_in e) ++ layer_text b 5 false l ≡ layer_text b 5 j (e ∷ l)
unfolding layer_text drawing.part_text drawing.line_goes_on
words_opened b j e l = refl

words-none : (b : Option Day) (j : Bool) → [] ≡ layer_text b 5 j []
unfolding layer_text
words-none b j = refl

words-part : (b : Option Day) (j : Bool) (l : List Entry) → Part (layer_text b 5 j l) (in_words b l)
unfolding in_words
words-part b j [] = text-is (words-none b j) nothing_said
words-part b j (e ∷ l) = text-is (words_opened b j e l) (then (word-part b e.minute (reply_in e)) (words-part b false l))

-- the days under the pictures
axis-begun : Part (ascii "<div class='row'><div class='y'><b>day</b></div><div class='axis'>") []
unfolding up_to read_of passed_over closes name_of one_of alike
axis-begun = record { starts = λ u h. refl; reads = λ u h. refl }

axis-end : Part (ascii "</div></div>\n") []
unfolding up_to read_of passed_over closes name_of one_of alike
axis-end = record { starts = λ u h. refl; reads = λ u h. refl }

span-closed : Part (ascii "</span>") []
unfolding up_to read_of passed_over closes name_of one_of alike
span-closed = record { starts = λ u h. refl; reads = λ u h. refl }

tick-form : plain (ascii "~") ≡ true
unfolding plain
tick-form = refl

dash : Plain (ascii "-")
unfolding plain
dash = record { is = refl }

counted-day : (n : ℕ) → Part (ascii "<span>" ++ fill (ascii "~") (n ∷ []) ++ ascii "</span>") []
counted-day n = then (span-tag (filled (ascii "~") (n ∷ []) tick-form)) span-closed

dated-day : (d : Day) → Part (ascii "<span>" ++ page.date_on_axis d ++ ascii "</span>") []
dated-day d =
    let flat : (60 ∷ (ascii "span>" ++ (year_text d.year ++ ascii "-"))) ++ ((60 ∷ (ascii "wbr/>" ++ month_day_text d)) ++ ascii "</span>") ≡ ascii "<span>" ++ page.date_on_axis d ++ ascii "</span>" = simp append_assoc in
    text-is flat (then (span-tag (join (a-year d.year) dash)) (then (break-tag (a-month-day d)) span-closed))

day-part : (begin : Option Day) (n : ℕ) → Part (ascii "<span>" ++ day_on_axis begin n ++ ascii "</span>") []
unfolding day_on_axis
day-part None n = counted-day n
day-part (Some d) n = dated-day (days_from d n)

tick-part : (begin : Option Day) (i shown day : ℕ) → Part (tick_text begin i shown day) []
unfolding tick_text
tick-part begin i shown day = go (ltb i shown)
  where
    go : (t : Bool) → Part (pick t (ascii "<span>" ++ day_on_axis begin day ++ ascii "</span>") []) []
    go true = day-part begin day
    go false = nothing_said

days-part : (begin : Option Day) (from to : ℕ) → Part (days_text (axis_of begin from to)) []
unfolding days_text
days-part begin from to =
    let a = axis_of begin from to in
    let tick : (i : ℕ) → Part (tick_text a.begin i a.shown (get_or a.ticks i 0)) [] = λ i. tick-part a.begin i a.shown (get_or a.ticks i 0) in
    then (then (then (then (then (then axis-begun (tick 0)) (tick 1)) (tick 2)) (tick 3)) (tick 4)) axis-end

-- the table
lowest-row : Part (ascii "<table><tr><th>lowest</th>") []
unfolding up_to read_of passed_over closes name_of one_of alike
lowest-row = record { starts = λ u h. refl; reads = λ u h. refl }

highest-row : Part (ascii "</td></tr><tr><th>highest</th>") []
unfolding up_to read_of passed_over closes name_of one_of alike
highest-row = record { starts = λ u h. refl; reads = λ u h. refl }

last_row : Part (ascii "</td></tr><tr><th>last</th>") []
unfolding up_to read_of passed_over closes name_of one_of alike
last_row = record { starts = λ u h. refl; reads = λ u h. refl }

heat-row : Part (ascii "</td></tr><tr><th>temperature</th>") []
unfolding up_to read_of passed_over closes name_of one_of alike
heat-row = record { starts = λ u h. refl; reads = λ u h. refl }

replies-row : Part (ascii "</td></tr><tr><th>replies</th>") []
unfolding up_to read_of passed_over closes name_of one_of alike
replies-row = record { starts = λ u h. refl; reads = λ u h. refl }

table-end : Part (ascii "</td></tr></table>") []
unfolding up_to read_of passed_over closes name_of one_of alike
table-end = record { starts = λ u h. refl; reads = λ u h. refl }

replies-form : plain (ascii "~ good, ~ faulty") ≡ true
unfolding plain
replies-form = refl

lacks-replies : lacks (ascii "</td></tr><tr><th>replies</th><td>") ≡ true
unfolding lacks
lacks-replies = refl

figures-part : (b : Option Day) (x : Line) (g : Gauged) → Part (figures_text b x g) ((ascii "td>" ++ bound_text x.settings x.lowest) ∷ (ascii "td>" ++ bound_text x.settings x.highest) ∷ (ascii "td>" ++ last_text b x.settings g) ∷ (ascii "td>" ++ heat_text g ++ off_text 0 (get_or g.counts 16 0) ++ off_text 1 (get_or g.counts 17 0)) ∷ (ascii "td>" ++ fill (ascii "~ good, ~ faulty") (x.good ∷ x.faulty ∷ []) ++ kinds_text g.counts 1 15) ∷ [])
unfolding figures_text levels_text
figures-part b x g =
    let low = bound_text x.settings x.lowest in
    let high = bound_text x.settings x.highest in
    let late = last_text b x.settings g in
    let replies = fill (ascii "~ good, ~ faulty") (x.good ∷ x.faulty ∷ []) in
    let of-heat = td-tag (join (join (a-heat g) (off-scale 0 (get_or g.counts 16 0))) (off-scale 1 (get_or g.counts 17 0))) in
    let of-replies = td-tag (join (filled (ascii "~ good, ~ faulty") (x.good ∷ x.faulty ∷ []) replies-form) (all_kinds g.counts 1 15)) in
    let rest = then heat-row (then of-heat (then replies-row (then of-replies table-end))) in
    let bounds = then lowest-row (then (td-tag (a-bound x.settings x.lowest)) (then highest-row (then (td-tag (a-bound x.settings x.highest)) (then last_row (then (td-tag (a-last b x.settings g)) rest))))) in
    text-is
    (levels-flat (ascii "<table><tr><th>lowest</th>") (ascii "<td>") low (ascii "</td></tr><tr><th>highest</th>") high (ascii "</td></tr><tr><th>last</th>") late _
    ∙ figures-flat (levels_text b x g) (ascii "</td></tr><tr><th>temperature</th>") (ascii "<td>") (heat_text g) (off_text 0 (get_or g.counts 16 0)) (off_text 1 (get_or g.counts 17 0)) (ascii "</td></tr><tr><th>replies</th>") replies (kinds_text g.counts 1 15) (ascii "</td></tr></table>")
    ∙ ap (λ (f : List ℕ). levels_text b x g ++ (ascii "</td></tr><tr><th>temperature</th>" ++ ascii "<td>") ++ heat_text g ++ off_text 0 (get_or g.counts 16 0) ++ off_text 1 (get_or g.counts 17 0) ++ f ++ kinds_text g.counts 1 15 ++ ascii "</td></tr></table>") (sym (words-first (ascii "</td></tr><tr><th>replies</th><td>") (ascii "~ good, ~ faulty") (x.good ∷ x.faulty ∷ []) lacks-replies)))
    bounds

-- the rows of a section
no-good : Part (ascii "<p>No reply was good, so no level is drawn.</p>\n") []
unfolding up_to read_of passed_over closes name_of one_of alike
no-good = record { starts = λ u h. refl; reads = λ u h. refl }

module _ (l : List Entry) (begin : Option Day) (from to : ℕ) (x : Line) (m : List Entry) (own : entries_of_pair (pair_of x) l ≡ m) where
  abbrev frame-of : ℕ → List Entry → ℕ → ℕ → List ℕ
  frame-of layer r top height =
      begin_text layer x.address (axis_of begin from to).from top (axis_of begin from to).span height ++ (layer_text (axis_of begin from to).begin layer false r
      ++ fill (choice layer (ascii "'/></g></svg></div>\n|'/></g></svg></div>\n|</g></svg></div>\n|</g></svg></div>\n|</g></svg></div>\n")) [])

  frame_is : (layer top height : ℕ) → frame-of layer m top height ≡ frame_text (axis_of begin from to).begin l (pair_of x) layer x.address (axis_of begin from to).from top (axis_of begin from to).span height
  unfolding frame_text
  frame_is layer top height =
      ap (λ (r : List Entry). frame-of layer r top height) (sym own)
      ∙ sym (append_assoc (begin_text layer x.address (axis_of begin from to).from top (axis_of begin from to).span height) (layer_text (axis_of begin from to).begin layer false (entries_of_pair (pair_of x) l)) _)

  line_frame : (top height : ℕ) → Part (frame-of 0 m top height) (titled x.address "level" ∷ drawn (lines_text (runs_by point_in m)) ∷ [])
  line_frame top height =
      text-is
      (ap (λ (t : List ℕ). begin_text 0 x.address (axis_of begin from to).from top (axis_of begin from to).span height ++ (t ++ fill (choice 0 (ascii "'/></g></svg></div>\n|'/></g></svg></div>\n|</g></svg></div>\n|</g></svg></div>\n|</g></svg></div>\n")) [])) (sym (whole-line (axis_of begin from to).begin m)))
      (frame-0 x.address (axis_of begin from to).from top (axis_of begin from to).span height (all_lines (runs_by point_in m)))

  heat-frame : (top height : ℕ) → Part (frame-of 1 m top height) (titled x.address "temperature" ∷ drawn (lines_text (runs_by heat_in m)) ∷ [])
  heat-frame top height =
      text-is
      (ap (λ (t : List ℕ). begin_text 1 x.address (axis_of begin from to).from top (axis_of begin from to).span height ++ (t ++ fill (choice 1 (ascii "'/></g></svg></div>\n|'/></g></svg></div>\n|</g></svg></div>\n|</g></svg></div>\n|</g></svg></div>\n")) [])) (sym (whole-heat (axis_of begin from to).begin m)))
      (frame-1 x.address (axis_of begin from to).from top (axis_of begin from to).span height (all_lines (runs_by heat_in m)))

  level-part : Part (level_row l (axis_of begin from to) x) (pick (eqb x.good 0) [] (titled x.address "level" ∷ drawn (lines_text (runs_by point_in m)) ∷ []))
  unfolding level_row
  level-part = go (eqb x.good 0)
    where
      go : (t : Bool) → Part (pick t (ascii "<p>No reply was good, so no level is drawn.</p>\n") (scale_text 0 x.settings x.highest x.lowest ++ frame_text (axis_of begin from to).begin l (pair_of x) 0 x.address (axis_of begin from to).from (x.highest + 1) (axis_of begin from to).span (x.highest - x.lowest + 2))) (pick t [] (titled x.address "level" ∷ drawn (lines_text (runs_by point_in m)) ∷ []))
      go true = no-good
      go false = then (scale-part 0 x.settings x.highest x.lowest) (text-is (frame_is 0 (x.highest + 1) (x.highest - x.lowest + 2)) (line_frame (x.highest + 1) (x.highest - x.lowest + 2)))

  heat-part : (g : Gauged) → Part (heat_row l (axis_of begin from to) x g) (pick (ltb g.warm g.cold) [] (titled x.address "temperature" ∷ drawn (lines_text (runs_by heat_in m)) ∷ []))
  unfolding heat_row
  heat-part g = go (ltb g.warm g.cold)
    where
      go : (t : Bool) → Part (pick t [] (scale_text 1 x.settings g.warm g.cold ++ frame_text (axis_of begin from to).begin l (pair_of x) 1 x.address (axis_of begin from to).from (g.warm + 10) (axis_of begin from to).span (g.warm - g.cold + 20))) (pick t [] (titled x.address "temperature" ∷ drawn (lines_text (runs_by heat_in m)) ∷ []))
      go true = nothing_said
      go false = then (scale-part 1 x.settings g.warm g.cold) (text-is (frame_is 1 (g.warm + 10) (g.warm - g.cold + 20)) (heat-frame (g.warm + 10) (g.warm - g.cold + 20)))

  fault-row : Part (mark_row l (axis_of begin from to) x 2) (titled x.address "faulty replies" ∷ bars (axis_of begin from to).begin m ++ [])
  unfolding mark_row
  fault-row =
      then (scale-part 2 0 0 0) (text-is (frame_is 2 0 1) (frame-2 x.address (axis_of begin from to).from 0 (axis_of begin from to).span 1 (text-is (sym (marks-of (axis_of begin from to).begin false m)) (marks-part (axis_of begin from to).begin m))))

  alarm1-row : Part (mark_row l (axis_of begin from to) x 3) (titled x.address "alarm 1" ∷ dots (λ r. r.alarm1) m ++ [])
  unfolding mark_row
  alarm1-row =
      then (scale-part 3 0 0 0) (text-is (frame_is 3 0 1) (frame-3 x.address (axis_of begin from to).from 0 (axis_of begin from to).span 1 (text-is (sym (alarm1-of (axis_of begin from to).begin false m)) (alarms-part (λ r. r.alarm1) m))))

  alarm0-row : Part (mark_row l (axis_of begin from to) x 4) (titled x.address "alarm 0" ∷ dots (λ r. r.alarm0) m ++ [])
  unfolding mark_row
  alarm0-row =
      then (scale-part 4 0 0 0) (text-is (frame_is 4 0 1) (frame-4 x.address (axis_of begin from to).from 0 (axis_of begin from to).span 1 (text-is (sym (alarm0-of (axis_of begin from to).begin false m)) (alarms-part (λ r. r.alarm0) m))))

-- a section, and all sections
section-read : (h lv ht ft a1 a0 tb ws : List (List ℕ)) → h ++ (lv ++ ht ++ (ft ++ []) ++ (a1 ++ []) ++ (a0 ++ []) ++ []) ++ tb ++ [] ++ ws ++ [] ≡ h ++ (lv ++ ht ++ ft ++ a1 ++ a0) ++ tb ++ ws
section-read h lv ht ft a1 a0 tb ws = simp (append-nil, append_assoc)

words-begun : Part (ascii "<details><summary>faulty replies one by one</summary><ul>") []
unfolding up_to read_of passed_over closes name_of one_of alike
words-begun = record { starts = λ u h. refl; reads = λ u h. refl }

words-end : Part (ascii "</ul></details></section>\n") []
unfolding up_to read_of passed_over closes name_of one_of alike
words-end = record { starts = λ u h. refl; reads = λ u h. refl }

module _ (l : List Entry) (begin : Option Day) (from to k : ℕ) where
  abbrev x : Line
  x = line_for l k

  abbrev m : List Entry
  m = entries_of_pair k l

  own : entries_of_pair (pair_of (line_for l k)) l ≡ entries_of_pair k l
  own = ap (λ (j : ℕ). entries_of_pair j l) (pair_line l k)

  -- what is read of its parts
  abbrev head_read : List (List ℕ)
  head_read = ascii "section>" ∷ (ascii "h2>" ++ in_decimal x.address ++ ascii " ") ∷ []

  abbrev level_read : List (List ℕ)
  level_read = pick (eqb x.good 0) [] (titled x.address "level" ∷ drawn (lines_text (runs_by point_in m)) ∷ [])

  abbrev heat_read : List (List ℕ)
  heat_read = pick (ltb (gauged_of m).warm (gauged_of m).cold) [] (titled x.address "temperature" ∷ drawn (lines_text (runs_by heat_in m)) ∷ [])

  abbrev table_read : List (List ℕ)
  table_read = (ascii "td>" ++ bound_text x.settings x.lowest) ∷ (ascii "td>" ++ bound_text x.settings x.highest) ∷ (ascii "td>" ++ last_text (axis_of begin from to).begin x.settings (gauged_of m)) ∷ (ascii "td>" ++ heat_text (gauged_of m) ++ off_text 0 (get_or (gauged_of m).counts 16 0) ++ off_text 1 (get_or (gauged_of m).counts 17 0)) ∷ (ascii "td>" ++ fill (ascii "~ good, ~ faulty") (x.good ∷ x.faulty ∷ []) ++ kinds_text (gauged_of m).counts 1 15) ∷ []

  abbrev words_read : List (List ℕ)
  words_read = in_words (axis_of begin from to).begin m

  rows-part : Part (rows_text l (axis_of begin from to) x (gauged_of m)) (level_read ++ heat_read ++ (titled x.address "faulty replies" ∷ bars (axis_of begin from to).begin m ++ []) ++ (titled x.address "alarm 1" ∷ dots (λ r. r.alarm1) m ++ []) ++ (titled x.address "alarm 0" ∷ dots (λ r. r.alarm0) m ++ []) ++ [])
  unfolding rows_text
  rows-part =
      then (then (then (then (then (level-part l begin from to x m own) (heat-part l begin from to x m own (gauged_of m))) (fault-row l begin from to x m own)) (alarm1-row l begin from to x m own)) (alarm0-row l begin from to x m own)) (days-part begin from to)

  section-text : heading_text x ++ rows_text l (axis_of begin from to) x (gauged_of m) ++ figures_text (axis_of begin from to).begin x (gauged_of m) ++ ascii "<details><summary>faulty replies one by one</summary><ul>" ++ layer_text (axis_of begin from to).begin 5 false m ++ ascii "</ul></details></section>\n" ≡ section_text l (axis_of begin from to) x
  unfolding section_text
  section-text =
      ap (λ (q : List Entry). heading_text x ++ rows_text l (axis_of begin from to) x (gauged_of q) ++ figures_text (axis_of begin from to).begin x (gauged_of q) ++ ascii "<details><summary>faulty replies one by one</summary><ul>" ++ layer_text (axis_of begin from to).begin 5 false q ++ ascii "</ul></details></section>\n") (sym own)

  section-whole : Part (section_text l (axis_of begin from to) x) (head_read ++ (level_read ++ heat_read ++ (titled x.address "faulty replies" ∷ bars (axis_of begin from to).begin m) ++ (titled x.address "alarm 1" ∷ dots (λ r. r.alarm1) m) ++ (titled x.address "alarm 0" ∷ dots (λ r. r.alarm0) m)) ++ table_read ++ words_read)
  section-whole =
      says_is
      (section-read head_read level_read heat_read (titled x.address "faulty replies" ∷ bars (axis_of begin from to).begin m) (titled x.address "alarm 1" ∷ dots (λ r. r.alarm1) m) (titled x.address "alarm 0" ∷ dots (λ r. r.alarm0) m) table_read words_read)
      (text-is section-text (then (then (then (then (then (heading-part x) rows-part) (figures-part (axis_of begin from to).begin x (gauged_of m))) words-begun) (words-part (axis_of begin from to).begin false m)) words-end))

  section-part : Part (section_text l (axis_of begin from to) x) (section_of begin l k)
  unfolding section_of axis_of line_for figures
  section-part = section-whole

sections-part : (l : List Entry) (begin : Option Day) (from to : ℕ) (ks : List ℕ) → Part (sections_text l (axis_of begin from to) (map (line_for l) ks)) (sections_of begin l ks)
unfolding sections_text sections_of
sections-part l begin from to [] = nothing_said
sections-part l begin from to (k ∷ ks) = then (section-part l begin from to k) (sections-part l begin from to ks)

-- what stands above: the style with the card's name, what its slots hold, the legend
head-begun : Part (ascii "<!DOCTYPE html>\n<html xmlns='http://www.w3.org/1999/xhtml' lang='en'><head><meta charset='utf-8'/><meta name='viewport' content='width=device-width,initial-scale=1'/>") []
unfolding up_to read_of passed_over closes name_of one_of alike
head-begun = record { starts = λ u h. refl; reads = λ u h. refl }

sheet-of : Plain (ascii ": month sheet")
unfolding plain
sheet-of = record { is = refl }

style-rest : Part (ascii "</title><style>\n" ++ page.rules_text ++ page.scales_text ++ page.shapes_text) []
unfolding up_to read_of passed_over closes name_of one_of alike
style-rest = record { starts = λ u h. refl; reads = λ u h. refl }

style-flat : (a t n c r s d h : List ℕ) → a ++ ((t ++ (n ++ c)) ++ (r ++ s ++ d ++ h)) ≡ (a ++ t ++ n ++ (c ++ r)) ++ s ++ d ++ h
style-flat a t n c r s d h = simp append_assoc

style-part : (name : List ℕ) → Plain name → Part (style_text name) ((ascii "title>" ++ (name ++ ascii ": month sheet")) ∷ [])
style-part name p =
    text-is
    (style-flat (ascii "<!DOCTYPE html>\n<html xmlns='http://www.w3.org/1999/xhtml' lang='en'><head><meta charset='utf-8'/><meta name='viewport' content='width=device-width,initial-scale=1'/>") (ascii "<title>") name (ascii ": month sheet") (ascii "</title><style>\n") page.rules_text page.scales_text page.shapes_text)
    (then head-begun (then (title-tag (join p sheet-of)) style-rest))

body-begun : Part (ascii "<body>") []
unfolding up_to read_of passed_over closes name_of one_of alike
body-begun = record { starts = λ u h. refl; reads = λ u h. refl }

h1-end : Part (ascii "</h1>") []
unfolding up_to read_of passed_over closes name_of one_of alike
h1-end = record { starts = λ u h. refl; reads = λ u h. refl }

p-end : Part (ascii "</p>\n") []
unfolding up_to read_of passed_over closes name_of one_of alike
p-end = record { starts = λ u h. refl; reads = λ u h. refl }

lacks-counts-0 : lacks (ascii "</h1><p>") ≡ true
unfolding lacks
lacks-counts-0 = refl

lacks-counts-1 : lacks (ascii " slots: ") ≡ true
unfolding lacks
lacks-counts-1 = refl

lacks-counts-2 : lacks (ascii " records, ") ≡ true
unfolding lacks
lacks-counts-2 = refl

lacks-counts-3 : lacks (ascii " spoiled, ") ≡ true
unfolding lacks
lacks-counts-3 = refl

lacks-counts-4 : lacks (ascii " foreign</p>\n<p>") ≡ true
unfolding lacks
lacks-counts-4 = refl

counts-form : (a b c d : ℕ) → fill (ascii "</h1><p>~ slots: ~ records, ~ spoiled, ~ foreign</p>\n<p>") (a ∷ b ∷ c ∷ d ∷ []) ≡ ascii "</h1><p>" ++ (in_decimal a ++ (ascii " slots: " ++ (in_decimal b ++ (ascii " records, " ++ (in_decimal c ++ (ascii " spoiled, " ++ (in_decimal d ++ (ascii " foreign</p>\n<p>"))))))))
counts-form a b c d =
    form-next (ascii "</h1><p>") (ascii " slots: ~ records, ~ spoiled, ~ foreign</p>\n<p>") a (b ∷ c ∷ d ∷ []) lacks-counts-0 ∙ ap (λ (r : List ℕ). ascii "</h1><p>" ++ (in_decimal a ++ r)) (form-next (ascii " slots: ") (ascii " records, ~ spoiled, ~ foreign</p>\n<p>") b (c ∷ d ∷ []) lacks-counts-1 ∙ ap (λ (r : List ℕ). ascii " slots: " ++ (in_decimal b ++ r)) (form-next (ascii " records, ") (ascii " spoiled, ~ foreign</p>\n<p>") c (d ∷ []) lacks-counts-2 ∙ ap (λ (r : List ℕ). ascii " records, " ++ (in_decimal c ++ r)) (form-next (ascii " spoiled, ") (ascii " foreign</p>\n<p>") d ([]) lacks-counts-3 ∙ ap (λ (r : List ℕ). ascii " spoiled, " ++ (in_decimal d ++ r)) (all_words (ascii " foreign</p>\n<p>") [] lacks-counts-4))))

of_slots : Plain (ascii " slots: ")
unfolding plain
of_slots = record { is = refl }

of-records : Plain (ascii " records, ")
unfolding plain
of-records = record { is = refl }

of-spoiled : Plain (ascii " spoiled, ")
unfolding plain
of-spoiled = record { is = refl }

of-foreign : Plain (ascii " foreign")
unfolding plain
of-foreign = record { is = refl }

no_record : Plain (ascii "no record")
unfolding plain
no_record = record { is = refl }

until : Plain (ascii " to ")
unfolding plain
until = record { is = refl }

when-plain : (begin : Option Day) (t : Tally) → Plain (when_text begin t)
unfolding when_text
when-plain begin t = either (eqb t.records 0) no_record (join (join (a-moment begin t.first) until) (a-moment begin t.last))

top-flat : (b h n e p a s c r d k f g z w u : List ℕ) → b ++ ((h ++ n) ++ (e ++ ((p ++ (a ++ (s ++ (c ++ (r ++ (d ++ (k ++ (f ++ g)))))))) ++ (z ++ ((p ++ w) ++ (z ++ u)))))) ≡ ((b ++ h) ++ n ++ (e ++ (p ++ (a ++ (s ++ (c ++ (r ++ (d ++ (k ++ (f ++ (g ++ (z ++ p))))))))))) ++ w) ++ z ++ u
top-flat b h n e p a s c r d k f g z w u = simp append_assoc

lacks-p : lacks (ascii "<p>") ≡ true
unfolding lacks
lacks-p = refl

lacks-others : lacks (ascii " records are of further addresses and settings: the first 30 have a picture, and these have none.</p>\n") ≡ true
unfolding lacks
lacks-others = refl

of_others : Plain (ascii " records are of further addresses and settings: the first 30 have a picture, and these have none.")
unfolding plain
of_others = record { is = refl }

others-part : (n : ℕ) → Part (others_text n) []
unfolding others_text
others-part n = go (eqb n 0)
  where
    rest : List ℕ
    rest = ascii " records are of further addresses and settings: the first 30 have a picture, and these have none."

    form : ascii "<p>" ++ (in_decimal n ++ ascii " records are of further addresses and settings: the first 30 have a picture, and these have none.</p>\n") ≡ fill (ascii "<p>~ records are of further addresses and settings: the first 30 have a picture, and these have none.</p>\n") (n ∷ [])
    form = sym (one_number (ascii "<p>") (ascii " records are of further addresses and settings: the first 30 have a picture, and these have none.</p>\n") n lacks-p lacks-others)

    joint : (60 ∷ (ascii "p>" ++ (in_decimal n ++ ascii " records are of further addresses and settings: the first 30 have a picture, and these have none."))) ++ ascii "</p>\n" ≡ ascii "<p>" ++ (in_decimal n ++ ascii " records are of further addresses and settings: the first 30 have a picture, and these have none.</p>\n")
    joint = ap (λ (r : List ℕ). ascii "<p>" ++ r) (append_assoc (in_decimal n) (ascii " records are of further addresses and settings: the first 30 have a picture, and these have none.") (ascii "</p>\n"))

    go : (t : Bool) → Part (pick t [] (fill (ascii "<p>~ records are of further addresses and settings: the first 30 have a picture, and these have none.</p>\n") (n ∷ []))) []
    go true = nothing_said
    go false = text-is (joint ∙ form) (then (p-tag (join (number n) of_others)) p-end)

legend-part : Part legend_text (ascii "title>level" ∷ ascii "path d='M0,1h4'/>" ∷ ascii "title>temperature" ∷ ascii "path d='M0,1h4'/>" ∷ ascii "title>faulty reply" ∷ ascii "path d='M2,0v2'/>" ∷ ascii "title>alarm 1" ∷ ascii "path d='M2,1h.1'/>" ∷ ascii "title>alarm 0" ∷ ascii "path d='M2,1h.1'/>" ∷ [])
unfolding up_to read_of passed_over closes name_of one_of alike
legend-part = record { starts = λ u h. refl; reads = λ u h. refl }

lacks-main : lacks (ascii "<main style='--s:") ≡ true
unfolding lacks
lacks-main = refl

lacks-days : lacks (ascii ";--d:") ≡ true
unfolding lacks
lacks-days = refl

lacks-main-end : lacks (ascii "'>\n") ≡ true
unfolding lacks
lacks-main-end = refl

of-days : Plain (ascii ";--d:")
unfolding plain
of-days = record { is = refl }

main-close : Plain (ascii "'>\n")
unfolding plain
main-close = record { is = refl }

main-part : (a b : ℕ) → Part (fill (ascii "<main style='--s:~;--d:~'>\n") (a ∷ b ∷ [])) []
main-part a b =
    let form : fill (ascii "<main style='--s:~;--d:~'>\n") (a ∷ b ∷ []) ≡ ascii "<main style='--s:" ++ (in_decimal a ++ (ascii ";--d:" ++ (in_decimal b ++ ascii "'>\n"))) = form-next (ascii "<main style='--s:") (ascii ";--d:~'>\n") a (b ∷ []) lacks-main ∙ ap (λ (r : List ℕ). ascii "<main style='--s:" ++ (in_decimal a ++ r)) (one_number (ascii ";--d:") (ascii "'>\n") b lacks-days lacks-main-end) in
    text-is (sym form) (main-tag (join (number a) (join of-days (join (number b) main-close))))

module _ (name : List ℕ) (p : Plain name) (begin : Option Day) (t : Tally) where
  counts-part : Part (counts_text name begin t ++ ascii "</p>\n") ((ascii "h1>" ++ name) ∷ [])
  unfolding counts_text
  counts-part =
      let w = when_text begin t in
      text-is
      (top-flat (ascii "<body>") (ascii "<h1>") name (ascii "</h1>") (ascii "<p>") (in_decimal t.slots) (ascii " slots: ") (in_decimal t.records) (ascii " records, ") (in_decimal t.spoiled) (ascii " spoiled, ") (in_decimal t.foreign) (ascii " foreign") (ascii "</p>\n") w []
      ∙ append-nil _
      ∙ ap (λ (f : List ℕ). ascii "<body><h1>" ++ name ++ f ++ w ++ ascii "</p>\n") (sym (counts-form t.slots t.records t.spoiled t.foreign)))
      (then body-begun (then (h1-tag p) (then h1-end (then (p-tag (join (number t.slots) (join of_slots (join (number t.records) (join of-records (join (number t.spoiled) (join of-spoiled (join (number t.foreign) of-foreign)))))))) (then p-end (then (p-tag (when-plain begin t)) (then p-end nothing_said)))))))

  top_part : (others from to : ℕ) → Part (top_text name t others (axis_of begin from to)) ((ascii "h1>" ++ name) ∷ ascii "title>level" ∷ ascii "path d='M0,1h4'/>" ∷ ascii "title>temperature" ∷ ascii "path d='M0,1h4'/>" ∷ ascii "title>faulty reply" ∷ ascii "path d='M2,0v2'/>" ∷ ascii "title>alarm 1" ∷ ascii "path d='M2,1h.1'/>" ∷ ascii "title>alarm 0" ∷ ascii "path d='M2,1h.1'/>" ∷ [])
  unfolding top_text axis_of
  top_part others from to = then (then (then counts-part (others-part others)) legend-part) (main-part _ _)

-- the whole page
page-end : Part (ascii "</main></body></html>\n") []
unfolding up_to read_of passed_over closes name_of one_of alike
page-end = record { starts = λ u h. refl; reads = λ u h. refl }

page-part : (s name : List ℕ) (begin : Option Day) → Plain name → Part (page_of s name begin) (above_of name ++ sections_of begin (list_of s) (in_order (kept_pairs (list_of s))) ++ [])
unfolding page_of
page-part s name begin p =
    let l = list_of s in
    let t = tally_of s in
    then (then (then (style-part name p) (top_part name p begin t (other_records (kept_pairs l) l) t.first t.last)) (sections-part l begin t.first t.last (in_order (kept_pairs l)))) page-end

nothing_read : read_of [] ≡ []
unfolding read_of
nothing_read = refl

nothing-before : up_to [] ≡ []
unfolding up_to
nothing-before = refl

read_whole : {a : List ℕ} {ts : List (List ℕ)} → Part a ts → read_of a ≡ ts
read_whole {a} {ts} p =
    ap read_of (sym (append-nil a)) ∙ p.reads [] nothing-before ∙ ap (λ (r : List (List ℕ)). ts ++ r) nothing_read ∙ append-nil ts

-- what a call that wrote leaves begins with its text
first-bytes : (there : Bool) (needed : ℕ) (text out after : List ℕ) (answer : Result ℕ Fault) (n : ℕ) → Writes there needed text out answer after → answer ≡ Ok n → take n after ≡ text
first-bytes there needed text out after answer n writes said = go (eqb (write_fault there needed out) 0) refl
  where
    go : (t : Bool) → eqb (write_fault there needed out) 0 ≡ t → take n after ≡ text
    go true e =
        let answered : Ok n ≡ Ok (length text) = sym said ∙ writes.answers ∙ simp e in
        let size : n ≡ length text = cc in
        let left : after ≡ text ++ drop (length text) out = writes.leaves ∙ simp e in
        ap (take n) left ∙ take_at text (drop (length text) out) n (sym size)
    go false e =
        let answered : Ok n ≡ Err (fault (write_fault there needed out)) = sym said ∙ writes.answers ∙ simp e in
        let z : ◌≡◌ {A = ℕ} 0 1 = cc in
        absurd (omega arith)

pub page-as-listed : PageAsListed
page-as-listed =
    record {
      whole = λ s name begin out answer after n h writes said. ap read_of (first-bytes _ _ (page_of s name begin) out after answer n writes said) ∙ read_whole (page-part s name begin (record { is = h })) ∙ append-nil _;
    }
