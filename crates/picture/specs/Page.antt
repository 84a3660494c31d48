-- The page of a card: one file of HTML, with a section for each line of its summary.
use Rattle.std.specs.Prelude.{false, Option, None, Some, List, [], ◌∷◌, ◌++◌, map, ℕ, zero, suc, ◌+◌, ◌-◌, eqb, ltb, get_or}
use Rattle.frame.specs.Pick.{pick}
use Rattle.sheet.specs.Record.{Entry}
use Rattle.sheet.specs.Slots.{list_of}
use Rattle.cards.specs.declared.counting.Tally.{Tally}
use Rattle.cards.specs.Tally.{tally_of}
use Rattle.summary.specs.declared.Line.{Line}
use Rattle.summary.specs.Line.{no_level, pair_of}
use Rattle.summary.specs.Worked.{entries_of_pair, line_for, kept_pairs, in_order, other_records}
use Rattle.listing.specs.Text.{ascii}
use Rattle.forms.specs.Form.{fill, choice}
use Rattle.calendar.specs.declared.counting.Day.{Day}
use Rattle.calendar.specs.Days.{days_from}
use Rattle.forms.specs.Days.{year_text, month_day_text, moment_text}
use Rattle.forms.specs.Words.{level_text, degrees_text, mode_text, type_text, fault_text}
use Rattle.layers.specs.declared.gauge.Gauged.{Gauged}
use Rattle.layers.specs.Drawing.{layer_text}
use Rattle.layers.specs.Gauged.{gauged_of}
use Rattle.picture.specs.declared.axis.Axis.{Axis}
use Rattle.picture.specs.Axis.{axis_of}

-- What stands before everything: the card's name, and how the page looks, on a screen and on paper. The name stands as the page's text has it.
abbrev pub opening_text : List ℕ → List ℕ
opening_text name =
    ascii "<!DOCTYPE html>\n<html xmlns='http://www.w3.org/1999/xhtml' lang='en'><head><meta charset='utf-8'/>"
    ++ ascii "<meta name='viewport' content='width=device-width,initial-scale=1'/><title>" ++ name ++ ascii ": month sheet</title><style>\n"

abbrev pub rules_text : List ℕ
rules_text =
    ascii "body{font:15px/1.45 sans-serif;margin:1.2em auto;max-width:90em;padding:0 1em;color:#111}h1{font-size:1.4em;margin:.2em 0}p{margin:.3em 0}\n"
    ++ ascii "main{display:grid;grid-template-columns:repeat(auto-fill,minmax(min(100%,26em),1fr));gap:1em;margin-top:1em}h2{font-size:1.2em;margin:0 0 .4em}\n"
    ++ ascii "section{border:1px solid #999;border-radius:4px;padding:.7em .9em;break-inside:avoid}small{font-weight:normal;font-size:.75em;color:#333}\n"
    ++ ascii ".row{display:flex;margin:.2em 0}.y{flex:0 0 8em;display:flex;flex-direction:column;justify-content:space-between;text-align:right;padding-right:.6em}\n"

abbrev pub scales_text : List ℕ
scales_text =
    ascii ".y,.axis{font-size:.75em;line-height:1.2}.y b{font-weight:normal;color:#555}.y span:empty{display:none}.axis{flex:1;min-width:0;max-height:2.4em;display:flex;flex-wrap:wrap;row-gap:3em;overflow:hidden}\n"
    ++ ascii ".axis span{flex:0 0 calc(100%*var(--s)/var(--d));border-left:1px solid #777;padding-left:.3em;box-sizing:border-box;white-space:nowrap}.axis span:last-child{flex:1 0 min-content}.axis wbr{white-space:normal}\n"
    ++ ascii ".row svg{flex:1;min-width:0;overflow:visible;background:#f4f4f4 linear-gradient(90deg,#bbb 1px,transparent 1px) 0 0/calc(100%*var(--s)/var(--d)) 100%}\n"
    ++ ascii "svg{fill:none;print-color-adjust:exact;-webkit-print-color-adjust:exact}path{vector-effect:non-scaling-stroke}.key svg{width:2.5em;height:.9em;vertical-align:middle}\n"

abbrev pub shapes_text : List ℕ
shapes_text =
    ascii ".l0{height:9em;stroke:#04a;stroke-width:2;stroke-linecap:round}.l1{height:4.5em;stroke:#333;stroke-width:2;stroke-dasharray:3 5;stroke-linecap:round}\n"
    ++ ascii ".l2{height:1em;stroke:#b00;stroke-width:3}.l3{height:1em;stroke:#000;stroke-width:8;stroke-linecap:round}.l4{height:1em;stroke:#000;stroke-width:7;stroke-linecap:square}\n"
    ++ ascii "table{border-collapse:collapse;margin-top:.4em;font-size:.9em}th{text-align:left;vertical-align:top;font-weight:normal;color:#444;padding-right:1em}\n"
    ++ ascii "details{font-size:.85em}@media print{body{font-size:10px;max-width:none;margin:0;padding:0}main{display:block;columns:2;column-gap:1em}section{margin:0 0 1em}}</style></head>\n"

abbrev pub style_text : List ℕ → List ℕ
style_text name = opening_text name ++ rules_text ++ scales_text ++ shapes_text

-- What the lines and marks mean.
abbrev pub legend_text : List ℕ
legend_text =
    ascii "<p class='key'><svg class='l0' viewBox='0 0 4 2' role='img'><title>level</title><desc>a line</desc><path d='M0,1h4'/></svg> level, broken where a faulty reply lies between; \n"
    ++ ascii "<svg class='l1' viewBox='0 0 4 2' role='img'><title>temperature</title><desc>a dashed line</desc><path d='M0,1h4'/></svg> temperature; \n"
    ++ ascii "<svg class='l2' viewBox='0 0 4 2' role='img'><title>faulty reply</title><desc>a bar</desc><path d='M2,0v2'/></svg> faulty reply; \n"
    ++ ascii "<svg class='l3' viewBox='0 0 4 2' role='img'><title>alarm 1</title><desc>a round dot</desc><path d='M2,1h.1'/></svg> alarm 1; \n"
    ++ ascii "<svg class='l4' viewBox='0 0 4 2' role='img'><title>alarm 0</title><desc>a square dot</desc><path d='M2,1h.1'/></svg> alarm 0</p>\n"

-- From when to when, in words.
unfoldable pub when_text : Option Day → Tally → List ℕ
when_text begin t =
    pick (eqb t.records 0) (ascii "no record") (moment_text begin t.first ++ ascii " to " ++ moment_text begin t.last)

-- Records of pairs that are on no line of the summary.
unfoldable pub others_text : ℕ → List ℕ
others_text n =
    pick (eqb n 0) [] (fill (ascii "<p>~ records are of further addresses and settings: the first 30 have a picture, and these have none.</p>\n") (n ∷ []))

-- The beginning of what is shown: the card's name, what its slots hold, and when that was.
unfoldable pub counts_text : List ℕ → Option Day → Tally → List ℕ
counts_text name begin t =
    ascii "<body><h1>" ++ name
    ++ fill (ascii "</h1><p>~ slots: ~ records, ~ spoiled, ~ foreign</p>\n<p>") (t.slots ∷ t.records ∷ t.spoiled ∷ t.foreign ∷ [])
    ++ when_text begin t

unfoldable pub top_text : List ℕ → Tally → ℕ → Axis → List ℕ
top_text name t others x =
    counts_text name x.begin t ++ ascii "</p>\n" ++ others_text others ++ legend_text ++ fill (ascii "<main style='--s:~;--d:~'>\n") (x.step ∷ x.days ∷ [])

-- A number of a layer's scale in people's form, and what the layer is called.
unfoldable pub value_text : ℕ → ℕ → ℕ → List ℕ
value_text layer settings n = pick (eqb layer 0) (level_text settings n) (pick (eqb layer 1) (degrees_text n) [])

unfoldable pub label_text : ℕ → List ℕ
label_text layer = fill (choice layer (ascii "level|temperature|faults|alarm 1|alarm 0")) []

unfoldable pub scale_text : ℕ → ℕ → ℕ → ℕ → List ℕ
scale_text layer settings high low =
    ascii "<div class='row'><div class='y'><span>" ++ value_text layer settings high ++ ascii "</span><b>" ++ label_text layer ++ ascii "</b><span>"
    ++ value_text layer settings low
    ++ ascii "</span></div>"

-- A layer in its frame, which shows so many minutes from the first, and so many of the layer's numbers up to the top.
unfoldable pub begin_text : ℕ → ℕ → ℕ → ℕ → ℕ → ℕ → List ℕ
begin_text layer address from top span height =
    fill (ascii "<svg class='l~' viewBox='~ -~ ~ ~' preserveAspectRatio='none' role='img'><title>~: ") (layer ∷ from ∷ top ∷ span ∷ height ∷ address ∷ [])
    ++ fill
    (choice layer (ascii "level</title><desc>a point for each good reply, at its minute and level, joined where no faulty reply lies between</desc><g transform='scale(1,-1)'><path d='|temperature</title><desc>a point for each good reply that has a temperature, joined where no other reply lies between</desc><g transform='scale(1,-1)'><path d='|faulty replies</title><desc>a bar for each, at its minute</desc><g>|alarm 1</title><desc>a round dot for each good reply that has it</desc><g>|alarm 0</title><desc>a square dot for each good reply that has it</desc><g>"))
    []

unfoldable pub frame_text : Option Day → List Entry → ℕ → ℕ → ℕ → ℕ → ℕ → ℕ → ℕ → List ℕ
frame_text begin l pair layer address from top span height =
    begin_text layer address from top span height ++ layer_text begin layer false (entries_of_pair pair l)
    ++ fill (choice layer (ascii "'/></g></svg></div>\n|'/></g></svg></div>\n|</g></svg></div>\n|</g></svg></div>\n|</g></svg></div>\n")) []

-- The rows of a section, each a scale and a frame. That of the levels goes from one step below the lowest to one above the highest, that of the
-- temperatures from a degree below to a degree above; where there is no level it is said, and where there is no temperature there is no row.
unfoldable pub level_row : List Entry → Axis → Line → List ℕ
level_row l a x =
    pick
    (eqb x.good 0)
    (ascii "<p>No reply was good, so no level is drawn.</p>\n")
    (
    scale_text 0 x.settings x.highest x.lowest ++ frame_text a.begin l (pair_of x) 0 x.address a.from (x.highest + 1) a.span (x.highest - x.lowest + 2)
    )

unfoldable pub heat_row : List Entry → Axis → Line → Gauged → List ℕ
heat_row l a x g =
    pick
    (ltb g.warm g.cold)
    []
    (
    scale_text 1 x.settings g.warm g.cold ++ frame_text a.begin l (pair_of x) 1 x.address a.from (g.warm + 10) a.span (g.warm - g.cold + 20)
    )

unfoldable pub mark_row : List Entry → Axis → Line → ℕ → List ℕ
mark_row l a x layer = scale_text layer 0 0 0 ++ frame_text a.begin l (pair_of x) layer x.address a.from 0 a.span 1

-- The days under them: dates where the day of minute 0 is given, which may be broken behind the year where there is little room.
abbrev pub date_on_axis : Day → List ℕ
date_on_axis d = year_text d.year ++ ascii "-<wbr/>" ++ month_day_text d

unfoldable pub day_on_axis : Option Day → ℕ → List ℕ
day_on_axis None n = fill (ascii "~") (n ∷ [])
day_on_axis (Some d) n = date_on_axis (days_from d n)

unfoldable pub tick_text : Option Day → ℕ → ℕ → ℕ → List ℕ
tick_text begin i shown day = pick (ltb i shown) (ascii "<span>" ++ day_on_axis begin day ++ ascii "</span>") []

abbrev pub tick_of : Axis → ℕ → List ℕ
tick_of a i = tick_text a.begin i a.shown (get_or a.ticks i 0)

unfoldable pub days_text : Axis → List ℕ
days_text a =
    ascii "<div class='row'><div class='y'><b>day</b></div><div class='axis'>" ++ tick_of a 0 ++ tick_of a 1 ++ tick_of a 2 ++ tick_of a 3 ++ tick_of a 4
    ++ ascii "</div></div>\n"

unfoldable pub rows_text : List Entry → Axis → Line → Gauged → List ℕ
rows_text l a x g = level_row l a x ++ heat_row l a x g ++ mark_row l a x 2 ++ mark_row l a x 3 ++ mark_row l a x 4 ++ days_text a

-- A section's heading.
unfoldable pub heading_text : Line → List ℕ
heading_text x =
    fill (ascii "<section><h2>~ <small>") (x.address ∷ []) ++ mode_text x.settings ++ ascii "; " ++ type_text x.settings
    ++ ascii "</small></h2>\n"

-- Its figures in a table: a level, or "none" where no reply was good; the last with its moment; the temperatures, and how many were off their scale; how
-- many replies were good and faulty, and how many had each fault.
unfoldable pub bound_text : ℕ → ℕ → List ℕ
bound_text settings n = pick (eqb n no_level) (ascii "none") (level_text settings n)

unfoldable pub last_text : Option Day → ℕ → Gauged → List ℕ
last_text begin settings g =
    pick (eqb g.last no_level) (ascii "none") (level_text settings g.last ++ ascii ", " ++ moment_text begin g.when)

unfoldable pub heat_text : Gauged → List ℕ
heat_text g = pick (ltb g.warm g.cold) (ascii "none") (degrees_text g.cold ++ ascii " to " ++ degrees_text g.warm)

unfoldable pub off_text : ℕ → ℕ → List ℕ
off_text which n = pick (eqb n 0) [] (fill (choice which (ascii "; ~ above the scale|; ~ below the scale")) (n ∷ []))

unfoldable pub kind_text : ℕ → ℕ → List ℕ
kind_text n k = pick (eqb n 0) [] (fill (ascii "; ~ ") (n ∷ []) ++ fault_text (pick (ltb k 10) k 7) (k - 10))

unfoldable pub kinds_text : List ℕ → ℕ → ℕ → List ℕ
kinds_text counts k zero = []
kinds_text counts k (suc n) = kind_text (get_or counts k 0) k ++ kinds_text counts (suc k) n

unfoldable pub levels_text : Option Day → Line → Gauged → List ℕ
levels_text begin x g =
    ascii "<table><tr><th>lowest</th><td>" ++ bound_text x.settings x.lowest ++ ascii "</td></tr><tr><th>highest</th><td>"
    ++ bound_text x.settings x.highest
    ++ ascii "</td></tr><tr><th>last</th><td>"
    ++ last_text begin x.settings g

unfoldable pub figures_text : Option Day → Line → Gauged → List ℕ
figures_text begin x g =
    levels_text begin x g ++ ascii "</td></tr><tr><th>temperature</th><td>" ++ heat_text g ++ off_text 0 (get_or g.counts 16 0) ++ off_text 1 (get_or g.counts 17 0)
    ++ fill (ascii "</td></tr><tr><th>replies</th><td>~ good, ~ faulty") (x.good ∷ x.faulty ∷ [])
    ++ kinds_text g.counts 1 15
    ++ ascii "</td></tr></table>"

-- The section of a pair: heading, rows, figures, and its faulty replies one by one in words.
unfoldable pub section_text : List Entry → Axis → Line → List ℕ
section_text l a x =
    heading_text x ++ rows_text l a x (gauged_of (entries_of_pair (pair_of x) l)) ++ figures_text a.begin x (gauged_of (entries_of_pair (pair_of x) l))
    ++ ascii "<details><summary>faulty replies one by one</summary><ul>"
    ++ layer_text a.begin 5 false (entries_of_pair (pair_of x) l)
    ++ ascii "</ul></details></section>\n"

unfoldable pub sections_text : List Entry → Axis → List Line → List ℕ
sections_text l a [] = []
sections_text l a (x ∷ xs) = section_text l a x ++ sections_text l a xs

-- The lines of the summary, and the page.
abbrev pub lines_for : List Entry → List Line
lines_for l = map (line_for l) (in_order (kept_pairs l))

unfoldable pub page_of : List ℕ → List ℕ → Option Day → List ℕ
page_of s name begin =
    let l = list_of s in
    let t = tally_of s in
    let a = axis_of begin t.first t.last in
    style_text name ++ top_text name t (other_records (kept_pairs l) l) a ++ sections_text l a (lines_for l) ++ ascii "</main></body></html>\n"
