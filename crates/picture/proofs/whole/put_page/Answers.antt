-- `picture::whole::put_page` meets its contract: the summary's lines are those of the page, and no record is of two of them, so their sections have room. Assumes nothing.
use mathlib.Core.Path.{◌≡◌, refl, ap, ◌∙◌}
use mathlib.Core.Bool.{Bool, true}
use mathlib.Core.List.{List, ◌++◌}
use Prim.Native.Nat.{ℕ, zero, suc, ◌+◌, ◌*◌, ◌≤◌}
use native.Mathlib.Omega.{arith}
use lib.ListN.{length, take, length-take}
use Rattle.std.proofs.lemmas.List.{length-map}
use Rattle.frame.specs.Pick.{pick}
use Rattle.sheet.specs.declared.Found.{Found}
use Rattle.sheet.specs.declared.Found.TheVariants.{Blank, Spoiled, Foreign, Record, Refused}
use Rattle.sheet.specs.Record.{Entry}
use Rattle.sheet.specs.Slots.{size_allowed, slots, list_of}
use Rattle.sheet.specs.Look.{look_of}
use Rattle.sheet.proofs.FewRecords.{few-records}
use Rattle.cards.specs.declared.counting.Tally.{Tally}
use Rattle.cards.specs.Tally.{with_slot, tally_up_to, tally_of}
use Rattle.cards.proofs.FewCounted.{few-counted}
use Rattle.summary.specs.declared.Line.{Line}
use Rattle.summary.specs.declared.Summary.{Summary}
use Rattle.summary.specs.declared.Made.{Made}
use Rattle.summary.specs.Line.{blank_summary, page}
use Rattle.summary.specs.Handed.{lines_of}
use Rattle.summary.specs.Worked.{line_for, pairs_of, kept_pairs, in_order, other_records, summary_of}
use Rattle.summary.specs.Calls.{made_of, afresh, MakesSummary}
use Rattle.summary.proofs.KeptPairs.{once-pairs, once-take, rises-order, length-order}
use Rattle.summary.proofs.OneRecordMore.{worked}
use Rattle.summary.proofs.Pages.{lines-page}
use Rattle.sheet.proofs.Seen.{few-slots}
use Rattle.listing.specs.Text.{ascii}
use Rattle.putting.proofs.Added.{then, text-is, at_most}
use Rattle.std.specs.Prelude.{Option}
use Rattle.calendar.specs.declared.counting.Day.{Day}
use Rattle.picture.specs.declared.axis.Axis.{Axis}
use Rattle.picture.specs.Axis.{axis_of}
use Rattle.picture.specs.Page.{style_text, top_text, sections_text, lines_for, page_of}
use Rattle.picture.specs.Inside.Room.{room_of}
use Rattle.picture.proofs.Rooms.{room-few}
use Rattle.picture.proofs.whole.put_page.Goals as goal

-- the summary that was made is a page of the lines
made-is : (s : List ℕ) (m : Made) → size_allowed s ≡ true → MakesSummary s m → m.summary ≡ page (other_records (kept_pairs (list_of s)) (list_of s)) (lines_for (list_of s))
unfolding afresh
made-is s m size h =
    ap (λ (y : Made). y.summary) (h.answers ∙ ap (λ (b : Bool). pick b (made_of (summary_of (list_of s)) 0) (made_of blank_summary 12)) size) ∙ worked (list_of s)

page-count : (n : ℕ) (ls : List Line) → (page n ls).count ≡ length ls
unfolding page
page-count n ls = refl

page-others : (n : ℕ) (ls : List Line) → (page n ls).others ≡ n
unfolding page
page-others n ls = refl

module _ (s : List ℕ) (y : Summary) (is : y ≡ page (other_records (kept_pairs (list_of s)) (list_of s)) (lines_for (list_of s))) where
  abbrev l : List Entry
  l = list_of s

  abbrev others : ℕ
  others = other_records (kept_pairs l) l

  count-is : y.count ≡ length (lines_for l)
  count-is = ap (λ (z : Summary). z.count) is ∙ page-count others (lines_for l)

  kept : length (in_order (kept_pairs l)) ≤ 30
  kept = omega (arith, length-order (kept_pairs l) (once-take 30 (pairs_of l) (once-pairs l)), length-take 30 (pairs_of l))

  few : y.count ≤ 30
  few = omega (arith, count-is, length-map (in_order (kept_pairs l)) (line_for l), kept)

  others-are : y.others ≡ others
  others-are = ap (λ (z : Summary). z.others) is ∙ page-others others (lines_for l)

  lines_are : take y.count y.lines ≡ lines_for l
  lines_are = ap lines_of is ∙ lines-page others (lines_for l)

  room : room_of l (take y.count y.lines) ≤ 138000 + 624 * slots s
  room =
      let same : room_of l (take y.count y.lines) ≡ room_of l (lines_for l) = ap (room_of l) lines_are in
      omega (arith, same, room-few l (in_order (kept_pairs l)) (rises-order (kept_pairs l)) kept, few-records s (slots s))

-- a tally counts the slots of its sheet, and none of its counts is above them
counted-slots : (f : Found) (t : Tally) → (with_slot f t).slots ≡ t.slots
counted-slots Blank t = refl
counted-slots Spoiled t = refl
counted-slots Foreign t = refl
counted-slots (Record h) t = refl
counted-slots (Refused n) t = refl

tally-slots : (s : List ℕ) (k : ℕ) → (tally_up_to s k).slots ≡ slots s
unfolding tally_up_to
tally-slots s zero = refl
tally-slots s (suc k) = counted-slots (look_of s k).found (tally_up_to s k) ∙ tally-slots s k

small : (s : List ℕ) (t : Tally) → size_allowed s ≡ true → t ≡ tally_of s → (t.slots ≤ 65536) × ((t.records ≤ 65536) × ((t.spoiled ≤ 65536) × (t.foreign ≤ 65536)))
small s t size e =
    let f = few-counted s (slots s) in
    let n = few-slots s size in
    let k = tally-slots s (slots s) in
    rw e (omega (arith, n, k), (omega (arith, n, f), (omega (arith, n, f), omega (arith, n, f))))

-- the parts of the page are the page
page-is : (s name : List ℕ) (begin : Option Day) (t : Tally) (left : ℕ) (a : Axis) (ls : List Line) → t ≡ tally_of s → left ≡ other_records (kept_pairs (list_of s)) (list_of s) → a ≡ axis_of begin t.first t.last → ls ≡ lines_for (list_of s) → style_text name ++ top_text name t left a ++ sections_text (list_of s) a ls ++ ascii "</main></body></html>\n" ≡ page_of s name begin
unfolding page_of
page-is s name begin t left a ls e b g h =
    let w : a ≡ axis_of begin (tally_of s).first (tally_of s).last = g ∙ ap (λ (z : Tally). axis_of begin z.first z.last) e in
    λ i. style_text name ++ top_text name (e i) (b i) (w i) ++ sections_text (list_of s) (w i) (h i) ++ ascii "</main></body></html>\n"

pub put_top-requires : goal.put_top-requires
put_top-requires c =
    let b = small c.args.sheet.now c.count-tally.result c.requires.sheet_value c.count-tally.ensures in
    record { slots_bound = b.0; records_bound = b.1.0; spoiled_bound = b.1.1.0; foreign_bound = b.1.1.1; room = omega (arith, c.requires.room) }

pub put_sections-requires : goal.put_sections-requires
put_sections-requires c =
    let s = c.args.sheet.now in
    let made = c.sisal_summary_of in
    omega (arith, room s made.result.summary (made-is s made.result c.requires.sheet_value made.ensures), c.requires.many_value, c.requires.room)

pub word-requires : goal.word-requires
word-requires c =
    let s = c.args.sheet.now in
    let made = c.sisal_summary_of in
    omega (arith, room s made.result.summary (made-is s made.result c.requires.sheet_value made.ensures), c.requires.many_value, c.requires.room)

pub returns : goal.returns
returns c =
    let s = c.args.sheet.now in
    let made = c.sisal_summary_of in
    let y = made.result.summary in
    let is = made-is s made.result c.requires.sheet_value made.ensures in
    let t = c.count-tally in
    let axis = c.axis_of-axis in
    let whole = page-is s c.args.name.now c.args.begin t.result y.others axis.result (take y.count y.lines) t.ensures (others-are s y is) axis.ensures (lines_are s y is) in
    at_most (omega (arith, room s y is, c.requires.many_value)) (text-is whole (then (then (then c.put_style.ensures c.put_top.ensures) c.put_sections.ensures) c.word.ensures))

pub shared_ref_as_front-put_sections : goal.shared_ref_as_front-put_sections
shared_ref_as_front-put_sections c =
    let made = c.sisal_summary_of in
    few c.args.sheet.now made.result.summary (made-is c.args.sheet.now made.result c.requires.sheet_value made.ensures)
