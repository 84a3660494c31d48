-- First fault, of the summary's calls: the lines of the tables that bear on them, and the order in which each asks.
use Rattle.std.specs.Prelude.{Bool, false, not, ◌&&◌, ◌||◌, List, [], ◌∷◌, ℕ, zero, suc, ◌+◌, eqb, leb, ltb}
use Rattle.frame.specs.Faults.{Test, ◌gives◌}
use Rattle.sheet.specs.Record.{Entry}
use Rattle.sheet.specs.Slots.{size_allowed}
use Rattle.summary.specs.declared.Line.{Line}
use Rattle.summary.specs.declared.Summary.{Summary}
use Rattle.summary.specs.declared.Made.{Made}
use Rattle.summary.specs.declared.Kept.{Kept}
use Rattle.summary.specs.Line.{no_level, pair_of}
use Rattle.summary.specs.Handed.{line_at, is_blank}
use Rattle.summary.specs.Calls.{MakesSummary, SavesWith}
use Rattle.promises_frame.specs.FirstFault.{FirstThatApplies}
use Rattle.promises_card.specs.Sheet.FirstFault.{save_table, save_order}

-- A test holds at some place below a number.
unfoldable pub some : ℕ → (ℕ → Bool) → Bool
some zero f = false
some (suc n) f = some n f || f n

-- 37 in request 03's words: an unused line not blank, lines not strictly rising, or a line with levels and no good reply or the reverse.
abbrev pub unused_not_blank : Summary → Bool
unused_not_blank s = some 30 (λ i. leb s.count i && not (is_blank (line_at s i)))

abbrev pub not_rising : Summary → Bool
not_rising s = some 30 (λ i. ltb (i + 1) s.count && leb (pair_of (line_at s (i + 1))) (pair_of (line_at s i)))

abbrev pub no_good : Line → Bool
no_good l = eqb l.good 0

abbrev pub levels_against : Line → Bool
levels_against l =
    (no_good l && (not (eqb l.lowest no_level) || not (eqb l.highest no_level)))
    || (not (no_good l) && (eqb l.lowest no_level || eqb l.highest no_level))

abbrev pub out_of_shape : Summary → Bool
out_of_shape s =
    ltb 30 s.count || (unused_not_blank s || (not_rising s || some 30 (λ i. ltb i s.count && levels_against (line_at s i))))

-- 24: any count in it above 1,000,000.
abbrev pub a_count_over : Summary → Bool
a_count_over s = ltb 1_000_000 s.others || some 30 (λ i. ltb 1_000_000 (line_at s i).good || ltb 1_000_000 (line_at s i).faulty)

abbrev pub keep_table : List ℕ → Summary → Entry → List Test
keep_table sheet s e = a_count_over s gives 24 ∷ out_of_shape s gives 37 ∷ save_table sheet e

abbrev pub keep_order : List ℕ
keep_order = 37 ∷ 24 ∷ save_order

pub record SummaryFault : Type 0 where
  pub save : (sheet : List ℕ) (s : Summary) (e : Entry) (allowance : ℕ) (answer : Kept) (t : List ℕ) → SavesWith sheet s e allowance answer t
      → FirstThatApplies (keep_table sheet s e) keep_order answer.number
  pub afresh : (sheet : List ℕ) (answer : Made) → MakesSummary sheet answer
      → FirstThatApplies (not (size_allowed sheet) gives 12 ∷ []) (12 ∷ []) answer.number
