-- `board::value::find` meets its contract: each of the two rows of a turn is one more of the pass. After the loop nothing is left to pass, and what it comes to is told by
-- `told-filled`; where a row was out of order it is `found-low`.
use Rattle.std.proofs.Common.{◌≡◌, ◌∙◌, ℕ, ◌+◌, ◌-◌, ◌*◌, ◌/◌, ◌<◌, true, false, List, Option, None, Some, length, drop, refl, sym, ap, subst, arith}
use lib.ListN.{get_or}
use borrow.Author.Tests.{eqb-true, eq-eqb, le-ltb}
use Rattle.board.specs.declared.Row.{Row}
use Rattle.board.specs.declared.value.Found.{Found}
use Rattle.board.specs.Row.{free_row}
use Rattle.board.specs.Inside.ByValue.{filled, Passed, passed, over_row, searched, unsearched, Stands, RowAt, Finds, rows_that_count, FindsOn}
use Rattle.board.proofs.Order.{neither}
use Rattle.board.proofs.Searched.{Low, Passing, one_of, passes-first, passes-second, search-end, Told, told-filled, found-low, row-own, row-none}
use Rattle.board.proofs.value.find.Goals as goal
use Rattle.board.proofs.value.find.Goals.{then-s-free, else-s-free}

-- a row out of order ends the search
low : (a len : ℕ) (held : List Row) (s : Passed) (i : ℕ) (r : Option Found) → r ≡ None → s.kept ≡ false → Passing a held s i → FindsOn held len a r
low a len held s i r is k so = record {
  on = λ board long same. subst (Finds board a) (sym is)
      (found-low a board s i (subst (λ (xs : List Row). searched a s (drop i xs) ≡ searched a unsearched xs) same so.1.1) k);
}

pub loop-two-init : goal.loop-two-init
loop-two-init c =
    let e = c.default-s.ensures in
    let start : passed c.default-s.result ≡ unsearched = λ i. record { vacant = e.0 i; below = e.1.0 i; least = e.1.1 i; kept = true } in
    (omega (arith, e.0, e.1.0), (λ j l. absurd (omega arith), ap (λ (z : Passed). searched c.args.address z c.args.held) start))

pub pass-requires : goal.pass-requires
pass-requires c =
    let so = c.loop-two.invariant.0 in
    let on = c.loop-two-test.true in
    (omega (arith, so, on, c.as_chunks.ensures.front_len), omega (arith, so, on, c.as_chunks.ensures.front_len))

pub pass-requires-in-loop-two : goal.pass-requires-in-loop-two
pass-requires-in-loop-two c =
    let l = c.loop-two in
    let on : l.two-index < length c.args.held / 2 = omega (arith, c.as_chunks.ensures.front_len, c.loop-two-test.true) in
    let first = c.in_ok-pass in
    let so = passes-first c.args.address c.args.held c.as_chunks.result.0.now c.as_chunks.ensures.front l.two-index on (passed l.s) (passed first.field-0) (sym first.ensures.passes, first.ensures.word) l.invariant in
    (omega (arith, so.0, on), omega (arith, so.0, on))

pub overflow_sub-free : goal.overflow_sub-free
overflow_sub-free c = omega (arith, c.loop-two.invariant.0, c.loop-two.auto.two-index-end, c.as_chunks.ensures.front_len)

pub returns-in_err-pass : goal.returns-in_err-pass
returns-in_err-pass c =
    let l = c.loop-two in
    let on : l.two-index < length c.args.held / 2 = omega (arith, c.as_chunks.ensures.front_len, c.loop-two-test.true) in
    let first = over_row c.args.address (passed l.s) (one_of c.as_chunks.result.0.now l.two-index 0) in
    low c.args.address c.args.len c.args.held first (l.two-index * 2 + 1) c.from_residual.result c.from_residual.ensures c.in_err-pass.ensures.passes
    (passes-first c.args.address c.args.held c.as_chunks.result.0.now c.as_chunks.ensures.front l.two-index on (passed l.s) first (refl, c.in_err-pass.ensures.word) l.invariant)

pub returns-in_err-s : goal.returns-in_err-s
returns-in_err-s c =
    let l = c.loop-two in
    let on : l.two-index < length c.args.held / 2 = omega (arith, c.as_chunks.ensures.front_len, c.loop-two-test.true) in
    let first = c.in_ok-pass in
    let so = passes-first c.args.address c.args.held c.as_chunks.result.0.now c.as_chunks.ensures.front l.two-index on (passed l.s) (passed first.field-0) (sym first.ensures.passes, first.ensures.word) l.invariant in
    let second = over_row c.args.address (passed first.field-0) (one_of c.as_chunks.result.0.now l.two-index 1) in
    low c.args.address c.args.len c.args.held second ((l.two-index + 1) * 2) c.from_residual-in_err-s.result c.from_residual-in_err-s.ensures c.in_err-s.ensures.passes
    (passes-second c.args.address c.args.held c.as_chunks.result.0.now c.as_chunks.ensures.front l.two-index on (passed first.field-0) second (refl, c.in_err-s.ensures.word) so)

pub loop-two-preserved : goal.loop-two-preserved
loop-two-preserved c =
    let l = c.loop-two in
    let on : l.two-index < length c.args.held / 2 = omega (arith, c.as_chunks.ensures.front_len, c.loop-two-test.true) in
    let first = c.in_ok-pass in
    let second = c.in_ok-s in
    let so = passes-first c.args.address c.args.held c.as_chunks.result.0.now c.as_chunks.ensures.front l.two-index on (passed l.s) (passed first.field-0) (sym first.ensures.passes, first.ensures.word) l.invariant in
    passes-second c.args.address c.args.held c.as_chunks.result.0.now c.as_chunks.ensures.front l.two-index on (passed first.field-0) (passed second.s) (sym second.ensures.passes, second.ensures.word) so

-- all rows were passed, and none was out of order
all : (a len : ℕ) (held : List Row) (s : Passed) (i n : ℕ) (row : Option Row) → length held ≡ 30 → i ≡ 30 → s.kept ≡ true → Passing a held s i → n ≡ rows_that_count len
    → ((board : List Row) → held ≡ filled board → Told a board s → RowAt board a s.below row) → FindsOn held len a (Some (record { n = n; row = row; free = 30 - s.vacant; spot = s.below }))
all a len held s i n row thirty end sound so count own =
    let whole : s ≡ searched a unsearched held = sym (search-end a s held i (omega arith)) ∙ so.1.1 in
    let words : Low held = λ j l. so.1.0 j (omega arith) in
    record {
      on = λ board long same.
          let told = told-filled a board s (omega arith) (subst (λ (xs : List Row). s ≡ searched a unsearched xs) same whole) sound (subst Low same words) in
          record {
            order = told.kept;
            count = count ∙ sym long;
            bounds = record { spot_free = omega (arith, so.0); free_few = omega arith };
            vacant = told.used;
            stands = told.below;
            row = own board same told;
          };
    }

pub returns-then-own : goal.returns-then-own
returns-then-own c =
    let l = c.loop-two in
    let a = c.args.address in
    all a c.args.len c.args.held (passed l.s) (l.two-index * 2) c.min.result _ (omega arith) (omega arith) refl l.invariant c.min.ensures
    (λ board same told.
    subst (λ (xs : List Row). Stands board a l.s.below (get_or xs l.s.below free_row)) (sym same)
    (elim c.if-s-free.branch [
      | then-s-free w ↦ row-own a board (passed l.s) told w.if-s-free.true (sym (ap (λ (xs : List Row). (get_or xs l.s.below free_row).address) same) ∙ eqb-true _ _ (sym w.own-is ∙ c.if-own.true))
      | else-s-free w ↦ neither c.if-own.true (w.own-is ∙ le-ltb _ _ w.if-s-free.false)
    ]))

pub returns-else-own : goal.returns-else-own
returns-else-own c =
    let l = c.loop-two in
    let a = c.args.address in
    all a c.args.len c.args.held (passed l.s) (l.two-index * 2) c.min.result None (omega arith) (omega arith) refl l.invariant c.min.ensures
    (λ board same told.
    row-none a board (passed l.s) told
    (λ less is.
    elim c.if-s-free.branch [
      | then-s-free w ↦ neither (w.own-is ∙ eq-eqb _ _ (ap (λ (xs : List Row). (get_or xs l.s.below free_row).address) same ∙ is)) c.if-own.false
      | else-s-free w ↦ absurd (omega arith)
    ]))
