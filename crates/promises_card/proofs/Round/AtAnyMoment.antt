-- At any moment, over rounds: rounds with a summary come to a chain of saves with it, of which request 03's promise stands proved. Assumes nothing.
use mathlib.Core.Path.{◌≡◌, refl, sym, ap, subst, ◌∙◌}
use mathlib.Core.Logic.{◌≢◌}
use mathlib.Core.Bool.{Bool, true, false}
use mathlib.Core.List.{List, [], ◌∷◌, ◌++◌, map}
use Prim.Native.Nat.{ℕ, ◌<◌}
use native.Mathlib.Omega.{arith}
use borrow.Author.Tests.{leb-true, leb-false}
use lib.Dec.{leb}
use Rattle.sheet.specs.Record.{Entry}
use Rattle.sheet.specs.Slots.{size_allowed, list_of}
use Rattle.summary.specs.declared.Summary.{Summary}
use Rattle.summary.specs.Worked.{summary_of}
use Rattle.round.specs.declared.RoundedPage.{RoundedPage}
use Rattle.round.specs.Replies.{entries_of}
use Rattle.round.specs.Saving.{kept, Standing}
use Rattle.round.specs.Calls.{rounded_page_of, SavesRoundWith}
use Rattle.round.proofs.Turns.{too_many}
use Rattle.promises_card.specs.Summary.Chain.{Step, Chain}
use Rattle.promises_card.specs.Summary.Chain as chain
use Rattle.promises_card.specs.Round.Tries.{try_step, WentSo}
use Rattle.promises_card.specs.Round.Histories.{CalledWith, RoundsWith, none_called_with, called_with}
use Rattle.promises_card.specs.Round.AtAnyMoment.{RoundsAtAnyMoment}
use Rattle.promises_card.proofs.Summary.AtAnyMoment.{at-any-moment}
use Rattle.promises_card.proofs.Round.OneByOne.{by-steps}

-- one chain after another
then : {from : List ℕ} {begin : Summary} {h : List Step} {s : List ℕ} {page : Summary} {g : List Step} {t : List ℕ} {after : Summary}
    → Chain from begin h s page → Chain s page g t after → Chain from begin (g ++ h) t after
then first chain.begun = first
then first (chain.kept x more m) = chain.kept x (then first more) m

module _ (s : List ℕ) (page : Summary) (c : CalledWith) (t : List ℕ) (m : SavesRoundWith s page c.polled c.allowance c.answer t) (big : 30 < c.polled.count) where
  sheet-stays : t ≡ s
  sheet-stays = m.leaves ∙ ap (λ (x : Standing). x.sheet) (too_many s (kept page) c.polled c.allowance big)

  answer-is : c.answer ≡ record { summary = page; closed = 0; stores = 0; number = 23 }
  answer-is = m.answers ∙ ap rounded_page_of (too_many s (kept page) c.polled c.allowance big)

chain-of : {from : List ℕ} {begin : Summary} {cs : List CalledWith} {t : List ℕ} {page : Summary} → RoundsWith from begin cs t page
    → (h : List Step) × Chain from begin h t page
chain-of none_called_with = ([], chain.begun)
chain-of {from} {begin} (called_with {s = s} {t = t} {page = page} c before m) = go (leb c.polled.count 30) refl (chain-of before)
  where
    go : (b : Bool) → leb c.polled.count 30 ≡ b → ((h : List Step) × Chain from begin h s page)
        → (h : List Step) × Chain from begin h t c.answer.summary
    go true q (h, first) =
        let one = by-steps s page c.polled c.allowance c.answer t m (leb-true c.polled.count 30 q) c.dated in
        (one.steps ++ h, then first one.chain)
    go false q (h, first) =
        let big = leb-false c.polled.count 30 q in
        let stays : s ≡ t = sym (sheet-stays s page c t m big) in
        let same : page ≡ c.answer.summary = sym (ap (λ (a : RoundedPage). a.summary) (answer-is s page c t m big)) in
        (h, subst (λ (p : Summary). Chain from begin h t p) same (subst (λ (u : List ℕ). Chain from begin h u page) stays first))

-- the number of a round is that of its latest save
module _ (from : List ℕ) (sized : size_allowed from ≡ true) (h : List Step) (s : List ℕ) (page : Summary) (first : Chain from (summary_of (list_of from)) h s page) where
  never-by : (allowance : ℕ) (es : List Entry) (closed stores number : ℕ) (steps : List Step) (t : List ℕ) (after : Summary) → Chain s page steps t after
      → WentSo allowance es (map try_step steps) closed stores number → (number ≢ 37) × (number ≢ 24)
  never-by allowance es closed stores number [] t after made went =
      (λ q. absurd (omega (arith, went.number_is, q)), λ q. absurd (omega (arith, went.number_is, q)))
  never-by allowance es closed stores number (x ∷ g) t after (chain.kept {s = u} {page = before} y made m) went =
      let no = at-any-moment.never from sized (g ++ h) u before (then first made) x t m in
      (λ q. no.0 (sym went.number_is ∙ q), λ q. no.1 (sym went.number_is ∙ q))

never-of : (from : List ℕ) → size_allowed from ≡ true → (cs : List CalledWith) (s : List ℕ) (page : Summary)
    → RoundsWith from (summary_of (list_of from)) cs s page → (c : CalledWith) (t : List ℕ)
    → SavesRoundWith s page c.polled c.allowance c.answer t → (c.answer.number ≢ 37) × (c.answer.number ≢ 24)
never-of from sized cs s page rounds c t m = go (leb c.polled.count 30) refl
  where
    go : (b : Bool) → leb c.polled.count 30 ≡ b → (c.answer.number ≢ 37) × (c.answer.number ≢ 24)
    go true q =
        let one = by-steps s page c.polled c.allowance c.answer t m (leb-true c.polled.count 30 q) c.dated in
        let first = chain-of rounds in
        never-by from sized first.0 s page first.1 c.allowance (entries_of c.polled) c.answer.closed c.answer.stores c.answer.number
        one.steps t c.answer.summary one.chain one.went
    go false q =
        let n : c.answer.number ≡ 23 = ap (λ (a : RoundedPage). a.number) (answer-is s page c t m (leb-false c.polled.count 30 q)) in
        (λ z. omega (arith, n, z), λ z. omega (arith, n, z))

pub rounds-at-any-moment : RoundsAtAnyMoment
rounds-at-any-moment =
    record {
      chain = λ from begin cs t page rounds. chain-of rounds;
      equals = λ from sized cs t page rounds.
          let all = chain-of rounds in
          at-any-moment.equals from sized all.0 t page all.1;
      never = never-of;
    }
