-- What stops a round: 23, an empty round and no stores by their definition; the number by the latest of its saves. Assumes nothing.
use mathlib.Core.Path.{◌≡◌, refl, sym, ap, subst, ◌∙◌}
use mathlib.Core.Logic.{◌≢◌}
use mathlib.Core.List.{List, [], ◌∷◌, map}
use Prim.Native.Nat.{ℕ, ◌+◌, ◌≤◌}
use native.Mathlib.Omega.{arith}
use lib.ListN.{take}
use Rattle.sheet.specs.Record.{Entry}
use Rattle.summary.specs.declared.Summary.{Summary}
use Rattle.round.specs.declared.Round.{Round}
use Rattle.round.specs.declared.Rounded.{Rounded}
use Rattle.round.specs.declared.RoundedPage.{RoundedPage}
use Rattle.round.specs.Replies.{entry_in, entries_of}
use Rattle.round.specs.Saving.{Page, none, kept, Standing, standing, saved_all}
use Rattle.round.specs.Calls.{round_of, rounded_of, rounded_page_of, SavesRound, SavesRoundWith}
use Rattle.round.proofs.Turns.{used-stays, too_many, not-many}
use Rattle.promises_frame.specs.FirstFault.{FirstThatApplies}
use Rattle.promises_card.specs.Sheet.History.{Save, History}
use Rattle.promises_card.specs.Sheet.History as history
use Rattle.promises_card.specs.Sheet.FirstFault.{save_table, save_order}
use Rattle.promises_card.specs.Summary.Chain.{Step, Chain}
use Rattle.promises_card.specs.Summary.Chain as chain
use Rattle.promises_card.specs.Summary.FirstFault.{keep_table, keep_order}
use Rattle.promises_card.specs.Round.Tries.{Try, try_save, try_step, stores_in_tries, number_of, Rules, none_yet, next, WentSo}
use Rattle.promises_card.specs.Round.Stops.{rounded, rounded_page, StoppedBy, StoppedByWith, Stops}
use Rattle.promises_card.proofs.Sheet.FirstFault.{sheet-fault}
use Rattle.promises_card.proofs.Summary.FirstFault.{summary-fault}
use Rattle.promises_card.proofs.Round.Closed.{made, refused, AllReal, none_real, one_real, history-real, chain-real}

-- a round that stands as it began
module _ (s : List ℕ) (r : Round) (allowance : ℕ) (t : List ℕ) (number : ℕ) where
  plain-is : (answer : Rounded) → SavesRound s r allowance answer t → round_of s none r allowance ≡ standing s none 0 0 number
      → (answer ≡ rounded 0 0 number) × (t ≡ s)
  plain-is answer m is = (m.answers ∙ ap rounded_of is, m.leaves ∙ ap (λ (x : Standing). x.sheet) is)

  paged-is : (page : Summary) (answer : RoundedPage) → SavesRoundWith s page r allowance answer t
      → round_of s (kept page) r allowance ≡ standing s (kept page) 0 0 number → (answer ≡ rounded_page page 0 0 number) × (t ≡ s)
  paged-is page answer m is = (m.answers ∙ ap rounded_page_of is, m.leaves ∙ ap (λ (x : Standing). x.sheet) is)

empty-is : (s : List ℕ) (page : Page) (r : Round) (allowance : ℕ) → r.count ≡ 0 → round_of s page r allowance ≡ standing s page 0 0 0
empty-is s page r allowance z =
    let entries : entries_of r ≡ [] = ap (λ (k : ℕ). entries-of k) z in
    let nothing : saved_all allowance (standing s page 0 0 0) [] ≡ standing s page 0 0 0 = unfold saved_all in refl in
    not-many s page r allowance (omega arith) ∙ ap (saved_all allowance (standing s page 0 0 0)) entries ∙ nothing
  where
    entries-of : ℕ → List Entry
    entries-of k = map entry_in (take k r.replies)

none_is : (s : List ℕ) (page : Page) (r : Round) → r.count ≤ 30 → round_of s page r 0 ≡ standing s page 0 0 0
none_is s page r few = not-many s page r 0 few ∙ used-stays 0 (standing s page 0 0 0) (entries_of r) (omega arith)

-- stores used up leave nothing to refuse
used-so : (allowance : ℕ) (es : List Entry) (ts : List Try) (closed stores number : ℕ) → WentSo allowance es ts closed stores number → AllReal ts
    → stores ≡ allowance → number ≡ 0
used-so allowance es ts closed stores number went real q =
    went.number_is ∙ go ts went.rules real (sym went.stores-are ∙ q)
  where
    go : (ts : List Try) → Rules allowance ts → AllReal ts → stores_in_tries ts ≡ allowance → number_of ts ≡ 0
    go [] none_yet none_real u = refl
    go (x ∷ h) (next y rules before left given) (one_real (made z s) others) u = z
    go (x ∷ h) (next y rules before left given) (one_real (refused z few s) others) u =
        let sum : stores_in_tries (x ∷ h) ≡ stores_in_tries h + x.stores = unfold stores_in_tries in refl in
        absurd (omega (arith, sum, s, left, u))

first-of : (s : List ℕ) (saves : List Save) (t : List ℕ) (number : ℕ) → History s saves t → number ≡ number_of (map try_save saves) → number ≢ 0
    → StoppedBy s saves number
first-of s [] t number done n z = absurd (z n)
first-of s (x ∷ g) t number (history.saved {s = u} y done m) n z =
    record {
      last = x;
      before = g;
      latest = refl;
      there = u;
      left = done;
      first = subst (λ (k : ℕ). FirstThatApplies (save_table u x.entry) save_order k) (sym n)
          (sheet-fault.save u x.entry x.allowance x.answer t m);
    }

first-of-with : (s : List ℕ) (page : Summary) (steps : List Step) (t : List ℕ) (after : Summary) (number : ℕ) → Chain s page steps t after
    → number ≡ number_of (map try_step steps) → number ≢ 0 → StoppedByWith s page steps number
first-of-with s page [] t after number done n z = absurd (z n)
first-of-with s page (x ∷ g) t after number (chain.kept {s = u} {page = before} y done m) n z =
    record {
      last = x;
      before = g;
      latest = refl;
      there = u;
      there_page = before;
      left = done;
      first = subst (λ (k : ℕ). FirstThatApplies (keep_table u before x.entry) keep_order k) (sym n)
          (summary-fault.save u before x.entry x.allowance x.answer t m);
    }

pub round-stops : Stops
round-stops =
    record {
      too_many = λ s r allowance answer t m big. plain-is s r allowance t 23 answer m (too_many s none r allowance big);
      too_many_with = λ s page r allowance answer t m big. paged-is s r allowance t 23 page answer m (too_many s (kept page) r allowance big);
      empty = λ s r allowance answer t m z. plain-is s r allowance t 0 answer m (empty-is s none r allowance z);
      empty_with = λ s page r allowance answer t m z. paged-is s r allowance t 0 page answer m (empty-is s (kept page) r allowance z);
      no_stores = λ s r answer t m few. plain-is s r 0 t 0 answer m (none_is s none r few);
      no_stores_with = λ s page r answer t m few. paged-is s r 0 t 0 page answer m (none_is s (kept page) r few);
      used_up = λ s r allowance answer t one.
          used-so allowance (entries_of r) _ answer.closed answer.stores answer.number one.went (history-real one.history);
      used_up_with = λ s page r allowance answer t one.
          used-so allowance (entries_of r) _ answer.closed answer.stores answer.number one.went (chain-real one.chain);
      first-fault = λ s r allowance answer t one. first-of s one.saves t answer.number one.history one.went.number_is;
      first_fault_with = λ s page r allowance answer t one.
          first-of-with s page one.steps t answer.summary answer.number one.chain one.went.number_is;
    }
