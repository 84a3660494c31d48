-- Told: the closed ones come first, each with all its stores; the latest is told by what is left of the stores, or by the number. Assumes nothing.
use mathlib.Core.Path.{◌≡◌, refl, sym, ap, ◌∙◌}
use mathlib.Core.Logic.{◌≢◌}
use mathlib.Core.Bool.{Bool, true, false}
use mathlib.Core.List.{List, [], ◌∷◌, ◌++◌, append_assoc}
use Prim.Native.Nat.{ℕ, suc, ◌+◌, ◌-◌, ◌<◌}
use native.Mathlib.Omega.{arith}
use borrow.Author.Tests.{eq-eqb, ne_eqb, lt-ltb, eqb-true}
use lib.Dec.{eqb}
use Rattle.frame.specs.Pick.{pick}
use Rattle.sheet.specs.Record.{Entry, length_of}
use Rattle.promises_card.specs.Sheet.ListAndFull.{Begins}
use Rattle.promises_card.specs.Round.Tries.{Try, closed_of, stores_in_tries, number_of, replies_of, answers_of, Rules, none_yet, next, WentSo}
use Rattle.promises_card.specs.Round.Told.{after_the_closed, answers_told, RoundTold}
use Rattle.promises_card.proofs.Round.Closed.{Real, made, refused, AllReal, none_real, one_real, history-real, chain-real, AllClosed, none_closed, one-closed, closed-before}

-- closed ones in front
closed-first : (h : List Try) → AllClosed h → (rest : List Entry) (c k n : ℕ)
    → answers_told (replies_of h ++ rest) (closed_of h + c) (stores_in_tries h + k) n ≡ answers_of h ++ answers_told rest c k n
unfolding replies_of closed_of stores_in_tries answers_of
closed-first [] none_closed rest c k n =
    let count : 0 + c ≡ c = omega arith in
    let stores : 0 + k ≡ k = omega arith in
    (λ i. answers_told rest (count i) (stores i) n)
closed-first (x ∷ h) (one-closed all none before) rest c k n =
    let long = length_of x.entry + 2 in
    let closed : ◌≡◌ {A = ℕ} (pick (eqb x.stores long) 1 0) 1 = ap (λ (b : Bool). pick b 1 0) (eq-eqb x.stores long all) in
    let count : closed_of h + pick (eqb x.stores long) 1 0 + c ≡ closed_of h + suc c = omega (arith, closed) in
    let stores : stores_in_tries h + x.stores + k ≡ stores_in_tries h + (long + k) = omega (arith, all) in
    let left : long + k - long ≡ k = omega arith in
    let own : ◌≡◌ {A = ℕ × ℕ} (x.stores, x.number) (long, 0) = (λ i. (all i, none i)) in
    let opened : answers_told (x.entry ∷ rest) (suc c) (long + k) n ≡ (long, 0) ∷ answers_told rest c (long + k - long) n = unfold answers_told in refl in
    (λ i. answers_told (append_assoc (replies_of h) (x.entry ∷ []) rest i) (count i) (stores i) n)
    ∙ closed-first h before (x.entry ∷ rest) (suc c) (long + k) n
    ∙ ap (λ (l : List (ℕ × ℕ)). answers_of h ++ l) (opened ∙ (λ i. sym own i ∷ answers_told rest c (left i) n))
    ∙ sym (append_assoc (answers_of h) ((x.stores, x.number) ∷ []) (answers_told rest c k n))

-- the latest
last_one : (x : Try) → Real x → 0 < x.given → (more : List Entry)
    → answers_told (x.entry ∷ more) (pick (eqb x.stores (length_of x.entry + 2)) 1 0) x.stores x.number ≡ (x.stores, x.number) ∷ []
last_one x real some more = go (eqb x.stores (length_of x.entry + 2)) refl real
  where
    long : ℕ
    long = length_of x.entry + 2

    none_left : answers_told more 0 0 0 ≡ []
    none_left = unfold answers_told in refl

    by_last : (stores number : ℕ) → answers_told (x.entry ∷ more) 0 stores number ≡ after_the_closed stores number
    by_last stores number = unfold answers_told in refl

    all_made : (stores number : ℕ) → answers_told (x.entry ∷ more) 1 stores number
        ≡ (length_of x.entry + 2, 0) ∷ answers_told more 0 (stores - (length_of x.entry + 2)) number
    all_made stores number = unfold answers_told in refl

    some-made : (stores number : ℕ) → 0 < stores → after_the_closed stores number ≡ (stores, 0) ∷ []
    some-made stores number l = ap (λ (b : Bool). pick b ((stores, 0) ∷ []) (pick (eqb number 0) [] ((0, number) ∷ []))) (lt-ltb 0 stores l)

    none_made : (number : ℕ) → number ≢ 0 → after_the_closed 0 number ≡ (0, number) ∷ []
    none_made number z = ap (λ (b : Bool). pick b [] ((0, number) ∷ [])) (ne_eqb number 0 z)

    go : (b : Bool) → eqb x.stores (length_of x.entry + 2) ≡ b → Real x
        → answers_told (x.entry ∷ more) (pick b 1 0) x.stores x.number ≡ (x.stores, x.number) ∷ []
    go true q (made z s) =
        let all = eqb-true x.stores (length_of x.entry + 2) q in
        let left : x.stores - (length_of x.entry + 2) ≡ 0 = omega (arith, all) in
        all_made x.stores x.number ∙ (λ i. (sym all i, sym z i) ∷ answers_told more 0 (left i) (z i))
        ∙ ap (λ (l : List (ℕ × ℕ)). (x.stores, x.number) ∷ l) none_left
    go true q (refused z few s) = absurd (omega (arith, eqb-true x.stores (length_of x.entry + 2) q, s))
    go false q (made z s) =
        by_last x.stores x.number ∙ some-made x.stores x.number (omega (arith, s, some)) ∙ (λ i. (x.stores, sym z i) ∷ [])
    go false q (refused z few s) =
        by_last x.stores x.number ∙ ap (λ (k : ℕ). after_the_closed k x.number) s ∙ none_made x.number z ∙ (λ i. (sym s i, x.number) ∷ [])

told_of : (allowance : ℕ) (ts : List Try) (es : List Entry) → Rules allowance ts → AllReal ts → Begins (replies_of ts) es
    → answers_of ts ≡ answers_told es (closed_of ts) (stores_in_tries ts) (number_of ts)
unfolding replies_of closed_of stores_in_tries answers_of answers_told
told_of allowance [] es none_yet none_real b = refl
told_of allowance (x ∷ h) es (next y rules before left given) (one_real real others) (more, is) =
    let closed = closed-before allowance h rules others before left in
    let some : 0 < x.given = omega (arith, given, left) in
    let rest : es ≡ replies_of h ++ x.entry ∷ more = is ∙ append_assoc (replies_of h) (x.entry ∷ []) more in
    let one : ℕ = pick (eqb x.stores (length_of x.entry + 2)) 1 0 in
    sym
    (ap (λ (l : List Entry). answers_told l (closed_of h + one) (stores_in_tries h + x.stores) x.number) rest
    ∙ closed-first h closed (x.entry ∷ more) one x.stores x.number
    ∙ ap (λ (l : List (ℕ × ℕ)). answers_of h ++ l) (last_one x real some more))

-- of what went so
pub told-so : (allowance : ℕ) (es : List Entry) (ts : List Try) (closed stores number : ℕ) → WentSo allowance es ts closed stores number → AllReal ts
    → answers_of ts ≡ answers_told es closed stores number
told-so allowance es ts closed stores number went real =
    told_of allowance ts es went.rules real went.begins
    ∙ (λ i. answers_told es (sym went.closed_are i) (sym went.stores-are i) (sym went.number_is i))

pub told : RoundTold
told =
    record {
      plain = λ s r allowance answer t one. told-so allowance _ _ answer.closed answer.stores answer.number one.went (history-real one.history);
      with_summary = λ s page r allowance answer t one.
          told-so allowance _ _ answer.closed answer.stores answer.number one.went (chain-real one.chain);
    }
