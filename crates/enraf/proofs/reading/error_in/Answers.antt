-- `enraf::reading::error_in` meets its contract: of an error all three digits are there, and are digits. Assumes nothing.
use mathlib.Core.Path.{◌≡◌, sym, ap, ◌∙◌}
use mathlib.Core.Bool.{true, false}
use mathlib.Core.Logic.{◌⊎◌, inl, inr}
use Prim.Native.Nat.{ℕ, ◌+◌, ◌*◌}
use borrow.Author.Tests.{eq-eqb}
use borrow.Author.Rules.{rules}
use lib.Dec.{eqb}
use Rattle.enraf.specs.declared.kind.ItemKind.{ItemKind}
use Rattle.enraf.specs.declared.kind.ItemKind.TheVariants.{Alone, Setting, Taken, SettingTaken, Value}
use Rattle.enraf.specs.Inside.{kind_number}
use Rattle.enraf.specs.Item.{failed, digit_at, is_error, kind_in}
use Rattle.enraf.proofs.ByTests.{number_by, is-error, error-long, error-digits}
use Rattle.enraf.proofs.reading.error_in.Goals.{In-Failed}
use Rattle.enraf.proofs.reading.error_in.Goals as goal

-- past the match it is an error
errs : (c : In-Failed) → is_error c.args.tail.now ≡ true
errs c = is-error c.args.tail.now (sym c.requires ∙ ap kind_number c.in-Failed.is)

-- a kind that is no error has another number
no-error : (k : ItemKind) → (k ≡ Alone) ⊎ ((k ≡ Setting) ⊎ ((k ≡ Taken) ⊎ ((k ≡ SettingTaken) ⊎ (k ≡ Value)))) → eqb (kind_number k) failed ≡ false
no-error k (inl e) = ap (λ (j : ItemKind). eqb (kind_number j) failed) e
no-error k (inr (inl e)) = ap (λ (j : ItemKind). eqb (kind_number j) failed) e
no-error k (inr (inr (inl e))) = ap (λ (j : ItemKind). eqb (kind_number j) failed) e
no-error k (inr (inr (inr (inl e)))) = ap (λ (j : ItemKind). eqb (kind_number j) failed) e
no-error k (inr (inr (inr (inr e)))) = ap (λ (j : ItemKind). eqb (kind_number j) failed) e

pub bounds-tail-1 : goal.bounds-tail-1
bounds-tail-1 c =
    let n = error-long c.args.tail.now (errs (goal.at.bounds-tail-1 c).In-Failed) in
    search rules

pub bounds-tail-2 : goal.bounds-tail-2
bounds-tail-2 c =
    let n = error-long c.args.tail.now (errs (goal.at.bounds-tail-2 c).In-Failed) in
    search rules

pub bounds-tail-3 : goal.bounds-tail-3
bounds-tail-3 c =
    let n = error-long c.args.tail.now (errs (goal.at.bounds-tail-3 c).In-Failed) in
    search rules

pub digit_of-requires : goal.digit_of-requires
digit_of-requires c = (error-digits c.args.tail.now (errs (goal.at.digit_of-requires c).In-Failed)).0

pub digit_of-requires-in-Failed : goal.digit_of-requires-in-Failed
digit_of-requires-in-Failed c = (error-digits c.args.tail.now (errs (goal.at.digit_of-requires-in-Failed c).In-Failed)).1

pub digit_of-requires-in-Failed-2 : goal.digit_of-requires-in-Failed-2
digit_of-requires-in-Failed-2 c = (error-digits c.args.tail.now (errs (goal.at.digit_of-requires-in-Failed-2 c).In-Failed)).2

pub returns-in-Failed : goal.returns-in-Failed
returns-in-Failed c =
    let t = c.args.tail.now in
    let one : c.from.result ≡ digit_at t 1 = c.from.ensures ∙ c.digit_of.ensures.0 in
    let two : c.from-in-Failed.result ≡ digit_at t 2 = c.from-in-Failed.ensures ∙ c.digit_of-in-Failed.ensures.0 in
    let three : c.from-in-Failed-2.result ≡ digit_at t 3 = c.from-in-Failed-2.ensures ∙ c.digit_of-in-Failed-2.ensures.0 in
    let same : kind_in t ≡ 6 = sym c.requires ∙ ap kind_number c.in-Failed.is in
    (λ i. one i * 100 + two i * 10 + three i) ∙ sym (number_by t true (eq-eqb _ _ same))

pub returns-in-Alone : goal.returns-in-Alone
returns-in-Alone c =
    let t = c.args.tail.now in
    sym (number_by t false (ap (λ (k : ℕ). eqb k failed) (sym c.requires) ∙ no-error c.args.kind c.in-Alone.is))
