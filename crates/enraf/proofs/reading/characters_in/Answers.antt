-- `enraf::reading::characters_in` meets its contract: a setting has its "=", and a setting taken its "&" besides, so that the parts are there.
-- Assumes nothing.
use mathlib.Core.Path.{◌≡◌, refl, sym, ap, ◌∙◌}
use mathlib.Core.Bool.{true, false}
use mathlib.Core.List.{List, []}
use mathlib.Core.Logic.{◌⊎◌, inl, inr}
use Prim.Native.Nat.{ℕ, ◌-◌, ◌≤◌}
use native.Mathlib.Omega.{arith}
use borrow.Author.Rules.{rules}
use lib.Dec.{eqb}
use lib.ListN.{length, take, drop, length-drop}
use lib.Seq.{take_all}
use Rattle.enraf.specs.declared.kind.ItemKind.{ItemKind}
use Rattle.enraf.specs.declared.kind.ItemKind.TheVariants.{Alone, Setting, Taken, SettingTaken, Value, Failed}
use Rattle.enraf.specs.Inside.{kind_number}
use Rattle.enraf.specs.Item.{setting, setting_taken, value, kind_in, characters_in}
use Rattle.enraf.proofs.ByTests.{characters-by, setting-long, setting-taken-long}
use Rattle.enraf.proofs.reading.characters_in.Goals.{Start, In-Setting, In-SettingTaken}
use Rattle.enraf.proofs.reading.characters_in.Goals as goal

-- the data of each kind
abbrev data_of : ItemKind → List ℕ → List ℕ
data_of Alone t = []
data_of Setting t = drop 1 t
data_of Taken t = []
data_of SettingTaken t = take (length t - 2) (drop 1 t)
data_of Value t = t
data_of Failed t = []

by-kind : (k : ItemKind) (t : List ℕ) → kind_number k ≡ kind_in t → data_of k t ≡ characters_in t
by-kind Alone t e = sym (characters-by t false false false (ap (λ (n : ℕ). eqb n setting) (sym e)) (ap (λ (n : ℕ). eqb n setting_taken) (sym e)) (ap (λ (n : ℕ). eqb n value) (sym e)))
by-kind Setting t e = sym (characters-by t true _ _ (ap (λ (n : ℕ). eqb n setting) (sym e)) refl refl)
by-kind Taken t e = sym (characters-by t false false false (ap (λ (n : ℕ). eqb n setting) (sym e)) (ap (λ (n : ℕ). eqb n setting_taken) (sym e)) (ap (λ (n : ℕ). eqb n value) (sym e)))
by-kind SettingTaken t e = sym (characters-by t false true _ (ap (λ (n : ℕ). eqb n setting) (sym e)) (ap (λ (n : ℕ). eqb n setting_taken) (sym e)) refl)
by-kind Value t e = sym (characters-by t false false true (ap (λ (n : ℕ). eqb n setting) (sym e)) (ap (λ (n : ℕ). eqb n setting_taken) (sym e)) (ap (λ (n : ℕ). eqb n value) (sym e)))
by-kind Failed t e = sym (characters-by t false false false (ap (λ (n : ℕ). eqb n setting) (sym e)) (ap (λ (n : ℕ). eqb n setting_taken) (sym e)) (ap (λ (n : ℕ). eqb n value) (sym e)))

no-data : (k : ItemKind) (t : List ℕ) → (k ≡ Alone) ⊎ ((k ≡ Taken) ⊎ (k ≡ Failed)) → [] ≡ data_of k t
no-data k t (inl e) = sym (ap (λ (j : ItemKind). data_of j t) e)
no-data k t (inr (inl e)) = sym (ap (λ (j : ItemKind). data_of j t) e)
no-data k t (inr (inr e)) = sym (ap (λ (j : ItemKind). data_of j t) e)

one : (c : In-Setting) → 1 ≤ length c.args.tail.now
one c = setting-long c.args.tail.now (sym c.requires ∙ ap kind_number c.in-Setting.is)

two : (c : In-SettingTaken) → 2 ≤ length c.args.tail.now
two c = setting-taken-long c.args.tail.now (sym c.requires ∙ ap kind_number c.in-SettingTaken.is)

pub slice_bounds-result-count : goal.slice_bounds-result-count
slice_bounds-result-count c = one (goal.at.slice_bounds-result-count c).In-Setting

pub slice_bounds-result-start : goal.slice_bounds-result-start
slice_bounds-result-start c =
    let long = one (goal.at.slice_bounds-result-start c).In-Setting in
    search rules

pub overflow_sub-result : goal.overflow_sub-result
overflow_sub-result c = let long = two (goal.at.overflow_sub-result c).In-SettingTaken in omega arith

pub slice_bounds-result-count-in-SettingTaken : goal.slice_bounds-result-count-in-SettingTaken
slice_bounds-result-count-in-SettingTaken c =
    let long = two (goal.at.slice_bounds-result-count-in-SettingTaken c).In-SettingTaken in
    omega arith

pub slice_bounds-result-start-in-SettingTaken : goal.slice_bounds-result-start-in-SettingTaken
slice_bounds-result-start-in-SettingTaken c =
    let long = two (goal.at.slice_bounds-result-start-in-SettingTaken c).In-SettingTaken in
    search rules

pub returns-in-Setting : goal.returns-in-Setting
returns-in-Setting c =
    let t = c.args.tail.now in
    let all : length (drop 1 t) ≤ length t - 1 = simp length-drop (omega arith) in
    take_all (length t - 1) (drop 1 t) all ∙ ap (λ (k : ItemKind). data_of k t) (sym c.in-Setting.is) ∙ by-kind c.args.kind t c.requires

pub returns-in-SettingTaken : goal.returns-in-SettingTaken
returns-in-SettingTaken c =
    let t = c.args.tail.now in
    let inner : length t - 1 - 1 ≡ length t - 2 = omega arith in
    ap (λ (n : ℕ). take n (drop 1 t)) inner ∙ ap (λ (k : ItemKind). data_of k t) (sym c.in-SettingTaken.is) ∙ by-kind c.args.kind t c.requires

pub returns-in-Value : goal.returns-in-Value
returns-in-Value c = ap (λ (k : ItemKind). data_of k c.args.tail.now) (sym c.in-Value.is) ∙ by-kind c.args.kind c.args.tail.now c.requires

pub returns-in-Alone : goal.returns-in-Alone
returns-in-Alone c =
    no-data c.args.kind c.args.tail.now c.in-Alone.is ∙ by-kind c.args.kind c.args.tail.now c.requires
