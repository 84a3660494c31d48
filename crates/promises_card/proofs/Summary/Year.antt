-- A year: what was joined so far is clean, so two more may be joined to it in either order, by grouping and by the order of two. Assumes nothing.
use mathlib.Core.Path.{◌≡◌, refl, sym, ap, ◌∙◌}
use mathlib.Core.Bool.{Bool, true, false}
use mathlib.Core.List.{List, [], ◌∷◌, ◌++◌}
use borrow.Author.Tests.{eq-eqb, eqb-true}
use lib.Dec.{eqb}
use Rattle.frame.specs.Pick.{pick}
use Rattle.summary.specs.declared.Summary.{Summary}
use Rattle.summary.specs.declared.Made.{Made}
use Rattle.summary.specs.Line.{blank_summary}
use Rattle.summary.specs.Calls.{made_of}
use Rattle.summary.specs.Joined.{join_of}
use Rattle.promises_card.specs.Summary.Join.{Handed, Clean, from_left, from_right}
use Rattle.promises_card.specs.Summary.Year.{joined_on, AllClean, one_clean, Year}
use Rattle.promises_card.proofs.Summary.Join.{blank-handed, blank-shape, blank-counts, join-promises}

abbrev one_on : Made → Summary → Made
one_on m s = pick (eqb m.number 0) (join_of m.summary s) m

more : (m : Made) (s : Summary) (ss : List Summary) → joined_on m (s ∷ ss) ≡ joined_on (one_on m s) ss
more m s ss = unfold joined_on in refl

on-after : (m : Made) (xs ys : List Summary) → joined_on m (xs ++ ys) ≡ joined_on (joined_on m xs) ys
on-after m [] ys =
    let none : joined_on m [] ≡ m = unfold joined_on in refl in
    ap (λ (n : Made). joined_on n ys) (sym none)
on-after m (x ∷ xs) ys = more m x (xs ++ ys) ∙ on-after (one_on m x) xs ys ∙ ap (λ (n : Made). joined_on n ys) (sym (more m x xs))

-- where the whole is not refused, nothing before was
one-passed : (m : Made) (s : Summary) → (one_on m s).number ≡ 0 → m.number ≡ 0
one-passed m s n = go (eqb m.number 0) refl n
  where
    go : (b : Bool) → eqb m.number 0 ≡ b → (pick b (join_of m.summary s) m).number ≡ 0 → m.number ≡ 0
    go true e z = eqb-true m.number 0 e
    go false e z = z

all-passed : (m : Made) (ss : List Summary) → (joined_on m ss).number ≡ 0 → m.number ≡ 0
all-passed m [] n =
    let none : joined_on m [] ≡ m = unfold joined_on in refl in
    ap (λ (x : Made). x.number) (sym none) ∙ n
all-passed m (s ∷ ss) n = one-passed m s (all-passed (one_on m s) ss (ap (λ (x : Made). x.number) (sym (more m s ss)) ∙ n))

-- what is joined so far
record Good (m : Made) : Type 0 where
  handed : m.number ≡ 0 → Handed m.summary
  clean : m.number ≡ 0 → Clean m.summary

begin-good : Good (made_of blank_summary 0)
begin-good = record { handed = λ n. blank-handed; clean = λ n. record { shape = blank-shape; kept = refl; counts = blank-counts } }

one-good : (m : Made) → Good m → (s : Summary) → Handed s → Good (one_on m s)
one-good m g s h = go (eqb m.number 0) refl
  where
    go : (b : Bool) → eqb m.number 0 ≡ b → Good (pick b (join_of m.summary s) m)
    go true e =
        let hm = g.handed (eqb-true m.number 0 e) in
        record {
          handed = λ n. (join-promises.again m.summary s hm h (join_of m.summary s) (record { answers = refl }) n).0;
          clean = λ n. (join-promises.again m.summary s hm h (join_of m.summary s) (record { answers = refl }) n).1.0;
        }
    go false e = g

front-good : (m : Made) → Good m → (xs ys : List Summary) → AllClean (xs ++ ys) → Good (joined_on m xs) × AllClean ys
unfolding joined_on
front-good m g [] ys all = (g, all)
front-good m g (x ∷ xs) ys (one_clean h c all) = front-good (one_on m x) (one-good m g x h) xs ys all

-- two more in either order
swap : (x a b : Summary) → Handed x → Clean x → Handed a → Clean a → Handed b → Clean b → (from_left x a b).number ≡ 0 → from_left x b a ≡ from_left x a b
swap x a b hx cx ha ca hb cb n =
    let right : from_left x a b ≡ from_right x a b = (join-promises.grouping x a b hx ha hb cx ca cb).0 n in
    let turned : join_of a b ≡ join_of b a =
    join-promises.either_order a b ha hb (join_of a b) (join_of b a) (record { answers = refl }) (record { answers = refl }) in
    let same : from_right x a b ≡ from_right x b a = ap (λ (m : Made). pick (eqb m.number 0) (join_of x m.summary) m) turned in
    let zero : (from_right x b a).number ≡ 0 = ap (λ (m : Made). m.number) (sym (right ∙ same)) ∙ n in
    (join-promises.grouping x b a hx hb ha cx cb ca).1 zero ∙ sym (right ∙ same)

two-on : (m : Made) → m.number ≡ 0 → (a b : Summary) → one_on (one_on m a) b ≡ from_left m.summary a b
two-on m z a b = ap (λ (c : Bool). one_on (pick c (join_of m.summary a) m) b) (eq-eqb m.number 0 z)

exchange : (m : Made) → Good m → (a b : Summary) (after : List Summary) → AllClean (a ∷ b ∷ after) → (joined_on m (a ∷ b ∷ after)).number ≡ 0
    → joined_on m (b ∷ a ∷ after) ≡ joined_on m (a ∷ b ∷ after)
exchange m g a b after (one_clean ha ca (one_clean hb cb all)) n =
    let open-ab : joined_on m (a ∷ b ∷ after) ≡ joined_on (one_on (one_on m a) b) after = more m a (b ∷ after) ∙ more (one_on m a) b after in
    let open-ba : joined_on m (b ∷ a ∷ after) ≡ joined_on (one_on (one_on m b) a) after = more m b (a ∷ after) ∙ more (one_on m b) a after in
    let two : (one_on (one_on m a) b).number ≡ 0 = all-passed (one_on (one_on m a) b) after (ap (λ (x : Made). x.number) (sym open-ab) ∙ n) in
    let z : m.number ≡ 0 = one-passed m a (one-passed (one_on m a) b two) in
    let left : (from_left m.summary a b).number ≡ 0 = ap (λ (x : Made). x.number) (sym (two-on m z a b)) ∙ two in
    let same : one_on (one_on m b) a ≡ one_on (one_on m a) b =
    two-on m z b a ∙ swap m.summary a b (g.handed z) (g.clean z) ha ca hb cb left ∙ sym (two-on m z a b) in
    open-ba ∙ ap (λ (x : Made). joined_on x after) same ∙ sym open-ab

pub year : Year
year =
    record {
      exchanged = λ before a b after all n.
          let m = made_of blank_summary 0 in
          let good = front-good m begin-good before (a ∷ b ∷ after) all in
          let front = on-after m before (a ∷ b ∷ after) in
          on-after m before (b ∷ a ∷ after)
          ∙ exchange (joined_on m before) good.0 a b after good.1 (ap (λ (x : Made). x.number) (sym front) ∙ n)
          ∙ sym front;
    }
