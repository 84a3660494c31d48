-- How a text is read, part by part. A part is empty or begins with "<", so nothing of it belongs to the tag before it; what it says is read of it whatever follows,
-- as long as that is such a part too. Text without "<" stays in the tag that it stands behind. Assumes nothing.
use mathlib.Core.Path.{◌≡◌, refl, sym, ap, ◌∙◌}
use mathlib.Core.Bool.{Bool, true, false, not, ◌&&◌}
use mathlib.Core.List.{List, [], ◌∷◌, ◌++◌, append-nil, append_assoc}
use Prim.Native.Nat.{ℕ, zero, suc, ◌/◌, ◌%◌, ◌<◌}
use native.Mathlib.Omega.{arith}
use borrow.Author.Tests.{ne_eqb, lt-ltb, ltb-true}
use lib.Dec.{eqb, ltb}
use lib.ListN.{length, get_or, drop}
use Rattle.frame.specs.Pick.{pick}
use Rattle.listing.specs.Text.{digits_up_to, in_decimal}
use Rattle.putting.specs.Digit.{digit}
use Rattle.forms.specs.Form.{fill, first, others, choice}
use Rattle.promises_picture.specs.Reader.{up_to, passed_over, read_of, plain}

no_way : {A : Type 0} → ◌≡◌ {A = Bool} false true → A
no_way e = let z : ◌≡◌ {A = ℕ} 0 1 = cc in absurd (omega arith)

-- plain text in front
pub plain-read : (t u : List ℕ) → plain t ≡ true → read_of (t ++ u) ≡ read_of u
unfolding read_of plain
plain-read [] u h = refl
plain-read (c ∷ t) u h = go (eqb c 60) h (plain-read t u)
  where
    go : (b : Bool) → (not b && plain t) ≡ true → (plain t ≡ true → read_of (t ++ u) ≡ read_of u) → pick b (pick (passed_over (t ++ u)) (read_of (t ++ u)) (up_to (t ++ u) ∷ read_of (t ++ u))) (read_of (t ++ u)) ≡ read_of u
    go true q ih = no_way q
    go false q ih = ih q

pub plain-upto : (t u : List ℕ) → plain t ≡ true → up_to (t ++ u) ≡ t ++ up_to u
unfolding up_to plain
plain-upto [] u h = refl
plain-upto (c ∷ t) u h = go (eqb c 60) h (plain-upto t u)
  where
    go : (b : Bool) → (not b && plain t) ≡ true → (plain t ≡ true → up_to (t ++ u) ≡ t ++ up_to u) → pick b [] (c ∷ up_to (t ++ u)) ≡ c ∷ (t ++ up_to u)
    go true q ih = no_way q
    go false q ih = ap (λ (r : List ℕ). c ∷ r) (ih q)

-- a part, and what is read of it
pub record Part (a : List ℕ) (ts : List (List ℕ)) : Type 0 where
  pub starts : (u : List ℕ) → up_to u ≡ [] → up_to (a ++ u) ≡ []
  pub reads : (u : List ℕ) → up_to u ≡ [] → read_of (a ++ u) ≡ ts ++ read_of u

pub nothing_said : Part [] []
nothing_said = record { starts = λ u h. h; reads = λ u h. refl }

pub then : {a b : List ℕ} {ts us : List (List ℕ)} → Part a ts → Part b us → Part (a ++ b) (ts ++ us)
then {a} {b} {ts} {us} p q =
    record {
      starts = λ u h. ap up_to (append_assoc a b u) ∙ p.starts (b ++ u) (q.starts u h);
      reads = λ u h. ap read_of (append_assoc a b u) ∙ p.reads (b ++ u) (q.starts u h) ∙ ap (λ (r : List (List ℕ)). ts ++ r) (q.reads u h) ∙ sym (append_assoc ts us (read_of u));
    }

pub text-is : {a b : List ℕ} {ts : List (List ℕ)} → a ≡ b → Part a ts → Part b ts
text-is {a} {b} {ts} e p = rw (← e) p

pub says_is : {a : List ℕ} {ts us : List (List ℕ)} → ts ≡ us → Part a ts → Part a us
says_is {a} {ts} {us} e p = rw (← e) p

-- a tag with plain text behind it: one that is read, and one that is passed over
opened : (t u : List ℕ) → read_of (60 ∷ (t ++ u)) ≡ pick (passed_over (t ++ u)) (read_of (t ++ u)) (up_to (t ++ u) ∷ read_of (t ++ u))
unfolding read_of
opened t u = refl

begins : (t : List ℕ) → up_to (60 ∷ t) ≡ []
unfolding up_to
begins t = refl

module _ (t body : List ℕ) (plain-tag : plain t ≡ true) (plain_body : plain body ≡ true) where
  both : (u : List ℕ) → (t ++ body) ++ u ≡ t ++ (body ++ u)
  both u = append_assoc t body u

  rest : (u : List ℕ) → read_of (t ++ (body ++ u)) ≡ read_of u
  rest u = plain-read t (body ++ u) plain-tag ∙ plain-read body u plain_body

  kept : (u : List ℕ) → up_to u ≡ [] → up_to (t ++ (body ++ u)) ≡ t ++ body
  kept u h =
      plain-upto t (body ++ u) plain-tag ∙ ap (λ (r : List ℕ). t ++ r) (plain-upto body u plain_body ∙ ap (λ (r : List ℕ). body ++ r) h ∙ append-nil body)

  pub a-tag : ((v : List ℕ) → passed_over (t ++ v) ≡ false) → Part (60 ∷ (t ++ body)) ((t ++ body) ∷ [])
  a-tag shown =
      record {
        starts = λ u h. begins ((t ++ body) ++ u);
        reads = λ u h. ap (λ (r : List ℕ). read_of (60 ∷ r)) (both u) ∙ opened t (body ++ u)
            ∙ ap (λ (b : Bool). pick b (read_of (t ++ (body ++ u))) (up_to (t ++ (body ++ u)) ∷ read_of (t ++ (body ++ u)))) (shown (body ++ u))
            ∙ (λ i. kept u h i ∷ rest u i);
      }

  pub quiet-tag : ((v : List ℕ) → passed_over (t ++ v) ≡ true) → Part (60 ∷ (t ++ body)) []
  quiet-tag over =
      record {
        starts = λ u h. begins ((t ++ body) ++ u);
        reads = λ u h. ap (λ (r : List ℕ). read_of (60 ∷ r)) (both u) ∙ opened t (body ++ u)
            ∙ ap (λ (b : Bool). pick b (read_of (t ++ (body ++ u))) (up_to (t ++ (body ++ u)) ∷ read_of (t ++ (body ++ u)))) (over (body ++ u))
            ∙ rest u;
      }

-- plain texts joined, chosen, and without their front
pub plain-both : (a b : List ℕ) → plain a ≡ true → plain b ≡ true → plain (a ++ b) ≡ true
unfolding plain
plain-both [] b p q = q
plain-both (c ∷ a) b p q = go (not (eqb c 60)) p (plain-both a b)
  where
    go : (t : Bool) → (t && plain a) ≡ true → (plain a ≡ true → plain b ≡ true → plain (a ++ b) ≡ true) → (t && plain (a ++ b)) ≡ true
    go true e ih = ih e q
    go false e ih = no_way e

pub plain-pick : (t : Bool) (a b : List ℕ) → plain a ≡ true → plain b ≡ true → plain (pick t a b) ≡ true
plain-pick true a b p q = p
plain-pick false a b p q = q

pub plain-none : plain [] ≡ true
unfolding plain
plain-none = refl

plain-one : (c : ℕ) → (c ≡ 60 → ⊥) → plain (c ∷ []) ≡ true
unfolding plain
plain-one c h = simp (ne_eqb c 60 h)

pub plain-digit : (n : ℕ) → n < 10 → plain (digit n ∷ []) ≡ true
plain-digit n h = plain-one (digit n) (λ e. omega arith)

plain-digits : (most n : ℕ) → plain (digits_up_to most n) ≡ true
unfolding digits_up_to
plain-digits zero n = plain-none
plain-digits (suc most) n = go (ltb n 10) refl (plain-digits most (n / 10))
  where
    go : (t : Bool) → ltb n 10 ≡ t → plain (digits_up_to most (n / 10)) ≡ true → plain (pick t (digit n ∷ []) (digits_up_to most (n / 10) ++ digit (n % 10) ∷ [])) ≡ true
    go true e ih = plain-digit n (ltb-true n 10 e)
    go false e ih = plain-both (digits_up_to most (n / 10)) (digit (n % 10) ∷ []) ih (plain-digit (n % 10) (omega arith))

pub plain-decimal : (n : ℕ) → plain (in_decimal n) ≡ true
plain-decimal n = plain-digits 10 n

-- a form with its numbers
pub plain-fill : (form ns : List ℕ) → plain form ≡ true → plain (fill form ns) ≡ true
unfolding fill plain
plain-fill [] ns h = refl
plain-fill (c ∷ cs) ns h = go (not (eqb c 60)) refl h (eqb c 126 && ltb 0 (length ns)) (plain-fill cs ns) (plain-fill cs (drop 1 ns))
  where
    go : (t : Bool) → not (eqb c 60) ≡ t → (t && plain cs) ≡ true → (n : Bool) → (plain cs ≡ true → plain (fill cs ns) ≡ true) → (plain cs ≡ true → plain (fill cs (drop 1 ns)) ≡ true) → plain (pick n (in_decimal (get_or ns 0 0) ++ fill cs (drop 1 ns)) (c ∷ fill cs ns)) ≡ true
    go false e q n ih more = no_way q
    go true e q true ih more = plain-both (in_decimal (get_or ns 0 0)) (fill cs (drop 1 ns)) (plain-decimal (get_or ns 0 0)) (more q)
    go true e q false ih more = ap (λ (t : Bool). t && plain (fill cs ns)) e ∙ ih q

-- one of several forms
plain-first : (fs : List ℕ) → plain fs ≡ true → plain (first fs) ≡ true
unfolding first plain
plain-first [] h = refl
plain-first (c ∷ cs) h = go (eqb c 124) (not (eqb c 60)) refl h (plain-first cs)
  where
    go : (b t : Bool) → not (eqb c 60) ≡ t → (t && plain cs) ≡ true → (plain cs ≡ true → plain (first cs) ≡ true) → plain (pick b [] (c ∷ first cs)) ≡ true
    go true t e q ih = refl
    go false false e q ih = no_way q
    go false true e q ih = ap (λ (t : Bool). t && plain (first cs)) e ∙ ih q

plain-drop : (n : ℕ) (t : List ℕ) → plain t ≡ true → plain (drop n t) ≡ true
unfolding plain
plain-drop zero t h = h
plain-drop (suc n) [] h = refl
plain-drop (suc n) (c ∷ t) h = go (not (eqb c 60)) h (plain-drop n t)
  where
    go : (b : Bool) → (b && plain t) ≡ true → (plain t ≡ true → plain (drop n t) ≡ true) → plain (drop n t) ≡ true
    go true q ih = ih q
    go false q ih = no_way q

pub plain-choice : (n : ℕ) (fs : List ℕ) → plain fs ≡ true → plain (choice n fs) ≡ true
unfolding choice others
plain-choice zero fs h = plain-first fs h
plain-choice (suc n) fs h = plain-choice n (others fs) (plain-drop (suc (length (first fs))) fs h)

-- A form is filled word by word: words without a "~" stay, and a "~" becomes the next number.
unfoldable pub lacks : List ℕ → Bool
lacks [] = true
lacks (c ∷ t) = not (eqb c 126) && lacks t

pub words-first : (t u ns : List ℕ) → lacks t ≡ true → fill (t ++ u) ns ≡ t ++ fill u ns
unfolding fill lacks
words-first [] u ns h = refl
words-first (c ∷ t) u ns h = go (eqb c 126) h (words-first t u ns)
  where
    go : (b : Bool) → (not b && lacks t) ≡ true → (lacks t ≡ true → fill (t ++ u) ns ≡ t ++ fill u ns) → pick (b && ltb 0 (length ns)) (in_decimal (get_or ns 0 0) ++ fill (t ++ u) (drop 1 ns)) (c ∷ fill (t ++ u) ns) ≡ c ∷ (t ++ fill u ns)
    go true q ih = no_way q
    go false q ih = ap (λ (r : List ℕ). c ∷ r) (ih q)

pub number-next : (u : List ℕ) (n : ℕ) (ns : List ℕ) → fill (126 ∷ u) (n ∷ ns) ≡ in_decimal n ++ fill u ns
unfolding fill
number-next u n ns = simp (lt-ltb 0 (suc (length ns)) (omega arith))

pub form-next : (t u : List ℕ) (n : ℕ) (ns : List ℕ) → lacks t ≡ true → fill (t ++ (126 ∷ u)) (n ∷ ns) ≡ t ++ (in_decimal n ++ fill u ns)
form-next t u n ns h = words-first t (126 ∷ u) (n ∷ ns) h ∙ ap (λ (r : List ℕ). t ++ r) (number-next u n ns)

none_left : (ns : List ℕ) → fill [] ns ≡ []
unfolding fill
none_left ns = refl

pub all_words : (t ns : List ℕ) → lacks t ≡ true → fill t ns ≡ t
all_words t ns h =
    ap (λ (r : List ℕ). fill r ns) (sym (append-nil t)) ∙ words-first t [] ns h ∙ ap (λ (r : List ℕ). t ++ r) (none_left ns) ∙ append-nil t

pub one_number : (t u : List ℕ) (n : ℕ) → lacks t ≡ true → lacks u ≡ true → fill (t ++ (126 ∷ u)) (n ∷ []) ≡ t ++ (in_decimal n ++ u)
one_number t u n h k = form-next t u n [] h ∙ ap (λ (r : List ℕ). t ++ (in_decimal n ++ r)) (all_words u [] k)
