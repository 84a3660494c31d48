-- The first that applies. The definitions ask a list of tests in the document's order; by induction on any such list the number given is
-- the first, and is the only one that is.
use mathlib.Core.Path.{◌≡◌, refl, sym, ap, subst, ◌∙◌}
use mathlib.Core.Bool.{Bool, true, false, not, ◌||◌}
use mathlib.Core.List.{List, [], ◌∷◌}
use Prim.Native.Nat.{ℕ, zero, suc, ◌<◌, ◌≤◌}
use native.Mathlib.Omega.{arith}
use lib.Dec.{eqb}
use borrow.Author.Tests.{eqb-true, eqb-false}
use lib.ListN.{length, get_or}
use Rattle.frame.specs.declared.Reading.{Reading}
use Rattle.frame.specs.Pick.{pick}
use Rattle.frame.specs.Line.{line, bit, three_decimal}
use Rattle.frame.specs.Faults.{Test, ◌gives◌, first_of, number_of, fault}
use Rattle.frame.specs.Poll.{poll_fault, poll_at, poll_of, write_poll_fault, poll_number, written_number}
use Rattle.frame.specs.Level.{Level, level_of, place_lost}
use Rattle.frame.specs.Reply.{mode_in, refused_by, reply_fault, reading_at, reply_of, write_reply_fault, size_for, reply_number}
use Rattle.frame.proofs.Numbers.{own_number, verdict_number, reply-small, write-small, poll-small, write-poll-small}
use Rattle.promises_frame.specs.FirstFault.{applies, FirstThatApplies, reply_table, reply_order, write_table, poll_table, FirstFault}
use Rattle.std.specs.Prelude.{Ok, Err}
use Rattle.frame.specs.declared.faults.Fault.TheVariants.{InNoChart}

-- The tests of a table in an order.
abbrev pub asked : List Test → List ℕ → List Test
asked table [] = []
asked table (n ∷ ns) = applies table n gives n ∷ asked table ns

none_of : (table : List Test) (order : List ℕ) → ((k : ℕ) → k < length order → applies table (get_or order k 0) ≡ false)
    → first_of (asked table order) ≡ 0
unfolding first_of
none_of table [] h = refl
none_of table (n ∷ ns) h = rw (h 0 (omega arith)) (none_of table ns (λ k p. h (suc k) (omega arith)))

first-of : (table : List Test) (order : List ℕ) (k : ℕ) → k < length order → applies table (get_or order k 0) ≡ true
    → ((j : ℕ) → j < k → applies table (get_or order j 0) ≡ false) → first_of (asked table order) ≡ get_or order k 0
unfolding first_of
first-of table [] k p e h = absurd (omega arith)
first-of table (n ∷ ns) zero p e h = rw e
first-of table (n ∷ ns) (suc k) p e h = rw (h 0 (omega arith)) (first-of table ns k (omega arith) e (λ j q. h (suc j) (omega arith)))

is-first : (table : List Test) (order : List ℕ) → FirstThatApplies table order (first_of (asked table order))
is-first table order = record { none = none_of table order; first = first-of table order }

-- What is first of a longer order is first of the rest where the top does not apply.
rest : (table : List Test) (n : ℕ) (ns : List ℕ) (a : ℕ) → applies table n ≡ false → FirstThatApplies table (n ∷ ns) a → FirstThatApplies table ns a
rest table n ns a e f =
    record {
      none = λ h. f.none (λ k. all h k);
      first = λ k p q h. f.first (suc k) (omega arith) q (λ j. before k h j);
    }
  where
    all : ((k : ℕ) → k < length ns → applies table (get_or ns k 0) ≡ false) → (k : ℕ) → k < suc (length ns) → applies table (get_or (n ∷ ns) k 0) ≡ false
    all h zero p = e
    all h (suc k) p = h k (omega arith)

    before : (k : ℕ) → ((j : ℕ) → j < k → applies table (get_or ns j 0) ≡ false) → (j : ℕ) → j < suc k → applies table (get_or (n ∷ ns) j 0) ≡ false
    before k h zero p = e
    before k h (suc j) p = h j (omega arith)

only : (table : List Test) (order : List ℕ) (a : ℕ) → FirstThatApplies table order a → a ≡ first_of (asked table order)
unfolding first_of
only table [] a f = f.none (λ k p. absurd (omega arith))
only table (n ∷ ns) a f = go (only table ns a) (applies table n) refl
  where
    go : (FirstThatApplies table ns a → a ≡ first_of (asked table ns)) → (b : Bool) → applies table n ≡ b → a ≡ pick b n (first_of (asked table ns))
    go ih true e = f.first 0 (omega arith) e (λ j p. absurd (omega arith))
    go ih false e = ih (rest table n ns a e f)

one_number : (table : List Test) (order : List ℕ) (a b : ℕ) → FirstThatApplies table order a → FirstThatApplies table order b → a ≡ b
one_number table order a b f g = only table order a f ∙ sym (only table order b g)

-- Where the first number of an order is 0 and no number in it is, none of it applies.
abbrev pub AllSome : List ℕ → Type 0
AllSome [] = Unit {0}
AllSome (n ∷ ns) = (0 < n) × AllSome ns

abbrev pub AllClear : List Test → List ℕ → Type 0
AllClear table [] = Unit {0}
AllClear table (n ∷ ns) = (applies table n ≡ false) × AllClear table ns

pub all-clear : (table : List Test) (order : List ℕ) → AllSome order → first_of (asked table order) ≡ 0 → AllClear table order
unfolding first_of
all-clear table [] some e = tt
all-clear table (n ∷ ns) some e = go (all-clear table ns some.1) (applies table n) refl e
  where
    go : (first_of (asked table ns) ≡ 0 → AllClear table ns) → (b : Bool) → applies table n ≡ b
        → pick b n (first_of (asked table ns)) ≡ 0 → (applies table n ≡ false) × AllClear table ns
    go ih true k z = absurd (omega (arith, some.0))
    go ih false k z = (k, ih z)

-- Each call asks its table in its order.
pub reply-asks : (settings address count : ℕ) (s : List ℕ)
    → reply_fault settings address count s ≡ first_of (asked (reply_table settings address count s) reply_order)
unfolding reply_fault
reply-asks settings address count s = refl

pub write-asks : (settings address : ℕ) (r : Reading) (out : List ℕ)
    → write_reply_fault settings address r out ≡ first_of (asked (write_table settings address (size_for r) out) (10 ∷ 11 ∷ 15 ∷ []))
unfolding write_reply_fault
write-asks settings address r out = refl

pub write-poll-asks : (address : ℕ) (out : List ℕ) → write_poll_fault address out ≡ first_of (asked (write_table 0 address 2 out) (11 ∷ 15 ∷ []))
unfolding write_poll_fault
write-poll-asks address out = refl

-- A poll's three tests give one number.
poll-asks : (s : List ℕ) → poll_fault s ≡ first_of (asked (poll_table s) (16 ∷ []))
unfolding poll_fault first_of
poll-asks s = go (not (eqb (length s) 2)) (eqb (bit (line s) 1) 0) (not (three_decimal (line s) 5))
  where
    go : (a b c : Bool) → ◌≡◌ {A = ℕ} (pick a 16 (pick b 16 (pick c 16 0))) (pick (a || b || c) 16 0)
    go true b c = refl
    go false true c = refl
    go false false c = refl

-- An answer that has the first number of a list of tests has the first that applies.
pub given : (table : List Test) (order : List ℕ) (number : ℕ) → number ≡ first_of (asked table order) → FirstThatApplies table order number
given table order number e = subst (FirstThatApplies table order) (sym e) (is-first table order)

-- a refusal of a reply has its number, with a place or without
refusal-number : (l : Level) (f : ℕ) → (f ≡ 0 → ⊥) → f ≤ 38 → number_of (refused_by l f) ≡ f
refusal-number l f some small = go (eqb f 7) refl
  where
    go : (t : Bool) → eqb f 7 ≡ t → number_of (pick t (InNoChart (place_lost l)) (fault f)) ≡ f
    go true e = sym (eqb-true f 7 e)
    go false e = own_number f some small

reply-number-is : (l : Level) (r : Reading) (f : ℕ) → f ≤ 38 → reply_number (pick (eqb f 0) (Ok r) (Err (refused_by l f))) ≡ f
reply-number-is l r f small = go (eqb f 0) refl
  where
    go : (t : Bool) → eqb f 0 ≡ t → reply_number (pick t (Ok r) (Err (refused_by l f))) ≡ f
    go true e = sym (eqb-true f 0 e)
    go false e = refusal-number l f (eqb-false f 0 e) small

pub first-fault : FirstFault
unfolding reply_of poll_of
first-fault =
    record {
      read-reply = λ settings address count s got h. given (reply_table settings address count s) reply_order (reply_number got)
          (ap reply_number h.answers ∙ reply-number-is (level_of (mode_in settings) (line s)) (reading_at settings count (line s)) (reply_fault settings address count s) (reply-small settings address count s) ∙ reply-asks settings address count s);
      write-reply = λ settings address r out after said h. given (write_table settings address (size_for r) out) (10 ∷ 11 ∷ 15 ∷ []) (written_number said)
          (ap written_number h.answers ∙ verdict_number written_number (λ _. refl) (λ _. refl) (write_reply_fault settings address r out) (size_for r) (write-small settings address r out) ∙ write-asks settings address r out);
      read-poll = λ s got h. given (poll_table s) (16 ∷ []) (poll_number got)
          (ap poll_number h.answers ∙ verdict_number poll_number (λ _. refl) (λ _. refl) (poll_fault s) (poll_at (line s)) (poll-small s) ∙ poll-asks s);
      write-poll = λ address raise reset out after said h. given (write_table 0 address 2 out) (11 ∷ 15 ∷ []) (written_number said)
          (ap written_number h.answers ∙ verdict_number written_number (λ _. refl) (λ _. refl) (write_poll_fault address out) 2 (write-poll-small address out) ∙ write-poll-asks address out);
      one_number = one_number;
    }
