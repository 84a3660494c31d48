-- When a round says 13, by its answer: all replies but the one that it stopped at were closed, each in a slot of its own, and that one is the next behind them. Assumes
-- nothing.
use mathlib.Core.Path.{◌≡◌, refl, sym, ap, ◌∙◌}
use mathlib.Core.Logic.{◌≢◌, ◌⊎◌, inl, inr, ◌↔◌}
use mathlib.Core.Bool.{Bool}
use mathlib.Core.List.{List, [], ◌∷◌, ◌++◌, map, append_assoc}
use Prim.Native.Nat.{ℕ, ◌+◌, ◌-◌, ◌<◌, ◌≤◌}
use native.Mathlib.Omega.{arith}
use lib.ListN.{length, get_or, drop, length-append, length-drop}
use lib.Seq.{drop-append_seam}
use Rattle.frame.specs.Pick.{pick}
use Rattle.sheet.specs.Record.{Entry, passes, length_of}
use Rattle.promises_card.specs.Sheet.History.{Save, is_closed, is_broken, count_of, closed_in, broken_in}
use Rattle.promises_card.specs.Round.Tries.{Try, try_save, closed_of, stores_in_tries, number_of, replies_of, Rules, next, WentSo}
use Rattle.promises_card.specs.Round.DemandThree.{StoppedFull}
use Rattle.promises_card.specs.Round.DemandThreeWhole.{NoSlotLeft}
use Rattle.promises_card.proofs.Round.Closed.{Real, made, refused, AllReal, none_real, one_real, closed-before}
use Rattle.promises_card.proofs.Round.TriedRecords.{closes, closed-one, idle-one, closed-ones, saves-taken}

count-after : (f : Save → Bool) (g h : List Save) → count_of f (g ++ h) ≡ count_of f g + count_of f h
unfolding count_of
count-after f [] h = omega arith
count-after f (x ∷ g) h = omega (arith, count-after f g h)

pub used-after : (g h : List Save) → closed_in (g ++ h) + broken_in (g ++ h) ≡ closed_in g + broken_in g + (closed_in h + broken_in h)
used-after g h = omega (arith, count-after is_closed g h, count-after is_broken g h)

more-closed : (x : Try) (h : List Try) → closed_of (x ∷ h) ≡ closed_of h + pick (closes x) 1 0
more-closed x h = unfold closed_of in refl

more-stores : (x : Try) (h : List Try) → stores_in_tries (x ∷ h) ≡ stores_in_tries h + x.stores
more-stores x h = unfold stores_in_tries in refl

more-replies : (x : Try) (h : List Try) → replies_of (x ∷ h) ≡ replies_of h ++ x.entry ∷ []
more-replies x h = unfold replies_of in refl

nothing-behind : (k : ℕ) (es : List Entry) (e : Entry) (more : List Entry) → length es ≤ k → drop k es ≡ e ∷ more → ⊥
nothing-behind k es e more l q =
    let long : length (drop k es) ≡ length (more) + 1 = ap length q ∙ (omega arith) in
    omega (arith, long, l, length-drop k es)

module _ (n taken : ℕ) (h : List Save) (allowance : ℕ) (es : List Entry) (closed stores number : ℕ) (taken_is : closed_in h + broken_in h ≡ taken) where
  abbrev full : Type 0
  full = NoSlotLeft n taken es closed stores allowance

  not-begun : WentSo allowance es [] closed stores number → full → ⊥
  not-begun went f = by went.stops
    where
      none_yet : replies_of [] ≡ []
      none_yet = unfold replies_of in refl

      by : (replies_of [] ≡ es) ⊎ ((number ≢ 0) ⊎ (stores ≡ allowance)) → ⊥
      by (inl q) = nothing-behind closed es f.next f.more (omega (arith, ap length (sym q), ap length none_yet)) f.behind
      by (inr (inl q)) = q went.number_is
      by (inr (inr q)) = omega (arith, q, f.stores_left)

  -- tried: some that were closed, and one more
  module _ (x : Save) (g : List Save) (rules : Rules allowance (map try_save g)) (others : AllReal (map try_save g)) (before : number_of (map try_save g) ≡ 0)
      (left : stores_in_tries (map try_save g) < allowance) (given : x.allowance ≡ allowance - stores_in_tries (map try_save g))
      (went : WentSo allowance es (map try_save (x ∷ g)) closed stores number) where
    abbrev y : Try
    y = try_save x

    abbrev ts : List Try
    ts = map try_save g

    ones-many : closed_of ts ≡ length (replies_of ts)
    ones-many = (closed-ones ts (closed-before allowance ts rules others before left)).many

    ones-taken : closed_in g + broken_in g ≡ closed_of ts
    ones-taken = saves-taken g others ∙ (closed-ones ts (closed-before allowance ts rules others before left)).taken

    -- all were closed, and none is behind them
    all_made : y.stores ≡ length_of y.entry + 2 → y.number ≡ 0 → full → ⊥
    all_made all zero f = by went.stops
      where
        one : ◌≡◌ {A = ℕ} (pick (closes y) 1 0) 1
        one = ap (λ (b : Bool). pick b 1 0) (closed-one y all).0

        by : (replies_of (y ∷ ts) ≡ es) ⊎ ((number ≢ 0) ⊎ (stores ≡ allowance)) → ⊥
        by (inl q) =
            nothing-behind closed es f.next f.more
            (omega (arith, ap length (sym q ∙ more-replies y ts), length-append (replies_of ts) (y.entry ∷ []), ones-many, went.closed_are, more-closed y ts, one)) f.behind
        by (inr (inl q)) = q (went.number_is ∙ zero)
        by (inr (inr q)) = omega (arith, q, f.stores_left)

    -- the last made no store
    module _ (idle : y.stores ≡ 0) where
      closed_is : closed ≡ length (replies_of ts)
      closed_is =
          let none : ◌≡◌ {A = ℕ} (pick (closes y) 1 0) 0 = ap (λ (b : Bool). pick b 1 0) (idle-one y idle).0 in
          omega (arith, went.closed_are, more-closed y ts, none, ones-many)

      stores-is : stores ≡ stores_in_tries ts
      stores-is = omega (arith, went.stores-are, more-stores y ts, idle)

      behind-is : drop closed es ≡ y.entry ∷ went.begins.0
      behind-is =
          let whole : es ≡ replies_of ts ++ y.entry ∷ went.begins.0 =
          went.begins.1 ∙ ap (λ (l : List Entry). l ++ went.begins.0) (more-replies y ts) ∙ append_assoc (replies_of ts) (y.entry ∷ []) went.begins.0 in
          (λ i. drop (closed_is i) (whole i)) ∙ drop-append_seam (replies_of ts) (y.entry ∷ went.begins.0)

      there : StoppedFull n h allowance (x ∷ g) → full
      there f =
          let same : x ≡ f.last = ap (λ (l : List Save). get_or l 0 x) f.latest in
          let rest : g ≡ f.before = ap (λ (l : List Save). drop 1 l) f.latest in
          let all : closed_in (g ++ h) + broken_in (g ++ h) ≡ n = ap (λ (l : List Save). closed_in (l ++ h) + broken_in (l ++ h)) rest ∙ f.all_slots in
          record {
            next = y.entry;
            more = went.begins.0;
            behind = behind-is;
            good = ap (λ (z : Save). passes z.entry) same ∙ f.good;
            stores_left = omega (arith, stores-is, left);
            all_slots = omega (arith, all, used-after g h, ones-taken, ones-many, closed_is, taken_is);
          }

      back : full → StoppedFull n h allowance (x ∷ g)
      back f =
          let same : y.entry ≡ f.next = ap (λ (l : List Entry). get_or l 0 y.entry) (sym behind-is ∙ f.behind) in
          record {
            last = x;
            before = g;
            latest = refl;
            good = ap passes same ∙ f.good;
            stores_left = left;
            all_slots = omega (arith, f.all_slots, used-after g h, ones-taken, ones-many, closed_is, taken_is);
          }

  pub no_slot : (saves : List Save) → AllReal (map try_save saves) → WentSo allowance es (map try_save saves) closed stores number
      → (number ≡ 13) ↔ StoppedFull n h allowance saves → (number ≡ 13) ↔ full
  no_slot [] none_real went said = (λ q. absurd (omega (arith, went.number_is, q)), λ f. absurd (not-begun went f))
  no_slot (x ∷ g) (one_real real others) went said = by-rules went.rules
    where
      by-rules : Rules allowance (map try_save (x ∷ g)) → (number ≡ 13) ↔ full
      by-rules (next z rules before left given) = by real
        where
          by : Real (try_save x) → (number ≡ 13) ↔ full
          by (refused z few idle) =
              (λ q. there x g rules others before left given went idle (said.0 q), λ f. said.1 (back x g rules others before left given went idle f))
          by (made zero many) = (
            λ q. absurd (omega (arith, went.number_is, zero, q)),
            λ f. absurd (all_made x g rules others before left given went
                (omega (arith, many, given, f.stores_left, went.stores-are, more-stores (try_save x) (map try_save g), left)) zero f),
          )
