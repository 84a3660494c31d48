-- A round's cut, by induction on the replies: a reply that is covered makes all its stores and the round goes on with those of the next; one that is not makes the
-- first of its own, and nothing is left for another. Assumes nothing.
use mathlib.Core.Path.{◌≡◌, refl, sym, ap, subst, ◌∙◌}
use mathlib.Core.Bool.{Bool, true, false}
use mathlib.Core.List.{List, [], ◌∷◌, ◌++◌}
use Prim.Native.Nat.{ℕ, ◌+◌, ◌-◌, ◌*◌, ◌<◌, ◌≤◌, min}
use native.Mathlib.Omega.{arith}
use borrow.Author.Tests.{eqb-false, ltb-true, ltb-false, leb-true, leb-false}
use lib.Dec.{eqb, ltb}
use lib.ListN.{length, take, length-append, length-take}
use lib.Seq.{take_all, take-nil, take-take, take-append-le, take-append-add}
use Rattle.frame.specs.Pick.{pick}
use Rattle.sheet.specs.Record.{Entry, length_of}
use Rattle.sheet.specs.Slots.{next}
use Rattle.sheet.specs.Stores.{Store, made, stores, after}
use Rattle.sheet.proofs.Storing.{made-append, stores-length}
use Rattle.summary.specs.Calls.{closes_record}
use Rattle.round.specs.declared.Round.{Round}
use Rattle.round.specs.declared.Rounded.{Rounded}
use Rattle.round.specs.declared.RoundedPage.{RoundedPage}
use Rattle.round.specs.Replies.{entries_of}
use Rattle.round.specs.Saving.{Page, none, kept, save_refusal, page_with, Standing, standing, stopped_by, saved_all}
use Rattle.round.specs.Calls.{round_of}
use Rattle.round.proofs.Turns.{next-tried, refused-stays, used-stays, too_many, not-many}
use Rattle.round.proofs.Trying.{tried-by}
use Rattle.promises_card.specs.Round.Cut.{stores_from, round_stores, RoundCut}

-- a standing that came of a sheet and so many stores by making some more
record Left (s : List ℕ) (n : ℕ) (ps : List Store) (x : Standing) : Type 0 where
  sheet : x.sheet ≡ made s ps
  stores : x.stores ≡ n + length ps

none_made : (s : List ℕ) → made s [] ≡ s
none_made s = unfold made in refl

-- a standing that no more replies change, of the same sheet and stores
unmoved : (s : List ℕ) (n : ℕ) (x y : Standing) (ps : List Store) → y ≡ x → x.sheet ≡ s → x.stores ≡ n → ps ≡ [] → Left s n ps y
unmoved s n x y ps same on many q =
    record {
      sheet = ap (λ (z : Standing). z.sheet) same ∙ on ∙ sym (none_made s) ∙ ap (made s) (sym q);
      stores = ap (λ (z : Standing). z.stores) same ∙ many ∙ (omega (arith, ap length q));
    }

module _ (may : ℕ) where
  -- what is wanted of replies from any sheet on
  abbrev Holds : List Entry → Type 0
  Holds es = (s : List ℕ) (page : Page) (closed n : ℕ) → n ≤ may
      → Left s n (take (may - n) (stores_from s page es)) (saved_all may (standing s page closed n 0) es)

  nothing-more : Holds []
  nothing-more s page closed n l =
      let same : saved_all may (standing s page closed n 0) [] ≡ standing s page closed n 0 = unfold saved_all in refl in
      let no : stores_from s page [] ≡ [] = unfold stores_from in refl in
      unmoved s n (standing s page closed n 0) _ _ same refl refl (ap (take (may - n)) no ∙ take-nil (may - n))

  module _ (e : Entry) (es : List Entry) (rest : Holds es) (s : List ℕ) (page : Page) (closed n : ℕ) (l : n ≤ may) where
    abbrev x : Standing
    x = standing s page closed n 0

    abbrev own : List Store
    own = stores (32 * next s) e

    abbrev others : List Store
    others = stores_from (made s own) (page_with e page) es

    abbrev left : ℕ
    left = may - n

    opened : (b : Bool) → eqb (save_refusal s page e) 0 ≡ b → stores_from s page (e ∷ es) ≡ pick b (own ++ others) []
    opened b h =
        let by : stores_from s page (e ∷ es) ≡ pick (eqb (save_refusal s page e) 0) (own ++ others) [] = unfold stores_from in refl in
        by ∙ ap (λ (t : Bool). pick t (own ++ others) []) h

    abbrev done : Type 0
    done = Left s n (take left (stores_from s page (e ∷ es))) (saved_all may x (e ∷ es))

    -- no stores are left
    used : may ≤ n → done
    used u =
        let zero : may - n ≡ 0 = omega arith in
        unmoved s n x _ _ (used-stays may x (e ∷ es) u) refl refl (ap (λ (k : ℕ). take k (stores_from s page (e ∷ es))) zero)

    -- the reply is refused
    refused : n < may → eqb (save_refusal s page e) 0 ≡ false → done
    refused u h =
        let stopped = tried-by may x e (save_refusal s page e) false refl h in
        let stays : saved_all may x (e ∷ es) ≡ stopped_by (save_refusal s page e) x =
        next-tried may x e es refl u ∙ ap (λ (y : Standing). saved_all may y es) stopped
        ∙ refused-stays may (stopped_by (save_refusal s page e) x) es (eqb-false (save_refusal s page e) 0 h) in
        unmoved s n (stopped_by (save_refusal s page e) x) _ _ stays refl refl (ap (take left) (opened false h) ∙ take-nil left)

    many : length own ≡ length_of e + 2
    many = stores-length (32 * next s) e

    turn : n < may → eqb (save_refusal s page e) 0 ≡ true → (c : Bool) → closes_record e left ≡ c
        → saved_all may x (e ∷ es)
        ≡ saved_all may (standing (made s (take left own)) (pick c (page_with e page) page) (closed + pick c 1 0) (n + min left (length_of e + 2)) 0) es
    turn u h c q =
        let first : after s e left ≡ made s (take left own) = unfold after in refl in
        next-tried may x e es refl u ∙ ap (λ (y : Standing). saved_all may y es) (tried-by may x e (save_refusal s page e) true refl h)
        ∙ (λ i. saved_all may (standing (first i) (pick (q i) (page_with e page) page) (closed + pick (q i) 1 0) (n + min left (length_of e + 2)) 0) es)

    -- it makes all its stores
    whole : n < may → eqb (save_refusal s page e) 0 ≡ true → closes_record e left ≡ true → done
    whole u h q =
        let covers : length_of e + 2 ≤ may - n = leb-true (length_of e + 2) (may - n) q in
        let all : take left own ≡ own = take_all left own (omega (arith, many)) in
        let sum : n + min left (length_of e + 2) ≡ n + (length_of e + 2) = omega arith in
        let goes : saved_all may x (e ∷ es) ≡ saved_all may (standing (made s own) (page_with e page) (closed + 1) (n + (length_of e + 2)) 0) es =
        turn u h true q ∙ (λ i. saved_all may (standing (made s (all i)) (page_with e page) (closed + 1) (sum i) 0) es) in
        let later = rest (made s own) (page_with e page) (closed + 1) (n + (length_of e + 2)) (omega arith) in
        let fewer : may - (n + (length_of e + 2)) ≡ left - (length_of e + 2) = omega arith in
        let split : take left (stores_from s page (e ∷ es)) ≡ own ++ take (may - (n + (length_of e + 2))) others =
        ap (take left) (opened true h) ∙ ap (λ (k : ℕ). take k (own ++ others)) (number covers) ∙ take-append-add own others (left - (length_of e + 2))
        ∙ ap (λ (k : ℕ). own ++ take k others) (sym fewer) in
        record {
          sheet = ap (λ (y : Standing). y.sheet) goes ∙ later.sheet ∙ sym (made-append s own (take (may - (n + (length_of e + 2))) others)) ∙ ap (made s) (sym split);
          stores = ap (λ (y : Standing). y.stores) goes ∙ later.stores
              ∙ (omega (arith, many, ap length split, length-append own (take (may - (n + (length_of e + 2))) others)));
        }
      where
        number : length_of e + 2 ≤ may - n → left ≡ length own + (left - (length_of e + 2))
        number covers = omega (arith, many, covers)

    -- it makes the first of them, and uses the allowance up
    part : n < may → eqb (save_refusal s page e) 0 ≡ true → closes_record e left ≡ false → done
    part u h q =
        let short : may - n < length_of e + 2 = leb-false (length_of e + 2) (may - n) q in
        let sum : n + min left (length_of e + 2) ≡ may = omega arith in
        let end : Standing = standing (made s (take left own)) page (closed + 0) (n + min left (length_of e + 2)) 0 in
        let stays : saved_all may x (e ∷ es) ≡ end = turn u h false q ∙ used-stays may end es (omega arith) in
        let split : take left (stores_from s page (e ∷ es)) ≡ take left own =
        ap (take left) (opened true h) ∙ take-append-le left own others (omega (arith, many)) in
        record {
          sheet = ap (λ (y : Standing). y.sheet) stays ∙ ap (made s) (sym split);
          stores = ap (λ (y : Standing). y.stores) stays ∙ (omega (arith, many, ap length split, length-take left own));
        }

    one_more : done
    one_more = by_left (ltb n may) refl
      where
        by-closes : n < may → eqb (save_refusal s page e) 0 ≡ true → (c : Bool) → closes_record e left ≡ c → done
        by-closes u h true q = whole u h q
        by-closes u h false q = part u h q

        by-fault : n < may → (b : Bool) → eqb (save_refusal s page e) 0 ≡ b → done
        by-fault u true h = by-closes u h (closes_record e left) refl
        by-fault u false h = refused u h

        by_left : (b : Bool) → ltb n may ≡ b → done
        by_left true h = by-fault (ltb-true n may h) (eqb (save_refusal s page e) 0) refl
        by_left false h = used (ltb-false n may h)

  all_of : (es : List Entry) → Holds es
  all_of [] = nothing-more
  all_of (e ∷ es) = one_more e es (all_of es)

  -- of a whole round
  round-left : (s : List ℕ) (page : Page) (r : Round) → Left s 0 (round_stores s page r may) (round_of s page r may)
  round-left s page r = go (ltb 30 r.count) refl
    where
      go : (b : Bool) → ltb 30 r.count ≡ b → Left s 0 (take may (pick b [] (stores_from s page (entries_of r)))) (round_of s page r may)
      go true h =
          unmoved s 0 (standing s page 0 0 23) _ _ (too_many s page r may (ltb-true 30 r.count h)) refl refl (take-nil may)
      go false h =
          let whole : may - 0 ≡ may = omega arith in
          subst (λ (y : Standing). Left s 0 (take may (stores_from s page (entries_of r))) y) (sym (not-many s page r may (ltb-false 30 r.count h)))
          (subst (λ (k : ℕ). Left s 0 (take k (stores_from s page (entries_of r))) (saved_all may (standing s page 0 0 0) (entries_of r))) whole
          (all_of (entries_of r) s page 0 0 (omega arith)))

cut-is : (s : List ℕ) (page : Page) (r : Round) (allowance k : ℕ) → k ≤ allowance → take k (round_stores s page r allowance) ≡ round_stores s page r k
cut-is s page r allowance k l = take-take k allowance (pick (ltb 30 r.count) [] (stores_from s page (entries_of r))) l

pub round-cut : RoundCut
round-cut =
    record {
      made_so = λ s r allowance answer t m.
          let left = round-left allowance s none r in
          (m.leaves ∙ left.sheet, ap (λ (a : Rounded). a.stores) m.answers ∙ left.stores ∙ (omega arith));
      made_so_with = λ s page r allowance answer t m.
          let left = round-left allowance s (kept page) r in
          (m.leaves ∙ left.sheet, ap (λ (a : RoundedPage). a.stores) m.answers ∙ left.stores ∙ (omega arith));
      cut = λ s r allowance k l answer t m.
          ap (made s) (cut-is s none r allowance k l) ∙ sym (m.leaves ∙ (round-left k s none r).sheet);
      cut_with = λ s page r allowance k l answer t m.
          ap (made s) (cut-is s (kept page) r allowance k l) ∙ sym (m.leaves ∙ (round-left k s (kept page) r).sheet);
    }
