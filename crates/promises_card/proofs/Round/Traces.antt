-- How a round goes, told once with or without a summary: the tries behind every standing, and that the replies saved one by one come to one, which stops
-- for its reason. Assumes nothing.
use mathlib.Core.Path.{◌≡◌, refl, sym, ap, subst, ◌∙◌}
use mathlib.Core.Logic.{◌≢◌, ◌⊎◌, inl, inr}
use mathlib.Core.Bool.{Bool, true, false}
use mathlib.Core.List.{List, [], ◌∷◌, ◌++◌, append_assoc}
use Prim.Native.Nat.{ℕ, ◌+◌, ◌-◌, ◌^◌, ◌<◌, ◌≤◌, min}
use native.Mathlib.Omega.{arith}
use borrow.Author.Tests.{eq-eqb, ne_eqb, eqb-true, eqb-false, ltb-true, ltb-false, leb-true, leb-false}
use lib.Dec.{eqb, ltb, leb}
use Rattle.frame.specs.Pick.{pick}
use Rattle.sheet.specs.Record.{Entry, length_of}
use Rattle.sheet.specs.Stores.{after}
use Rattle.summary.specs.Calls.{closes_record}
use Rattle.round.specs.Saving.{Page, save_refusal, page_with, Standing, standing, with_stores, stopped_by, tried, saved_all}
use Rattle.round.proofs.Turns.{next-tried, refused-stays, used-stays}
use Rattle.round.proofs.Trying.{tried-by, stores-within}
use Rattle.promises_card.specs.Round.Tries.{Try, closed_of, stores_in_tries, number_of, replies_of, Rules, none_yet, next, Dated, one_dated}

module _ (allowance : ℕ) where
  abbrev pub fault : Standing → Entry → ℕ
  fault x e = save_refusal x.sheet x.page e

  -- the try of a reply on a standing
  abbrev pub try_of : Standing → Entry → Try
  try_of x e =
      record {
        entry = e;
        given = allowance - x.stores;
        stores = pick (eqb (fault x e) 0) (min (allowance - x.stores) (length_of e + 2)) 0;
        number = fault x e;
      }

  -- the tries that led from a standing to another, the latest first
  pub data Traced (from : Standing) : List Try → Standing → Type 0 where
    untried : Traced from [] from
    one_more : {h : List Try} {x : Standing} (e : Entry) → e.minute < 2 ^ 32 → Traced from h x → x.number ≡ 0 → x.stores < allowance
        → Traced from (try_of x e ∷ h) (tried allowance x e)

  -- what a try adds
  module _ (x : Standing) (e : Entry) where
    by-fault : (b : Bool) → eqb (fault x e) 0 ≡ b → tried allowance x e ≡ pick b (with_stores (allowance - x.stores) x e) (stopped_by (fault x e) x)
    by-fault b h = tried-by allowance x e (fault x e) b refl h

    pub sheet-after : (tried allowance x e).sheet ≡ pick (eqb (fault x e) 0) (after x.sheet e (allowance - x.stores)) x.sheet
    sheet-after = go (eqb (fault x e) 0) refl
      where
        go : (b : Bool) → eqb (fault x e) 0 ≡ b → (tried allowance x e).sheet ≡ pick b (after x.sheet e (allowance - x.stores)) x.sheet
        go true h = ap (λ (y : Standing). y.sheet) (by-fault true h)
        go false h = ap (λ (y : Standing). y.sheet) (by-fault false h)

    pub page-after : (tried allowance x e).page
        ≡ pick (eqb (fault x e) 0) (pick (closes_record e (allowance - x.stores)) (page_with e x.page) x.page) x.page
    page-after = go (eqb (fault x e) 0) refl
      where
        go : (b : Bool) → eqb (fault x e) 0 ≡ b
            → (tried allowance x e).page ≡ pick b (pick (closes_record e (allowance - x.stores)) (page_with e x.page) x.page) x.page
        go true h = ap (λ (y : Standing). y.page) (by-fault true h)
        go false h = ap (λ (y : Standing). y.page) (by-fault false h)

    stores-grow : (tried allowance x e).stores ≡ x.stores + (try_of x e).stores
    stores-grow = go (eqb (fault x e) 0) refl
      where
        go : (b : Bool) → eqb (fault x e) 0 ≡ b → (tried allowance x e).stores ≡ x.stores + pick b (min (allowance - x.stores) (length_of e + 2)) 0
        go true h = ap (λ (y : Standing). y.stores) (by-fault true h)
        go false h = ap (λ (y : Standing). y.stores) (by-fault false h) ∙ (omega arith)

    number_is : (tried allowance x e).number ≡ fault x e
    number_is = go (eqb (fault x e) 0) refl
      where
        go : (b : Bool) → eqb (fault x e) 0 ≡ b → (tried allowance x e).number ≡ fault x e
        go true h = ap (λ (y : Standing). y.number) (by-fault true h) ∙ sym (eqb-true (fault x e) 0 h)
        go false h = ap (λ (y : Standing). y.number) (by-fault false h)

    closed-grow : (tried allowance x e).closed ≡ x.closed + pick (eqb (try_of x e).stores (length_of e + 2)) 1 0
    closed-grow = go (eqb (fault x e) 0) refl (leb (length_of e + 2) (allowance - x.stores)) refl
      where
        all : (n : ℕ) → n ≡ length_of e + 2 → ◌≡◌ {A = ℕ} (pick (eqb n (length_of e + 2)) 1 0) 1
        all n h = ap (λ (b : Bool). pick b 1 0) (eq-eqb n (length_of e + 2) h)

        not-all : (n : ℕ) → n < length_of e + 2 → ◌≡◌ {A = ℕ} (pick (eqb n (length_of e + 2)) 1 0) 0
        not-all n l = ap (λ (b : Bool). pick b 1 0) (ne_eqb n (length_of e + 2) (λ z. absurd (omega arith)))

        go : (b : Bool) → eqb (fault x e) 0 ≡ b → (c : Bool) → leb (length_of e + 2) (allowance - x.stores) ≡ c
            → (tried allowance x e).closed ≡ x.closed + pick (eqb (pick b (min (allowance - x.stores) (length_of e + 2)) 0) (length_of e + 2)) 1 0
        go true h true l =
            let covers = leb-true (length_of e + 2) (allowance - x.stores) l in
            ap (λ (y : Standing). y.closed) (by-fault true h) ∙ ap (λ (c : Bool). x.closed + pick c 1 0) l
            ∙ ap (λ (k : ℕ). x.closed + k) (sym (all (min (allowance - x.stores) (length_of e + 2)) (omega arith)))
        go true h false l =
            let short = leb-false (length_of e + 2) (allowance - x.stores) l in
            ap (λ (y : Standing). y.closed) (by-fault true h) ∙ ap (λ (c : Bool). x.closed + pick c 1 0) l
            ∙ ap (λ (k : ℕ). x.closed + k) (sym (not-all (min (allowance - x.stores) (length_of e + 2)) (omega arith)))
        go false h c l =
            ap (λ (y : Standing). y.closed) (by-fault false h) ∙ (omega (arith, not-all 0 (omega arith)))

  -- the totals of the tries are the standing's
  pub record Totals (h : List Try) (x : Standing) : Type 0 where
    pub closed : x.closed ≡ closed_of h
    pub stores : x.stores ≡ stores_in_tries h
    pub number : x.number ≡ number_of h

  pub totals : (sheet : List ℕ) (page : Page) (h : List Try) (x : Standing) → Traced (standing sheet page 0 0 0) h x → Totals h x
  unfolding closed_of stores_in_tries
  totals sheet page h x untried = record { closed = refl; stores = refl; number = refl }
  totals sheet page h x (one_more {h = g} {x = y} e m t n l) =
      let before = totals sheet page g y t in
      record {
        closed = closed-grow y e ∙ ap (λ (k : ℕ). k + pick (eqb (try_of y e).stores (length_of e + 2)) 1 0) before.closed;
        stores = stores-grow y e ∙ ap (λ (k : ℕ). k + (try_of y e).stores) before.stores;
        number = number_is y e;
      }

  -- they keep the rules
  pub rules : (sheet : List ℕ) (page : Page) (h : List Try) (x : Standing) → Traced (standing sheet page 0 0 0) h x → Rules allowance h
  rules sheet page h x untried = none_yet
  rules sheet page h x (one_more {h = g} {x = y} e m t n l) =
      let before = totals sheet page g y t in
      next (try_of y e) (rules sheet page g y t) (sym before.number ∙ n) (omega (arith, before.stores, l))
      (ap (λ (k : ℕ). allowance - k) before.stores)

  -- where a round goes on to from a standing with replies still to come
  pub record Ending (from : Standing) (h : List Try) (es : List Entry) (y : Standing) : Type 0 where
    pub tries : List Try
    pub traced : Traced from tries y
    pub more : List Entry
    pub begins : replies_of h ++ es ≡ replies_of tries ++ more
    pub stops : (more ≡ []) ⊎ ((y.number ≢ 0) ⊎ (y.stores ≡ allowance))

  pub ending : (from : Standing) (es : List Entry) → Dated es → (h : List Try) (x : Standing) → Traced from h x → x.number ≡ 0 → x.stores ≤ allowance
      → Ending from h es (saved_all allowance x es)
  ending from [] d h x t n l =
      let same : saved_all allowance x [] ≡ x = unfold saved_all in refl in
      subst (λ (y : Standing). Ending from h [] y) (sym same) (record { tries = h; traced = t; more = []; begins = refl; stops = inl refl })
  ending from (e ∷ es) (one_dated m d) h x t n l =
      by-stores (λ k z. ending from es d (try_of x e ∷ h) (tried allowance x e) (one_more e m t n k) z (stores-within allowance x e l))
      (ltb x.stores allowance) refl
    where
      second : Standing
      second = tried allowance x e

      one : replies_of h ++ e ∷ es ≡ replies_of (try_of x e ∷ h) ++ es
      one = unfold replies_of in sym (append_assoc (replies_of h) (e ∷ []) es)

      -- the reply was refused, and is the last that was tried
      last : x.stores < allowance → second.number ≢ 0 → Ending from h (e ∷ es) (saved_all allowance x (e ∷ es))
      last k z =
          subst (λ (y : Standing). Ending from h (e ∷ es) y) (sym (next-tried allowance x e es n k ∙ refused-stays allowance second es z))
          (record { tries = try_of x e ∷ h; traced = one_more e m t n k; more = es; begins = one; stops = inr (inl z) })

      further : x.stores < allowance → Ending from (try_of x e ∷ h) es (saved_all allowance second es) → Ending from h (e ∷ es) (saved_all allowance x (e ∷ es))
      further k r =
          subst (λ (y : Standing). Ending from h (e ∷ es) y) (sym (next-tried allowance x e es n k))
          (record { tries = r.tries; traced = r.traced; more = r.more; begins = one ∙ r.begins; stops = r.stops })

      by_number : ((k : x.stores < allowance) → second.number ≡ 0 → Ending from (try_of x e ∷ h) es (saved_all allowance second es))
          → x.stores < allowance → (b : Bool) → eqb second.number 0 ≡ b → Ending from h (e ∷ es) (saved_all allowance x (e ∷ es))
      by_number rest k true q = further k (rest k (eqb-true second.number 0 q))
      by_number rest k false q = last k (eqb-false second.number 0 q)

      by-stores : ((k : x.stores < allowance) → second.number ≡ 0 → Ending from (try_of x e ∷ h) es (saved_all allowance second es))
          → (b : Bool) → ltb x.stores allowance ≡ b → Ending from h (e ∷ es) (saved_all allowance x (e ∷ es))
      by-stores rest true q = by_number rest (ltb-true x.stores allowance q) (eqb second.number 0) refl
      by-stores rest false q =
          let used = ltb-false x.stores allowance q in
          subst (λ (y : Standing). Ending from h (e ∷ es) y) (sym (used-stays allowance x (e ∷ es) used))
          (record { tries = h; traced = t; more = e ∷ es; begins = refl; stops = inr (inr (omega arith)) })
