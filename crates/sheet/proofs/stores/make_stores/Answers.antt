-- `sheet::stores::make_stores` meets its contract: its three runs, each as long as the allowance lets it be, are the first stores of the record. Assumes
-- nothing.
use mathlib.Core.Path.{◌≡◌, sym, ap, ◌∙◌}
use mathlib.Core.List.{List, [], ◌∷◌}
use Prim.Native.Nat.{ℕ, ◌≤◌, ◌<◌, ◌+◌, ◌-◌, min}
use native.Mathlib.Nat.{div-one, mod-eq_of_lt, div-eq_of_lt}
use native.Mathlib.Omega.{arith}
use lib.ListN.{length, take, get_or}
use Rattle.sheet.specs.declared.Head.{Head}
use Rattle.sheet.specs.Bytes.{big_endian}
use Rattle.sheet.specs.Record.{after_length, length_of}
use Rattle.sheet.specs.Stores.{◌puts◌, made, ascending, length_stores, stores}
use Rattle.sheet.specs.Look.{entry_with}
use Rattle.sheet.proofs.Storing.{take_min, ascending-length, in-runs}
use Rattle.sheet.proofs.stores.make_stores.Goals as goal

-- a row stored as far as it goes
row : (s t : List ℕ) (at n may : ℕ) (bytes : List ℕ) → n ≡ min may (length bytes) → t ≡ made s (take n (ascending at bytes))
    → t ≡ made s (take may (ascending at bytes))
row s t at n may bytes e stored =
    stored ∙ ap (λ (k : ℕ). made s (take k (ascending at bytes))) (e ∙ ap (min may) (sym (ascending-length at bytes)))
    ∙ ap (made s) (take_min may (ascending at bytes))

-- a length that needs its low byte alone
low-alone : (at n : ℕ) → n < 256 → (at + 1) puts n ∷ at puts 0 ∷ [] ≡ (at + 1) puts get_or (big_endian 2 n) 1 0 ∷ at puts get_or (big_endian 2 n) 0 0 ∷ []
low-alone at n h = simp (div-one, div-eq_of_lt h, mod-eq_of_lt h)

-- the three runs
whole : (s₀ s₁ s₂ s₃ : List ℕ) (at may : ℕ) (head : Head) (reply bytes : List ℕ) (n₁ q n₂ n₃ : ℕ) → length reply ≤ 8
    → bytes ≡ after_length (entry_with head []) → n₁ ≡ min may 9 → q ≡ may - 9 → n₂ ≡ min q (length reply) → n₃ ≡ may - (9 + length reply)
    → s₁ ≡ made s₀ (take n₁ (ascending (at + 2) bytes)) → s₂ ≡ made s₁ (take n₂ (ascending (at + 11) reply))
    → s₃ ≡ made s₂ (take n₃ ((at + 1) puts (9 + length reply) ∷ at puts 0 ∷ [])) → s₃ ≡ made s₀ (take may (stores at (entry_with head reply)))
unfolding stores
whole s₀ s₁ s₂ s₃ at may head reply bytes n₁ q n₂ n₃ short own e₁ eq e₂ e₃ first second third =
    let e = entry_with head reply in
    let h = after_length (entry_with head []) in
    let behind : at + 11 ≡ at + 2 + 9 = omega arith in
    let size : 9 + length reply ≡ length_of e = omega arith in
    let one : s₁ ≡ made s₀ (take may (ascending (at + 2) h)) =
    row s₀ s₁ (at + 2) n₁ may h e₁ (first ∙ ap (λ (x : List ℕ). made s₀ (take n₁ (ascending (at + 2) x))) own) in
    let two : s₂ ≡ made s₁ (take (may - 9) (ascending (at + 2 + 9) reply)) =
    row s₁ s₂ (at + 2 + 9) n₂ (may - 9) reply (e₂ ∙ ap (λ (k : ℕ). min k (length reply)) eq)
    (second ∙ ap (λ (p : ℕ). made s₁ (take n₂ (ascending p reply))) behind) in
    let last : (at + 1) puts (9 + length reply) ∷ at puts 0 ∷ [] ≡ length_stores at e =
    low-alone at (9 + length reply) (omega arith)
    ∙ ap (λ (n : ℕ). (at + 1) puts get_or (big_endian 2 n) 1 0 ∷ at puts get_or (big_endian 2 n) 0 0 ∷ []) size in
    third ∙ (λ i. made (two i) (take (e₃ i) (last i)))
    ∙ ap (λ (s : List ℕ). made (made s (take (may - 9) (ascending (at + 2 + 9) reply))) (take (may - (9 + length reply)) (length_stores at e))) one
    ∙ in-runs s₀ may (at + 2) h reply (length_stores at e)

pub returns : goal.returns
returns c =
    let a = c.args in
    let e = entry_with a.head a.reply.now in
    let size : 9 + length a.reply.now ≡ length_of e = omega arith in
    record {
      answers = c.min-3.ensures ∙ ap (λ (n : ℕ). min a.allowance (n + 2)) size;
      leaves = whole a.sheet.now c.store_row.new.sheet c.store_row-2.new.sheet c.store_length.new.sheet
          a.at a.allowance a.head a.reply.now c.before_reply-bytes.result c.min.result
          c.saturating_sub-of_reply.result c.min-2.result c.saturating_sub.result c.requires.reply_len_bound
          c.before_reply-bytes.ensures c.min.ensures c.saturating_sub-of_reply.ensures
          c.min-2.ensures c.saturating_sub.ensures c.store_row.ensures
          c.store_row-2.ensures c.store_length.ensures;
    }
