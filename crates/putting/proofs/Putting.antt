-- Text put into an output, one part after another. Assumes nothing.
use mathlib.Core.Path.{◌≡◌, refl, sym, ap, ◌∙◌}
use mathlib.Core.List.{List, [], ◌∷◌, ◌++◌, append_assoc}
use Prim.Native.Nat.{ℕ, suc, ◌+◌, ◌<◌, ◌≤◌}
use native.Mathlib.Nat.{add-zero, le_trans}
use native.Mathlib.Numerals.{add-one}
use native.Mathlib.Omega.{arith}
use lib.ListN.{length, set, take, drop, length-append}
use lib.Seq.{sets, set_comm}
use Rattle.std.proofs.lemmas.List.Edits.{sets-eq, paste_all}
use Rattle.std.proofs.lemmas.Slice.{put_mid-paste}
use borrow.Rule.Slice.PartMut.{put_mid}
use Rattle.frame.proofs.Parts.{sets-append}
use Rattle.putting.specs.Puts.{Puts}

-- a word copied into its part of the output
pub word_copied : (word out part : List ℕ) (at k : ℕ) → part ≡ word → k ≡ length word → at + length word ≤ length out → put_mid at k out part ≡ sets out at word
word_copied word out part at k copied size fits =
    put_mid-paste at k out part word k copied refl size ∙ paste_all out at word k size ∙ sym (append_assoc (take at out) word (drop (at + k) out))
    ∙ ap (λ (n : ℕ). take at out ++ word ++ drop (at + n) out) size ∙ sym (sets-eq word out at fits)

-- a byte put just before a text
set_before : (vs l : List ℕ) (i k b : ℕ) → i < k → set (sets l k vs) i b ≡ sets (set l i b) k vs
set_before [] l i k b h = refl
set_before (v ∷ vs) l i k b h =
    set_before vs (set l k v) i (suc k) b (omega arith) ∙ ap (λ (m : List ℕ). sets m (suc k) vs) (set_comm l k i v b (λ e. omega arith))

pub set_front : (vs l : List ℕ) (i k b : ℕ) → k ≡ i + 1 → set (sets l k vs) i b ≡ sets l i (b ∷ vs)
set_front vs l i k b e =
    set_before vs l i k b (omega arith) ∙ ap (λ (n : ℕ). sets (set l i b) n vs) (e ∙ add-one i)

-- a text after a text: the texts are joined, and the bounds added
pub then : {t u out mid after : List ℕ} {m n at p q : ℕ} → Puts t m out at p mid → Puts u n mid p q after → Puts (t ++ u) (m + n) out at q after
then {t} {u} {out} {mid} {after} {m} {n} {at} {p} {q} first second =
    let long : length (t ++ u) ≡ length t + length u = length-append t u in
    let a = first.ends in
    let b = second.ends in
    let e = first.within in
    let f = second.within in
    record {
      ends = omega arith;
      leaves = second.leaves ∙ ap (λ (l : List ℕ). sets l p u) first.leaves ∙ ap (λ (k : ℕ). sets (sets out at t) k u) a ∙ sets-append t u out at;
      within = omega arith;
    }

-- the same text said otherwise, and a bound that is larger
pub text-is : {t u out after : List ℕ} {m at p : ℕ} → t ≡ u → Puts t m out at p after → Puts u m out at p after
text-is {t} {u} {out} {after} {m} {at} {p} e put =
    record {
      ends = put.ends ∙ ap (λ (l : List ℕ). at + length l) e;
      leaves = put.leaves ∙ ap (sets out at) e;
      within = rw (← e) put.within;
    }

pub at_most : {t out after : List ℕ} {m n at p : ℕ} → m ≤ n → Puts t m out at p after → Puts t n out at p after
at_most h put = record { ends = put.ends; leaves = put.leaves; within = le_trans put.within h }

-- no text
pub nothing_put : {t out : List ℕ} {m at : ℕ} → [] ≡ t → Puts t m out at at out
nothing_put {t} {out} {m} {at} e = text-is e (record { ends = sym (add-zero at); leaves = refl; within = omega arith })
