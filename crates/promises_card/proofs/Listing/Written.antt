-- What a call wrote is its text. Assumes nothing.
use mathlib.Core.Path.{◌≡◌, refl, sym, ap, ◌∙◌}
use mathlib.Core.Bool.{Bool, true, false, not}
use mathlib.Core.List.{List, [], ◌∷◌, ◌++◌}
use Prim.Native.Nat.{ℕ, ◌≤◌}
use native.Mathlib.Omega.{arith}
use borrow.Author.Tests.{eqb-false}
use lib.Dec.{eqb, ltb}
use lib.ListN.{length, take, drop}
use lib.Seq.{take-append_seam}
use Rattle.frame.specs.Pick.{pick}
use Rattle.frame.specs.Poll.{written_number}
use Rattle.frame.proofs.Numbers.{first_small, verdict_number}
use Rattle.listing.specs.Calls.{Writes, write_fault}
use Rattle.promises_card.specs.Listing.Calls.{Wrote, bytes_said}
use Rattle.std.specs.Prelude.{Ok, Err}
use Rattle.frame.specs.Faults.{◌gives◌, fault}

write-small : (there : Bool) (needed : ℕ) (out : List ℕ) → write_fault there needed out ≤ 38
unfolding write_fault
write-small there needed out = first_small (not there gives 12 ∷ ltb (length out) needed gives 15 ∷ []) tt

pub wrote : (there : Bool) (needed : ℕ) (text said : List ℕ) → Wrote (Writes there needed text) said → said ≡ text
wrote there needed text said w = go (eqb (write_fault there needed w.out) 0) refl
  where
    go : (t : Bool) → eqb (write_fault there needed w.out) 0 ≡ t → said ≡ text
    go true e =
        let size : bytes_said w.said ≡ length text = ap bytes_said w.call.answers ∙ simp e in
        let left : w.after ≡ text ++ drop (length text) w.out = w.call.leaves ∙ simp e in
        w.first ∙ (λ i. take (size i) (left i)) ∙ take-append_seam text (drop (length text) w.out)
    go false e =
        let number : written_number w.said ≡ write_fault there needed w.out = ap written_number w.call.answers
        ∙ verdict_number written_number (λ _. refl) (λ _. refl) (write_fault there needed w.out) (length text) (write-small there needed w.out) in
        absurd (eqb-false (write_fault there needed w.out) 0 e (sym number ∙ w.accepted))

-- and what was asked was there
pub was-there : (there : Bool) (needed : ℕ) (text said : List ℕ) → Wrote (Writes there needed text) said → there ≡ true
unfolding write_fault
was-there there needed text said w = go there w.call.answers
  where
    go : (t : Bool) → w.said ≡ pick (eqb (write_fault t needed w.out) 0) (Ok (length text)) (Err (fault (write_fault t needed w.out))) → t ≡ true
    go true e = refl
    go false e =
        let number : written_number w.said ≡ 12 = ap written_number e in
        absurd (omega (arith, w.accepted))
