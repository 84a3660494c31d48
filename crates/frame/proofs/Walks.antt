-- What either reader of replies answers, return by return: a refusal before the bits, one before the level, one by the number of the level, or the
-- reading. The two readers differ in how they find that number, and share the rest. Assumes nothing.
use mathlib.Core.Path.{◌≡◌, sym, ap, ◌∙◌}
use mathlib.Core.List.{List}
use Prim.Native.Nat.{ℕ, ◌*◌, ◌%◌, ◌^◌, ◌<◌, ◌≤◌}
use native.Mathlib.Omega.{arith}
use borrow.Author.Tests.{lt-ltb, le-ltb}
use Rattle.frame.specs.declared.line.Lent.{Lent}
use Rattle.frame.specs.Line.{line}
use Rattle.frame.specs.Reply.{mode_in, reply_of}
use Rattle.frame.specs.Inside.Packed.{bytes_in, IsLent, level_code, level_refused, levelled_reply, heat_reply, unread_fault, unfit_fault}
use Rattle.frame.proofs.Refusals.{unread-refused}
use Rattle.frame.proofs.Verdict.{level-lt, level-rest, level-six, reply-unfit, reply-levelled}
use Rattle.std.specs.Prelude.{Err}
use Rattle.frame.specs.declared.faults.Fault.{Fault}
use Rattle.frame.specs.Faults.{fault}

-- a refusal before the bits, and one of the line n before its level
module _ (settings address count : ℕ) (s : List ℕ) {f : Fault} where
  pub early-answer : f ≡ fault (unread_fault settings address count s) → (unread_fault settings address count s ≡ 0 → ⊥) → Err f ≡ reply_of settings address count s
  early-answer is some = ap Err is ∙ sym (unread-refused settings address count s some)

  pub unfit-answer : (n : ℕ) → f ≡ fault (unfit_fault settings address n s) → n ≡ line s → unread_fault settings address count s ≡ 0
      → (unfit_fault settings address n s ≡ 0 → ⊥) → Err f ≡ reply_of settings address count s
  unfit-answer n is packed read some = ap Err is ∙ reply-unfit settings address count n s packed read some

-- a line of which nothing is refused before its level
pub record Fit (settings address count n : ℕ) (s : List ℕ) : Type 0 where
  pub packed : n ≡ line s
  pub read : unread_fault settings address count s ≡ 0
  pub fit : unfit_fault settings address n s ≡ 0

-- the same where the bytes were taken by their length
module _ {settings address count n : ℕ} {s : List ℕ} {lent : Lent} (l : IsLent settings address count s lent) (packed : n ≡ line (bytes_in lent)) where
  same_fault : unfit_fault settings address n (bytes_in lent) ≡ unfit_fault settings address n s
  same_fault = ap (λ (t : List ℕ). unfit_fault settings address n t) l.bytes

  pub lent-unfit : {f : Fault} → f ≡ fault (unfit_fault settings address n (bytes_in lent)) → (unfit_fault settings address n (bytes_in lent) ≡ 0 → ⊥)
      → Err f ≡ reply_of settings address count s
  lent-unfit is some =
      unfit-answer settings address count s n (is ∙ ap fault same_fault) (packed ∙ ap line l.bytes) l.read (λ none. some (same_fault ∙ none))

  pub lent-fit : unfit_fault settings address n (bytes_in lent) ≡ 0 → Fit settings address count n s
  lent-fit none = record { packed = packed ∙ ap line l.bytes; read = l.read; fit = sym same_fault ∙ none }

-- the number that a reader has for its level
module _ {settings address count n : ℕ} {s : List ℕ} (f : Fit settings address count n s) {level : ℕ} (is : level ≡ level_code (mode_in settings) n) where
  by_number : levelled_reply settings count n level ≡ reply_of settings address count s
  by_number =
      ap (λ (v : ℕ). levelled_reply settings count n v) is ∙ reply-levelled settings address count n s f.packed f.read f.fit

  pub level-bounds : 65536 ≤ level → (level < 9 * 2 ^ 16) × ((level % 2 ^ 16 < 2 ^ 8) × (6 * 2 ^ 16 ≤ level))
  level-bounds high = rw is (omega (arith, level-lt settings n), ((level-rest settings n (rw (← is) high)).0, level-six settings n (rw (← is) high)))

  pub level-answer : 65536 ≤ level → Err (level_refused level) ≡ reply_of settings address count s
  level-answer high = rw (le-ltb level 65536 high) at by_number

  pub heat-answer : level < 65536 → heat_reply settings count n level ≡ reply_of settings address count s
  heat-answer low = rw (lt-ltb level 65536 low) at by_number
