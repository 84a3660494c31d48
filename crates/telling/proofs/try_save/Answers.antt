-- `telling::try_save` meets its contract: each return is one case of what speaks against a save: the sheet's size, the record's checks, and whether
-- a slot is left. Assumes nothing.
use mathlib.Core.Path.{◌≡◌, sym, ap, ◌∙◌}
use mathlib.Core.Bool.{true, false}
use mathlib.Core.List.{List}
use Prim.Native.Nat.{ℕ, ◌%◌, ◌<◌, ◌≤◌}
use native.Mathlib.Omega.{arith}
use borrow.Author.Tests.{ne_eqb, leb-true, le-leb}
use lib.Dec.{eqb, leb}
use lib.ListN.{length}
use Rattle.std.proofs.Common.{Ok}
use Rattle.std.proofs.lemmas.Result.{err_from_is_err_and}
use Rattle.frame.specs.Faults.{first_of, verdict}
use Rattle.frame.proofs.Both.{both_right}
use Rattle.frame.proofs.Verdicts.{is-refused, was-passed, was-refused}
use Rattle.sheet.specs.Record.{Entry, checks, passes}
use Rattle.sheet.specs.Slots.{size_allowed, slots, next}
use Rattle.sheet.specs.Stores.{stores}
use Rattle.sheet.specs.Save.{save_fault}
use Rattle.sheet.specs.Look.{entry_with}
use Rattle.sheet.specs.StoresTold.{telling}
use Rattle.sheet.proofs.Records.{passes-formed, formed-few}
use Rattle.sheet.proofs.Refusals.{save-fault, clear-fault}
use Rattle.telling.proofs.try_save.Goals.{In_ok-check, Else-not-size_allowed, Start}
use Rattle.telling.proofs.try_save.Goals as goal

-- a sheet of an allowed size has at most 2,048 slots
few-slots : (s : List ℕ) → size_allowed s ≡ true → slots s < 65536
few-slots s h = omega (arith, leb-true (length s) 65536 (both_right (eqb (length s % 32) 0) (leb (length s) 65536) h))

-- what the call was handed
abbrev entry : Start → Entry
entry c = entry_with c.args.head c.args.reply.now

-- past the first test the size is right, and past the second the record passes
sized : (c : Else-not-size_allowed) → size_allowed c.args.sheet.now ≡ true
sized c = sym c.size_allowed.ensures ∙ c.if-not-size_allowed.false

good : (c : In_ok-check) → passes (entry_with c.args.head c.args.reply.now) ≡ true
unfolding passes
good c = ap (λ (n : ℕ). eqb n 0) (was-passed _ tt c.in_ok-check.field-0 (sym c.check.ensures ∙ c.in_ok-check.was))

pub returns-then-not-size_allowed : goal.returns-then-not-size_allowed
returns-then-not-size_allowed c =
    let s = c.args.sheet.now in
    let e = entry (goal.at.returns-then-not-size_allowed c).Start in
    let wrong : size_allowed s ≡ false = sym c.size_allowed.ensures ∙ c.if-not-size_allowed.true in
    let twelve : save_fault s e ≡ 12 = save-fault s e ∙ simp wrong in
    sym (ap (λ (n : ℕ). verdict n (telling (next s) (stores 0 e))) twelve)

pub returns-in_err-check : goal.returns-in_err-check
unfolding passes
returns-in_err-check c =
    let s = c.args.sheet.now in
    let e = entry (goal.at.returns-in_err-check c).Start in
    let p = err_from_is_err_and c.from_residual.result c.from_residual.ensures.1 in
    let w = was-refused (first_of (checks e)) tt _ (sym c.check.ensures ∙ c.in_err-check.was) in
    let no : passes e ≡ false = ne_eqb _ _ w.0 in
    let which : save_fault s e ≡ first_of (checks e) = save-fault s e ∙ simp (sized (goal.at.returns-in_err-check c).Else-not-size_allowed, no) in
    rw (p.1, p.2, w.1)
    (sym (ap (λ (n : ℕ). verdict n (telling (next s) (stores 0 e))) which ∙ is-refused (first_of (checks e)) (telling (next s) (stores 0 e)) w.0))

pub returns-then-sheet-slot : goal.returns-then-sheet-slot
returns-then-sheet-slot c =
    let s = c.args.sheet.now in
    let e = entry (goal.at.returns-then-sheet-slot c).Start in
    let none : slots s ≤ next s = omega (arith, c.next_slot-slot.ensures, c.if-sheet-slot.true) in
    let thirteen : save_fault s e ≡ 13 =
    save-fault s e ∙ simp (sized (goal.at.returns-then-sheet-slot c).Else-not-size_allowed, good (goal.at.returns-then-sheet-slot c).In_ok-check, le-leb (slots s) (next s) none) in
    sym (ap (λ (n : ℕ). verdict n (telling (next s) (stores 0 e))) thirteen)

pub told-requires : goal.told-requires
told-requires c =
    let few = formed-few c.args.head.count c.args.reply.now (passes-formed (entry (goal.at.told-requires c).Start) (good (goal.at.told-requires c).In_ok-check)) in
    let small : slots c.args.sheet.now < 65536 = few-slots c.args.sheet.now (sized (goal.at.told-requires c).Else-not-size_allowed) in
    record { slot_bound = omega (arith, c.if-sheet-slot.false, small); count_bound = few.0; reply_len_bound = omega (arith, few) }

pub returns : goal.returns
returns c =
    let s = c.args.sheet.now in
    let e = entry (goal.at.returns c).Start in
    let left : next s < slots s = omega (arith, c.next_slot-slot.ensures, c.if-sheet-slot.false) in
    let none : save_fault s e ≡ 0 =
    clear-fault s e (record { sized = sized (goal.at.returns c).Else-not-size_allowed; good = good (goal.at.returns c).In_ok-check; left = left }) in
    ap Ok (c.told.ensures ∙ ap (λ (k : ℕ). telling k (stores 0 e)) c.next_slot-slot.ensures) ∙ sym (ap (λ (n : ℕ). verdict n (telling (next s) (stores 0 e))) none)
