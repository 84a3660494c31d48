-- `telling::told` meets its contract: the rows that it tells are those of the record's stores. Assumes nothing.
use mathlib.Core.Path.{◌≡◌, sym, ap, ◌∙◌}
use mathlib.Core.List.{List}
use Prim.Native.Nat.{ℕ, ◌+◌, ◌≤◌}
use native.Mathlib.Omega.{arith}
use lib.ListN.{length}
use Rattle.sheet.specs.declared.Head.{Head}
use Rattle.sheet.specs.Record.{length_of}
use Rattle.sheet.specs.Stores.{stores}
use Rattle.sheet.specs.Look.{entry_with}
use Rattle.sheet.specs.StoresTold.{zeros_behind, telling}
use Rattle.sheet.specs.Inside.Rows.{places_row, bytes_row}
use Rattle.sheet.proofs.Storing.{stores-length}
use Rattle.sheet.proofs.Rows.{stores-places, stores-bytes}
use Rattle.telling.proofs.told.Goals as goal

-- the rows told are those of the stores
told_is : (slot : ℕ) (head : Head) (reply places bytes : List ℕ) → length reply ≤ 8 → places ≡ zeros_behind (places_row (9 + length reply))
    → bytes ≡ zeros_behind (bytes_row (entry_with head reply))
    → record { slot = slot; places = places; bytes = bytes; count = 9 + length reply + 2; number = 0 } ≡ telling slot (stores 0 (entry_with head reply))
told_is slot head reply places bytes short e₁ e₂ =
    let e = entry_with head reply in
    let size : 9 + length reply ≡ length_of e = omega arith in
    let where_to = e₁ ∙ ap (λ (n : ℕ). zeros_behind (places_row n)) size ∙ ap zeros_behind (sym (stores-places e)) in
    let what = e₂ ∙ ap zeros_behind (sym (stores-bytes e (omega arith))) in
    let many : 9 + length reply + 2 ≡ length (stores 0 e) = ap (λ (n : ℕ). n + 2) size ∙ sym (stores-length 0 e) in
    λ i. record { slot = slot; places = where_to i; bytes = what i; count = many i; number = 0 }

pub returns : goal.returns
returns c =
    let a = c.args in
    told_is a.slot a.head a.reply.now c.places_for.result c.bytes_for.result c.requires.reply_len_bound c.places_for.ensures c.bytes_for.ensures
