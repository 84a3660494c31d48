-- `enraf::sisal_read_item` meets its contract: of a record that is refused the number alone is told. Assumes nothing.
use mathlib.Core.Path.{◌≡◌, sym, ap, ◌∙◌}
use mathlib.Core.Bool.{Bool, not}
use mathlib.Core.List.{List, [], ◌∷◌}
use Prim.Native.Nat.{ℕ, ◌≤◌}
use borrow.Author.Tests.{ne_eqb}
use Rattle.frame.specs.Pick.{pick}
use Rattle.frame.specs.Faults.{◌gives◌, number_of}
use Rattle.frame.proofs.Numbers.{own_number, first_small}
use Rattle.frame.proofs.Verdicts.{was-refused}
use Rattle.enraf.specs.Item.{text_fits}
use Rattle.enraf.specs.Reading.{framed, check_right, addressed, item_in, read_fault, told_in_integers, refused}
use Rattle.enraf.proofs.sisal_read_item.Goals as goal

-- its numbers are in the table
small : (s : List ℕ) → read_fault s ≤ 38
unfolding read_fault
small s = first_small (not (framed s) gives 29 ∷ not (check_right s) gives 30 ∷ not (addressed s) gives 31 ∷ not (text_fits (item_in s)) gives 32 ∷ []) tt

pub returns-in-Err : goal.returns-in-Err
returns-in-Err c =
    let s = c.args.bytes.now in
    let w = was-refused (read_fault s) (told_in_integers (item_in s)) c.in-Err.fault (sym c.read.ensures ∙ c.in-Err.is) in
    let number : c.number.result ≡ read_fault s = c.number.ensures ∙ ap number_of w.1 ∙ own_number (read_fault s) w.0 (small s) in
    record { answers = ap (λ (n : ℕ). refused n) number ∙ sym (ap (λ (b : Bool). pick b (told_in_integers (item_in s)) (refused (read_fault s))) (ne_eqb (read_fault s) 0 w.0)) }
