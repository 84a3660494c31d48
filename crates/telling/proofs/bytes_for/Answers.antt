-- `telling::bytes_for` meets its contract: the row is filled from the front, first with what stands before the reply, then with the reply, then with the length.
-- Assumes nothing.
use mathlib.Core.Path.{◌≡◌, refl, ap, ◌∙◌}
use mathlib.Core.List.{List, [], ◌∷◌, ◌++◌}
use Prim.Native.Nat.{ℕ, ◌+◌, ◌-◌, ◌≤◌}
use native.Mathlib.Omega.{arith}
use lib.ListN.{length, replicate, set}
use lib.Seq.{paste}
use Rattle.std.proofs.lemmas.Slice.{put_mid-paste}
use Rattle.sheet.specs.declared.Head.{Head}
use Rattle.sheet.specs.Record.{after_length, length_of}
use Rattle.sheet.specs.Look.{entry_with}
use Rattle.sheet.specs.StoresTold.{zeros_behind}
use Rattle.sheet.specs.Inside.Rows.{bytes_row}
use Rattle.sheet.proofs.Rows.{row_more, two-more}
use Rattle.telling.proofs.bytes_for.Goals as goal

-- the row, filled from the front
filled : (head : Head) (reply one two : List ℕ) → length reply ≤ 8 → one ≡ zeros_behind (after_length (entry_with head []))
    → two ≡ paste one 9 reply (length reply)
    → set (set two (9 + length reply) (9 + length reply)) (9 + length reply + 1) 0 ≡ zeros_behind (bytes_row (entry_with head reply))
filled head reply one two short front e =
    let xs = after_length (entry_with head []) in
    let both : two ≡ zeros_behind (xs ++ reply) = e ∙ ap (λ (l : List ℕ). paste l 9 reply (length reply)) front ∙ row_more xs reply (omega arith) in
    let size : 9 + length reply ≡ length_of (entry_with head reply) = omega arith in
    two-more two (xs ++ reply) (9 + length reply) 0 (9 + length reply) (omega arith) (omega arith) both
    ∙ ap (λ (n : ℕ). zeros_behind (xs ++ reply ++ n ∷ 0 ∷ [])) size

pub returns : goal.returns
returns c =
    let reply = c.args.reply.now in
    let first = c.copy_from_slice in
    let row = λ (l : List ℕ). l ++ replicate 10 0 in
    let many : length reply ≡ 9 + length reply - 9 = omega arith in
    filled c.args.head reply (row first.new.self) _ c.requires.reply_len_bound (ap row (first.ensures.after ∙ c.before_reply.ensures))
    (put_mid-paste 9 (9 + length reply - 9) (row first.new.self) c.copy_from_slice-2.new.self reply (length reply) c.copy_from_slice-2.ensures.after many refl)
