-- `listing::lines::put_line` meets its contract: its parts are put one after another. Assumes nothing.
use mathlib.Core.Path.{◌≡◌, ap}
use Prim.Native.Nat.{ℕ}
use native.Mathlib.Omega.{arith}
use lib.ListN.{take}
use Rattle.frame.specs.Line.{bytes_for}
use Rattle.sheet.specs.Look.{entry_with}
use Rattle.listing.specs.Lines.{record_text}
use Rattle.putting.proofs.Added.{then, text-is}
use Rattle.listing.proofs.lines.put_line.Goals as goal

pub returns : goal.returns
returns c =
    let head = c.args.head in
    let size : c.div_ceil-size.result ≡ bytes_for head.count = omega (arith, c.div_ceil-size.ensures) in
    let record-is = text-is (ap (λ (n : ℕ). record_text (entry_with head (take n c.args.reply))) size) c.put_record.ensures in
    then (then (then c.put_short.ensures c.byte.ensures) record-is) c.byte-2.ensures
