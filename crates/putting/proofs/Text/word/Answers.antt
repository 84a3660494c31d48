-- `putting::Text::word` meets its contract: the word is copied into its part of the output. Assumes nothing.
use Rattle.std.proofs.Common.{refl, ap, length, ◌∙◌, ◌+◌, ◌-◌, arith}
use Rattle.std.proofs.Math.Seq.{length-sets}
use Rattle.putting.proofs.Putting.{word_copied}
use Rattle.putting.proofs.Text.word.Goals as goal

pub returns : goal.returns
returns c =
    let t = c.args.self.now in
    let w = c.args.word.now in
    let copied = word_copied w t.out.now _ t.at (t.at + length w - t.at) c.copy_from_slice.ensures.after (omega arith) c.requires in
    record {
      same = refl;
      keeps = ap length copied ∙ length-sets t.out.now t.at w;
      ends = refl;
      leaves = copied;
      within = omega arith;
    }
