-- The measure of the recursion.
use Rattle.frame.proofs.pairs.+read_pairs.Given as goal

abbrev pub decreases-read_pairs : goal.decreases-read_pairs
decreases-read_pairs l = l.left
