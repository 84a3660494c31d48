-- The measure of the recursion.
use Rattle.frame.proofs.level.+read_digits.Given as goal

abbrev pub decreases-read_digits : goal.decreases-read_digits
decreases-read_digits l = l.left
