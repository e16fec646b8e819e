-- The measure of `line::put_number`, which calls itself: the number, which is divided by ten. Assumes nothing.
use Rattle.line.proofs.+put_number.Given as goal

abbrev pub decreases-put_number : goal.decreases-put_number
decreases-put_number l = l.n
