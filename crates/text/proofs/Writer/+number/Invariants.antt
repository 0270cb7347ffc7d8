-- The measure of `text::Writer::number`: the number that is left.
use Rattle.text.proofs.Writer.+number.Given as goal

abbrev pub decreases-number : goal.decreases-number
decreases-number l = l.n
