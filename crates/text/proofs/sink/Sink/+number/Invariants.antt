-- The number without its last digit is smaller.
use Rattle.text.proofs.sink.Sink.+number.Given as goal

abbrev pub decreases-number : goal.decreases-number
decreases-number l = l.n
