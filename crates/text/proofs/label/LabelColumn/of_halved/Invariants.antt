-- What the bytes so far mean is kept.
use Rattle.text.proofs.Holding.{HalvedTo}
use Rattle.text.proofs.label.LabelColumn.of_halved.Given as goal

abbrev pub invariant-loop-byte : goal.invariant-loop-byte
invariant-loop-byte l = HalvedTo l.bytes l.byte-index l.is_second l.column
