-- The digits so far are read.
use Rattle.text.proofs.Digits.{ReadTo}
use Rattle.text.proofs.number.decimal_number.Given as goal

abbrev pub invariant-loop-byte : goal.invariant-loop-byte
invariant-loop-byte l = ReadTo l.bytes l.byte-index l.number
