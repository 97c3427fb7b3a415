-- The word and the numbers so far are put, with commas between them.
use Rattle.std.proofs.Common.{◌≡◌}
use Rattle.text.specs.Writing.{with_text}
use Rattle.text.proofs.WrittenColumns.{columns_before}
use Rattle.text.proofs.sink.Sink.line.Given as goal

abbrev pub invariant-loop-number : goal.invariant-loop-number
invariant-loop-number l = l.self ≡ with_text (columns_before l.word l.numbers l.number-index) l.fn.self
