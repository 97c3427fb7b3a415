-- The bytes so far are put, each quote twice.
use Rattle.std.proofs.Common.{◌≡◌, take}
use Rattle.text.specs.Grammar.{doubled}
use Rattle.text.specs.Writing.{with_text}
use Rattle.text.proofs.station_text.put_doubled.Given as goal

abbrev pub invariant-loop-byte : goal.invariant-loop-byte
invariant-loop-byte l = l.sink ≡ with_text (doubled (take l.byte-index l.bytes)) l.initial.sink
