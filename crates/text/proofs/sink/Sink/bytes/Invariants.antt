-- The bytes so far are put.
use Rattle.std.proofs.Common.{◌≡◌, take}
use Rattle.text.specs.Writing.{with_text}
use Rattle.text.proofs.sink.Sink.bytes.Given as goal

abbrev pub invariant-loop-byte : goal.invariant-loop-byte
invariant-loop-byte l = l.self ≡ with_text (take l.byte-index l.bytes) l.initial.self
