-- One value more is put.
use Rattle.std.proofs.Common.{rules}
use Rattle.text.proofs.Putting.{texts_more, known_more}
use Rattle.text.proofs.written.RefSliceWritten.put.Goals as goal

pub loop-value-preserved : goal.loop-value-preserved
loop-value-preserved g c = record { text = search (rules, texts_more); known = search (rules, known_more) }
