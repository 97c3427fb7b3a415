-- The values so far are put, and what their type says of them is known.
use Rattle.std.proofs.Common.{◌≡◌, take}
use Rattle.std.specs.List.{AllByRecursion, flat_map}
use Rattle.text.specs.Writing.{with_text}
use Rattle.text.proofs.written.RefSliceWritten.put.Given as goal

abbrev pub invariant-loop-value : goal.invariant-loop-value
invariant-loop-value g l = record {
  text : l.sink ≡ with_text (flat_map g.W.Written.text (take l.value-index l.value-items)) l.initial.sink;
  known : AllByRecursion g.W.Written.Known (take l.value-index l.value-items);
}
