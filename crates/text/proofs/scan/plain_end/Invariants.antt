-- What the loop of `plain_end` keeps.
use Rattle.std.proofs.Common.{◌-◌, length}
use Rattle.text.proofs.Spanning.{PlainBytes}
use Rattle.text.proofs.scan.plain_end.Given as goal

abbrev pub invariant-loop-i : goal.invariant-loop-i
invariant-loop-i l = PlainBytes l.text l.at l.i

abbrev pub decreases-loop-i : goal.decreases-loop-i
decreases-loop-i l = length l.text - l.i
