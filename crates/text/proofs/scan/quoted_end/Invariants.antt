-- What the loop of `quoted_end` keeps.
use Rattle.std.proofs.Common.{◌-◌, length}
use Rattle.text.proofs.Spanning.{Quoted}
use Rattle.text.proofs.scan.quoted_end.Given as goal

abbrev pub invariant-loop-i : goal.invariant-loop-i
invariant-loop-i l = Quoted l.text l.at l.i

abbrev pub decreases-loop-i : goal.decreases-loop-i
decreases-loop-i l = length l.text - l.i
