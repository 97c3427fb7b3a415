-- What the loop of `record_at` keeps.
use Rattle.std.proofs.Common.{◌+◌, ◌-◌, length}
use Rattle.text.proofs.Recording.{SoFar}
use Rattle.text.proofs.record.record_at.Given as goal

abbrev pub invariant-fields : goal.invariant-fields
invariant-fields l = SoFar l.text l.at l.record

abbrev pub decreases-fields : goal.decreases-fields
decreases-fields l = length l.text + 1 - l.record.next
