-- What the loop of `resume` keeps.
use Rattle.std.proofs.Common.{◌≡◌}
use Rattle.text.specs.Resuming.{resumed}
use Rattle.text.proofs.scan.resume.Given as goal

abbrev pub invariant-loop-i : goal.invariant-loop-i
invariant-loop-i l = resumed l.text l.i ≡ resumed l.text l.from
