-- The list so far, and what the text has from here on, are what it has from its first byte on.
use Rattle.std.proofs.Common.{◌+◌, ◌-◌, ◌≤◌, length}
use Rattle.stations.proofs.Listing.{Goes}
use Rattle.stations.proofs.list.read.Given as goal

abbrev pub invariant-loop-found : goal.invariant-loop-found
invariant-loop-found l = record {
  goes : Goes l.text l.at l.number l.list.stations.items l.list.answers.items;
  counted : l.number ≤ l.at + 1;
}

abbrev pub decreases-loop-found : goal.decreases-loop-found
decreases-loop-found l = length l.text - l.at
