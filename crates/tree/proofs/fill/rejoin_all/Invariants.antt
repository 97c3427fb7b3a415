-- The nodes from i on are joined, no leaf has changed, and each joined node was one join.
use Rattle.std.proofs.Common.{◌≡◌, ℕ, ◌+◌, ◌<◌, ◌≤◌}
use Rattle.tree.specs.Nodes.{cell_of, IsJoined}
use Rattle.tree.proofs.fill.rejoin_all.Given as goal

abbrev pub invariant-loop-i : goal.invariant-loop-i
invariant-loop-i g l =
    (1 ≤ l.i) ×
    (l.joins + l.i ≡ l.leaves) ×
    ((k : ℕ) → l.i ≤ k → k < l.leaves → IsJoined (g.K.Kind.ops l.kind) l.nodes k) ×
    ((k : ℕ) → l.leaves ≤ k → cell_of l.nodes k ≡ cell_of l.initial.nodes k)
