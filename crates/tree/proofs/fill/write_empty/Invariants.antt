-- The leaves so far hold the empty element, and no other node has changed.
use Rattle.std.proofs.Common.{◌≡◌, ℕ, ◌<◌, ◌≤◌, ◌⊎◌}
use Rattle.tree.specs.Nodes.{cell_of, Holds}
use Rattle.tree.proofs.fill.write_empty.Given as goal

abbrev pub invariant-loop-i : goal.invariant-loop-i
invariant-loop-i g l =
    let o = g.K.Kind.ops l.kind in
    ((k : ℕ) → l.from ≤ k → k < l.i → Holds o l.nodes k o.empty) ×
    ((k : ℕ) → 1 ≤ k → (k < l.from) ⊎ (l.i ≤ k) → cell_of l.nodes k ≡ cell_of l.initial.nodes k)
