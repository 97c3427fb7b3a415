-- The way up has come to node i, with a join for each step.
use Rattle.tree.proofs.Rewriting.{Raised}
use Rattle.tree.proofs.fill.rewrite.Given as goal

abbrev pub invariant-loop-above : goal.invariant-loop-above
invariant-loop-above g l = let o = g.K.Kind.ops l.kind in Raised o l.leaf (o.single l.station) l.joins l.i l.fn.nodes l.nodes

abbrev pub decreases-loop-above : goal.decreases-loop-above
decreases-loop-above g l = l.i
