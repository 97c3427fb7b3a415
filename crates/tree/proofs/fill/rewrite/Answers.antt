-- The node above is joined, and those below it do not change.
use Rattle.tree.proofs.Rewriting.{raised_next, raised_last}
use Rattle.tree.proofs.fill.rewrite.Goals as goal

pub loop-above-preserved : goal.loop-above-preserved
loop-above-preserved g c = raised_next _ _ _ _ _ _ _ _ _ (cc (c.in-Some.is, c.parent.ensures)) c.loop-above.invariant c.rejoin.ensures.joined c.rejoin.ensures.others

pub returns-clause-written : goal.returns-clause-written
returns-clause-written g c = raised_last _ _ _ _ _ _ _ (cc (c.in_default.is, c.parent.ensures)) c.loop-above.invariant
