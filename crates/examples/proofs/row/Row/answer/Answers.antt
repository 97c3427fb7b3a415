-- Every listing has exactly the largest whole blocks.
use Rattle.std.specs.Prelude.{length}
use Rattle.tree.specs.Shape.{height}
use Rattle.tree.proofs.Blocks.{lists_largest}
use Rattle.examples.specs.Rows.{question}
use Rattle.examples.proofs.row.Row.answer.Goals as goal

pub returns-clause-blocks : goal.returns-clause-blocks
returns-clause-blocks c = let q = question c.args.self in lists_largest (height (length q.stations)) q.first q.last
