-- What the three loops leave stands for the stations.
use Rattle.std.proofs.Common.{arith, length}
use Rattle.tree.specs.Shape.{height}
use Rattle.tree.proofs.Heights.{stations_fit}
use Rattle.tree.proofs.Standing.{filled_stands}
use Rattle.tree.proofs.tree.Tree.fill_nodes.Goals as goal

pub returns-clause-stands : goal.returns-clause-stands
returns-clause-stands g c =
    let xs = c.args.stations.now in
    filled_stands (g.K.Kind.ops c.args.self.now.kind) (height (length xs)) c.leaves-leaves.result xs c.write_stations.new.nodes c.write_empty.new.nodes c.rejoin_all.new.nodes
    (grind arith) (stations_fit (length xs))
    c.write_stations.ensures.stations c.write_empty.ensures.empty c.write_empty.ensures.others c.rejoin_all.ensures.joined c.rejoin_all.ensures.others
