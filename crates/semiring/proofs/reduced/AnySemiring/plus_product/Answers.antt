-- The reduction of the total with the product is the sum of both reduced.
use Rattle.std.proofs.Common.{rules}
use Rattle.semiring.specs.Reduced.{plus_reduced}
use Rattle.semiring.proofs.reduced.AnySemiring.plus_product.Goals as goal

pub returns-clause-adds : goal.returns-clause-adds
returns-clause-adds g c =
    search (rules, plus_reduced (g.R.Reduce.member c.args.self.now) (g.R.Reduce.reduction c.args.self.now) (g.met.R.Reduce.lawful c.args.self.now) c.args.total c.args.x c.args.y)
