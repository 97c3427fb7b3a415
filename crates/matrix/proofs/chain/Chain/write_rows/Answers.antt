-- A row written is a row of the product, and all used rows written are the product.
use Rattle.std.proofs.Common.{arith}
use Rattle.std.proofs.lemmas.Grind.{common_steps}
use Rattle.matrix.specs.Matrix.{entry}
use Rattle.matrix.proofs.Tables.{is_padded, is_written}
use Rattle.matrix.proofs.chain.Chain.write_rows.Goals as goal

pub loop-i-preserved : goal.loop-i-preserved
loop-i-preserved g c =
    grind (arith, common_steps, is_padded g.row.W (entry (g.S.Semiring.ops c.args.self.now.semiring) g.row.W c.args.a.now c.args.b.now) c.loop-i.i c.row_product.result c.row_product.ensures)

pub returns : goal.returns
returns g c zeros = rw zeros (is_written _ _ _ c.requires.narrow c.loop-i.invariant.0 (λ i h. c.loop-i.invariant.1 i (omega arith)))
