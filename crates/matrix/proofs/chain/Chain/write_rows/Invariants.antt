-- Rows before the loop's place are those of the product.
use Rattle.std.proofs.Common.{◌≡◌, ℕ, ◌<◌, length, get_or, []}
use Rattle.matrix.specs.Matrix.{table_row, entry}
use Rattle.matrix.proofs.chain.Chain.write_rows.Given as goal

abbrev pub invariant-loop-i : goal.invariant-loop-i
invariant-loop-i g l =
    (length l.row-items ≡ g.row.W)
    × ((q : ℕ) → q < l.i → get_or l.row-items q [] ≡ table_row g.row.W (entry (g.S.Semiring.ops l.self.semiring) g.row.W l.a l.b) q)
