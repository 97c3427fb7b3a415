-- Each row that the loop has seen is plain.
use Rattle.std.proofs.Common.{ℕ, ◌<◌}
use Rattle.matrix.specs.Matrix.{row, PlainRow}
use Rattle.matrix.proofs.chain.Chain.is_plain.Given as goal

abbrev pub invariant-loop-row : goal.invariant-loop-row
invariant-loop-row g l = (i : ℕ) → i < l.row-index → PlainRow (g.S.Semiring.plain l.self.semiring) g.row.W (row l.m i)
