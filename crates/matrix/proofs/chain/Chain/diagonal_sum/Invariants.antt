-- The total is the sum of the codes that the loop has seen.
use Rattle.std.proofs.Common.{◌≡◌, ◌+◌}
use Rattle.std.specs.List.{range_with_len}
use Rattle.semiring.specs.Algebra.{sum_over}
use Rattle.matrix.specs.Matrix.{at}
use Rattle.matrix.proofs.chain.Chain.diagonal_sum.Given as goal

abbrev pub invariant-loop-j : goal.invariant-loop-j
invariant-loop-j g l = l.total ≡ sum_over (g.S.Semiring.ops l.self.semiring) (λ j. at l.m j (l.column + j)) (range_with_len 0 l.j)
