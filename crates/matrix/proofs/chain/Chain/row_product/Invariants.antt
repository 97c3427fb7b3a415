-- Each total stands for the sum of the terms so far, and is small enough for as many as there are.
use Rattle.std.proofs.Common.{◌≡◌, ℕ, ◌+◌, ◌*◌, ◌<◌, ◌≤◌, get_or}
use Rattle.matrix.specs.Matrix.{row_entry}
use Rattle.matrix.proofs.chain.Chain.row_product.Given as goal

abbrev pub invariant-loop-l : goal.invariant-loop-l
invariant-loop-l g l =
    ((q : ℕ) → q < g.row.W → get_or l.totals.sums q 0 ≤ (l.l + 1) * g.S.Semiring.growth l.self.semiring)
    × ((q : ℕ) → q < g.row.W → g.S.Semiring.code l.self.semiring (get_or l.totals.sums q 0) ≡ row_entry (g.S.Semiring.ops l.self.semiring) l.l l.left l.b q)
