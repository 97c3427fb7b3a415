-- Totals before the loop's place have their product; those from it on are as they were.
use Rattle.std.proofs.Common.{◌≡◌, ℕ, ◌+◌, ◌<◌, ◌≤◌, length, get_or}
use Rattle.matrix.specs.Matrix.{at}
use Rattle.matrix.proofs.chain.Chain.add_row.Given as goal

abbrev pub invariant-loop-j : goal.invariant-loop-j
invariant-loop-j g l =
    (length l.total-items ≡ g.row.W)
    × ((q : ℕ) → q < l.j → get_or l.total-items q 0 ≤ get_or l.initial.total-items q 0 + g.S.Semiring.growth l.self.semiring)
    × ((q : ℕ) → q < l.j → g.S.Semiring.code l.self.semiring (get_or l.total-items q 0) ≡ (g.S.Semiring.ops l.self.semiring).sum (g.S.Semiring.code l.self.semiring (get_or l.initial.total-items q 0)) ((g.S.Semiring.ops l.self.semiring).product l.x (at l.b l.l q)))
    × ((q : ℕ) → l.j ≤ q → get_or l.total-items q 0 ≡ get_or l.initial.total-items q 0)
