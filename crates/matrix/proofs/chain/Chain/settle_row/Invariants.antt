-- Codes before the loop's place are those of their totals.
use Rattle.std.proofs.Common.{◌≡◌, ℕ, ◌<◌, length, get_or}
use Rattle.matrix.proofs.chain.Chain.settle_row.Given as goal

abbrev pub invariant-loop-j : goal.invariant-loop-j
invariant-loop-j g l =
    (length l.code-items ≡ g.row.W)
    × ((q : ℕ) → q < l.j → get_or l.code-items q 0 ≡ g.S.Semiring.code l.self.semiring (get_or l.totals.sums q 0))
