-- The chain of runs for k neighbours down in a row: state r below k is a run of r before any failure, k + r a run of r
-- after one, 2 k a run of k or more. A station's matrix has its weights where it leads; the figures are read off a product.
-- Words: after_up, after_down, station_code, station_matrix, failing_of, working_of, ring_failing_of, ring_working_of.
use Rattle.std.specs.Prelude.{ℕ, ◌+◌, ◌*◌, min, cond, ◌==◌, nat_lt}
use Rattle.std.specs.List.{range_with_len}
use Rattle.semiring.specs.Algebra.{SemiringOps, sum_over}
use Rattle.matrix.specs.declared.grid.Matrix.{Matrix}
use Rattle.matrix.specs.Matrix.{at, table}

-- where an up station leads to from a state
unfoldable pub after_up : ℕ → ℕ → ℕ
after_up k i = cond (nat_lt i k) 0 k

-- where a down station leads to
unfoldable pub after_down : ℕ → ℕ → ℕ
after_down k i = cond (nat_lt i k) (cond (nat_lt (i + 1) k) (i + 1) (2 * k)) (min (i + 1) (2 * k))

unfoldable pub station_code : SemiringOps → ℕ → ℕ → ℕ → ℕ → ℕ → ℕ
station_code S k up down i j = cond (j == after_up k i) up (cond (j == after_down k i) down S.zero)

abbrev pub station_matrix : SemiringOps → ℕ → ℕ → ℕ → Matrix
station_matrix S k up down = table (2 * k + 1) (station_code S k up down)

-- the figures of a window
abbrev pub failing_of : SemiringOps → ℕ → Matrix → ℕ
failing_of S k m = sum_over S (λ r. at m 0 (k + r)) (range_with_len 0 (k + 1))

abbrev pub working_of : SemiringOps → ℕ → Matrix → ℕ
working_of S k m = sum_over S (λ r. at m 0 r) (range_with_len 0 k)

-- the figures of the ring
abbrev pub ring_failing_of : SemiringOps → ℕ → Matrix → ℕ
ring_failing_of S k m = S.sum (at m 0 (2 * k)) (sum_over S (λ j. at m j (k + j)) (range_with_len 0 k))

abbrev pub ring_working_of : SemiringOps → ℕ → Matrix → ℕ
ring_working_of S k m = sum_over S (λ j. at m j j) (range_with_len 0 k)
