-- The kind of weights over a semiring, for a failure of k neighbours in a row.
-- Words: weights_kind, weights_meaning.
use Rattle.std.specs.Prelude.{ℕ, ◌+◌, ◌*◌, ◌&&◌}
use Rattle.semiring.specs.Algebra.{SemiringOps}
use Rattle.station.specs.Weights.{up_weight, down_weight}
use Rattle.matrix.specs.declared.grid.Matrix.{Matrix}
use Rattle.matrix.specs.Chain.{station_matrix, failing_of, working_of, ring_failing_of, ring_working_of}
use Rattle.matrix.specs.Matrix.{matrix_product, unit_matrix, Fit}
use Rattle.states.specs.States.{failing, working, ring_failing, ring_working}
use Rattle.kind.specs.Laws.{KindOps}
use Rattle.kind.specs.Meaning.{both, Meaning}

abbrev pub weights_kind : SemiringOps → ℕ → KindOps Matrix Matrix
weights_kind S k = record {
  takes = λ x. S.member x.up && S.member x.down;
  fit = Fit S (2 * k + 1);
  single = λ x. station_matrix S k (up_weight S x) (down_weight S x);
  empty = unit_matrix S (2 * k + 1);
  join = matrix_product S (2 * k + 1);
  cell = λ m. m;
  element = λ m. m;
  window = λ m. record { first = failing_of S k m; second = working_of S k m };
  ring = λ m. record { first = ring_failing_of S k m; second = ring_working_of S k m };
  shortest = k;
}

-- the sums of the weights of all failing states, and of all others
abbrev pub weights_meaning : SemiringOps → ℕ → Meaning
weights_meaning S k = record {
  window = λ xs. both (failing S k xs) (working S k xs);
  ring = λ xs. both (ring_failing S k xs) (ring_working S k xs);
}
