-- Rows before the loop's place are those of the table.
use Rattle.std.proofs.Common.{◌≡◌, ℕ, [], ◌<◌, length, get_or}
use Rattle.matrix.specs.Matrix.{table_row}
use Rattle.matrix.proofs.grid.Matrix.from_fn.Given as goal

abbrev pub invariant-loop-i : goal.invariant-loop-i
invariant-loop-i g l =
    (length l.row-items ≡ 9)
    × ((f : ℕ → ℕ → ℕ) → ((i j x : ℕ) → goal.F-post g l.entry i j x → x ≡ f i j) → (q : ℕ) → q < l.i → get_or l.row-items q [] ≡ table_row l.width f q)
