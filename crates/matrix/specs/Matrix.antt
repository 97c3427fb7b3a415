-- Matrices of nine rows of nine codes, of which the first w rows and columns are used.
-- Words: row, at, used, table_row, table, row_entry, entry, matrix_product, PlainRow, AllPlain, delta, unit_matrix, Fit.
use Rattle.std.specs.Prelude.{◌≡◌, ℕ, ◌<◌, Bool, true, false, cond, ◌&&◌, List, [], map, length, ◌==◌, nat_lt, slice_index, slice_index_or}
use Rattle.std.specs.List.{range_with_len}
use Rattle.semiring.specs.Algebra.{SemiringOps, In, sum_over}
use Rattle.matrix.specs.declared.grid.Matrix.{Matrix}

-- row i, and the code in its column j
abbrev pub row : Matrix → ℕ → List ℕ
row m i = slice_index_or m.rows i []

abbrev pub at : Matrix → ℕ → ℕ → ℕ
at m i j = slice_index (row m i) j

-- f i j where row and column are used, and else the number 0
abbrev pub used : ℕ → (ℕ → ℕ → ℕ) → ℕ → ℕ → ℕ
used w f i j = cond (nat_lt i w && nat_lt j w) (f i j) 0

unfoldable pub table_row : ℕ → (ℕ → ℕ → ℕ) → ℕ → List ℕ
table_row w f i = map (used w f i) (range_with_len 0 9)

unfoldable pub table : ℕ → (ℕ → ℕ → ℕ) → Matrix
table w f = record { rows = map (table_row w f) (range_with_len 0 9) }

-- a row times column j of b
abbrev pub row_entry : SemiringOps → ℕ → List ℕ → Matrix → ℕ → ℕ
row_entry S w left b j = sum_over S (λ l. S.product (slice_index left l) (at b l j)) (range_with_len 0 w)

-- row i of a times column j of b
abbrev pub entry : SemiringOps → ℕ → Matrix → Matrix → ℕ → ℕ → ℕ
entry S w a b i j = row_entry S w (row a i) b j

abbrev pub matrix_product : SemiringOps → ℕ → Matrix → Matrix → Matrix
matrix_product S w a b = table w (entry S w a b)

-- the used codes of a row pass a test, and those of a matrix
abbrev pub PlainRow : (ℕ → Bool) → ℕ → List ℕ → Type 0
PlainRow plain w codes = (j : ℕ) → j < w → plain (slice_index codes j) ≡ true

abbrev pub AllPlain : (ℕ → Bool) → ℕ → Matrix → Type 0
AllPlain plain w m = (i : ℕ) → i < w → PlainRow plain w (row m i)

-- one on the diagonal
unfoldable pub delta : SemiringOps → ℕ → ℕ → ℕ
delta S i j = cond (i == j) S.one S.zero

abbrev pub unit_matrix : SemiringOps → ℕ → Matrix
unit_matrix S w = table w (delta S)

-- the used codes are members, the others are the number 0
pub record Fit (S : SemiringOps) (w : ℕ) (m : Matrix) : Type 0 where
  pub size : length m.rows ≡ 9
  pub sizes : (i : ℕ) → i < 9 → length (row m i) ≡ 9
  pub members : (i j : ℕ) → i < w → j < w → In S (at m i j)
  pub others : (i j : ℕ) → i < 9 → j < 9 → (nat_lt i w && nat_lt j w) ≡ false → at m i j ≡ 0
