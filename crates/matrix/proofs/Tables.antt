-- Tables: what they hold, and a matrix that is one.
use Rattle.std.proofs.Common.{◌≡◌, ℕ, ◌<◌, ◌≤◌, cond, ltb, List, [], ◌++◌, length, get_or, drop, replicate, length-append, length-drop, refl, ap, arith}
use Rattle.std.proofs.lemmas.Bool.Decides.{nat_tests}
use Rattle.std.proofs.lemmas.List.{places, get_or-replicate}
use Rattle.std.proofs.lemmas.List.FromFn.{get_or-map-range_with_len, length-map-range_with_len, fill_by_all}
use Rattle.matrix.specs.declared.grid.Matrix.{Matrix}
use Rattle.matrix.specs.Matrix.{row, at, used, table_row, table}

abbrev pub of_rows : List (List ℕ) → Matrix
of_rows l = record { rows = l }

row-table : (w : ℕ) (f : ℕ → ℕ → ℕ) (i : ℕ) → i < 9 → row (table w f) i ≡ table_row w f i
unfolding table
row-table w f i hi = get_or-map-range_with_len (table_row w f) 0 9 i i [] hi (omega arith)

pub at-table_used : (w : ℕ) (f : ℕ → ℕ → ℕ) (i j : ℕ) → i < 9 → j < 9 → at (table w f) i j ≡ used w f i j
unfolding table_row
at-table_used w f i j hi hj = rw (row-table w f i hi) (get_or-map-range_with_len (used w f i) 0 9 j j 0 hj (omega arith))

pub at-table : (w : ℕ) (f : ℕ → ℕ → ℕ) (i j : ℕ) → w ≤ 9 → i < w → j < w → at (table w f) i j ≡ f i j
at-table w f i j hw hi hj = grind (arith, nat_tests, at-table_used w f i j)

pub length-table : (w : ℕ) (f : ℕ → ℕ → ℕ) → length (table w f).rows ≡ 9
unfolding table
length-table w f = length-map-range_with_len (table_row w f) 0 9

pub length-row : (w : ℕ) (f : ℕ → ℕ → ℕ) (i : ℕ) → i < 9 → length (row (table w f) i) ≡ 9
unfolding table_row
length-row w f i hi = rw (row-table w f i hi) (length-map-range_with_len (used w f i) 0 9)

-- nine codes are a row of a table
pub is_row : (w : ℕ) (f : ℕ → ℕ → ℕ) (i : ℕ) (l : List ℕ) → length l ≡ 9 → ((j : ℕ) → j < 9 → get_or l j 0 ≡ used w f i j) → l ≡ table_row w f i
unfolding table_row
is_row w f i l e h = fill_by_all (used w f i) l 9 0 e h

-- a used row, with 0 in its unused codes
pub is_padded : (w : ℕ) (f : ℕ → ℕ → ℕ) (i : ℕ) (l : List ℕ) → ((j : ℕ) → j < 9 → get_or l j 0 ≡ cond (ltb j w) (f i j) 0) → i < w → length l ≡ 9 → l ≡ table_row w f i
is_padded w f i l h hi e = is_row w f i l e (λ j hj. grind (arith, nat_tests, h j))

-- an unused one
is_unused : (w : ℕ) (f : ℕ → ℕ → ℕ) (i : ℕ) → w ≤ i → replicate 9 0 ≡ table_row w f i
is_unused w f i hi = is_row w f i (replicate 9 0) refl (λ j hj. grind (arith, nat_tests, get_or-replicate))

-- nine rows of a table are that table
pub is_rows : (w : ℕ) (f : ℕ → ℕ → ℕ) (l : List (List ℕ)) → length l ≡ 9 → ((i : ℕ) → i < 9 → get_or l i [] ≡ table_row w f i) → of_rows l ≡ table w f
unfolding table
is_rows w f l e h = ap of_rows (fill_by_all (table_row w f) l 9 [] e h)

-- nine rows of nine codes are a table
pub is_table : (w : ℕ) (f : ℕ → ℕ → ℕ) (m : Matrix) → length m.rows ≡ 9 → ((i : ℕ) → i < 9 → length (row m i) ≡ 9) → ((i j : ℕ) → i < 9 → j < 9 → at m i j ≡ used w f i j) → m ≡ table w f
is_table w f m e es h = is_rows w f m.rows e (λ i hi. is_row w f i (row m i) (es i hi) (λ j hj. h i j hi hj))

pub table_cong : (w : ℕ) (f g : ℕ → ℕ → ℕ) → ((i j : ℕ) → i < w → j < w → f i j ≡ g i j) → table w f ≡ table w g
table_cong w f g h = is_table w g (table w f) (length-table w f) (length-row w f) (λ i j hi hj. grind (arith, nat_tests, at-table_used w f i j, h i j))

-- w rows that are written, before rows that are not
pub is_written : (w : ℕ) (f : ℕ → ℕ → ℕ) (l : List (List ℕ)) → w ≤ 9 → length l ≡ w → ((i : ℕ) → i < w → get_or l i [] ≡ table_row w f i) → of_rows (l ++ drop w (replicate 9 (replicate 9 0))) ≡ table w f
is_written w f l hw e h =
    is_rows w f (l ++ drop w (replicate 9 (replicate 9 0))) (grind (arith, length-append, length-drop)) (λ i hi. grind (arith, places, h i, is_unused w f i))
