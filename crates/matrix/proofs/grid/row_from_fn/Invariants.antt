-- Codes before the loop's place are the entries, or 0 where they are not used; those from it on are 0.
use Rattle.std.proofs.Common.{◌≡◌, ℕ, ◌<◌, ◌≤◌, get_or}
use Rattle.matrix.specs.Matrix.{used}
use Rattle.matrix.proofs.grid.row_from_fn.Given as goal

abbrev pub invariant-loop-j : goal.invariant-loop-j
invariant-loop-j g l =
    ((f : ℕ → ℕ → ℕ) → ((i j x : ℕ) → goal.F-post g l.entry i j x → x ≡ f i j) → (q : ℕ) → q < l.j → get_or l.code-items q 0 ≡ used l.width f l.i q)
    × ((q : ℕ) → l.j ≤ q → q < 9 → get_or l.code-items q 0 ≡ 0)
