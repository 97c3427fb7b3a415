-- What a code adds to a row of a product, and why one that makes no sum greater may be passed over.
use Rattle.std.proofs.Common.{◌≡◌, ℕ, ◌+◌, ◌*◌, ◌<◌, ◌≤◌, List, length, get_or, take, drop, ap, add-mul, one-mul, arith, length-drop}
use Rattle.std.proofs.Math.Nat.{mul-le-mul_right}
use Rattle.std.specs.List.{range_with_len}
use Rattle.std.proofs.lemmas.List.{length-take, get_or-take, get_or-drop}
use Rattle.std.proofs.lemmas.List.FromFn.{fill_by_all}
use Rattle.semiring.specs.Algebra.{SemiringOps, SemiringLaws, sum_of, sum_over}
use Rattle.semiring.proofs.Sums.{sum_over_more, sum_over_member}
use Rattle.matrix.specs.declared.grid.Matrix.{Matrix}
use Rattle.matrix.specs.Matrix.{at, row_entry}

-- a turn over code l of the left row adds its product with a code of b, which is nothing where that is zero
pub turn : (S : SemiringOps) (l : ℕ) (left : List ℕ) (b : Matrix) (q : ℕ) → SemiringLaws S → (row_entry S (l + 1) left b q ≡ S.sum (row_entry S l left b q) (S.product (get_or left l 0) (at b l q))) × (S.product (get_or left l 0) (at b l q) ≡ S.zero → row_entry S (l + 1) left b q ≡ row_entry S l left b q)
turn S l left b q L =
    let more = sum_over_more S (λ n. S.product (get_or left n 0) (at b n q)) l in
    let t = row_entry S l left b q in
    let member = sum_over_member S L (λ n. S.product (get_or left n 0) (at b n q)) (range_with_len 0 l) in
    (more, λ is_zero. grind (arith, more, is_zero, L.sum_comm t S.zero member L.zero_in, L.sum-zero t member))

-- l products leave room for one more of nine
pub room : (l growth : ℕ) → l < 9 → ((l + 1) * growth ≤ 9 * growth) × ((l + 1 + 1) * growth ≡ (l + 1) * growth + growth)
room l growth few = (mul-le-mul_right growth (omega arith), cc (add-mul (l + 1) 1 growth, one-mul growth))

-- the sum of a stretch of a row, by its places
pub stretch_sum : (S : SemiringOps) (xs : List ℕ) (a n : ℕ) → a + n ≤ length xs → sum_of S (take n (drop a xs)) ≡ sum_over S (λ r. get_or xs (a + r) 0) (range_with_len 0 n)
stretch_sum S xs a n h = ap (sum_of S) (fill_by_all (λ r. get_or xs (a + r) 0) (take n (drop a xs)) n 0 (grind (arith, length-take, length-drop)) (λ r lt. grind (arith, get_or-take, get_or-drop)))
