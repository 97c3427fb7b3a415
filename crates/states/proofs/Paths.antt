-- The stations' matrices joined: an entry is the sum over the states that lead from its row to its column.
use Rattle.std.proofs.Common.{◌≡◌, ℕ, ◌+◌, ◌*◌, ◌<◌, ◌≤◌, Bool, true, false, cond, eqb, List, [], ◌∷◌, map, fold, sym, ◌∙◌, ap₂, arith}
use Rattle.std.specs.List.{range_with_len, AllByRecursion}
use Rattle.std.proofs.lemmas.Bool.Decides.{nat_tests}
use Rattle.std.proofs.lemmas.List.Folds.{fold_along}
use Rattle.semiring.specs.Algebra.{SemiringOps, SemiringLaws, In, sum_over}
use Rattle.semiring.proofs.Sums.{sum_over_below, sum_over_cong, sum_over-sum, sum_over_pick, sum_over-append, sum_over-map, sum_over_member, times_sum_over, product_member}
use Rattle.station.specs.declared.record.Station.{Station}
use Rattle.matrix.specs.declared.grid.Matrix.{Matrix}
use Rattle.matrix.specs.Matrix.{at, entry, delta, matrix_product, unit_matrix}
use Rattle.matrix.specs.Chain.{after_up, after_down, station_code, station_matrix}
use Rattle.matrix.proofs.Tables.{at-table}
use Rattle.states.specs.Runs.{State}
use Rattle.states.specs.States.{states, weight_of, weights_in, weight}
use Rattle.states.proofs.Following.{led, up_not_down}

-- all weights of the stations are members
abbrev pub Weighed : SemiringOps → List Station → Type 0
Weighed S xs = AllByRecursion (λ x. (d : Bool) → In S (weight_of S x d)) xs

abbrev pub matrix_of : SemiringOps → ℕ → Station → Matrix
matrix_of S k x = station_matrix S k (weight_of S x false) (weight_of S x true)

-- the stations' matrices, joined from the right
abbrev pub chain : SemiringOps → ℕ → List Station → Matrix
chain S k [] = unit_matrix S (2 * k + 1)
chain S k (x ∷ xs) = matrix_product S (2 * k + 1) (matrix_of S k x) (chain S k xs)

-- x where the test passes, and else zero
abbrev pub if_so : SemiringOps → Bool → ℕ → ℕ
if_so S b x = cond b x S.zero

-- the weight of a state, where it leads from i to j
abbrev pub path : SemiringOps → ℕ → List Station → ℕ → ℕ → State → ℕ
path S k xs i j s = if_so S (eqb (led k i s) j) (weight S xs s)

module _ (S : SemiringOps) (L : SemiringLaws S) where
  pub weight_in : (xs : List Station) (s : State) → In S (weight S xs s)
  weight_in xs s = fold_along S.product S.product (λ b _. In S b) (λ b _ x _. product_member S L b x) S.one S.one (weights_in S xs s) L.one_in

  -- the product from a on is a times the product
  from_on : (a : ℕ) (xs : List Station) (s : State) → In S a → Weighed S xs → fold S.product a (weights_in S xs s) ≡ S.product a (weight S xs s)
  from_on a [] s ha m = sym (L.one_right a ha)
  from_on a (x ∷ xs) [] ha m = sym (L.one_right a ha)
  from_on a (x ∷ xs) (d ∷ s) ha m =
      let w = weight_of S x d in
      cc (from_on (S.product a w) xs s (product_member S L a w) m.1, from_on w xs s (m.0 d) m.1, L.product_assoc a w (weight S xs s) ha (m.0 d) (weight_in xs s), L.one_left w (m.0 d))

  -- a station more at the front
  weight-cons : (x : Station) (xs : List Station) (d : Bool) (s : State) → Weighed S (x ∷ xs) → weight S (x ∷ xs) (d ∷ s) ≡ S.product (weight_of S x d) (weight S xs s)
  weight-cons x xs d s m = cc (L.one_left (weight_of S x d) (m.0 d), from_on (weight_of S x d) xs s (m.0 d) m.1)

  pub if_so_in : (b : Bool) (x : ℕ) → In S x → In S (if_so S b x)
  if_so_in b x hx = grind (arith, L.zero_in)

  pub path_in : (k : ℕ) (xs : List Station) (i j : ℕ) (s : State) → In S (path S k xs i j s)
  path_in k xs i j s = if_so_in (eqb (led k i s) j) (weight S xs s) (weight_in xs s)

  module _ (k : ℕ) (low : 1 ≤ k) (high : k ≤ 4) where
    -- c times g at t, and zero elsewhere
    abbrev only : ℕ → ℕ → (ℕ → ℕ) → ℕ → ℕ
    only t c g l = if_so S (eqb l t) (S.product c (g l))

    only_in : (t c : ℕ) (g : ℕ → ℕ) (l : ℕ) → In S (only t c g l)
    only_in t c g l = if_so_in (eqb l t) (S.product c (g l)) (product_member S L c (g l))

    sum_only : (t c : ℕ) (g : ℕ → ℕ) → t < 2 * k + 1 → sum_over S (only t c g) (range_with_len 0 (2 * k + 1)) ≡ S.product c (g t)
    sum_only t c g ht = sum_over_pick S L (only t c g) (only_in t c g) (2 * k + 1) t ht (λ l hl ne. grind (arith, nat_tests)) ∙ grind (arith, nat_tests)

    -- an entry of a station's row, times g: where up leads, and where down leads
    split : (u d i : ℕ) (g : ℕ → ℕ) (l : ℕ) → In S (g l) → S.product (station_code S k u d i l) (g l) ≡ S.sum (only (after_up k i) u g l) (only (after_down k i) d g l)
    unfolding station_code
    split u d i g l hg = grind (arith, nat_tests, up_not_down k i low, L.sum_comm (S.product u (g l)) S.zero, L.sum-zero, L.zero_left (g l), product_member S L, L.zero_in)

    -- so the row, times g
    row : (u d i : ℕ) (g : ℕ → ℕ) → ((l : ℕ) → In S (g l)) → i < 2 * k + 1 → sum_over S (λ l. S.product (station_code S k u d i l) (g l)) (range_with_len 0 (2 * k + 1)) ≡ S.sum (S.product u (g (after_up k i))) (S.product d (g (after_down k i)))
    unfolding after_up after_down
    row u d i g hg hi =
        sum_over_cong S _ _ (range_with_len 0 (2 * k + 1)) (λ l. split u d i g l (hg l))
        ∙ sum_over-sum S L _ _ (only_in (after_up k i) u g) (only_in (after_down k i) d g) (range_with_len 0 (2 * k + 1))
        ∙ ap₂ S.sum (sum_only (after_up k i) u g (grind (arith, nat_tests))) (sum_only (after_down k i) d g (grind (arith, nat_tests)))

    -- a station's weight before the states behind it: the states with this station up, or with it down
    behind : (x : Station) (xs : List Station) (d : Bool) (i j : ℕ) → Weighed S (x ∷ xs) → S.product (weight_of S x d) (sum_over S (path S k xs (cond d (after_down k i) (after_up k i)) j) (states xs)) ≡ sum_over S (path S k (x ∷ xs) i j) (map (λ s. d ∷ s) (states xs))
    behind x xs d i j m =
        times_sum_over S L _ (path_in k xs (cond d (after_down k i) (after_up k i)) j) (weight_of S x d) (m.0 d) (states xs)
        ∙ sum_over_cong S _ _ (states xs) (λ s. grind (arith, L.zero_right (weight_of S x d), m.0 d, weight-cons x xs d s m))
        ∙ sym (sum_over-map S (path S k (x ∷ xs) i j) (λ s. d ∷ s) (states xs))

    -- an entry, as a sum over the states
    pub paths : (xs : List Station) → Weighed S xs → (i j : ℕ) → i < 2 * k + 1 → j < 2 * k + 1 → at (chain S k xs) i j ≡ sum_over S (path S k xs i j) (states xs)
    unfolding delta
    paths [] m i j hi hj = grind (arith, at-table (2 * k + 1) (delta S) i j, L.sum-zero, L.one_in, L.zero_in)
    paths (x ∷ xs) m i j hi hj =
        at-table (2 * k + 1) (entry S (2 * k + 1) (matrix_of S k x) (chain S k xs)) i j (omega arith) hi hj
        ∙ sum_over_below S _ _ (2 * k + 1) (λ l hl. ap₂ S.product (at-table (2 * k + 1) (station_code S k (weight_of S x false) (weight_of S x true)) i l (omega arith) hi hl) (paths xs m.1 l j hl hj))
        ∙ row (weight_of S x false) (weight_of S x true) i (λ l. sum_over S (path S k xs l j) (states xs)) (λ l. sum_over_member S L (path S k xs l j) (states xs)) hi
        ∙ ap₂ S.sum (behind x xs false i j m) (behind x xs true i j m)
        ∙ sym (sum_over-append S L _ (path_in k (x ∷ xs) i j) (map (λ s. false ∷ s) (states xs)) (map (λ s. true ∷ s) (states xs)))
