-- The product of fit matrices over a lawful semiring: associative, with the unit matrix neutral.
use Rattle.std.proofs.Common.{◌≡◌, ℕ, ◌+◌, ◌*◌, ◌<◌, ◌≤◌, Bool, cond, eqb, sym, ◌∙◌, arith}
use Rattle.std.specs.List.{range_with_len}
use Rattle.std.proofs.lemmas.Bool.Decides.{nat_tests}
use Rattle.semiring.specs.Algebra.{SemiringOps, SemiringLaws, In, sum_over}
use Rattle.semiring.proofs.Sums.{sum_over_below, sum_over_member, times_sum_over, sum_over_times, sum_over_swap, sum_over_pick, product_member}
use Rattle.matrix.specs.declared.grid.Matrix.{Matrix}
use Rattle.matrix.specs.Matrix.{at, table, entry, matrix_product, delta, unit_matrix, Fit}
use Rattle.matrix.specs.Chain.{station_code, station_matrix}
use Rattle.matrix.proofs.Tables.{at-table_used, at-table, length-table, length-row, is_table, table_cong}

Fit-table : (S : SemiringOps) (w : ℕ) (f : ℕ → ℕ → ℕ) → w ≤ 9 → ((i j : ℕ) → i < w → j < w → In S (f i j)) → Fit S w (table w f)
Fit-table S w f hw h = record {
  size = length-table w f;
  sizes = length-row w f;
  members = λ i j hi hj. rw (at-table w f i j hw hi hj) (h i j hi hj);
  others = λ i j hi hj t. rw (at-table_used w f i j hi hj, t);
}

fit_is : (S : SemiringOps) (w : ℕ) (m : Matrix) → Fit S w m → m ≡ table w (at m)
fit_is S w m fit = is_table w (at m) m fit.size fit.sizes (λ i j hi hj. grind (arith, nat_tests, fit.others i j))

pub choice_in : (S : SemiringOps) (b : Bool) (x y : ℕ) → In S x → In S y → In S (cond b x y)
choice_in S b x y hx hy = grind arith

module _ (S : SemiringOps) (L : SemiringLaws S) (w : ℕ) where
  pub delta_in : (i j : ℕ) → In S (delta S i j)
  unfolding delta
  delta_in i j = choice_in S (eqb i j) S.one S.zero L.one_in L.zero_in

  module _ (small : w ≤ 9) where
    pub Fit-unit : Fit S w (unit_matrix S w)
    Fit-unit = Fit-table S w (delta S) small (λ i j hi hj. delta_in i j)

    pub Fit-matrix_product : (a b : Matrix) → Fit S w a → Fit S w b → Fit S w (matrix_product S w a b)
    Fit-matrix_product a b fa fb = Fit-table S w (entry S w a b) small (λ i j hi hj. sum_over_member S L _ (range_with_len 0 w))

    pub product_assoc : (a b c : Matrix) → Fit S w a → Fit S w b → Fit S w c → matrix_product S w (matrix_product S w a b) c ≡ matrix_product S w a (matrix_product S w b c)
    product_assoc a b c fa fb fc =
        table_cong w _ _
        (λ i j hi hj.
        sum_over_below S _ (λ l. sum_over S (λ m. S.product (at a i m) (S.product (at b m l) (at c l j))) (range_with_len 0 w)) w
        (λ l hl.
        rw (at-table w (entry S w a b) i l small hi hl, sum_over_times S L _ (λ m. product_member S L (at a i m) (at b m l)) (at c l j) (fc.members l j hl hj) (range_with_len 0 w))
        (sum_over_below S _ _ w (λ m hm. L.product_assoc _ _ _ (fa.members i m hi hm) (fb.members m l hm hl) (fc.members l j hl hj))))
        ∙ sum_over_swap S L _ (λ l m. product_member S L (at a i m) (S.product (at b m l) (at c l j))) (range_with_len 0 w) (range_with_len 0 w)
        ∙ sum_over_below S _ _ w
        (λ m hm.
        rw (at-table w (entry S w b c) m j small hm hj)
        (sym (times_sum_over S L _ (λ l. product_member S L (at b m l) (at c l j)) (at a i m) (fa.members i m hi hm) (range_with_len 0 w)))))

    pub product_unit_left : (a : Matrix) → Fit S w a → matrix_product S w (unit_matrix S w) a ≡ a
    unfolding delta
    product_unit_left a fa =
        table_cong w _ (at a)
        (λ i j hi hj.
        sum_over_pick S L _ (λ l. product_member S L (at (unit_matrix S w) i l) (at a l j)) w i hi (λ l hl ne. grind (arith, nat_tests, at-table w (delta S) i l, L.zero_left (at a l j), fa.members l j))
        ∙ grind (arith, nat_tests, at-table w (delta S) i i, L.one_left (at a i j), fa.members i j))
        ∙ sym (fit_is S w a fa)

    pub product_unit_right : (a : Matrix) → Fit S w a → matrix_product S w a (unit_matrix S w) ≡ a
    unfolding delta
    product_unit_right a fa =
        table_cong w _ (at a)
        (λ i j hi hj.
        sum_over_pick S L _ (λ l. product_member S L (at a i l) (at (unit_matrix S w) l j)) w j hj (λ l hl ne. grind (arith, nat_tests, at-table w (delta S) l j, L.zero_right (at a i l), fa.members i l))
        ∙ grind (arith, nat_tests, at-table w (delta S) j j, L.one_right (at a i j), fa.members i j))
        ∙ sym (fit_is S w a fa)

-- a station's matrix is fit
pub Fit-station : (S : SemiringOps) (L : SemiringLaws S) (k : ℕ) → k ≤ 4 → (u d : ℕ) → In S u → In S d → Fit S (2 * k + 1) (station_matrix S k u d)
unfolding station_code
Fit-station S L k high u d hu hd = Fit-table S (2 * k + 1) (station_code S k u d) (omega arith) (λ i j hi hj. search (choice_in S, L.zero_in))
