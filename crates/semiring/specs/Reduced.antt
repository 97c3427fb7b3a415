-- Whole numbers under a reduction are a semiring: the one argument for counts and residues.
use Rattle.std.specs.Prelude.{◌≡◌, ℕ, ◌+◌, ◌*◌, ◌≤◌, Bool, true}
use Rattle.std.proofs.Common.{add_assoc, add_comm, zero-add, mul_assoc, mul_comm, mul-add, add-mul, one-mul, mul-one, zero-mul, mul-zero, arith}
use Rattle.semiring.specs.Algebra.{SemiringLaws}
use Rattle.semiring.specs.Models.{reduced, guarded}

-- a reduction leaves members as they are, and may be made before a sum or a product
pub record Reduction (member : ℕ → Bool) (reduce : ℕ → ℕ) : Type 0 where
  pub zero_in : member 0 ≡ true
  pub one_in : member 1 ≡ true
  pub reduced_in : (n : ℕ) → member (reduce n) ≡ true
  pub same : (n : ℕ) → member n ≡ true → reduce n ≡ n
  pub before_sum : (a z : ℕ) → reduce (reduce a + z) ≡ reduce (a + z)
  pub before_product : (a z : ℕ) → reduce (reduce a * z) ≡ reduce (a * z)

module _ (member : ℕ → Bool) (reduce : ℕ → ℕ) (R : Reduction member reduce) where
  after_sum : (a z : ℕ) → reduce (z + reduce a) ≡ reduce (z + a)
  after_sum a z = rw (add_comm z (reduce a), add_comm z a) (R.before_sum a z)

  after_product : (a z : ℕ) → reduce (z * reduce a) ≡ reduce (z * a)
  after_product a z = rw (mul_comm z (reduce a), mul_comm z a) (R.before_product a z)

  pub reduced_starts : (growth : ℕ) → (reduce 0 ≡ 0) × (0 ≤ growth)
  reduced_starts growth = (R.same 0 R.zero_in, omega arith)

  -- the reduction of a total and a product together is the sum of both reduced
  pub plus_reduced : (t x y : ℕ) → member x ≡ true → member y ≡ true
      → guarded member 0 (λ a b. reduce (a + b)) (reduce t) (guarded member 0 (λ a b. reduce (a * b)) x y) ≡ reduce (t + x * y)
  plus_reduced t x y hx hy = simp (hx, hy, R.reduced_in, R.before_sum, after_sum)

  pub reduced_lawful : SemiringLaws (reduced member reduce)
  reduced_lawful = record {
    zero_in = R.zero_in;
    one_in = R.one_in;
    sum_in = λ x y hx hy. simp (hx, hy, R.reduced_in);
    product_in = λ x y hx hy. simp (hx, hy, R.reduced_in);
    sum_assoc = λ x y z hx hy hz. simp (hx, hy, hz, R.reduced_in, R.before_sum, after_sum, add_assoc);
    sum_comm = λ x y hx hy. simp (hx, hy, add_comm);
    sum-zero = λ x hx. simp (hx, R.zero_in, zero-add, R.same);
    product_assoc = λ x y z hx hy hz. simp (hx, hy, hz, R.reduced_in, R.before_product, after_product, mul_assoc);
    one_left = λ x hx. simp (hx, R.one_in, one-mul, R.same);
    one_right = λ x hx. simp (hx, R.one_in, mul-one, R.same);
    zero_left = λ x hx. simp (hx, R.zero_in, zero-mul, R.same);
    zero_right = λ x hx. simp (hx, R.zero_in, mul-zero, R.same);
    product-sum = λ x y z hx hy hz. simp (hx, hy, hz, R.reduced_in, R.before_sum, after_sum, after_product, mul-add);
    sum-product = λ x y z hx hy hz. simp (hx, hy, hz, R.reduced_in, R.before_sum, after_sum, R.before_product, add-mul);
    sum_out = λ x y out. simp out;
    product_out = λ x y out. simp out;
  }
