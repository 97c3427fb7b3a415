-- Counts are a lawful semiring: whole numbers, capped.
use Rattle.std.specs.Prelude.{◌≡◌, ℕ, ◌*◌, ◌<◌, min, true, nat_le, refl}
use Rattle.std.proofs.Common.{arith}
use Rattle.std.proofs.lemmas.Bool.{le-leb, leb-true}
use Rattle.semiring.specs.Algebra.{SemiringLaws}
use Rattle.semiring.specs.Models.{counts}
use Rattle.semiring.specs.Reduced.{Reduction, reduced_lawful}

-- a cap may be made before a product
capped-product : (a z : ℕ) → min (min a 1000000000 * z) 1000000000 ≡ min (a * z) 1000000000
capped-product a z = grind arith

pub counts_reduction : Reduction (λ x. nat_le x 1000000000) (λ n. min n 1000000000)
counts_reduction = record {
  zero_in = refl;
  one_in = refl;
  reduced_in = λ n. omega (arith, le-leb);
  same = λ n h. omega (arith, leb-true);
  before_sum = λ a z. omega arith;
  before_product = capped-product;
}

pub counts_small : (n : ℕ) → nat_le n 1000000000 ≡ true → n < 4294967296
counts_small n h = omega (arith, leb-true)

pub counts_lawful : SemiringLaws counts
counts_lawful = reduced_lawful _ _ counts_reduction
