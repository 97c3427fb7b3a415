-- A semiring in which the order of factors matters: 0 is zero, 2 is one, sum is the greater, and a product is its first factor that is
-- not one, unless a factor is zero.
-- Words: first_decides.
use Rattle.std.specs.Prelude.{cond, max, ◌==◌, nat_le}
use Rattle.semiring.specs.Algebra.{SemiringOps}
use Rattle.semiring.specs.Models.{guarded}

abbrev pub first_decides : SemiringOps
first_decides = record {
  member = λ x. nat_le x 3;
  zero = 0;
  one = 2;
  sum = guarded (λ x. nat_le x 3) 0 max;
  product = guarded (λ x. nat_le x 3) 0 (λ x y. cond (y == 0) 0 (cond (x == 2) y x));
}
