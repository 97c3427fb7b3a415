-- Residues are a lawful semiring: whole numbers by their remainders.
use Rattle.std.specs.Prelude.{◌≡◌, ℕ, ◌*◌, ◌%◌, ◌<◌, ◌≤◌, true, nat_lt}
use Rattle.std.proofs.Common.{mod-eq_of_lt, arith}
use Rattle.std.proofs.Math.Nat.{mod-add-mod}
use Rattle.std.proofs.lemmas.Bool.{lt-ltb, ltb-true}
use Rattle.std.proofs.lemmas.Nat.{mul-mod_first}
use Rattle.semiring.specs.Algebra.{SemiringLaws}
use Rattle.semiring.specs.Models.{residues}
use Rattle.semiring.specs.Reduced.{Reduction, reduced_lawful}

-- a remainder may be taken before a product
mod-product : (a z m : ℕ) → (a % m * z) % m ≡ (a * z) % m
mod-product a z m = mul-mod_first a z m

pub residues_reduction : (m : ℕ) → 2 ≤ m → Reduction (λ x. nat_lt x m) (λ n. n % m)
residues_reduction m low = record {
  zero_in = omega (arith, lt-ltb);
  one_in = omega (arith, lt-ltb);
  reduced_in = λ n. omega (arith, lt-ltb);
  same = λ n h. mod-eq_of_lt (ltb-true n m h);
  before_sum = λ a z. mod-add-mod a m z;
  before_product = λ a z. mod-product a z m;
}

pub residues_small : (m : ℕ) → m ≤ 2147483647 → (n : ℕ) → nat_lt n m ≡ true → n < 4294967296
residues_small m high n h = omega (arith, ltb-true)

pub residues_lawful : (m : ℕ) → 2 ≤ m → SemiringLaws (residues m)
residues_lawful m low = reduced_lawful _ _ (residues_reduction m low)
