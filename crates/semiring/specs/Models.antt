-- The three semirings that are shipped.
-- Words: guarded, reduced, counts, residues, modulus_refusal, none, both_costs, costs.
use Rattle.std.specs.Prelude.{ℕ, ◌+◌, ◌*◌, ◌%◌, min, Bool, cond, not, ◌&&◌, ◌||◌, [], ◌∷◌, Option, ◌==◌, nat_le, nat_lt}
use Rattle.refusal.specs.Refusals.{first}
use Rattle.semiring.specs.Algebra.{SemiringOps}

-- an operation on members, made one on all codes: zero where a code is no member
abbrev pub guarded : (ℕ → Bool) → ℕ → (ℕ → ℕ → ℕ) → ℕ → ℕ → ℕ
guarded member nil op x y = cond (member x && member y) (op x y) nil

-- whole numbers with sums and products reduced to members
abbrev pub reduced : (ℕ → Bool) → (ℕ → ℕ) → SemiringOps
reduced member reduce = record {
  member = member;
  zero = 0;
  one = 1;
  sum = guarded member 0 (λ x y. reduce (x + y));
  product = guarded member 0 (λ x y. reduce (x * y));
}

abbrev pub counts : SemiringOps
counts = reduced (λ x. nat_le x 1000000000) (λ n. min n 1000000000)

abbrev pub residues : ℕ → SemiringOps
residues m = reduced (λ x. nat_lt x m) (λ n. n % m)

abbrev pub modulus_refusal : ℕ → Option ℕ
modulus_refusal m = first ((not (nat_le 2 m && nat_le m 2147483647), 1) ∷ [])

-- the code of what cannot be had
abbrev pub none : ℕ
none = 1000000000001

-- both costs together; none absorbs
abbrev pub both_costs : ℕ → ℕ → ℕ
both_costs x y = cond (x == none || y == none) none (min (x + y) 1000000000000)

abbrev pub costs : SemiringOps
costs = record {
  member = λ x. nat_le x none;
  zero = none;
  one = 0;
  sum = guarded (λ x. nat_le x none) none min;
  product = guarded (λ x. nat_le x none) none both_costs;
}
