-- The range of k, the number of neighbours down in a row that makes a failure.
-- Words: threshold_refusal.
use Rattle.std.specs.Prelude.{ℕ, not, ◌&&◌, [], ◌∷◌, Option, nat_le}
use Rattle.refusal.specs.Refusals.{first}

abbrev pub threshold_refusal : ℕ → Option ℕ
threshold_refusal k = first ((not (nat_le 1 k && nat_le k 4), 1) ∷ [])
