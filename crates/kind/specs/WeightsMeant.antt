-- Weights over a lawful semiring are lawful, and the matrix of a stretch tells the sums over all states of its stations.
use Rattle.std.specs.Prelude.{◌≡◌, ℕ, ◌≤◌, true, List, [], ◌∷◌, refl}
use Rattle.std.proofs.Common.{arith}
use Rattle.semiring.specs.Algebra.{SemiringOps, SemiringLaws, In}
use Rattle.station.specs.declared.record.Station.{Station}
use Rattle.station.specs.declared.record.Status.{Status}
use Rattle.station.specs.Weights.{up_as, down_as}
use Rattle.matrix.proofs.Laws.{Fit-unit, Fit-matrix_product, product_assoc, product_unit_left, product_unit_right, Fit-station}
use Rattle.states.proofs.Paths.{Weighed, chain}
use Rattle.states.proofs.Summing.{window_sums, ring_sums}
use Rattle.kind.specs.Laws.{KindLaws}
use Rattle.kind.specs.Meaning.{Meant}
use Rattle.kind.specs.Stretch.{takes_all}
use Rattle.kind.specs.Weights.{weights_kind, weights_meaning}
use Rattle.kind.specs.JoinedRight.{joined_right, left_is_right}

-- the weights of a station whose codes are members are members
up_in : (S : SemiringOps) (L : SemiringLaws S) (t : Status) (x : ℕ) → In S x → In S (up_as S t x)
up_in S L t x h = grind (arith, L.zero_in, L.one_in)

down_in : (S : SemiringOps) (L : SemiringLaws S) (t : Status) (x : ℕ) → In S x → In S (down_as S t x)
down_in S L t x h = grind (arith, L.zero_in)

module _ (S : SemiringOps) (L : SemiringLaws S) where
  pub weights_lawful : (k : ℕ) → k ≤ 4 → KindLaws (weights_kind S k)
  weights_lawful k high = grind (arith, up_in S L, down_in S L, Fit-station S L, Fit-unit S L, Fit-matrix_product S L, product_assoc S L, product_unit_left S L, product_unit_right S L)

  weighed : (k : ℕ) (xs : List Station) → takes_all (weights_kind S k) xs ≡ true → Weighed S xs
  weighed k [] t = tt
  weighed k (x ∷ xs) t = grind (arith, up_in S L, down_in S L, weighed k xs)

  right_is_chain : (k : ℕ) (xs : List Station) → joined_right (weights_kind S k) xs ≡ chain S k xs
  right_is_chain k [] = refl
  right_is_chain k (x ∷ xs) = cc (right_is_chain k xs)

  pub weights_meant : (k : ℕ) → 1 ≤ k → k ≤ 4 → Meant (weights_kind S k) (weights_meaning S k)
  weights_meant k low high = grind (arith, left_is_right (weights_kind S k) (weights_lawful k high), right_is_chain, window_sums S L, ring_sums S L, weighed)
