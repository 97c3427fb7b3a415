-- All states of a list of stations, a state's weight, and the failing and the working figure as sums over the states.
-- Words: states, weight_of, weights_in, weight, sum_of_states, failing, working, ring_failing, ring_working.
use Rattle.std.specs.Prelude.{ℕ, Bool, true, false, cond, not, List, [], ◌∷◌, ◌++◌, map, filter}
use Rattle.semiring.specs.Algebra.{SemiringOps, product_of, sum_over}
use Rattle.station.specs.declared.record.Station.{Station}
use Rattle.station.specs.Weights.{up_weight, down_weight}
use Rattle.states.specs.Runs.{State, fails, ring_fails}

-- each station is up, or it is down
abbrev pub states : List Station → List State
states [] = [] ∷ []
states (x ∷ xs) = let rest = states xs in map (λ s. false ∷ s) rest ++ map (λ s. true ∷ s) rest

-- what a station weighs where it is down, and where it is up
abbrev pub weight_of : SemiringOps → Station → Bool → ℕ
weight_of S x d = cond d (down_weight S x) (up_weight S x)

-- what each station weighs in a state, in station order
abbrev pub weights_in : SemiringOps → List Station → State → List ℕ
weights_in S [] s = []
weights_in S (x ∷ xs) [] = []
weights_in S (x ∷ xs) (d ∷ s) = weight_of S x d ∷ weights_in S xs s

-- their product, from one
abbrev pub weight : SemiringOps → List Station → State → ℕ
weight S xs s = product_of S (weights_in S xs s)

-- the sum of the weights of the states that pass
abbrev pub sum_of_states : SemiringOps → List Station → (State → Bool) → ℕ
sum_of_states S xs test = sum_over S (weight S xs) (filter test (states xs))

-- the figures of a window
abbrev pub failing : SemiringOps → ℕ → List Station → ℕ
failing S k xs = sum_of_states S xs (fails k)

abbrev pub working : SemiringOps → ℕ → List Station → ℕ
working S k xs = sum_of_states S xs (λ s. not (fails k s))

-- the figures of the ring
abbrev pub ring_failing : SemiringOps → ℕ → List Station → ℕ
ring_failing S k xs = sum_of_states S xs (ring_fails k)

abbrev pub ring_working : SemiringOps → ℕ → List Station → ℕ
ring_working S k xs = sum_of_states S xs (λ s. not (ring_fails k s))
