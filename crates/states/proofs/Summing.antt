-- The figures read off the stations' product are the sums over the states, for the window and for the ring.
use Rattle.std.proofs.Common.{◌≡◌, ℕ, suc, ◌+◌, ◌-◌, ◌*◌, ◌<◌, ◌≤◌, min, Bool, true, false, not, ◌⊎◌, List, [], ◌∷◌, map, length, filter, sym, refl, ap, ◌∙◌, ap₂, arith}
use Rattle.std.specs.List.{range_with_len, All}
use Rattle.std.proofs.lemmas.Bool.Decides.{nat_tests}
use Rattle.std.proofs.lemmas.List.Elements.{recursion_from_All, All-nil, All-cons, All-append, All-map, All-weaker}
use Rattle.semiring.specs.Algebra.{SemiringOps, SemiringLaws, In, sum_over}
use Rattle.semiring.proofs.Sums.{sum_over_below, sum_over-sum, sum_over-cons, sum_over_swap, sum_over_pick, sum_over_all, sum_over_member}
use Rattle.station.specs.declared.record.Station.{Station}
use Rattle.matrix.specs.Matrix.{at}
use Rattle.matrix.specs.Chain.{failing_of, working_of, ring_failing_of, ring_working_of}
use Rattle.states.specs.Runs.{State, rear, fails, ring_fails}
use Rattle.states.specs.States.{states, weight, sum_of_states, failing, working, ring_failing, ring_working}
use Rattle.states.proofs.Running.{front-longest, ring_is}
use Rattle.states.proofs.Following.{led, last_run, peak, last_run-peak, led_tells}
use Rattle.states.proofs.Paths.{Weighed, chain, weight_in, if_so, if_so_in, path, path_in, paths}

-- a state says something of each station, and so does one with a station more
abbrev OfLength : ℕ → State → Type 0
OfLength n s = length s ≡ n

longer : (d : Bool) (n : ℕ) (ss : List State) → All (OfLength n) ss → All (OfLength (suc n)) (map (λ s. d ∷ s) ss)
longer d n ss all = All-map (OfLength (suc n)) (λ s. d ∷ s) ss (All-weaker (OfLength n) _ (λ s e. ap suc e) ss all)

length-states : (xs : List Station) → All (OfLength (length xs)) (states xs)
length-states [] = All-cons (OfLength 0) [] [] refl (All-nil (OfLength 0))
length-states (x ∷ xs) = let n = length xs in All-append (OfLength (suc n)) _ _ (longer false n (states xs) (length-states xs)) (longer true n (states xs) (length-states xs))

-- on a ring of at least k, from a run of j before the first station: the chain comes to the run at the end, or to k plus it, up to k
abbrev Comes : ℕ → State → ℕ → Type 0
Comes k s j = ((peak j s < k) × (rear s < k) × (led k j s ≡ rear s)) ⊎ ((k ≤ peak j s) × (led k j s ≡ k + min k (rear s)))

comes : (k : ℕ) (s : State) (j : ℕ) → k ≤ length s → j < k → Comes k s j
comes k s j round hj = grind (arith, nat_tests, led_tells k j s, last_run-peak j s)

module _ (S : SemiringOps) (L : SemiringLaws S) where
  -- the sum over those that pass
  kept_sum : {X : Type 0} (p : X → Bool) (f : X → ℕ) → ((x : X) → In S (f x)) → (xs : List X) → sum_over S f (filter p xs) ≡ sum_over S (λ x. if_so S (p x) (f x)) xs
  kept_sum p f hf [] = refl
  kept_sum p f hf (x ∷ xs) = grind (arith, kept_sum p f hf xs, sum_over-cons S L f hf x (filter p xs), sum_over-cons S L (λ y. if_so S (p y) (f y)) (λ y. if_so_in S L (p y) (f y) (hf y)) x xs, L.sum-zero, sum_over_member S L (λ y. if_so S (p y) (f y)) xs)

  module _ (k : ℕ) (low : 1 ≤ k) (high : k ≤ 4) (xs : List Station) (m : Weighed S xs) where
    -- what a state adds to the entries in row I r and column K r, for each r below n
    abbrev adds : ℕ → (ℕ → ℕ) → (ℕ → ℕ) → State → ℕ
    adds n I K s = sum_over S (λ r. path S k xs (I r) (K r) s) (range_with_len 0 n)

    adds_in : (n : ℕ) (I K : ℕ → ℕ) (s : State) → In S (adds n I K s)
    adds_in n I K s = sum_over_member S L _ (range_with_len 0 n)

    -- a sum of entries, as a sum over the states
    entries : (n : ℕ) (I K : ℕ → ℕ) → ((r : ℕ) → r < n → (I r < 2 * k + 1) × (K r < 2 * k + 1)) → sum_over S (λ r. at (chain S k xs) (I r) (K r)) (range_with_len 0 n) ≡ sum_over S (adds n I K) (states xs)
    entries n I K h =
        sum_over_below S _ _ n (λ r hr. paths S L k low high xs m (I r) (K r) (h r hr).0 (h r hr).1)
        ∙ sum_over_swap S L _ (λ r. path_in S L k xs (I r) (K r)) (range_with_len 0 n) (states xs)

    -- where it leads to none of them but entry p
    found : (n p : ℕ) (I K : ℕ → ℕ) (s : State) → p < n → ((r : ℕ) → r < n → led k (I r) s ≡ K r → r ≡ p) → adds n I K s ≡ path S k xs (I p) (K p) s
    found n p I K s hp only =
        sum_over_pick S L (λ r. path S k xs (I r) (K r) s) (λ r. path_in S L k xs (I r) (K r) s) n p hp (λ r hr ne. grind (arith, nat_tests, only r))

    -- on the line: from no run before the first station
    fails_at : (s : State) → adds (k + 1) (λ r. 0) (λ r. k + r) s ≡ if_so S (fails k s) (weight S xs s)
    fails_at s =
        found (k + 1) (min k (last_run 0 s)) (λ r. 0) (λ r. k + r) s (omega arith) (λ r hr e. omega (arith, led_tells k 0 s, last_run-peak 0 s))
        ∙ grind (arith, nat_tests, led_tells k 0 s, last_run-peak 0 s, front-longest s)

    works_at : (s : State) → adds k (λ r. 0) (λ r. r) s ≡ if_so S (not (fails k s)) (weight S xs s)
    works_at s =
        found k (min (k - 1) (last_run 0 s)) (λ r. 0) (λ r. r) s (omega arith) (λ r hr e. omega (arith, led_tells k 0 s))
        ∙ grind (arith, nat_tests, led_tells k 0 s, last_run-peak 0 s, front-longest s)

    -- on the ring: a state whose run at the end is below k counts in the row of that run alone, and one with k or more in row 0 alone
    ring_fails_at : (s : State) → k ≤ length s → S.sum (path S k xs 0 (2 * k) s) (adds k (λ j. j) (λ j. k + j) s) ≡ if_so S (ring_fails k s) (weight S xs s)
    ring_fails_at s round =
        let p = min (k - 1) (rear s) in
        ap (S.sum (path S k xs 0 (2 * k) s)) (found k p (λ j. j) (λ j. k + j) s (omega arith) (λ j hj e. omega (arith, comes k s j)))
        ∙ grind (arith, nat_tests, comes k s 0, comes k s p, ring_is s, L.sum_comm (weight S xs s) S.zero, L.sum-zero, L.zero_in, weight_in S L xs s)

    ring_works_at : (s : State) → k ≤ length s → adds k (λ j. j) (λ j. j) s ≡ if_so S (not (ring_fails k s)) (weight S xs s)
    ring_works_at s round =
        let p = min (k - 1) (rear s) in
        found k p (λ j. j) (λ j. j) s (omega arith) (λ j hj e. omega (arith, comes k s j)) ∙ grind (arith, nat_tests, comes k s p, ring_is s)

    -- the sum over the states that pass, where each adds its weight
    passing : (test : State → Bool) (f : State → ℕ) → ((s : State) → length s ≡ length xs → f s ≡ if_so S (test s) (weight S xs s)) → sum_over S f (states xs) ≡ sum_of_states S xs test
    passing test f h =
        sum_over_all S (OfLength (length xs)) f _ (states xs) (recursion_from_All (OfLength (length xs)) (states xs) (length-states xs)) h
        ∙ sym (kept_sum test (weight S xs) (weight_in S L xs) (states xs))

    pub window_sums : (failing_of S k (chain S k xs) ≡ failing S k xs) × (working_of S k (chain S k xs) ≡ working S k xs)
    window_sums = (
      entries (k + 1) (λ r. 0) (λ r. k + r) (λ r hr. omega arith) ∙ passing (fails k) _ (λ s e. fails_at s),
      entries k (λ r. 0) (λ r. r) (λ r hr. omega arith) ∙ passing (λ s. not (fails k s)) _ (λ s e. works_at s),
    )

    pub ring_sums : k ≤ length xs → (ring_failing_of S k (chain S k xs) ≡ ring_failing S k xs) × (ring_working_of S k (chain S k xs) ≡ ring_working S k xs)
    ring_sums round = (
      ap₂ S.sum (paths S L k low high xs m 0 (2 * k) (omega arith) (omega arith)) (entries k (λ j. j) (λ j. k + j) (λ j hj. omega arith))
          ∙ sym (sum_over-sum S L _ _ (path_in S L k xs 0 (2 * k)) (adds_in k (λ j. j) (λ j. k + j)) (states xs))
          ∙ passing (ring_fails k) _ (λ s e. ring_fails_at s (omega arith)),
      entries k (λ j. j) (λ j. j) (λ j hj. omega arith) ∙ passing (λ s. not (ring_fails k s)) _ (λ s e. ring_works_at s (omega arith)),
    )
