-- Where a state of the stations leads along the chain of runs: the chain's state tells the run at the end, and whether k were down in a row.
use Rattle.std.proofs.Common.{◌≡◌, ℕ, ◌+◌, ◌<◌, ◌≤◌, min, max, cond, eqb, ◌⊎◌, [], ◌∷◌, length, arith}
use Rattle.std.proofs.lemmas.Bool.Decides.{nat_tests}
use Rattle.matrix.specs.Chain.{after_up, after_down}
use Rattle.states.specs.Runs.{State, front, rear, longest}
use Rattle.states.proofs.Running.{longest-cons, front-longest, rear_cases, rear-longest, all_or_not}

-- the chain's state after a state of the stations, from its state i on
abbrev pub led : ℕ → ℕ → State → ℕ
led k i [] = i
led k i (d ∷ s) = led k (cond d (after_down k i) (after_up k i)) s

-- the run at the end, and the longest run, where a stations down stand before the first
abbrev pub last_run : ℕ → State → ℕ
last_run a s = cond (eqb (rear s) (length s)) (a + rear s) (rear s)

abbrev pub peak : ℕ → State → ℕ
peak a s = max (longest s) (a + front s)

pub last_run-peak : (a : ℕ) (s : State) → last_run a s ≤ peak a s
last_run-peak a s = grind (arith, nat_tests, rear-longest s, all_or_not s)

-- up and down lead apart
pub up_not_down : (k i : ℕ) → 1 ≤ k → after_up k i ≡ after_down k i → ⊥
unfolding after_up after_down
up_not_down k i low same = grind (arith, nat_tests)

-- once k were down in a row, the chain tells the run at the end up to k
led_late : (k a : ℕ) (s : State) → led k (k + min k a) s ≡ k + min k (last_run a s)
unfolding after_up after_down
led_late k a [] = grind arith
led_late k a (d ∷ s) = grind (arith, nat_tests, led_late k (cond d (a + 1) 0) s, rear_cases d s)

-- from a run of j on, with no k in a row yet
abbrev pub Tells : ℕ → ℕ → State → Type 0
Tells k j s = ((peak j s < k) × (led k j s ≡ last_run j s)) ⊎ ((k ≤ peak j s) × (led k j s ≡ k + min k (last_run j s)))

pub led_tells : (k j : ℕ) (s : State) → j < k → Tells k j s
unfolding after_up after_down
led_tells k j [] h = grind arith
led_tells k j (d ∷ s) h = grind (arith, nat_tests, led_tells k (cond d (j + 1) 0) s, longest-cons d s, front-longest s, rear_cases d s, led_late k (j + 1) s)
