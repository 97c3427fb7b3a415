-- The definitions by places: each state is listed once; the longest run reaches k exactly where k neighbours are down.
use Rattle.std.proofs.Common.{◌≡◌, ℕ, zero, suc, ◌+◌, ◌%◌, ◌<◌, ◌≤◌, Bool, true, false, cond, not, List, [], ◌∷◌, ◌++◌, map, length, get_or, drop, refl, mod-eq_of_lt, arith}
use native.Mathlib.Nat.{mod-eq-sub-mod}
use Rattle.std.proofs.lemmas.Bool.Decides.{nat_tests}
use Rattle.std.proofs.lemmas.Grind.{elements}
use Rattle.states.specs.Runs.{State, front, greatest_below, turned}
use Rattle.states.specs.Places.{times_in, EachStateOnce, FailsInARow, RingFailsAround}
use Rattle.states.proofs.Running.{below_greatest, greatest_at, front_within}

-- how often, in a list of two parts, and behind one station that is up or down
times_in-append : (s : State) (ts us : List State) → times_in s (ts ++ us) ≡ times_in s ts + times_in s us
times_in-append s [] us = omega arith
times_in-append s (t ∷ ts) us = omega (arith, times_in-append s ts us)

none_empty : (e : Bool) (ts : List State) → times_in [] (map (λ t. e ∷ t) ts) ≡ 0
none_empty e [] = refl
none_empty e (t ∷ ts) = omega (arith, none_empty e ts)

times_in_behind : (d e : Bool) (s : State) (ts : List State) → times_in (d ∷ s) (map (λ t. e ∷ t) ts) ≡ cond (cond d e (not e)) (times_in s ts) 0
times_in_behind d e s [] = grind arith
times_in_behind d e s (t ∷ ts) = grind (arith, times_in_behind d e s ts)

pub each_state_once : EachStateOnce
each_state_once [] [] = refl
each_state_once [] (d ∷ s) = grind (arith, nat_tests)
each_state_once (x ∷ xs) [] = simp (times_in-append, none_empty) (grind (arith, nat_tests))
each_state_once (x ∷ xs) (d ∷ s) = simp (times_in-append, times_in_behind) (grind (arith, nat_tests, each_state_once xs s))

-- the run at the front, by places
front_down : (s : State) (j : ℕ) → j < front s → get_or s j false ≡ true
front_down [] j h = absurd (omega arith)
front_down (d ∷ s) zero h = grind arith
front_down (d ∷ s) (suc j) h = grind (arith, front_down s j)

down_front : (s : State) (k : ℕ) → ((j : ℕ) → j < k → get_or s j false ≡ true) → k ≤ front s
down_front s zero h = omega arith
down_front [] (suc k) h = grind (arith, h 0)
down_front (d ∷ s) (suc k) h = grind (arith, h 0, down_front s k (λ j lt. h (suc j) (omega arith)))

-- k are reached from some place on
reached : (f : ℕ → ℕ) (n k : ℕ) → 1 ≤ k → k ≤ greatest_below f n → (i : ℕ) × (i < n) × (k ≤ f i)
reached f n k low h = grind (arith, greatest_at f n)

pub fails_in_a_row : FailsInARow
fails_in_a_row k s low = (
  λ h.
      let at = reached (λ i. front (drop i s)) (length s) k low (grind (arith, nat_tests)) in
      record {
        place = at.0;
        within = grind (arith, elements, at.1, at.2, front_within (drop at.0 s));
        down = λ j lt. grind (arith, elements, at.2, front_down (drop at.0 s) j);
      },
  λ r. grind (arith, nat_tests, down_front (drop r.place s) k (λ j lt. grind (arith, elements, r.down j)), below_greatest (λ i. front (drop i s)) (length s) r.place),
)

-- what stands at a place of the ring, seen from place i on
turned_at : (s : State) (i j : ℕ) → i < length s → j < length s → get_or (turned s i) j false ≡ get_or s ((i + j) % length s) false
turned_at s i j hi hj = grind (arith, elements, mod-eq_of_lt, mod-eq-sub-mod)

pub ring_fails_around : RingFailsAround
ring_fails_around k s low = (
  λ h.
      let at = reached (λ i. front (turned s i)) (length s) k low (grind (arith, nat_tests)) in
      let once : k ≤ length s = grind (arith, elements, at.1, at.2, front_within (turned s at.0)) in
      record {
        place = at.0;
        within = at.1;
        once = once;
        down = λ j lt. grind (arith, at.1, at.2, turned_at s at.0 j, front_down (turned s at.0) j);
      },
  λ r. grind (arith, nat_tests, down_front (turned s r.place) k (λ j lt. grind (arith, turned_at s r.place j, r.down j)), below_greatest (λ i. front (turned s i)) (length s) r.place),
)
