-- The words of this crate said again by places: each state is listed once, a state fails where k neighbours are down, and the run
-- across the seam is one that is seen around the ring.
-- Words: same_state, times_in, EachStateOnce, InARow, Around, FailsInARow, RingFailsAround, SeamRunOnce.
use Rattle.std.specs.Prelude.{◌≡◌, ℕ, ◌+◌, ◌-◌, ◌%◌, ◌<◌, ◌≤◌, Bool, true, false, cond, not, ◌&&◌, List, [], ◌∷◌, length, ◌==◌, slice_index_or}
use Rattle.station.specs.declared.record.Station.{Station}
use Rattle.states.specs.Runs.{State, front, rear, turned, seam_run, fails, ring_fails}
use Rattle.states.specs.States.{states}

-- both say the same of each station
abbrev pub same_state : State → State → Bool
same_state [] [] = true
same_state [] (e ∷ t) = false
same_state (d ∷ s) [] = false
same_state (d ∷ s) (e ∷ t) = cond d e (not e) && same_state s t

-- how often a state is listed
abbrev pub times_in : State → List State → ℕ
times_in s [] = 0
times_in s (t ∷ ts) = cond (same_state s t) 1 0 + times_in s ts

-- the stations have each state once, and none for another number of stations
abbrev pub EachStateOnce : Type 0
EachStateOnce = (xs : List Station) (s : State) → times_in s (states xs) ≡ cond (length s == length xs) 1 0

-- k neighbours are down, from a place on
pub record InARow (k : ℕ) (s : State) : Type 0 where
  pub place : ℕ
  pub within : place + k ≤ length s
  pub down : (j : ℕ) → j < k → slice_index_or s (place + j) false ≡ true

-- k neighbours are down around the ring, from a place on: k different stations
pub record Around (k : ℕ) (s : State) : Type 0 where
  pub place : ℕ
  pub within : place < length s
  pub once : k ≤ length s
  pub down : (j : ℕ) → j < k → slice_index_or s ((place + j) % length s) false ≡ true

-- a state fails exactly where k neighbours are down
abbrev pub FailsInARow : Type 0
FailsInARow = (k : ℕ) (s : State) → 1 ≤ k → (fails k s ≡ true → InARow k s) × (InARow k s → fails k s ≡ true)

abbrev pub RingFailsAround : Type 0
RingFailsAround = (k : ℕ) (s : State) → 1 ≤ k → (ring_fails k s ≡ true → Around k s) × (Around k s → ring_fails k s ≡ true)

-- the run across the seam is the one that is seen from where the run at the end begins, once round
abbrev pub SeamRunOnce : Type 0
SeamRunOnce = (s : State) → seam_run s ≡ front (turned s (length s - rear s))
