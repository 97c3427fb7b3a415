-- States of a stretch of stations, and the runs of stations that are down in one: on the line, and around the ring.
-- Words: State, front, rear, greatest_below, longest, turned, ring_longest, seam_run, fails, ring_fails.
use Rattle.std.specs.Prelude.{ℕ, zero, suc, ◌+◌, min, max, Bool, cond, List, [], ◌∷◌, ◌++◌, reverse, length, take, drop, nat_le}

-- says of each station, in station order, whether it is down
abbrev pub State : Type 0
State = List Bool

-- the run at the front: how many are down before the first that is not
abbrev pub front : State → ℕ
front [] = 0
front (d ∷ s) = cond d (front s + 1) 0

-- the run at the end
abbrev pub rear : State → ℕ
rear s = front (reverse s)

-- the greatest of f 0, f 1 and so on below n; 0 where there is none
abbrev pub greatest_below : (ℕ → ℕ) → ℕ → ℕ
greatest_below f zero = 0
greatest_below f (suc n) = max (f n) (greatest_below f n)

-- the longest run: looking from each station on to the last
abbrev pub longest : State → ℕ
longest s = greatest_below (λ i. front (drop i s)) (length s)

-- the ring as it is seen from place i on: all stations, once
abbrev pub turned : State → ℕ → State
turned s i = drop i s ++ take i s

-- the longest run around the ring: looking from each station once round, so that a run counts a station once
abbrev pub ring_longest : State → ℕ
ring_longest s = greatest_below (λ i. front (turned s i)) (length s)

-- the run across the seam: the run at the end and the run at the front, which are one run; a station counts once
abbrev pub seam_run : State → ℕ
seam_run s = min (length s) (rear s + front s)

-- at least k neighbouring stations are down
abbrev pub fails : ℕ → State → Bool
fails k s = nat_le k (longest s)

-- the same where the last and the first station are neighbours
abbrev pub ring_fails : ℕ → State → Bool
ring_fails k s = nat_le k (ring_longest s)
