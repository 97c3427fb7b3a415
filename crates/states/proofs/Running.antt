-- Runs in a state: how they grow by a station, and how the longest run around the ring comes from the line's and the seam's.
use Rattle.std.proofs.Common.{◌≡◌, ℕ, zero, suc, ◌+◌, ◌-◌, ◌<◌, ◌≤◌, min, max, Bool, cond, ◌⊎◌, [], ◌∷◌, ◌++◌, reverse, length, take, drop, refl, ap, inl, inr, arith, length-drop}
use mathlib.Core.List.{reverse-cons}
use Rattle.std.proofs.lemmas.List.{length-reverse}
use Rattle.std.proofs.lemmas.Bool.{cases_lt}
use Rattle.states.specs.Runs.{State, front, rear, greatest_below, longest, turned, ring_longest, seam_run}

-- the greatest of several numbers
pub below_greatest : (f : ℕ → ℕ) (n i : ℕ) → i < n → f i ≤ greatest_below f n
below_greatest f zero i h = absurd (omega arith)
below_greatest f (suc n) i h = grind (arith, below_greatest f n i)

greatest_within : (f : ℕ → ℕ) (n m : ℕ) → ((i : ℕ) → i < n → f i ≤ m) → greatest_below f n ≤ m
greatest_within f zero m h = omega arith
greatest_within f (suc n) m h = grind (arith, h n, greatest_within f n m (λ i lt. h i (omega arith)))

-- it is one of them, unless it is 0
abbrev pub GreatestAt : (ℕ → ℕ) → ℕ → Type 0
GreatestAt f n = (greatest_below f n ≡ 0) ⊎ ((i : ℕ) × (i < n) × (f i ≡ greatest_below f n))

pub greatest_at : (f : ℕ → ℕ) (n : ℕ) → GreatestAt f n
greatest_at f zero = inl refl
greatest_at f (suc n) = elim (cases_lt (f n) (greatest_below f n)) [
  | inl less ↦ elim (greatest_at f n) [ inl none ↦ absurd (omega arith) | inr at ↦ inr (at.0, omega (arith, at.1), omega (arith, at.2)) ]
  | inr here ↦ inr (n, omega arith, omega arith)
]

-- the first of them apart
greatest_first : (f : ℕ → ℕ) (n : ℕ) → greatest_below f (suc n) ≡ max (f 0) (greatest_below (λ i. f (suc i)) n)
greatest_first f zero = refl
greatest_first f (suc n) = omega (arith, greatest_first f n)

-- the longest run begins at the first station or further on
pub longest-cons : (d : Bool) (s : State) → longest (d ∷ s) ≡ max (front (d ∷ s)) (longest s)
longest-cons d s = greatest_first (λ i. front (drop i (d ∷ s))) (length s)

pub front_within : (s : State) → front s ≤ length s
front_within [] = omega arith
front_within (d ∷ s) = grind (arith, front_within s)

pub front-longest : (s : State) → front s ≤ longest s
front-longest [] = omega arith
front-longest (d ∷ s) = omega (arith, longest-cons d s)

-- a run at the front goes on where all before is down
front-append : (s t : State) → ((front s < length s) × (front (s ++ t) ≡ front s)) ⊎ ((front s ≡ length s) × (front (s ++ t) ≡ length s + front t))
front-append [] t = inr (refl, omega arith)
front-append (d ∷ s) t = grind (arith, front-append s t)

rear_within : (s : State) → rear s ≤ length s
rear_within s = omega (arith, length-reverse s, front_within (reverse s))

-- how the run at the end goes on, by whether it takes all
abbrev pub RearOn : Bool → State → Type 0
RearOn d s = ((rear s < length s) × (rear (d ∷ s) ≡ rear s)) ⊎ ((rear s ≡ length s) × (rear (d ∷ s) ≡ length s + cond d 1 0))

pub rear_cases : (d : Bool) (s : State) → RearOn d s
rear_cases d s = grind (arith, ap front (reverse-cons d s), front-append (reverse s) (d ∷ []), length-reverse s)

-- all from place i on are down exactly where the run at the end reaches back to it
all_from : (s : State) (i : ℕ) → i ≤ length s → ((front (drop i s) ≡ length s - i) × (length s ≤ rear s + i)) ⊎ ((front (drop i s) < length s - i) × (rear s + i < length s))
all_from [] zero within = inl (omega arith, omega arith)
all_from [] (suc i) within = absurd (omega arith)
all_from (d ∷ s) zero within = grind (arith, all_from s 0, rear_cases d s)
all_from (d ∷ s) (suc i) within = grind (arith, all_from s i, rear_cases d s)

-- all are down, from the front and from the end, or not
pub all_or_not : (s : State) → ((front s ≡ length s) × (rear s ≡ length s)) ⊎ ((front s < length s) × (rear s < length s))
all_or_not s = grind (arith, all_from s 0, rear_within s)

-- where not all are down, the runs at both ends lie apart
pub ends_apart : (s : State) → front s < length s → rear s + front s ≤ length s
ends_apart [] some_up = absurd (omega arith)
ends_apart (d ∷ s) some_up = grind (arith, ends_apart s, rear_cases d s, all_or_not s)

-- the run at the front of the first i stations
front-take : (s : State) (i : ℕ) → front (take i s) ≡ min i (front s)
front-take [] zero = refl
front-take [] (suc i) = omega arith
front-take (d ∷ s) zero = omega arith
front-take (d ∷ s) (suc i) = grind (arith, front-take s i)

-- every run lies within the longest
within_longest : (s : State) (i : ℕ) → i < length s → front (drop i s) ≤ longest s
within_longest s i there = below_greatest (λ j. front (drop j s)) (length s) i there

pub rear-longest : (s : State) → rear s ≤ longest s
rear-longest [] = omega arith
rear-longest (d ∷ s) = grind (arith, rear-longest s, rear_cases d s, longest-cons d s, all_or_not s)

-- what is seen from place i once round: a run of the line, or one that crosses the seam
abbrev Seen : State → ℕ → Type 0
Seen s i = ((rear s + i < length s) × (front (turned s i) ≡ front (drop i s))) ⊎ ((length s ≤ rear s + i) × (front (turned s i) ≡ length s - i + min i (front s)))

seen : (s : State) (i : ℕ) → i ≤ length s → Seen s i
seen s i within = grind (arith, front-append (drop i s) (take i s), length-drop i s, front-take s i, all_from s i)

seen_within : (s : State) (i : ℕ) → i < length s → front (turned s i) ≤ ring_longest s
seen_within s i there = below_greatest (λ j. front (turned s j)) (length s) i there

-- the run across the seam, seen from where the run at the end begins
pub seam_seen : (s : State) → seam_run s ≡ front (turned s (length s - rear s))
seam_seen s = grind (arith, rear_within s, seen s (length s - rear s))

-- around the ring: the longest run of the line, or the run across the seam
pub ring_is : (s : State) → ring_longest s ≡ max (longest s) (seam_run s)
ring_is s = grind (arith, high, line, seam_seen s, seen_within s (length s - rear s), front-longest s)
  where
    high : ring_longest s ≤ max (longest s) (seam_run s)
    high = greatest_within (λ i. front (turned s i)) (length s) (max (longest s) (seam_run s)) (λ i lt. omega (arith, seen s i (omega arith), within_longest s i lt))

    line : longest s ≤ ring_longest s
    line = greatest_within (λ i. front (drop i s)) (length s) (ring_longest s) (λ i lt. omega (arith, all_from s i, seen s i (omega arith), seen_within s i lt))

pub longest_within : (s : State) → longest s ≤ length s
longest_within s = greatest_within (λ i. front (drop i s)) (length s) (length s) (λ i lt. omega (arith, front_within (drop i s), length-drop i s))
