-- The panel's number of each refusal, and how a contract speaks of an answer that may be one.
-- Words: number, by_number, by_number_as, first, answered.
use Rattle.std.specs.Prelude.{ℕ, Bool, cond, List, [], ◌∷◌, Some, None, Ok, Err, Option, Result}
use Rattle.refusal.specs.declared.Refusal.{Refusal}
use Rattle.refusal.specs.declared.Refusal.TheVariants.{OutOfRange, SpaceTooShort, TooManyStations, BadLabel, NotTaken, OutsideLine, NoStation, RingTooShort, TrialOpen, NoTrial, JournalFull, BadEntry}

abbrev pub number : Refusal → ℕ
number OutOfRange = 1
number SpaceTooShort = 2
number TooManyStations = 3
number BadLabel = 4
number NotTaken = 5
number OutsideLine = 6
number NoStation = 7
number RingTooShort = 8
number TrialOpen = 9
number NoTrial = 10
number JournalFull = 11
number BadEntry = 12

-- an answer as the panel shows it: a value by what is read off it, or a refusal's number
abbrev pub by_number_as : {A B : Type 0} → (A → B) → Result A Refusal → Result B ℕ
by_number_as f (Ok v) = Ok (f v)
by_number_as f (Err e) = Err (number e)

abbrev pub by_number : {A : Type 0} → Result A Refusal → Result A ℕ
by_number r = by_number_as (λ v. v) r

-- the number of the first condition that holds, in the order of the checks
abbrev pub first : List (Bool × ℕ) → Option ℕ
first [] = None
first (check ∷ rest) = cond check.0 (Some check.1) (first rest)

-- the value where nothing refuses, else the number
abbrev pub answered : {A : Type 0} → Option ℕ → A → Result A ℕ
answered None v = Ok v
answered (Some n) v = Err n
