-- The example rows: what is asked of which stations, the answers by the definitions (sums over all states, runs, largest whole blocks), and
-- those that the rulebook has.
-- Words: station, even, priced, marked_four, Question, window, ring, question, question_blocks, question_figures, defined, answer, rulebook.
use Rattle.std.specs.Prelude.{List, [], ◌∷◌, ℕ, ◌-◌, Bool, true, false, cond, replicate, length}
use Rattle.semiring.specs.Models.{counts, residues, costs}
use Rattle.station.specs.declared.record.Station.{Station}
use Rattle.station.specs.declared.record.Status.{Status}
use Rattle.station.specs.declared.record.Status.TheVariants.{Judged, Down, Up}
use Rattle.station.specs.Labels.{station_with}
use Rattle.kind.specs.declared.figures.Figures.{Figures}
use Rattle.kind.specs.Meaning.{both, Meaning}
use Rattle.kind.specs.Runs.{runs_meaning}
use Rattle.kind.specs.Weights.{weights_meaning}
use Rattle.tree.specs.Shape.{height}
use Rattle.tree.specs.Blocks.{blocks}
use Rattle.tree.specs.Gathered.{stretch}
use Rattle.examples.specs.declared.row.Answer.{Answer}
use Rattle.examples.specs.declared.row.Row.{Row}
use Rattle.examples.specs.declared.row.Row.TheVariants.{OneForTwo, OneForOne, FourForTwo, RingOfFour, FiveForThree, RingOfFive, MiddleOfFive, ResiduesOfFour, ResiduesRing, CheapestBreak, CheapestRingBreak, BreakWithoutFirst, FullCount, Runs, RunsRing}

-- a station without a label
abbrev pub station : Status → ℕ → ℕ → Station
station status up down = station_with [] status up down

-- n stations of up 1 and down 1
abbrev pub even : ℕ → List Station
even n = replicate n (station Judged 1 1)

-- stations that cost 2, 9, 4 and 1 to put out; the first with a status
abbrev pub priced : Status → List Station
priced status = station status 0 2 ∷ station Judged 0 9 ∷ station Judged 0 4 ∷ station Judged 0 1 ∷ []

-- down, down, up, down
abbrev pub marked_four : List Station
marked_four = station Down 0 0 ∷ station Down 0 0 ∷ station Up 0 0 ∷ station Down 0 0 ∷ []

-- what is asked: of places first to last of the stations, as a window or as the ring, and what the figures mean
pub record Question : Type 0 where
  pub meaning : Meaning
  pub stations : List Station
  pub first : ℕ
  pub last : ℕ
  pub ring : Bool

-- of all places
abbrev pub window : Meaning → List Station → Question
window m xs = record { meaning = m; stations = xs; first = 1; last = length xs; ring = false }

abbrev pub ring : Meaning → List Station → Question
ring m xs = record { meaning = m; stations = xs; first = 1; last = length xs; ring = true }

abbrev pub question : Row → Question
question OneForTwo = window (weights_meaning counts 2) (even 1)
question OneForOne = window (weights_meaning counts 1) (even 1)
question FourForTwo = window (weights_meaning counts 2) (even 4)
question RingOfFour = ring (weights_meaning counts 2) (even 4)
question FiveForThree = window (weights_meaning counts 3) (even 5)
question RingOfFive = ring (weights_meaning counts 3) (even 5)
question MiddleOfFive = record { meaning = weights_meaning counts 3; stations = even 5; first = 2; last = 4; ring = false }
question ResiduesOfFour = window (weights_meaning (residues 7) 2) (even 4)
question ResiduesRing = ring (weights_meaning (residues 7) 2) (even 4)
question CheapestBreak = window (weights_meaning costs 2) (priced Judged)
question CheapestRingBreak = ring (weights_meaning costs 2) (priced Judged)
question BreakWithoutFirst = ring (weights_meaning costs 2) (priced Up)
question FullCount = window (weights_meaning counts 1) (replicate 2 (station Judged 1 1000000000))
question Runs = window runs_meaning marked_four
question RunsRing = ring runs_meaning marked_four

-- the question's largest whole blocks
abbrev pub question_blocks : Question → List ℕ
question_blocks q = blocks (height (length q.stations)) q.first q.last

abbrev pub question_figures : Question → Figures
question_figures q = let xs = stretch q.stations q.first q.last in cond q.ring (q.meaning.ring xs) (q.meaning.window xs)

-- the figures that the definitions give, and a join for each block but one
abbrev pub defined : Row → Answer
defined row = let q = question row in record { figures = question_figures q; joins = length (question_blocks q) - 1 }

abbrev pub answer : ℕ → ℕ → ℕ → Answer
answer x y joins = record { figures = both x y; joins = joins }

-- what the rulebook has
abbrev pub rulebook : Row → Answer
rulebook OneForTwo = answer 0 2 0
rulebook OneForOne = answer 1 1 0
rulebook FourForTwo = answer 8 8 0
rulebook RingOfFour = answer 9 7 0
rulebook FiveForThree = answer 8 24 1
rulebook RingOfFive = answer 11 21 1
rulebook MiddleOfFive = answer 1 7 1
rulebook ResiduesOfFour = answer 1 1 0
rulebook ResiduesRing = answer 2 0 0
rulebook CheapestBreak = answer 5 0 0
rulebook CheapestRingBreak = answer 3 0 0
rulebook BreakWithoutFirst = answer 5 0 0
rulebook FullCount = answer 1000000000 1 0
rulebook Runs = answer 2 2 0
rulebook RunsRing = answer 3 3 0
