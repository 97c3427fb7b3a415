-- At every row the definitions give what the rulebook has.
use Rattle.std.specs.Prelude.{◌≡◌, refl}
use Rattle.tree.specs.Shape.{height}
use Rattle.examples.specs.declared.row.Row.{Row}
use Rattle.examples.specs.declared.row.Row.TheVariants.{OneForTwo, OneForOne, FourForTwo, RingOfFour, FiveForThree, RingOfFive, MiddleOfFive, ResiduesOfFour, ResiduesRing, CheapestBreak, CheapestRingBreak, BreakWithoutFirst, FullCount, Runs, RunsRing}
use Rattle.examples.specs.Rows.{defined, rulebook}

pub defined_is_rulebook : (row : Row) → defined row ≡ rulebook row
unfolding height
defined_is_rulebook OneForTwo = refl
defined_is_rulebook OneForOne = refl
defined_is_rulebook FourForTwo = refl
defined_is_rulebook RingOfFour = refl
defined_is_rulebook FiveForThree = refl
defined_is_rulebook RingOfFive = refl
defined_is_rulebook MiddleOfFive = refl
defined_is_rulebook ResiduesOfFour = refl
defined_is_rulebook ResiduesRing = refl
defined_is_rulebook CheapestBreak = refl
defined_is_rulebook CheapestRingBreak = refl
defined_is_rulebook BreakWithoutFirst = refl
defined_is_rulebook FullCount = refl
defined_is_rulebook Runs = refl
defined_is_rulebook RunsRing = refl
