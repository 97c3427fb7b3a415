-- Elements joined from left to right, and how many joinings that is.
-- Words: nothing, joinings, joined_on, nodes_joined, window_joining, as_joining, joining_refusal, stretch, joined_stations, StandsForTaken, WindowLaws.
use Rattle.std.specs.Prelude.{◌≡◌, ℕ, ◌+◌, ◌-◌, true, List, Option, Some, None, length, fold, slice_range}
use Rattle.station.specs.declared.record.Station.{Station}
use Rattle.kind.specs.Laws.{KindOps}
use Rattle.kind.specs.Stretch.{takes_all, joined_all}
use Rattle.tree.specs.declared.gathered.Joining.{Joining}
use Rattle.tree.specs.declared.gathered.Gathered.{Gathered}
use Rattle.tree.specs.Shape.{height}
use Rattle.tree.specs.Blocks.{CutsUp, blocks, BlockJoins}
use Rattle.tree.specs.Nodes.{node, beside, StandsFor}

abbrev pub nothing : {E : Type 0} → Joining E
nothing = record { element = None; joins = 0 }

-- how many joinings it is to put two elements side by side
abbrev pub joinings : {E : Type 0} → Option E → Option E → ℕ
joinings None b = 0
joinings (Some a) None = 0
joinings (Some a) (Some b) = 1

-- one element more at the right
abbrev pub joined_on : {E C : Type 0} → KindOps E C → Joining E → Option E → Joining E
joined_on o s e = record { element = beside o s.element e; joins = s.joins + joinings s.element e }

-- the elements that these nodes stand for, whatever they hold, joined on one by one
abbrev pub nodes_joined : {E C : Type 0} → KindOps E C → List C → Joining E → List ℕ → Joining E
nodes_joined o nodes s is = fold (λ s i. joined_on o s (node o nodes i)) s is

-- the nodes of a window's largest whole blocks joined from left to right, in a tree over n stations
abbrev pub window_joining : {E C : Type 0} → KindOps E C → ℕ → List C → ℕ → ℕ → Joining E
window_joining o n nodes first last = nodes_joined o nodes nothing (blocks (height n) first last)

-- an answer as a joining
abbrev pub as_joining : {E : Type 0} → Gathered E → Joining E
as_joining g = record { element = Some g.element; joins = g.joins }

-- of a joining that has no element
abbrev pub joining_refusal : {E : Type 0} → Option E → Option ℕ
joining_refusal None = Some 6
joining_refusal (Some e) = None

-- the stations of a window
abbrev pub stretch : List Station → ℕ → ℕ → List Station
stretch xs first last = slice_range xs (first - 1) last

-- the stations' elements joined from left to right
abbrev pub joined_stations : {E C : Type 0} → KindOps E C → List Station → Option E
joined_stations o xs = fold (λ e x. beside o e (Some (o.single x))) None xs

-- the nodes stand for these n stations, and the kind takes those of the window
pub record StandsForTaken {E C : Type 0} (o : KindOps E C) (n : ℕ) (nodes : List C) (first last : ℕ) (xs : List Station) : Type 0 where
  pub long : length xs ≡ n
  pub stands : StandsFor o xs nodes
  pub taken : takes_all o (stretch xs first last) ≡ true

-- what holds of a window's answer, whatever the nodes hold, and where they stand for stations
pub record WindowLaws {E C : Type 0} (o : KindOps E C) (n : ℕ) (nodes : List C) (first last : ℕ) (g : Gathered E) : Type 0 where
  -- its joins are those of its largest whole blocks, which cut up the window
  pub joins : BlockJoins (height n) first last g.joins
  pub pieces : CutsUp (height n) first last (blocks (height n) first last)
  -- the element is that of the window's stations, joined from left to right: from the first one, and also from the empty element
  pub joined : (xs : List Station) → StandsForTaken o n nodes first last xs → Some g.element ≡ joined_stations o (stretch xs first last)
  pub from_empty : (xs : List Station) → StandsForTaken o n nodes first last xs → g.element ≡ joined_all o (stretch xs first last)
