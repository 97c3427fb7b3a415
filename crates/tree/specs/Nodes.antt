-- The nodes of a tree in a list of cells: what they stand for, and what filling and writing leave.
-- Words: cell_of, node, beside, Holds, IsJoined, StandsForAt, StandsFor, parent_of, SameBut, SameBehind, Rewritten, SameTo, changed, WriteLaws.
use Rattle.std.specs.Prelude.{◌≡◌, ℕ, ◌+◌, ◌-◌, ◌*◌, ◌/◌, ◌^◌, ◌<◌, ◌≤◌, ◌≢◌, List, Option, Some, None, length, nat_lt, if◌then◌else◌, option_map, slice_get, slice_set}
use Rattle.station.specs.declared.record.Station.{Station}
use Rattle.kind.specs.Laws.{KindOps}
use Rattle.tree.specs.Shape.{height, leaf, node_count}
use Rattle.tree.specs.Blocks.{Under}

-- the cell of node i; the first cell is node 1
abbrev pub cell_of : {C : Type 0} → List C → ℕ → Option C
cell_of nodes i = slice_get nodes (i - 1)

-- the element that node i stands for
abbrev pub node : {E C : Type 0} → KindOps E C → List C → ℕ → Option E
node o nodes i = option_map o.element (cell_of nodes i)

-- two elements joined, the left one first; where one is missing, the other
abbrev pub beside : {E C : Type 0} → KindOps E C → Option E → Option E → Option E
beside o None b = b
beside o (Some a) None = Some a
beside o (Some a) (Some b) = Some (o.join a b)

-- node i holds the cell of an element
abbrev pub Holds : {E C : Type 0} → KindOps E C → List C → ℕ → E → Type 0
Holds o nodes i e = cell_of nodes i ≡ Some (o.cell e)

-- node i holds the cell of the joining of its two children
abbrev pub IsJoined : {E C : Type 0} → KindOps E C → List C → ℕ → Type 0
IsJoined o nodes i = cell_of nodes i ≡ option_map o.cell (beside o (node o nodes (2 * i)) (node o nodes (2 * i + 1)))

-- the nodes stand for these stations, in a tree of height h
pub record StandsForAt {E C : Type 0} (o : KindOps E C) (h : ℕ) (xs : List Station) (nodes : List C) : Type 0 where
  pub stations : (p : ℕ) (x : Station) → 1 ≤ p → slice_get xs (p - 1) ≡ Some x → Holds o nodes (leaf h p) (o.single x)
  pub further : (p : ℕ) → length xs < p → p ≤ 2 ^ h → Holds o nodes (leaf h p) o.empty
  pub inner : (i : ℕ) → 1 ≤ i → i < 2 ^ h → IsJoined o nodes i

abbrev pub StandsFor : {E C : Type 0} → KindOps E C → List Station → List C → Type 0
StandsFor o xs nodes = StandsForAt o (height (length xs)) xs nodes

-- the node above node i; the root has none
abbrev pub parent_of : ℕ → Option ℕ
parent_of i = if nat_lt 1 i then Some (i / 2) else None

-- no node but i has changed
abbrev pub SameBut : {C : Type 0} → ℕ → List C → List C → Type 0
SameBut i old new = (k : ℕ) → 1 ≤ k → k ≢ i → cell_of new k ≡ cell_of old k

-- no node behind node m has changed
abbrev pub SameBehind : {C : Type 0} → ℕ → List C → List C → Type 0
SameBehind m old new = (k : ℕ) → m < k → cell_of new k ≡ cell_of old k

-- node i was written with an element and each node above it rejoined, and no other has changed
pub record Rewritten {E C : Type 0} (o : KindOps E C) (i : ℕ) (e : E) (old new : List C) : Type 0 where
  pub leaf : Holds o new i e
  pub above : (k : ℕ) → 1 ≤ k → k ≢ i → Under k i → IsJoined o new k
  pub others : (k : ℕ) → 1 ≤ k → ¬ Under k i → cell_of new k ≡ cell_of old k

-- nodes 1 to m hold the same cells
abbrev pub SameTo : {C : Type 0} → ℕ → List C → List C → Type 0
SameTo m one other = (k : ℕ) → 1 ≤ k → k ≤ m → cell_of one k ≡ cell_of other k

-- the stations with another at place p
abbrev pub changed : List Station → ℕ → Station → List Station
changed xs p x = slice_set xs (p - 1) x

-- what writing place p does to the nodes of n stations: they become those of the stations with another at p, cell by cell what
-- filling anew with these leaves
pub record WriteLaws {E C : Type 0} (o : KindOps E C) (n p : ℕ) (x : Station) (old new : List C) : Type 0 where
  pub stands : (xs : List Station) → length xs ≡ n → StandsFor o xs old → StandsFor o (changed xs p x) new
  pub anew : (xs : List Station) (other : List C) → length xs ≡ n → StandsFor o xs old → StandsFor o (changed xs p x) other
      → SameTo (node_count (height n)) new other
