-- Cells of nodes, written and read.
use Rattle.std.specs.Prelude.{◌≡◌, ℕ, ◌+◌, ◌*◌, ◌≤◌, List, Some, refl}
use Rattle.std.proofs.Common.{arith}
use Rattle.kind.specs.Laws.{KindOps}
use Rattle.tree.specs.Nodes.{cell_of, Holds, node, beside, IsJoined, SameBut}

module _ {E C : Type 0} (o : KindOps E C) where
  -- a node written with the joining of what its children stood for
  pub joined_from : (old new : List C) (i : ℕ) (e : E) → 1 ≤ i
      → beside o (node o old (2 * i)) (node o old (2 * i + 1)) ≡ Some e → Holds o new i e → SameBut i old new → IsJoined o new i
  joined_from old new i e low children is same =
      rw (is, same (2 * i) (omega arith) (λ e. omega arith), same (2 * i + 1) (omega arith) (λ e. omega arith), children) refl

  -- a node is joined as before where neither it nor a child of it has changed
  pub joined_with : (old new : List C) (i : ℕ) → cell_of new i ≡ cell_of old i
      → cell_of new (2 * i) ≡ cell_of old (2 * i) → cell_of new (2 * i + 1) ≡ cell_of old (2 * i + 1) → IsJoined o old i → IsJoined o new i
  joined_with old new i here left right is = rw (here, left, right) is
