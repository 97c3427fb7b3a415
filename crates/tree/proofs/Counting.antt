-- Each node of a listing is there, so that a gathering answers an element, and joins one time less than there are blocks.
use Rattle.std.specs.Prelude.{◌≡◌, ℕ, ◌+◌, ◌-◌, ◌^◌, ◌≤◌, List, [], ◌∷◌, All, Some, length, fold, option_map, refl}
use Rattle.std.proofs.Common.{◌∙◌, ap, arith}
use Rattle.std.proofs.lemmas.List.Elements.{All-tail, All-weaker}
use Rattle.kind.specs.Laws.{KindOps}
use Rattle.tree.specs.declared.gathered.Joining.{Joining}
use Rattle.tree.specs.Shape.{node_count}
use Rattle.tree.specs.Blocks.{IsLargest, blocks}
use Rattle.tree.specs.Nodes.{node, beside}
use Rattle.tree.specs.Gathered.{nothing, joined_on, nodes_joined}
use Rattle.tree.proofs.Lists.{slice_get_some}
use Rattle.tree.proofs.Blocks.{lists_largest}
use Rattle.tree.proofs.BlockCounts.{some_block}

module _ {E C : Type 0} (o : KindOps E C) (nodes : List C) where
  -- the node is one of the slice
  abbrev There : ℕ → Type 0
  There i = (1 ≤ i) × (i ≤ length nodes)

  stands_for : (i : ℕ) → There i → (e : E) × (node o nodes i ≡ Some e)
  stands_for i there =
      let (c, is) = slice_get_some nodes (i - 1) (omega (arith, there.0, there.1)) in
      (o.element c, ap (option_map o.element) is)

  abbrev joining_with : E → ℕ → Joining E
  joining_with e n = record { element = Some e; joins = n }

  -- with a first element, each further node is one join
  more : (x : E) (n : ℕ) (is : List ℕ) → All There is → (e : E) × (nodes_joined o nodes (joining_with x n) is ≡ joining_with e (n + length is))
  more x n [] there = (x, ap (joining_with x) (omega arith))
  more x n (i ∷ is) there =
      let (e, here) = stands_for i (there 0 i (omega arith)) in
      let (r, rest) = more (o.join x e) (n + 1) is (All-tail There i is there) in
      (r, ap (λ m. nodes_joined o nodes (joined_on o (joining_with x n) m) is) here ∙ rest ∙ ap (joining_with r) (omega arith))

  counted : (is : List ℕ) → 1 ≤ length is → All There is → (e : E) × (nodes_joined o nodes nothing is ≡ joining_with e (length is - 1))
  counted [] some there = absurd (omega arith)
  counted (i ∷ is) some there =
      let (e, here) = stands_for i (there 0 i (omega arith)) in
      let (r, rest) = more e 0 is (All-tail There i is there) in
      (r, ap (λ m. nodes_joined o nodes (joined_on o nothing m) is) here ∙ rest ∙ ap (joining_with r) (omega arith))

  -- the element and the joins of a window
  pub window_counted : (h first last : ℕ) → 1 ≤ first → first ≤ last → last ≤ 2 ^ h → node_count h ≤ length nodes
      → (e : E) × (nodes_joined o nodes nothing (blocks h first last) ≡ joining_with e (length (blocks h first last) - 1))
  window_counted h first last low order high room =
      counted (blocks h first last) (some_block h first last low order high)
      (All-weaker (IsLargest h first last) There (λ i is. (is.low, omega (arith, is.high))) (blocks h first last) (lists_largest h first last).each)

  -- a gathering joins as its nodes stand side by side
  pub element-nodes_joined : (s : Joining E) (is : List ℕ) → (nodes_joined o nodes s is).element ≡ fold (λ e i. beside o e (node o nodes i)) s.element is
  element-nodes_joined s [] = refl
  element-nodes_joined s (i ∷ is) = element-nodes_joined (joined_on o s (node o nodes i)) is
