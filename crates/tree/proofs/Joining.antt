-- Nodes of a window's largest whole blocks, joined: the same as its leaves joined. It rests on associativity, and on nothing of the empty element.
use Rattle.std.specs.Prelude.{◌≡◌, ℕ, zero, suc, ◌+◌, ◌*◌, ◌^◌, ◌<◌, ◌≤◌, cond, List, [], ◌∷◌, ◌++◌, Option, Some, None, fold, option_map, refl}
use Rattle.std.proofs.Common.{sym, ◌∙◌, ap, arith}
use Rattle.std.proofs.lemmas.Bool.{cond_both}
use Rattle.std.proofs.lemmas.List.Sums.{fold-append}
use Rattle.kind.specs.Laws.{KindOps, JoiningLaws}
use Rattle.tree.specs.Blocks.{whole, blocks_under}
use Rattle.tree.specs.Nodes.{node, beside, IsJoined}
use Rattle.tree.proofs.BlocksUnder.{halves, Node, bounds}
use Rattle.tree.proofs.Gathering.{held}

-- the leaves of the window under node i, one by one
abbrev pub leaves_in : ℕ → ℕ → ℕ → ℕ → List ℕ
leaves_in zero i a b = cond (whole zero i a b) (i ∷ []) []
leaves_in (suc j) i a b = leaves_in j (2 * i) a b ++ leaves_in j (2 * i + 1) a b

module _ {E C : Type 0} (o : KindOps E C) (laws : JoiningLaws o) where
  -- fit, where there is an element
  abbrev pub Fits : Option E → Type 0
  Fits None = Unit {0}
  Fits (Some e) = o.fit e

  beside_fits : (a b : Option E) → Fits a → Fits b → Fits (beside o a b)
  beside_fits None b fa fb = fb
  beside_fits (Some a) None fa fb = fa
  beside_fits (Some a) (Some b) fa fb = laws.join_fit a b fa fb

  beside_none : (a : Option E) → beside o a None ≡ a
  beside_none None = refl
  beside_none (Some a) = refl

  beside_assoc : (a b c : Option E) → Fits a → Fits b → Fits c → beside o (beside o a b) c ≡ beside o a (beside o b c)
  beside_assoc None b c fa fb fc = refl
  beside_assoc (Some a) None c fa fb fc = refl
  beside_assoc (Some a) (Some b) None fa fb fc = refl
  beside_assoc (Some a) (Some b) (Some c) fa fb fc = ap Some (laws.assoc a b c fa fb fc)

  module _ (nodes : List C) where
    -- a node more at the right, and nodes joined from left to right
    abbrev pub next : Option E → ℕ → Option E
    next e i = beside o e (node o nodes i)

    abbrev pub total : List ℕ → Option E
    total is = fold next None is

    abbrev pub AllFit : List ℕ → Type 0
    AllFit [] = Unit {0}
    AllFit (i ∷ is) = Fits (node o nodes i) × AllFit is

    AllFit-append : (is ks : List ℕ) → AllFit is → AllFit ks → AllFit (is ++ ks)
    AllFit-append [] ks fi fk = fk
    AllFit-append (i ∷ is) ks fi fk = (fi.0, AllFit-append is ks fi.1 fk)

    -- what stands to the left can be joined at the end
    from_left : (a b : Option E) (is : List ℕ) → Fits a → Fits b → AllFit is → fold next (beside o a b) is ≡ beside o a (fold next b is)
    from_left a b [] fa fb fi = refl
    from_left a b (i ∷ is) fa fb fi =
        let n = node o nodes i in
        ap (λ e. fold next e is) (beside_assoc a b n fa fb fi.0) ∙ from_left a (beside o b n) is fa (beside_fits b n fb fi.0) fi.1

    fold_fits : (a : Option E) (is : List ℕ) → Fits a → AllFit is → Fits (fold next a is)
    fold_fits a [] fa fi = fa
    fold_fits a (i ∷ is) fa fi = fold_fits (beside o a (node o nodes i)) is (beside_fits a (node o nodes i) fa fi.0) fi.1

    total-append : (is ks : List ℕ) → AllFit is → AllFit ks → total (is ++ ks) ≡ beside o (total is) (total ks)
    total-append is ks fi fk =
        fold-append next None is ks
        ∙ ap (λ e. fold next e ks) (sym (beside_none (total is)))
        ∙ from_left (total is) None ks (fold_fits None is tt fi) tt fk

    -- a node that is joined stands for its children side by side
    joined_node : (i : ℕ) → IsJoined o nodes i → node o nodes i ≡ beside o (node o nodes (2 * i)) (node o nodes (2 * i + 1))
    joined_node i is = ap (option_map o.element) is ∙ back (beside o (node o nodes (2 * i)) (node o nodes (2 * i + 1))) where
      back : (e : Option E) → option_map o.element (option_map o.cell e) ≡ e
      back None = refl
      back (Some e) = ap Some (laws.cell_back e)

    -- under one node, of a tree whose inner nodes are joined, over leaves of the window that are fit
    module _ (h a b : ℕ) (inner : (i : ℕ) → 1 ≤ i → i < 2 ^ h → IsJoined o nodes i) (fit : (q : ℕ) → a ≤ q → q < b → Fits (node o nodes q)) where
      -- the blocks, as a list, and the leaves
      pub record Agrees (is ls : List ℕ) : Type 0 where
        pub blocks_fit : AllFit is
        pub leaves_fit : AllFit ls
        pub same : total is ≡ total ls

      pub agrees : (j i : ℕ) → Node h j i → Agrees (blocks_under j i a b) (leaves_in j i a b)
      agrees zero i n =
          let one = cond_both (whole zero i a b) (i ∷ []) [] AllFit (λ all. (fit i (grind (arith, all)) (grind (arith, all)), tt)) (λ none. tt) in
          record { blocks_fit = one; leaves_fit = one; same = refl }
      agrees (suc j) i n =
          let half = halves j i in
          let nl : Node h j (2 * i) = omega arith in
          let nr : Node h j (2 * i + 1) = omega arith in
          let l = agrees j (2 * i) nl in
          let r = agrees j (2 * i + 1) nr in
          let bl = blocks_under j (2 * i) a b in
          let br = blocks_under j (2 * i + 1) a b in
          let ll = leaves_in j (2 * i) a b in
          let lr = leaves_in j (2 * i + 1) a b in
          let fit_leaves = AllFit-append ll lr l.leaves_fit r.leaves_fit in
          let same : beside o (total bl) (total br) ≡ total (ll ++ lr) =
          ap (λ e. beside o e (total br)) l.same ∙ ap (beside o (total ll)) r.same ∙ sym (total-append ll lr l.leaves_fit r.leaves_fit) in
          cond_both (whole (suc j) i a b) (i ∷ []) (bl ++ br) (λ is. Agrees is (ll ++ lr))
          (λ all.
          let left = ap total (held j (2 * i) a b (grind (arith, all)) (grind (arith, all))) in
          let right = ap total (held j (2 * i + 1) a b (grind (arith, all)) (grind (arith, all))) in
          let low = bounds h j (2 * i) nl in
          let here : node o nodes i ≡ total (ll ++ lr) =
          joined_node i (inner i (omega (arith, low)) (omega (arith, low)))
          ∙ ap (λ e. beside o e (node o nodes (2 * i + 1))) (sym left) ∙ ap (beside o (total bl)) (sym right) ∙ same in
          record { blocks_fit = (rw here (fold_fits None (ll ++ lr) tt fit_leaves), tt); leaves_fit = fit_leaves; same = here })
          (λ part. record {
            blocks_fit = AllFit-append bl br l.blocks_fit r.blocks_fit;
            leaves_fit = fit_leaves;
            same = total-append bl br l.blocks_fit r.blocks_fit ∙ same;
          })
