-- On nodes that stand for stations, a gathered window is the left-to-right joining of its stations' elements.
use Rattle.std.specs.Prelude.{◌≡◌, ℕ, zero, suc, ◌+◌, ◌-◌, ◌*◌, ◌^◌, ◌<◌, ◌≤◌, min, max, true, List, [], ◌∷◌, Option, Some, None, length, drop, fold, option_map, slice_get, refl}
use Rattle.std.proofs.Common.{sym, ◌∙◌, ap, arith}
use Rattle.std.proofs.Math.Pow.{pow_pos}
use Rattle.std.proofs.lemmas.Bool.{cond_both}
use Rattle.std.proofs.lemmas.List.{length-take, length-drop}
use Rattle.std.specs.List.{range_with_len}
use Rattle.station.specs.declared.record.Station.{Station}
use Rattle.kind.specs.Laws.{KindOps, JoiningLaws, KindLaws}
use Rattle.kind.specs.Stretch.{takes_all, joined_all}
use Rattle.tree.specs.Shape.{leaf}
use Rattle.tree.specs.Blocks.{whole, blocks}
use Rattle.tree.specs.Nodes.{node, beside, StandsForAt}
use Rattle.tree.specs.Gathered.{joined_stations, stretch}
use Rattle.tree.proofs.Lists.{range_glued, slice_get_some, slice_get-take, slice_get-drop}
use Rattle.tree.proofs.BlocksUnder.{halves, Node}
use Rattle.tree.proofs.Joining.{leaves_in, Fits, total, agrees}

-- the leaves of the window under node i are those from one leaf on to another
leaves_range : (j i a b : ℕ) → leaves_in j i a b ≡ range_with_len (max a (i * 2 ^ j)) (min b ((i + 1) * 2 ^ j) - max a (i * 2 ^ j))
leaves_range zero i a b =
    cond_both (whole zero i a b) (i ∷ []) [] (λ is. is ≡ range_with_len (max a (i * 2 ^ zero)) (min b ((i + 1) * 2 ^ zero) - max a (i * 2 ^ zero)))
    (λ all. grind (arith, all))
    (λ none. grind (arith, none))
leaves_range (suc j) i a b =
    let half = halves j i in
    grind (arith, half, leaves_range j (2 * i) a b, leaves_range j (2 * i + 1) a b, range_glued a b (i * 2 ^ suc j) (i * 2 ^ suc j + 2 ^ j) ((i + 1) * 2 ^ suc j))

-- each station of a list that is taken is taken
pub takes_one : {E C : Type 0} (o : KindOps E C) (ys : List Station) (k : ℕ) (y : Station) → takes_all o ys ≡ true → slice_get ys k ≡ Some y → o.takes y ≡ true
takes_one o [] k y t is = grind arith
takes_one o (x ∷ ys) zero y t is = grind (arith, t, is)
takes_one o (x ∷ ys) (suc k) y t is = takes_one o ys k y (grind (arith, t)) is

module _ {E C : Type 0} (o : KindOps E C) where
  over_stations : (nodes : List C) (ys : List Station) (q : ℕ) (e : Option E)
      → ((k : ℕ) (y : Station) → slice_get ys k ≡ Some y → node o nodes (q + k) ≡ Some (o.single y))
      → fold (λ e i. beside o e (node o nodes i)) e (range_with_len q (length ys)) ≡ fold (λ e x. beside o e (Some (o.single x))) e ys
  over_stations nodes [] q e at = refl
  over_stations nodes (y ∷ ys) q e at =
      let here : node o nodes q ≡ Some (o.single y) = ap (node o nodes) (omega arith) ∙ at 0 y refl in
      ap (λ n. fold (λ e i. beside o e (node o nodes i)) (beside o e n) (range_with_len (q + 1) (length ys))) here
      ∙ over_stations nodes ys (q + 1) (beside o e (Some (o.single y))) (λ k z is. ap (node o nodes) (omega arith) ∙ at (suc k) z is)

  module _ (laws : JoiningLaws o) (h first last : ℕ) (xs : List Station) (nodes : List C) (stands : StandsForAt o h xs nodes)
      (low : 1 ≤ first) (order : first ≤ last) (high : last ≤ length xs) (few : length xs ≤ 2 ^ h) where
    -- each station of the window stands in its leaf
    station_node : (k : ℕ) (y : Station) → slice_get (stretch xs first last) k ≡ Some y → node o nodes (leaf h first + k) ≡ Some (o.single y)
    station_node k y is =
        let there : slice_get xs (first - 1 + k) ≡ Some y =
        sym (slice_get-drop (first - 1) k xs) ∙ slice_get-take (last - (first - 1)) k (drop (first - 1) xs) y is in
        let place : first + k - 1 ≡ first - 1 + k = omega arith in
        let at : leaf h first + k ≡ leaf h (first + k) = omega arith in
        ap (node o nodes) at
        ∙ ap (option_map o.element) (stands.stations (first + k) y (omega arith) (ap (slice_get xs) place ∙ there))
        ∙ ap Some (laws.cell_back (o.single y))

    length-stretch : length (stretch xs first last) ≡ last - (first - 1)
    length-stretch = omega (arith, length-take (last - (first - 1)) (drop (first - 1) xs), length-drop (first - 1) xs)

    leaf_fits : takes_all o (stretch xs first last) ≡ true → (q : ℕ) → leaf h first ≤ q → q < leaf h last + 1 → Fits o laws (node o nodes q)
    leaf_fits taken q from before =
        let ys = stretch xs first last in
        let k = q - leaf h first in
        let (y, is) = slice_get_some ys k (omega (arith, length-stretch)) in
        let at : q ≡ leaf h first + k = omega arith in
        rw (at, station_node k y is) (laws.single_fit y (takes_one o ys k y taken is))

    pub window_joined : takes_all o (stretch xs first last) ≡ true → total o laws nodes (blocks h first last) ≡ joined_stations o (stretch xs first last)
    window_joined taken =
        let ys = stretch xs first last in
        let root : Node h h 1 = omega arith in
        let same = (agrees o laws nodes h (leaf h first) (leaf h last + 1) stands.inner (leaf_fits taken) h 1 root).same in
        let from : max (leaf h first) (1 * 2 ^ h) ≡ leaf h first = omega (arith, pow_pos h) in
        let many : min (leaf h last + 1) ((1 + 1) * 2 ^ h) - max (leaf h first) (1 * 2 ^ h) ≡ length ys = omega (arith, pow_pos h, length-stretch) in
        let leaves = leaves_range h 1 (leaf h first) (leaf h last + 1)
        ∙ ap (range_with_len (max (leaf h first) (1 * 2 ^ h))) many ∙ ap (λ q. range_with_len q (length ys)) from in
        same ∙ ap (total o laws nodes) leaves ∙ over_stations nodes ys (leaf h first) None station_node

  -- joined from the empty element, where that is neutral, it is the same
  from_first : (e : E) (ys : List Station) → fold (λ e x. beside o e (Some (o.single x))) (Some e) ys ≡ Some (fold (λ e x. o.join e (o.single x)) e ys)
  from_first e [] = refl
  from_first e (y ∷ ys) = from_first (o.join e (o.single y)) ys

  pub joined_from_empty : (laws : KindLaws o) (e : E) (ys : List Station) → takes_all o ys ≡ true → Some e ≡ joined_stations o ys → e ≡ joined_all o ys
  joined_from_empty laws e [] taken is = grind (arith, is)
  joined_from_empty laws e (y ∷ ys) taken is =
      let first : o.join o.empty (o.single y) ≡ o.single y = laws.neutral.left (o.single y) (laws.joining.single_fit y (takes_one o (y ∷ ys) 0 y taken refl)) in
      rw first (cc (is, from_first (o.single y) ys))
