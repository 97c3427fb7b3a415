-- Nodes that stand for stations: made by filling, kept by writing, and the same whatever made them.
use Rattle.std.specs.Prelude.{◌≡◌, ℕ, zero, suc, ◌+◌, ◌-◌, ◌*◌, ◌/◌, ◌^◌, ◌<◌, ◌≤◌, ◌⊎◌, ◌≢◌, List, Some, length, option_map, slice_get, refl}
use Rattle.std.proofs.Common.{sym, ◌∙◌, ap, subst, inl, inr, arith}
use Rattle.std.proofs.Math.Pow.{pow_pos}
use Rattle.std.proofs.lemmas.Bool.{cases_lt, cases_eq}
use Rattle.std.proofs.lemmas.List.{length-set}
use Rattle.std.proofs.lemmas.Option.{slice_get_within}
use Rattle.station.specs.declared.record.Station.{Station}
use Rattle.kind.specs.Laws.{KindOps}
use Rattle.tree.specs.Shape.{height, leaf, node_count}
use Rattle.tree.specs.Blocks.{Under}
use Rattle.tree.specs.Nodes.{cell_of, Holds, IsJoined, StandsForAt, StandsFor, SameTo, Rewritten, changed, WriteLaws}
use Rattle.tree.proofs.Heights.{stations_fit}
use Rattle.tree.proofs.Lists.{set_same, set_other, slice_get_some}
use Rattle.tree.proofs.Cells.{joined_with}
use Rattle.tree.proofs.BlocksUnder.{under_both, at_most, step_up}

-- no leaf lies under another
apart : (h q p : ℕ) → 1 ≤ q → q ≤ 2 ^ h → 1 ≤ p → p ≤ 2 ^ h → q ≢ p → Under (leaf h q) (leaf h p) → ⊥
apart h q p one le low high ne u =
    elim (step_up (leaf h q) (leaf h p) u) [
      | inl same ↦ ne (omega (arith, pow_pos h))
      | inr above ↦ absurd (omega (arith, pow_pos h, at_most (leaf h q) (leaf h p / 2) above))
    ]

-- a node lies under another or it does not
pub under_or_not : (looks i k : ℕ) → k ≤ looks → 1 ≤ i → Under i k ⊎ ¬ Under i k
under_or_not zero i k few low = inr (λ u. absurd (omega (arith, at_most i k u)))
under_or_not (suc looks) i k few low =
    elim (cases_eq k i) [
      | inl is ↦ inl (0, omega arith)
      | inr not ↦
          elim (under_or_not looks i (k / 2) (omega arith) low) [
            | inl under ↦ inl (under_both i (k / 2) k under (1, refl))
            | inr none ↦ inr (λ u. elim (step_up i k u) [ inl same ↦ not (sym same) | inr up ↦ none up ])
          ]
    ]

module _ {E C : Type 0} (o : KindOps E C) where
  -- stations in their leaves, then the empty element in those behind, then each inner node joined; the first leaf is node w
  pub filled_stands : (h w : ℕ) (xs : List Station) (a b c : List C) → w ≡ 2 ^ h → length xs ≤ 2 ^ h
      → ((q : ℕ) (x : Station) → slice_get xs q ≡ Some x → Holds o a (w + q) (o.single x))
      → ((i : ℕ) → w + length xs ≤ i → i < 2 * w → Holds o b i o.empty)
      → ((i : ℕ) → 1 ≤ i → (i < w + length xs) ⊎ (2 * w ≤ i) → cell_of b i ≡ cell_of a i)
      → ((i : ℕ) → 1 ≤ i → i < w → IsJoined o c i)
      → ((i : ℕ) → w ≤ i → cell_of c i ≡ cell_of b i)
      → StandsForAt o h xs c
  filled_stands h w xs a b c is few stations empties left joined leaves = record {
    stations = λ p x low at. grind (arith, slice_get_within xs (p - 1) x at, stations (p - 1) x at);
    further = λ p low high. grind arith;
    inner = λ i low high. joined i low (omega arith);
  }

  -- two node spaces of the same stations hold the same cells; from the leaves on, with so many nodes behind node i
  same_from : (h behind i : ℕ) (xs : List Station) (a b : List C) → StandsForAt o h xs a → StandsForAt o h xs b
      → 2 * 2 ^ h ≤ i + behind → 1 ≤ i → i < 2 * 2 ^ h → cell_of a i ≡ cell_of b i
  same_from h zero i xs a b at_a at_b far low high = absurd (omega arith)
  same_from h (suc behind) i xs a b at_a at_b far low high =
      let p = i + 1 - 2 ^ h in
      let leaf_is : 2 ^ h ≤ i → leaf h p ≡ i = λ le. omega arith in
      elim (cases_lt i (2 ^ h)) [
        | inl inner ↦
            let left = same_from h behind (2 * i) xs a b at_a at_b (omega arith) (omega arith) (omega arith) in
            let right = same_from h behind (2 * i + 1) xs a b at_a at_b (omega arith) (omega arith) (omega arith) in
            at_a.inner i low inner ∙ rw (left, right) (sym (at_b.inner i low inner))
        | inr at_leaf ↦
            elim (cases_lt (length xs) p) [
              | inl past ↦ rw (← leaf_is at_leaf) (at_a.further p past (omega arith) ∙ sym (at_b.further p past (omega arith)))
              | inr station ↦
                  let (x, is) = slice_get_some xs (p - 1) (omega arith) in
                  rw (← leaf_is at_leaf) (at_a.stations p x (omega arith) is ∙ sym (at_b.stations p x (omega arith) is))
            ]
      ]

  pub same_nodes : (h : ℕ) (xs : List Station) (a b : List C) → StandsForAt o h xs a → StandsForAt o h xs b → SameTo (node_count h) a b
  same_nodes h xs a b at_a at_b i low high = same_from h (2 * 2 ^ h) i xs a b at_a at_b (omega arith) low (omega arith)

  -- a station's leaf written and the nodes above rejoined: the nodes of the line with that station changed
  rewritten_stands : (h p : ℕ) (x : Station) (xs : List Station) (old new : List C) → 1 ≤ p → p ≤ length xs → length xs ≤ 2 ^ h
      → StandsForAt o h xs old → Rewritten o (leaf h p) (o.single x) old new → StandsForAt o h (changed xs p x) new
  rewritten_stands h p x xs old new low high few at w = record {
    stations = λ q y one is. elim (cases_eq q p) [
      | inl e ↦
          let same : Some x ≡ Some y = sym (set_same xs (p - 1) x (omega arith)) ∙ ap (λ k. slice_get (changed xs p x) (k - 1)) (sym e) ∙ is in
          rw e (w.leaf ∙ ap (option_map (λ z. o.cell (o.single z))) same)
      | inr ne ↦
          let is_old : slice_get xs (q - 1) ≡ Some y = sym (set_other xs (p - 1) (q - 1) x (λ e. ne (omega arith))) ∙ is in
          w.others (leaf h q) (omega arith) (apart h q p one (omega (arith, slice_get_within xs (q - 1) y is_old)) low (omega arith) ne) ∙ at.stations q y one is_old
    ];
    further = λ q behind le.
        let long = length-set xs (p - 1) x in
        w.others (leaf h q) (omega arith) (apart h q p (omega arith) le low (omega arith) (λ e. omega arith)) ∙ at.further q (omega arith) le;
    inner = λ i one lt. elim (under_or_not (leaf h p) i (leaf h p) (omega arith) one) [
      | inl under ↦ w.above i one (λ e. omega arith) under
      | inr not ↦ joined_with o old new i (w.others i one not) (w.others (2 * i) (omega arith) (λ u. not (under_both i (2 * i) (leaf h p) (1, omega arith) u)))
          (w.others (2 * i + 1) (omega arith) (λ u. not (under_both i (2 * i + 1) (leaf h p) (1, omega arith) u))) (at.inner i one lt)
    ];
  }

  -- written and rejoined, the nodes stand for the changed stations, and are what filling anew leaves
  pub write_laws : (n p : ℕ) (x : Station) (old new : List C) → 1 ≤ p → p ≤ n
      → Rewritten o (leaf (height n) p) (o.single x) old new → WriteLaws o n p x old new
  write_laws n p x old new low high written =
      let stands : (xs : List Station) → length xs ≡ n → StandsFor o xs old → StandsForAt o (height n) (changed xs p x) new = λ xs long at.
      rewritten_stands (height n) p x xs old new low (omega arith) (omega (arith, stations_fit n)) (rw (← long) at) written in
      let long_too : (xs : List Station) → length xs ≡ n → n ≡ length (changed xs p x) = λ xs long. omega (arith, length-set xs (p - 1) x) in
      record {
        stands = λ xs long at. subst (λ m. StandsForAt o (height m) (changed xs p x) new) (long_too xs long) (stands xs long at);
        anew = λ xs other long at at_other.
            same_nodes (height n) (changed xs p x) new other (stands xs long at)
            (subst (λ m. StandsForAt o (height m) (changed xs p x) other) (sym (long_too xs long)) at_other);
      }
