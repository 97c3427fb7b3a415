-- A leaf written, and the nodes above it joined one after the other.
use Rattle.std.specs.Prelude.{◌≡◌, ℕ, ◌+◌, ◌*◌, ◌/◌, ◌^◌, ◌<◌, ◌≤◌, ◌≢◌, ◌⊎◌, List, Some, None}
use Rattle.std.proofs.Common.{sym, ◌∙◌, ap, inl, inr, arith}
use Rattle.std.proofs.Math.Nat.{div-le_self}
use Rattle.std.proofs.lemmas.Bool.{cases_lt}
use Rattle.kind.specs.Laws.{KindOps}
use Rattle.tree.specs.Blocks.{Under}
use Rattle.tree.specs.Nodes.{cell_of, Holds, IsJoined, parent_of, SameBut, Rewritten}
use Rattle.tree.proofs.Cells.{joined_with}
use Rattle.tree.proofs.Halving.{halved_more, halved_falls}

-- of two nodes on the way up from l, the smaller is at most half the greater
next_up : (k i l : ℕ) → Under k l → Under i l → k < i → k ≤ i / 2
next_up k i l (s, at_k) (t, at_i) lt =
    elim (cases_lt t s) [
      | inl further ↦ omega (arith, halved_falls l (t + 1) s (omega arith), halved_more l t)
      | inr not ↦ absurd (omega (arith, halved_falls l s t not))
    ]

-- what the step to the node above says of node i
stepped : (i next : ℕ) → parent_of i ≡ Some next → (1 < i) × (next ≡ i / 2)
stepped i next step = grind (arith, step)

last : (i : ℕ) → parent_of i ≡ None → i ≤ 1
last i root = grind (arith, root)

module _ {E C : Type 0} (o : KindOps E C) where
  -- what has been done when the way up from l has come to node i, in so many joins
  pub record Raised (l : ℕ) (e : E) (joins i : ℕ) (old new : List C) : Type 0 where
    pub some : 1 ≤ i
    pub few : joins + i ≤ l
    pub up : l / 2 ^ joins ≡ i
    pub leaf : Holds o new l e
    pub above : (k : ℕ) → i ≤ k → k ≢ l → Under k l → IsJoined o new k
    pub others : (k : ℕ) → 1 ≤ k → (k < i) ⊎ (¬ Under k l) → cell_of new k ≡ cell_of old k

  pub raised_first : (l : ℕ) (e : E) (old new : List C) → 1 ≤ l → Holds o new l e → SameBut l old new → Raised l e 0 l old new
  raised_first l e old new some written same = record {
    some = some;
    few = omega arith;
    up = omega arith;
    leaf = written;
    above = λ k from not up. absurd (omega (arith, up, div-le_self l (2 ^ up.0)));
    others = λ k low off. same k low (λ is. elim off [ inl lt ↦ omega arith | inr not ↦ not (0, omega arith) ]);
  }

  pub raised_next : (l : ℕ) (e : E) (joins i next : ℕ) (old mid new : List C) → parent_of i ≡ Some next
      → Raised l e joins i old mid → IsJoined o new next → SameBut next mid new → Raised l e (joins + 1) next old new
  raised_next l e joins i next old mid new step done joined same =
      let few = done.few in
      let (more, half) = stepped i next step in
      let up : l / 2 ^ (joins + 1) ≡ next = halved_more l joins ∙ ap (λ n. n / 2) done.up ∙ sym half in
      record {
        some = omega arith;
        few = omega arith;
        up = up;
        leaf = same l (omega arith) (λ is. omega arith) ∙ done.leaf;
        above = λ k from not under. elim (cases_lt k i) [
          | inl lt ↦ let there : k ≡ next = omega (arith, next_up k i l under (joins, done.up) lt) in rw there joined
          | inr ge ↦
              joined_with o mid new k (same k (omega arith) (λ is. omega arith)) (same (2 * k) (omega arith) (λ is. omega arith))
              (same (2 * k + 1) (omega arith) (λ is. omega arith)) (done.above k ge not under)
        ];
        others = λ k one off.
            same k one (λ is. elim off [ inl lt ↦ omega arith | inr not ↦ not (rw is (joins + 1, up)) ])
            ∙ done.others k one (elim off [ inl lt ↦ inl (omega arith) | inr not ↦ inr not ]);
      }

  pub raised_last : (l : ℕ) (e : E) (joins i : ℕ) (old new : List C) → parent_of i ≡ None → Raised l e joins i old new → Rewritten o l e old new
  raised_last l e joins i old new root done = record {
    leaf = done.leaf;
    above = λ k one not under. done.above k (omega (arith, last i root)) not under;
    others = λ k one not. done.others k one (inr not);
  }
