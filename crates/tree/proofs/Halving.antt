-- A node's way up: halved, again and again.
use Rattle.std.specs.Prelude.{◌≡◌, ℕ, suc, ◌+◌, ◌-◌, ◌*◌, ◌/◌, ◌^◌, ◌<◌, ◌≤◌}
use Rattle.std.proofs.Common.{sym, ◌∙◌, ap, inl, inr, arith}
use Rattle.std.proofs.Math.Nat.{div-le_self, div-mul-le_self, lt-div-mul-add, two-pow-succ}
use Rattle.std.proofs.Math.Pow.{pow_mono, pow_pos, shr-shr}
use Rattle.std.proofs.lemmas.Bool.{cases_order}
use Rattle.tree.specs.Shape.{height, leaf}
use Rattle.tree.proofs.Heights.{stations_fit}

pub halved_more : (k t : ℕ) → k / 2 ^ (t + 1) ≡ k / 2 ^ t / 2
halved_more k t = sym (shr-shr k t 1)

-- further up no node is greater
pub halved_falls : (k s t : ℕ) → s ≤ t → k / 2 ^ t ≤ k / 2 ^ s
halved_falls k s t le =
    let e : t ≡ s + (t - s) = omega arith in
    omega (arith, ap (λ n. k / 2 ^ n) e, shr-shr k s (t - s), div-le_self (k / 2 ^ s) (2 ^ (t - s)))

-- the way up from a leaf has as many steps as the tree is high
way_up : (h k t : ℕ) → 2 ^ h ≤ k → k < 2 * 2 ^ h → k / 2 ^ t ≡ 1 → t ≡ h
way_up h k t low high root =
    let below = div-mul-le_self k (2 ^ t) in
    let above = lt-div-mul-add {a = k} (pow_pos t) in
    let one : k / 2 ^ t * 2 ^ t ≡ 2 ^ t = ap (λ n. n * 2 ^ t) root ∙ omega arith in
    elim (cases_order t h) [
      | inl same ↦ same
      | inr (inl lt) ↦ absurd (omega (arith, above, one, two-pow-succ t, pow_mono {i = suc t} lt))
      | inr (inr gt) ↦ absurd (omega (arith, below, one, two-pow-succ h, pow_mono {i = suc h} gt))
    ]

pub place_way_up : (n p t : ℕ) → 1 ≤ p → p ≤ n → leaf (height n) p / 2 ^ t ≡ 1 → t ≡ height n
place_way_up n p t low high root = way_up (height n) (leaf (height n) p) t (omega arith) (omega (arith, stations_fit n, pow_pos (height n))) root
