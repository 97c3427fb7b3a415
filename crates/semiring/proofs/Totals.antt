-- A product of members, added to a total: it fits 64 bits, and what is added to has the reduction of both together.
use Rattle.std.proofs.Common.{◌≡◌, ℕ, ◌+◌, ◌*◌, ◌%◌, ◌<◌, ◌≤◌, bit_and, mod-eq_of_lt, mod-lt, ◌∙◌, refl, arith}
use Rattle.std.proofs.Math.Nat.{mod-add-mod}
use Rattle.std.proofs.lemmas.Nat.{and_mask, mul-le}

masked : (x : ℕ) → x ≤ 1000000000 → bit_and x 4294967295 ≡ x
masked x h = let fits : x < 4294967296 = omega arith in and_mask x 32 ∙ mod-eq_of_lt fits

-- the product of two masked counts
pub masked_product : (x y : ℕ) → x ≤ 1000000000 → y ≤ 1000000000 → (bit_and x 4294967295 * bit_and y 4294967295 ≡ x * y) × (x * y ≤ 1000000000000000000)
masked_product x y hx hy = (rw (masked x hx, masked y hy) refl, mul-le x y 1000000000 1000000000 hx hy)

-- a total that is reduced first has the same remainder, and fits with the product of two residues
pub same_remainder : (m t x y : ℕ) → 2 ≤ m → m ≤ 2147483647 → x < m → y < m → (t % m + x * y % 18446744073709551616) % 18446744073709551616 % m ≡ (t + x * y) % m
same_remainder m t x y low high hx hy =
    let most = mul-le x y 2147483648 2147483648 (omega arith) (omega arith) in
    let rest : t % m < m = mod-lt t (omega arith) in
    let fits : x * y < 18446744073709551616 = omega (arith, most) in
    let fit : t % m + x * y < 18446744073709551616 = omega (arith, most) in
    rw (mod-eq_of_lt fits, mod-eq_of_lt fit) (mod-add-mod t m (x * y))
