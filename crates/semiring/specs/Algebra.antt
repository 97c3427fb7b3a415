-- A semiring on codes: what it gives, the laws that it keeps, and a list's sum and product.
-- Words: SemiringOps, In, SemiringLaws, sum_of, product_of, sum_over.
use Rattle.std.specs.Prelude.{◌≡◌, ℕ, Bool, true, false, ◌&&◌, List, map, fold}

pub record SemiringOps : Type 0 where
  pub member : ℕ → Bool
  pub zero : ℕ
  pub one : ℕ
  pub sum : ℕ → ℕ → ℕ
  pub product : ℕ → ℕ → ℕ

-- the code is a member
abbrev pub In : SemiringOps → ℕ → Type 0
In S x = S.member x ≡ true

pub record SemiringLaws (S : SemiringOps) : Type 0 where
  pub zero_in : In S S.zero
  pub one_in : In S S.one
  pub sum_in : (x y : ℕ) → In S x → In S y → In S (S.sum x y)
  pub product_in : (x y : ℕ) → In S x → In S y → In S (S.product x y)
  pub sum_assoc : (x y z : ℕ) → In S x → In S y → In S z → S.sum (S.sum x y) z ≡ S.sum x (S.sum y z)
  pub sum_comm : (x y : ℕ) → In S x → In S y → S.sum x y ≡ S.sum y x
  pub sum-zero : (x : ℕ) → In S x → S.sum S.zero x ≡ x
  pub product_assoc : (x y z : ℕ) → In S x → In S y → In S z → S.product (S.product x y) z ≡ S.product x (S.product y z)
  pub one_left : (x : ℕ) → In S x → S.product S.one x ≡ x
  pub one_right : (x : ℕ) → In S x → S.product x S.one ≡ x
  pub zero_left : (x : ℕ) → In S x → S.product S.zero x ≡ S.zero
  pub zero_right : (x : ℕ) → In S x → S.product x S.zero ≡ S.zero
  pub product-sum : (x y z : ℕ) → In S x → In S y → In S z → S.product x (S.sum y z) ≡ S.sum (S.product x y) (S.product x z)
  pub sum-product : (x y z : ℕ) → In S x → In S y → In S z → S.product (S.sum x y) z ≡ S.sum (S.product x z) (S.product y z)
  -- with a code that is no member, sum and product answer zero
  pub sum_out : (x y : ℕ) → (S.member x && S.member y) ≡ false → S.sum x y ≡ S.zero
  pub product_out : (x y : ℕ) → (S.member x && S.member y) ≡ false → S.product x y ≡ S.zero

-- a list's sum and product, from zero or one, left to right
abbrev pub sum_of : SemiringOps → List ℕ → ℕ
sum_of S xs = fold S.sum S.zero xs

abbrev pub product_of : SemiringOps → List ℕ → ℕ
product_of S xs = fold S.product S.one xs

-- the sum of f over a list
abbrev pub sum_over : {X : Type 0} → SemiringOps → (X → ℕ) → List X → ℕ
sum_over S f xs = sum_of S (map f xs)
