-- Sums over lists in a lawful semiring.
use Rattle.std.proofs.Common.{◌≡◌, ℕ, zero, suc, ◌+◌, ◌<◌, List, [], ◌∷◌, ◌++◌, map, fold, sym, refl, ap, ◌∙◌, inl, inr, add-one, arith}
use Rattle.std.specs.List.{range_with_len, AllByRecursion}
use Rattle.std.proofs.Math.Path.{fun_ext}
use Rattle.std.proofs.lemmas.Bool.{cases_eq}
use Rattle.std.proofs.lemmas.List.{map-append}
use Rattle.std.proofs.lemmas.List.Folds.{fold-map, fold_along, fold_stays}
use Rattle.std.proofs.lemmas.List.FromFn.{fill_by_all, length-map-range_with_len, get_or-map-range_with_len, map-range_with_len_more}
use Rattle.std.proofs.lemmas.List.Sums.{fold-append, fold_push}
use Rattle.semiring.specs.Algebra.{SemiringOps, SemiringLaws, In, sum_over}

-- the sum of f over a list, from b on
abbrev from : {X : Type 0} → SemiringOps → (X → ℕ) → ℕ → List X → ℕ
from S f b xs = fold S.sum b (map f xs)

-- one more number
pub sum_over_more : (S : SemiringOps) (f : ℕ → ℕ) (n : ℕ) → sum_over S f (range_with_len 0 (n + 1)) ≡ S.sum (sum_over S f (range_with_len 0 n)) (f n)
sum_over_more S f n = simp (map-range_with_len_more f 0 n n (omega arith), fold_push)

-- equal over the indices below n
pub sum_over_below : (S : SemiringOps) (f g : ℕ → ℕ) (n : ℕ) → ((l : ℕ) → l < n → f l ≡ g l) → sum_over S f (range_with_len 0 n) ≡ sum_over S g (range_with_len 0 n)
sum_over_below S f g n h =
    ap (fold S.sum S.zero) (fill_by_all g (map f (range_with_len 0 n)) n 0 (length-map-range_with_len f 0 n) (λ k hk. get_or-map-range_with_len f 0 n k k 0 hk (omega arith) ∙ h k hk))

pub sum_over_cong : {X : Type 0} (S : SemiringOps) (f g : X → ℕ) (xs : List X) → ((x : X) → f x ≡ g x) → sum_over S f xs ≡ sum_over S g xs
sum_over_cong {X} S f g xs h = ap (λ (k : X → ℕ). sum_over S k xs) (fun_ext h)

-- equal on what is in the list
pub sum_over_all : {X : Type 0} (S : SemiringOps) (P : X → Type 0) (f g : X → ℕ) (xs : List X) → AllByRecursion P xs → ((x : X) → P x → f x ≡ g x) → sum_over S f xs ≡ sum_over S g xs
sum_over_all {X} S P f g xs all h = same S.zero xs all
  where
    same : (b : ℕ) (xs : List X) → AllByRecursion P xs → from S f b xs ≡ from S g b xs
    same b [] all = refl
    same b (x ∷ xs) all = cc (h x all.0, same (S.sum b (g x)) xs all.1)

module _ (S : SemiringOps) (L : SemiringLaws S) where
  -- a sum is a member, whatever is added, and so is a product
  sum_member : (x y : ℕ) → In S (S.sum x y)
  sum_member x y = grind (arith, L.sum_in x y, L.sum_out x y, L.zero_in)

  pub product_member : (x y : ℕ) → In S (S.product x y)
  product_member x y = grind (arith, L.product_in x y, L.product_out x y, L.zero_in)

  -- so a sum over a list is one, whatever it has
  pub sum_over_member : {X : Type 0} (f : X → ℕ) (xs : List X) → In S (sum_over S f xs)
  sum_over_member f xs = fold_along S.sum S.sum (λ b _. In S b) (λ b _ x _. sum_member b x) S.zero S.zero (map f xs) L.zero_in

  -- two sums of two, the middle two exchanged
  exchange : (a b c d : ℕ) → In S a → In S b → In S c → In S d → S.sum (S.sum a b) (S.sum c d) ≡ S.sum (S.sum a c) (S.sum b d)
  exchange a b c d ha hb hc hd = grind (arith, sum_member, L.sum_assoc a b (S.sum c d), L.sum_assoc b c d, L.sum_comm b c, L.sum_assoc c b d, L.sum_assoc a c (S.sum b d))

module _ {X : Type 0} (S : SemiringOps) (L : SemiringLaws S) (f : X → ℕ) (hf : (x : X) → In S (f x)) where
  pub sum_over_in : (xs : List X) → In S (sum_over S f xs)
  sum_over_in xs = sum_over_member S L f xs

  -- what goes through each step of a sum goes through the sum
  through : (h : ℕ → ℕ) (k : X → ℕ) → ((a : ℕ) (x : X) → In S a → h (S.sum a (f x)) ≡ S.sum (h a) (k x)) → (b : ℕ) (xs : List X) → In S b → h (from S f b xs) ≡ from S k (h b) xs
  through h k e b [] hb = refl
  through h k e b (x ∷ xs) hb = cc (e b x hb, through h k e (S.sum b (f x)) xs (sum_member S L b (f x)))

  -- from b on: b and the sum
  onto : (b : ℕ) (xs : List X) → In S b → from S f b xs ≡ S.sum b (sum_over S f xs)
  onto b xs hb = cc (L.sum_comm b S.zero hb L.zero_in, L.sum-zero b hb, through (S.sum b) f (λ a x ha. sym (L.sum_assoc b a (f x) hb ha (hf x))) S.zero xs L.zero_in)

  pub sum_over-cons : (x : X) (xs : List X) → sum_over S f (x ∷ xs) ≡ S.sum (f x) (sum_over S f xs)
  sum_over-cons x xs = cc (L.sum-zero (f x) (hf x), onto (f x) xs (hf x))

  -- a factor from the left
  pub times_sum_over : (c : ℕ) (hc : In S c) (xs : List X) → S.product c (sum_over S f xs) ≡ sum_over S (λ x. S.product c (f x)) xs
  times_sum_over c hc xs = cc (L.zero_right c hc, through (S.product c) (λ x. S.product c (f x)) (λ a x ha. L.product-sum c a (f x) hc ha (hf x)) S.zero xs L.zero_in)

  -- a factor from the right
  pub sum_over_times : (c : ℕ) (hc : In S c) (xs : List X) → S.product (sum_over S f xs) c ≡ sum_over S (λ x. S.product (f x) c) xs
  sum_over_times c hc xs = cc (L.zero_left c hc, through (λ t. S.product t c) (λ x. S.product (f x) c) (λ a x ha. L.sum-product a (f x) c ha (hf x) hc) S.zero xs L.zero_in)

  -- over one list and then another
  pub sum_over-append : (xs ys : List X) → sum_over S f (xs ++ ys) ≡ S.sum (sum_over S f xs) (sum_over S f ys)
  sum_over-append xs ys = simp (map-append, fold-append) (onto (sum_over S f xs) ys (sum_over_in xs))

module _ {X : Type 0} (S : SemiringOps) (L : SemiringLaws S) where
  sum_over-zero : (xs : List X) → sum_over S (λ _. S.zero) xs ≡ S.zero
  sum_over-zero xs = simp fold-map (fold_stays (λ b _. S.sum b S.zero) S.zero (λ _. L.sum-zero S.zero L.zero_in) xs)

  -- the sum of two functions
  from-sum : (f g : X → ℕ) (hf : (x : X) → In S (f x)) (hg : (x : X) → In S (g x)) (a b : ℕ) (xs : List X) → In S a → In S b → from S (λ x. S.sum (f x) (g x)) (S.sum a b) xs ≡ S.sum (from S f a xs) (from S g b xs)
  from-sum f g hf hg a b [] ha hb = refl
  from-sum f g hf hg a b (x ∷ xs) ha hb =
      cc (exchange S L a b (f x) (g x) ha hb (hf x) (hg x), from-sum f g hf hg (S.sum a (f x)) (S.sum b (g x)) xs (sum_member S L a (f x)) (sum_member S L b (g x)))

  pub sum_over-sum : (f g : X → ℕ) (hf : (x : X) → In S (f x)) (hg : (x : X) → In S (g x)) (xs : List X) → sum_over S (λ x. S.sum (f x) (g x)) xs ≡ S.sum (sum_over S f xs) (sum_over S g xs)
  sum_over-sum f g hf hg xs = cc (L.sum-zero S.zero L.zero_in, from-sum f g hf hg S.zero S.zero xs L.zero_in L.zero_in)

-- over a mapped list
pub sum_over-map : {X Y : Type 0} (S : SemiringOps) (f : Y → ℕ) (g : X → Y) (xs : List X) → sum_over S f (map g xs) ≡ sum_over S (λ x. f (g x)) xs
sum_over-map S f g xs = simp fold-map

-- two sums may be made in either order
module _ {X Y : Type 0} (S : SemiringOps) (L : SemiringLaws S) (F : X → Y → ℕ) (hF : (x : X) (y : Y) → In S (F x y)) where
  from_swap : (g : Y → ℕ) → ((y : Y) → In S (g y)) → (xs : List X) (ys : List Y) → from S (λ x. sum_over S (F x) ys) (sum_over S g ys) xs ≡ sum_over S (λ y. from S (λ x. F x y) (g y) xs) ys
  from_swap g hg [] ys = refl
  from_swap g hg (x ∷ xs) ys = cc (sum_over-sum S L g (F x) hg (hF x) ys, from_swap (λ y. S.sum (g y) (F x y)) (λ y. sum_member S L (g y) (F x y)) xs ys)

  pub sum_over_swap : (xs : List X) (ys : List Y) → sum_over S (λ x. sum_over S (F x) ys) xs ≡ sum_over S (λ y. sum_over S (λ x. F x y) xs) ys
  sum_over_swap xs ys = cc (sum_over-zero S L ys, from_swap (λ _. S.zero) (λ _. L.zero_in) xs ys)

module _ (S : SemiringOps) (L : SemiringLaws S) (g : ℕ → ℕ) (hg : (l : ℕ) → In S (g l)) where
  -- nothing but zeros
  pub sum_over_miss : (n : ℕ) → ((l : ℕ) → l < n → g l ≡ S.zero) → sum_over S g (range_with_len 0 n) ≡ S.zero
  sum_over_miss n h = sum_over_below S g (λ _. S.zero) n h ∙ sum_over-zero S L (range_with_len 0 n)

  -- nothing but zeros next to p
  pub sum_over_pick : (n p : ℕ) → p < n → ((l : ℕ) → l < n → (l ≡ p → ⊥) → g l ≡ S.zero) → sum_over S g (range_with_len 0 n) ≡ g p
  sum_over_pick zero p hp h = absurd (omega arith)
  sum_over_pick (suc n) p hp h =
      (rw add-one at (sum_over_more S g n))
      ∙ elim (cases_eq n p) [
        | inl e ↦ rw (sum_over_miss n (λ l lt. h l (omega arith) (λ d. omega arith)), L.sum-zero (g n) (hg n), e)
        | inr ne ↦ rw (sum_over_pick n p (omega arith) (λ l lt. h l (omega arith)), h n (omega arith) ne, L.sum_comm (g p) S.zero (hg p) L.zero_in, L.sum-zero (g p) (hg p))
      ]
