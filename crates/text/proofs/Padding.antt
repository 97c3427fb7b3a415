-- The first places of a list with something behind it, as an array of a fixed length keeps a list.
use Rattle.std.proofs.Common.{◌≡◌, ℕ, zero, suc, ◌+◌, ◌-◌, ◌≤◌, ◌<◌, min, List, [], ◌∷◌, ◌++◌, length, take, drop, replicate, slice_set, sym, refl, ap, ◌∙◌, ⊎_elim, append-nil, arith}
use Rattle.std.proofs.Math.Seq.{take-append-add, take-append_seam}
use Rattle.std.proofs.lemmas.Bool.{cases_lt}
use Rattle.std.proofs.lemmas.List.{take-replicate, drop-replicate, take_all, take-append-le, length-take}

-- one more at the end is written at the end, and past the last place not at all
pub padded_push : {X : Type 0} (k m : ℕ) (d x : X) (xs : List X) → k ≤ m
    → take k ((xs ++ x ∷ []) ++ replicate m d) ≡ slice_set (take k (xs ++ replicate m d)) (length xs) x
padded_push zero m d x xs h = refl
padded_push (suc k) zero d x xs h = absurd (omega arith)
padded_push (suc k) (suc m) d x [] h = ap (λ l. x ∷ l) (take-replicate k (suc m) d (omega arith) ∙ sym (take-replicate k m d (omega arith)))
padded_push (suc k) (suc m) d x (y ∷ xs) h = ap (λ l. y ∷ l) (padded_push k (suc m) d x xs (omega arith))

padded_short : {X : Type 0} (k : ℕ) (d : X) (xs : List X) → length xs ≤ k → take k (xs ++ replicate k d) ≡ xs ++ replicate (k - length xs) d
padded_short k d xs h =
    let e : k ≡ length xs + (k - length xs) = omega arith in
    ap (λ (n : ℕ). take n (xs ++ replicate k d)) e
    ∙ take-append-add xs (replicate k d) (k - length xs)
    ∙ ap (λ l. xs ++ l) (take-replicate (k - length xs) k d (omega arith))

-- as many as there is room for are copied
pub copied : {X : Type 0} (k : ℕ) (d : X) (xs : List X)
    → take (min k (length xs)) xs ++ drop (min k (length xs)) (replicate k d) ≡ take k (xs ++ replicate k d)
copied k d xs =
    ⊎_elim
    (λ (more : k < length xs).
    let e : min k (length xs) ≡ k = omega arith in
    ap (λ (n : ℕ). take n xs ++ drop n (replicate k d)) e
    ∙ ap (λ l. take k xs ++ l) (drop-replicate k k d ∙ ap (λ (n : ℕ). replicate n d) (let z : k - k ≡ 0 = omega arith in z))
    ∙ append-nil (take k xs)
    ∙ sym (take-append-le k xs (replicate k d) (omega arith)))
    (λ (short : length xs ≤ k).
    let e : min k (length xs) ≡ length xs = omega arith in
    ap (λ (n : ℕ). take n xs ++ drop n (replicate k d)) e
    ∙ ap (λ l. l ++ drop (length xs) (replicate k d)) (take_all (length xs) xs (omega arith))
    ∙ ap (λ l. xs ++ l) (drop-replicate (length xs) k d)
    ∙ sym (padded_short k d xs short))
    (cases_lt k (length xs))

-- those that are there
pub take-padded : {X : Type 0} (k : ℕ) (d : X) (xs : List X) → take (length xs) (take k (xs ++ replicate k d)) ≡ take k xs
take-padded k d xs =
    ⊎_elim
    (λ (more : k < length xs).
    let front = take-append-le k xs (replicate k d) (omega arith) in
    ap (take (length xs)) front ∙ take_all (length xs) (take k xs) (omega (arith, length-take k xs)))
    (λ (short : length xs ≤ k).
    ap (take (length xs)) (padded_short k d xs short) ∙ take-append_seam xs (replicate (k - length xs) d) ∙ sym (take_all k xs short))
    (cases_lt k (length xs))
