-- Texts put one after another.
use Rattle.std.proofs.Common.{◌≡◌, ℕ, ◌+◌, ◌/◌, ◌%◌, ◌^◌, ◌<◌, ◌≤◌, List, [], ◌∷◌, ◌++◌, length, get_or, take, sym, refl, ap, subst, ◌∙◌, arith}
use Rattle.std.specs.Fmt.{decimal}
use Rattle.std.specs.List.{AllByRecursion, flat_map}
use Rattle.std.proofs.slice.Lists.{all_by_recursion_push}
use Rattle.std.proofs.lemmas.List.{take_more, take_all, flat_map_more}
use Rattle.std.proofs.lemmas.Fmt.{decimal_step, decimal_digit}
use Rattle.text.specs.declared.sink.Sink.{Sink}
use Rattle.text.specs.Writing.{with_byte, with_text}

pub one_after_another : (s t : List ℕ) (a : Sink) → with_text t (with_text s a) ≡ with_text (s ++ t) a
unfolding with_text
one_after_another [] t a = refl
one_after_another (b ∷ s) t a = one_after_another s t (with_byte b a)

pub bytes_more : (t : List ℕ) (i : ℕ) (a : Sink) → i < length t
    → with_text (get_or t i 0 ∷ []) (with_text (take i t) a) ≡ with_text (take (i + 1) t) a
bytes_more t i a lt = one_after_another (take i t) (get_or t i 0 ∷ []) a ∙ ap (λ s. with_text s a) (sym (take_more t i 0 lt))

pub bytes_all : (t : List ℕ) (i : ℕ) (a : Sink) → length t ≤ i → with_text (take i t) a ≡ with_text t a
bytes_all t i a ge = ap (λ s. with_text s a) (take_all i t ge)

pub texts_more : {X : Type 0} (f : X → List ℕ) (xs : List X) (i : ℕ) (d : X) (a : Sink) → i < length xs
    → with_text (f (get_or xs i d)) (with_text (flat_map f (take i xs)) a) ≡ with_text (flat_map f (take (i + 1) xs)) a
texts_more f xs i d a lt =
    one_after_another (flat_map f (take i xs)) (f (get_or xs i d)) a
    ∙ ap (λ s. with_text s a) (flat_map_more f [] (take i xs) (get_or xs i d) ∙ ap (flat_map f) (sym (take_more xs i d lt)))

pub texts_all : {X : Type 0} (f : X → List ℕ) (xs : List X) (i : ℕ) (a : Sink) → length xs ≤ i
    → with_text (flat_map f (take i xs)) a ≡ with_text (flat_map f xs) a
texts_all f xs i a ge = ap (λ ys. with_text (flat_map f ys) a) (take_all i xs ge)

pub one_digit : (n : ℕ) (a : Sink) → n < 10 → with_text ((48 + n % 10) ∷ []) a ≡ with_text (decimal n) a
one_digit n a small =
    let last : n % 10 ≡ n = omega arith in
    ap (λ (k : ℕ). with_text ((48 + k) ∷ []) a) last ∙ ap (λ s. with_text s a) (sym (decimal_digit n small))

-- the last digit comes behind the others
pub last_digit : (n : ℕ) (a : Sink) → 10 ≤ n → n < 2 ^ 64
    → with_text ((48 + n % 10) ∷ []) (with_text (decimal (n / 10)) a) ≡ with_text (decimal n) a
last_digit n a large fits = one_after_another (decimal (n / 10)) ((48 + n % 10) ∷ []) a ∙ ap (λ s. with_text s a) (sym (decimal_step n large fits))

-- what holds of each value so far holds of one more
pub known_more : {X : Type 0} (P : X → Type 0) (xs : List X) (i : ℕ) (d : X) → i < length xs → AllByRecursion P (take i xs)
    → P (get_or xs i d)
    → AllByRecursion P (take (i + 1) xs)
known_more P xs i d lt h x = subst (AllByRecursion P) (sym (take_more xs i d lt)) (all_by_recursion_push P (take i xs) (get_or xs i d) h x)

pub known_all : {X : Type 0} (P : X → Type 0) (xs : List X) (i : ℕ) → length xs ≤ i → AllByRecursion P (take i xs) → AllByRecursion P xs
known_all P xs i ge h = subst (AllByRecursion P) (take_all i xs ge) h
