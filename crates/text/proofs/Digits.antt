-- The number that digits are: how far it is read, and why it can be no other.
use Rattle.std.proofs.Common.{◌≡◌, ℕ, ◌+◌, ◌-◌, ◌*◌, ◌^◌, ◌<◌, ◌≤◌, true, ◌&&◌, List, [], ◌∷◌, length, slice_index, drop, sym, refl, ap, ◌∙◌, subst, ⊎_elim, arith, rules}
use Rattle.std.specs.Fmt.{decimal}
use Rattle.std.specs.Str.{all_ascii_digits}
use Rattle.std.specs.Char.{is_ascii_digit}
use Rattle.std.proofs.lemmas.Bool.{cases_lt, and_parts}
use Rattle.std.proofs.lemmas.Bool.Decides.{nat_tests}
use Rattle.std.proofs.lemmas.List.{drop_more, drop_all}
use Rattle.std.proofs.lemmas.Str.Parse.{IsNumeralModel, numerals_by_fold}
use Rattle.std.proofs.lemmas.Fmt.{decimal-digits_value, digits_decimal, digits_value-decimal, first_decimal, decimal_nonempty, decimal_digit}
use Rattle.text.specs.Columns.{Says}

-- the number read so far, and then the digits behind it
abbrev pub read_on : ℕ → List ℕ → ℕ
read_on n [] = n
read_on n (c ∷ cs) = read_on (n * 10 + (c - 48)) cs

own : IsNumeralModel (λ ds. all_ascii_digits ds ≡ true) (read_on 0)
own = numerals_by_fold _ (search rules) read_on (search rules)

read_on-grows : (n : ℕ) (cs : List ℕ) → n ≤ read_on n cs
read_on-grows n [] = omega arith
read_on-grows n (c ∷ cs) = omega (arith, read_on-grows (n * 10 + (c - 48)) cs)

-- what the decimal text of n is like
record Canonical (v : List ℕ) (n : ℕ) : Type 0 where
  pub digits : all_ascii_digits v ≡ true
  pub value : read_on 0 v ≡ n
  pub some : 0 < length v
  pub front : 1 < length v → slice_index v 0 ≡ 48 → ⊥

zero_front : (n : ℕ) → n < 2 ^ 64 → 1 < length (decimal n) → slice_index (decimal n) 0 ≡ 48 → ⊥
zero_front n small long z =
    ⊎_elim
    (λ (some : 0 < n). omega (arith, first_decimal n some small))
    (λ (none : n ≤ 0). let e : n ≡ 0 = omega arith in omega (arith, ap length (ap decimal e ∙ decimal_digit 0 (omega arith))))
    (cases_lt 0 n)

canonical : (v : List ℕ) (n : ℕ) → Says n v → Canonical v n
canonical v n says = subst (λ l. Canonical l n) (sym says.1) (record {
  digits = digits_decimal own n says.0;
  value = digits_value-decimal own n says.0;
  some = decimal_nonempty n says.0;
  front = zero_front n says.0;
})

pub nothing_said : (v : List ℕ) (n : ℕ) → length v ≡ 0 → Says n v → ⊥
nothing_said v n none says = omega (arith, (canonical v n says).some)

pub needless_zero : (v : List ℕ) (n : ℕ) → 1 < length v → slice_index v 0 ≡ 48 → Says n v → ⊥
needless_zero v n long zero says = (canonical v n says).front long zero

-- i bytes are read, and n is their number
pub record ReadTo (v : List ℕ) (i n : ℕ) : Type 0 where
  pub value : read_on n (drop i v) ≡ read_on 0 v
  pub digits : all_ascii_digits (drop i v) ≡ all_ascii_digits v
  pub small : n < 2 ^ 64

pub begun : (v : List ℕ) → ReadTo v 0 0
begun v = record { value = refl; digits = refl; small = omega arith }

digit_range : (b : ℕ) → is_ascii_digit b ≡ true → (48 ≤ b) × (b ≤ 57)
digit_range b h = grind (arith, nat_tests)

-- where the next byte is no digit, or the number gets too large, the bytes are no number
pub stuck : (v : List ℕ) (i n m : ℕ) → i < length v → ReadTo v i n
    → (48 ≤ slice_index v i → slice_index v i ≤ 57 → n * 10 + (slice_index v i - 48) < 2 ^ 64 → ⊥) → Says m v → ⊥
stuck v i n m lt so no_more says =
    let k = canonical v m says in
    let step = drop_more v i 0 lt in
    let b = slice_index v i in
    let all : (is_ascii_digit b && all_ascii_digits (drop (i + 1) v)) ≡ true = sym (ap all_ascii_digits step) ∙ so.digits ∙ k.digits in
    let d = digit_range b (and_parts _ _ all).0 in
    let grown : read_on (n * 10 + (b - 48)) (drop (i + 1) v) ≡ m = sym (ap (read_on n) step) ∙ so.value ∙ k.value in
    no_more d.0 d.1 (omega (arith, read_on-grows (n * 10 + (b - 48)) (drop (i + 1) v), says.0))

pub one_more : (v : List ℕ) (i n m : ℕ) → i < length v → ReadTo v i n
    → (48 ≤ slice_index v i) × (slice_index v i ≤ 57) × (m ≡ n * 10 + (slice_index v i - 48)) × (m < 2 ^ 64) → ReadTo v (i + 1) m
one_more v i n m lt so d =
    let step = drop_more v i 0 lt in
    let is : is_ascii_digit (slice_index v i) ≡ true = grind (arith, nat_tests) in
    record {
      value = ap (λ (x : ℕ). read_on x (drop (i + 1) v)) d.2 ∙ sym (ap (read_on n) step) ∙ so.value;
      small = d.3;
      digits = ap (λ x. x && all_ascii_digits (drop (i + 1) v)) (sym is) ∙ sym (ap all_ascii_digits step) ∙ so.digits;
    }

pub all_read : (v : List ℕ) (i n : ℕ) → length v ≤ i → ReadTo v i n → 0 < length v → (slice_index v 0 ≡ 48 → length v ≡ 1) → Says n v
all_read v i n ge so some front =
    let none = drop_all i v ge in
    let digits = sym so.digits ∙ ap all_ascii_digits none in
    let value = sym so.value ∙ ap (read_on n) none in
    (so.small, sym (ap decimal (sym value) ∙ decimal-digits_value own v digits some front (omega arith)))
