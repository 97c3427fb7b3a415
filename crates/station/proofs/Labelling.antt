-- Labels in the library's words for a search through a list, and the label that is read off a record.
use Rattle.std.proofs.Common.{◌≡◌, ℕ, zero, suc, ◌≤◌, Bool, true, not, List, [], ◌∷◌, ◌++◌, length, take, replicate, unwrap_or, refl, arith}
use Rattle.std.specs.List.{position, position_or_len, before_first}
use Rattle.std.proofs.lemmas.List.Sums.{prefix_len-le-length, take_while-cons}
use Rattle.station.specs.Labels.{printable, printables, legal, label_of}

-- whether no label has the byte
abbrev pub ends_label : ℕ → Bool
ends_label b = not (printable b)

before_first-ends_label : (bs : List ℕ) → before_first ends_label bs ≡ label_of bs
before_first-ends_label [] = refl
before_first-ends_label (b ∷ bs) = grind (arith, take_while-cons (λ x. not (ends_label x)) b bs, before_first-ends_label bs)

unwrap_or-position : (p : ℕ → Bool) (bs : List ℕ) → unwrap_or (position p bs) (length bs) ≡ position_or_len p bs
unwrap_or-position p bs = grind (arith, prefix_len-le-length (λ x. not (p x)) bs)

-- the label ends before the first byte that no label has
pub take-position : (bs : List ℕ) → take (unwrap_or (position ends_label bs) (length bs)) bs ≡ label_of bs
take-position bs = rw (unwrap_or-position ends_label bs) (before_first-ends_label bs)

label_shorter : (bs : List ℕ) → length (label_of bs) ≤ length bs
label_shorter [] = omega arith
label_shorter (b ∷ bs) = grind (arith, label_shorter bs)

label_printable : (bs : List ℕ) → printables (label_of bs) ≡ true
label_printable [] = refl
label_printable (b ∷ bs) = grind (arith, label_printable bs)

-- what is read off 24 bytes or fewer is a label
pub label_legal : (bs : List ℕ) → length bs ≤ 24 → legal (label_of bs) ≡ true
label_legal bs short = grind (arith, label_shorter bs, label_printable bs)

-- zeros behind a label are no part of it
pub label_put : (bs : List ℕ) (n : ℕ) → printables bs ≡ true → label_of (bs ++ replicate n 0) ≡ bs
label_put [] zero p = refl
label_put [] (suc n) p = refl
label_put (b ∷ bs) n p = grind (arith, label_put bs n)
