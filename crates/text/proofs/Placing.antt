-- The places of one field more, and what is kept of it.
use Rattle.std.proofs.Common.{◌≡◌, ℕ, suc, ◌+◌, List, [], ◌∷◌, ◌++◌, length, take, set, refl, sym, ap, ◌∙◌, append_assoc, append-nil, arith, length-append}
use Rattle.std.specs.List.{flat_map}
use Rattle.std.proofs.lemmas.List.{map_push, flat_map_more}
use Rattle.text.specs.declared.record.Field.{Field}
use Rattle.text.specs.Grammar.{Piece, raws, commaed}
use Rattle.text.specs.Places.{most_columns, nowhere, placed, kept}
use Rattle.text.proofs.Padding.{padded_push, take-padded}

-- fields with a comma behind each
abbrev pub led : List (List ℕ) → List ℕ
led = flat_map (λ r. r ++ 44 ∷ [])

pub led_push : (rs : List (List ℕ)) (r : List ℕ) → led (rs ++ r ∷ []) ≡ led rs ++ (r ++ 44 ∷ [])
led_push rs r = sym (flat_map_more (λ x. x ++ 44 ∷ []) [] rs r)

pub commaed_push : (rs : List (List ℕ)) (r : List ℕ) → commaed (rs ++ r ∷ []) ≡ led rs ++ r
commaed_push [] r = refl
commaed_push (q ∷ []) r = sym (append_assoc q (44 ∷ []) r) ∙ sym (ap (λ l. l ++ r) (append-nil (q ++ 44 ∷ [])))
commaed_push (q ∷ p ∷ rs) r =
    ap (λ l. q ++ 44 ∷ l) (commaed_push (p ∷ rs) r) ∙ sym (append_assoc q (44 ∷ []) (led (p ∷ rs) ++ r))
    ∙ sym (append_assoc (q ++ 44 ∷ []) (led (p ∷ rs)) r)

pub raws_push : (fs : List Piece) (f : Piece) → raws (fs ++ f ∷ []) ≡ raws fs ++ f.raw ∷ []
raws_push fs f = map_push (λ (x : Piece). x.raw) fs f

pub length-placed : (p : ℕ) (rs : List (List ℕ)) → length (placed p rs) ≡ length rs
length-placed p [] = refl
length-placed p (r ∷ rs) = ap suc (length-placed (p + length r + 1) rs)

pub placed_push : (p from to : ℕ) (rs : List (List ℕ)) (r : List ℕ) → from ≡ p + length (led rs) → to ≡ from + length r
    → placed p (rs ++ r ∷ []) ≡ placed p rs ++ record { from = from; to = to } ∷ []
placed_push p from to [] r a b =
    let begin : p ≡ from = omega arith in
    let end : p + length r ≡ to = omega arith in
    λ i. record { from = begin i; to = end i } ∷ []
placed_push p from to (q ∷ rs) r a b =
    let on : from ≡ p + length q + 1 + length (led rs) = a ∙ simp length-append (omega arith) in
    ap (λ l. record { from = p; to = p + length q } ∷ l) (placed_push (p + length q + 1) from to rs r on b)

-- past the end a write does nothing
pub kept_push : (fs : List Field) (f : Field) → kept (fs ++ f ∷ []) ≡ set (kept fs) (length fs) f
kept_push fs f = padded_push most_columns most_columns nowhere f fs (omega arith)

-- those that are there
pub take-kept : (fs : List Field) → take (length fs) (kept fs) ≡ take most_columns fs
take-kept fs = take-padded most_columns nowhere fs
