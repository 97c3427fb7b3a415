-- A text begins with one record at most.
use Rattle.std.proofs.Common.{◌≡◌, ℕ, ◌⊎◌, List, [], ◌∷◌, ◌++◌, length, sym, refl, ap, ◌∙◌, subst, inl, inr, ⊎_elim, append_assoc, append-nil, arith}
use Rattle.std.specs.List.{AllByRecursion}
use Rattle.text.specs.Grammar.{Plain, IsField, plain, quoted, doubled, Piece, Row, raws, commaed, Begins}
use Rattle.text.proofs.Doubling.{Body, nothing, itself, quote, Body-doubled}

-- what may follow a field
abbrev Seam : List ℕ → Type 0
Seam [] = Unit {0}
Seam (b ∷ t) = (b ≡ 44) ⊎ (b ≡ 13)

head_same : (a b : ℕ) (s t : List ℕ) → a ∷ s ≡ b ∷ t → a ≡ b
head_same a b s t e = cc

tail_same : (a b : ℕ) (s t : List ℕ) → a ∷ s ≡ b ∷ t → s ≡ t
tail_same a b s t e = cc

plain_same : (r q t u : List ℕ) → AllByRecursion Plain r → AllByRecursion Plain q → Seam t → Seam u → r ++ t ≡ q ++ u → (r ≡ q) × (t ≡ u)
plain_same [] [] t u h g a b e = (refl, e)
plain_same [] (x ∷ q) [] u h g a b e = absurd (omega (arith, ap length e))
plain_same [] (x ∷ q) (y ∷ t) u h g a b e = absurd (omega (arith, head_same _ _ _ _ e))
plain_same (x ∷ r) [] t [] h g a b e = absurd (omega (arith, ap length e))
plain_same (x ∷ r) [] t (y ∷ u) h g a b e = absurd (omega (arith, head_same _ _ _ _ e))
plain_same (x ∷ r) (y ∷ q) t u h g a b e =
    let others = plain_same r q t u h.1 g.1 a b (tail_same _ _ _ _ e) in
    let first = head_same _ _ _ _ e in
    (λ i. first i ∷ others.0 i, others.1)

no_quote : (t : List ℕ) (x : ℕ) (q : List ℕ) → Seam t → t ≡ x ∷ q → x ≡ 34 → ⊥
no_quote [] x q h e z = omega (arith, ap length e)
no_quote (y ∷ t) x q h e z = omega (arith, head_same _ _ _ _ e)

body_same : (r v q w t u : List ℕ) → Body r v → Body q w → Seam t → Seam u → r ++ 34 ∷ t ≡ q ++ 34 ∷ u → (v ≡ w) × (t ≡ u)
body_same r v q w t u nothing nothing a b e = (refl, tail_same _ _ _ _ e)
body_same r v q w t u nothing (itself h g) a b e = absurd (h (sym (head_same _ _ _ _ e)))
body_same r v q w t u nothing (quote g) a b e = absurd (no_quote t _ _ a (tail_same _ _ _ _ e) refl)
body_same r v q w t u (itself h g) nothing a b e = absurd (h (head_same _ _ _ _ e))
body_same r v q w t u (itself {b = x} {r = r'} {v = v'} h g) (itself {b = y} {r = q'} {v = w'} k l) a b e =
    let others = body_same r' v' q' w' t u g l a b (tail_same _ _ _ _ e) in
    let first = head_same _ _ _ _ e in
    (λ i. first i ∷ others.0 i, others.1)
body_same r v q w t u (itself h g) (quote l) a b e = absurd (h (head_same _ _ _ _ e))
body_same r v q w t u (quote g) nothing a b e = absurd (no_quote u _ _ b (sym (tail_same _ _ _ _ e)) refl)
body_same r v q w t u (quote g) (itself k l) a b e = absurd (k (sym (head_same _ _ _ _ e)))
body_same r v q w t u (quote {r = r'} {v = v'} g) (quote {r = q'} {v = w'} l) a b e =
    let others = body_same r' v' q' w' t u g l a b (tail_same _ _ _ _ (tail_same _ _ _ _ e)) in
    (ap (λ z. 34 ∷ z) others.0, others.1)

plain_no_quote : (r t q : List ℕ) → AllByRecursion Plain r → Seam t → r ++ t ≡ 34 ∷ q → ⊥
plain_no_quote [] t q h a e = no_quote t _ _ a e refl
plain_no_quote (x ∷ r) t q h a e = h.0.1 (head_same _ _ _ _ e)

field_same : (r v q w t u : List ℕ) → IsField r v → IsField q w → Seam t → Seam u → r ++ t ≡ q ++ u → (r ≡ q) × (v ≡ w) × (t ≡ u)
field_same r v q w t u (plain {v = r'} h) (plain {v = q'} g) a b e = let p = plain_same r' q' t u h g a b e in (p.0, p.0, p.1)
field_same r v q w t u (plain {v = r'} h) (quoted {v = q'} g) a b e = absurd (plain_no_quote r' t _ h a e)
field_same r v q w t u (quoted {v = r'} h) (plain {v = q'} g) a b e = absurd (plain_no_quote q' u _ g b (sym e))
field_same r v q w t u (quoted {v = v'} h) (quoted {v = w'} g) a b e =
    let inside = sym (append_assoc (doubled v') (34 ∷ []) t) ∙ tail_same _ _ _ _ e ∙ append_assoc (doubled w') (34 ∷ []) u in
    let p = body_same _ _ _ _ t u (Body-doubled v') (Body-doubled w') a b inside in
    (ap (λ z. 34 ∷ doubled z ++ 34 ∷ []) p.0, p.0, p.1)

-- what may follow a record's fields
abbrev End : List ℕ → Type 0
End [] = Unit {0}
End (b ∷ t) = b ≡ 13

end_seam : (t : List ℕ) → End t → Seam t
end_seam [] h = tt
end_seam (b ∷ t) h = inr h

end_no_comma : (t u : List ℕ) → End t → t ≡ 44 ∷ u → ⊥
end_no_comma [] u h e = omega (arith, ap length e)
end_no_comma (b ∷ t) u h e = omega (arith, head_same _ _ _ _ e)

row_same : (fs gs : List Piece) (t u : List ℕ) → Row fs → Row gs → End t → End u → commaed (raws fs) ++ t ≡ commaed (raws gs) ++ u
    → (fs ≡ gs) × (t ≡ u)
row_same [] gs t u h g a b e = absurd (omega arith)
row_same (f ∷ fs) [] t u h g a b e = absurd (omega arith)
row_same (f ∷ []) (x ∷ []) t u h g a b e =
    let p = field_same _ _ _ _ t u h.1.0 g.1.0 (end_seam t a) (end_seam u b) e in
    (λ i. record { raw = p.0 i; content = p.1 i } ∷ [], p.2)
row_same (f ∷ []) (x ∷ y ∷ gs) t u h g a b e =
    let p = field_same _ _ _ _ t (44 ∷ commaed (raws (y ∷ gs)) ++ u) h.1.0 g.1.0 (end_seam t a) (inl refl) (e ∙ append_assoc x.raw _ u) in
    absurd (end_no_comma t _ a p.2)
row_same (f ∷ z ∷ fs) (x ∷ []) t u h g a b e =
    let p = field_same _ _ _ _ (44 ∷ commaed (raws (z ∷ fs)) ++ t) u h.1.0 g.1.0 (inl refl) (end_seam u b) (sym (append_assoc f.raw _ t) ∙ e) in
    absurd (end_no_comma u _ b (sym p.2))
row_same (f ∷ z ∷ fs) (x ∷ y ∷ gs) t u h g a b e =
    let split = sym (append_assoc f.raw _ t) ∙ e ∙ append_assoc x.raw _ u in
    let p = field_same _ _ _ _ (44 ∷ commaed (raws (z ∷ fs)) ++ t) (44 ∷ commaed (raws (y ∷ gs)) ++ u) h.1.0 g.1.0 (inl refl) (inl refl) split in
    let others = row_same (z ∷ fs) (y ∷ gs) t u (omega arith, h.1.1) (omega arith, g.1.1) a b (tail_same _ _ _ _ p.2) in
    (λ i. record { raw = p.0 i; content = p.1 i } ∷ others.0 i, others.1)

-- a record's fields, and its end
record Whole (s : List ℕ) (fs : List Piece) (rest : List ℕ) : Type 0 where
  end : List ℕ
  splits : s ≡ commaed (raws fs) ++ end
  ends : End end
  behind : (end ≡ 13 ∷ 10 ∷ rest) ⊎ ((end ≡ []) × (rest ≡ []))

whole_of : (s : List ℕ) (fs : List Piece) (rest : List ℕ) → Begins s fs rest → Whole s fs rest
whole_of s fs rest h =
    ⊎_elim
    (λ e. record { end = 13 ∷ 10 ∷ rest; splits = e; ends = refl; behind = inl refl })
    (λ e. record { end = []; splits = e.0 ∙ sym (append-nil (commaed (raws fs))); ends = tt; behind = inr (refl, e.1) })
    h.ended

rest_same : (t q r : List ℕ) → (t ≡ 13 ∷ 10 ∷ q) ⊎ ((t ≡ []) × (q ≡ [])) → (t ≡ 13 ∷ 10 ∷ r) ⊎ ((t ≡ []) × (r ≡ [])) → q ≡ r
rest_same t q r (inl a) (inl b) = tail_same _ _ _ _ (tail_same _ _ _ _ (sym a ∙ b))
rest_same t q r (inl a) (inr b) = absurd (omega (arith, ap length (sym a ∙ b.0)))
rest_same t q r (inr a) (inl b) = absurd (omega (arith, ap length (sym b ∙ a.0)))
rest_same t q r (inr a) (inr b) = a.1 ∙ sym b.1

-- a text begins with one record at most
pub begins_same : (s : List ℕ) (fs gs : List Piece) (q r : List ℕ) → Begins s fs q → Begins s gs r → (fs ≡ gs) × (q ≡ r)
begins_same s fs gs q r h g =
    let a = whole_of s fs q h in
    let b = whole_of s gs r g in
    let p = row_same fs gs a.end b.end h.row g.row a.ends b.ends (sym a.splits ∙ b.splits) in
    (p.0, rest_same b.end q r (subst (λ z. (z ≡ 13 ∷ 10 ∷ q) ⊎ ((z ≡ []) × (q ≡ []))) p.1 a.behind) b.behind)
