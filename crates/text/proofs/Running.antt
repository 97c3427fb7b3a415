-- Where the grammar leads the machine.
use Rattle.std.proofs.Common.{◌≡◌, ℕ, ◌⊎◌, List, [], ◌∷◌, ◌++◌, length, sym, refl, ap, ◌∙◌, subst, inl, inr, ⊎_elim, arith}
use Rattle.std.specs.List.{AllByRecursion}
use Rattle.std.proofs.lemmas.Bool.{cases_eq, ne_eqb}
use Rattle.std.proofs.lemmas.Bool.Decides.{nat_tests}
use Rattle.text.specs.Grammar.{Plain, Quotable, between_quotes, doubled, IsField, plain, quoted, Piece, raws, commaed, Row, Begins, Text, none, more}
use Rattle.text.proofs.Machine.{start, bare, inside, closed, returned, dead, step, run, run-append, run-done, Open, Live, open_live, comma_starts, return_returns}

start_plain : (b : ℕ) → Plain b → step start b ≡ bare
start_plain b h = grind (arith, nat_tests)

bare_plain : (b : ℕ) → Plain b → step bare b ≡ bare
bare_plain b h = grind (arith, nat_tests)

inside_quotable : (b : ℕ) → Quotable b → (b ≡ 34 → ⊥) → step inside b ≡ inside
inside_quotable b h no' = grind (arith, nat_tests)

run_bare : (r : List ℕ) → AllByRecursion Plain r → run bare r ≡ bare
run_bare [] h = refl
run_bare (b ∷ r) h = ap (λ q. run q r) (bare_plain b h.0) ∙ run_bare r h.1

inside-between_quotes : (b : ℕ) → Quotable b → run inside (between_quotes b) ≡ inside
inside-between_quotes b h =
    ⊎_elim
    (λ same. ap (λ x. run inside (between_quotes x)) same)
    (λ other. rw (ne_eqb b 34 other) (inside_quotable b h other))
    (cases_eq b 34)

pub inside-doubled : (v : List ℕ) → AllByRecursion Quotable v → run inside (doubled v) ≡ inside
inside-doubled [] h = refl
inside-doubled (b ∷ v) h = run-append inside (between_quotes b) (doubled v) ∙ ap (λ q. run q (doubled v)) (inside-between_quotes b h.0) ∙ inside-doubled v h.1

plain_way : (r : List ℕ) → AllByRecursion Plain r → (run start r ≡ start) ⊎ (run start r ≡ bare)
plain_way [] h = inl refl
plain_way (b ∷ r) h = inr (ap (λ q. run q r) (start_plain b h.0) ∙ run_bare r h.1)

quoted_way : (v : List ℕ) → AllByRecursion Quotable v → run start (34 ∷ doubled v ++ 34 ∷ []) ≡ closed
quoted_way v h = run-append inside (doubled v) (34 ∷ []) ∙ ap (λ q. run q (34 ∷ [])) (inside-doubled v h)

pub field_open : (r v : List ℕ) → IsField r v → Open (run start r)
field_open r v (plain {v = q} h) = ⊎_elim (λ e. subst Open (sym e) tt) (λ e. subst Open (sym e) tt) (plain_way q h)
field_open r v (quoted {v = q} h) = subst Open (sym (quoted_way q h)) tt

-- a field and its comma lead back to the start
pub field_comma : (r v w : List ℕ) → IsField r v → run start (r ++ 44 ∷ w) ≡ run start w
field_comma r v w h = run-append start r (44 ∷ w) ∙ ap (λ q. run q w) (comma_starts (run start r) (field_open r v h))

row_open : (fs : List Piece) → Row fs → Open (run start (commaed (raws fs)))
row_open [] h = absurd (omega arith)
row_open (f ∷ []) h = field_open f.raw f.content h.1.0
row_open (f ∷ g ∷ fs) h = subst Open (sym (field_comma f.raw f.content (commaed (raws (g ∷ fs))) h.1.0)) (row_open (g ∷ fs) (omega arith, h.1.1))

pub begins_live : (s rest : List ℕ) (fs : List Piece) → Begins s fs rest → Live (run start s)
begins_live s rest fs h =
    let on = row_open fs h.row in
    ⊎_elim
    (λ e. subst (λ l. Live (run start l)) (sym e)
    (subst Live (sym (run-append start (commaed (raws fs)) (13 ∷ 10 ∷ rest) ∙ ap (λ q. run q (10 ∷ rest)) (return_returns _ on) ∙ run-done rest)) tt))
    (λ e. subst (λ l. Live (run start l)) (sym e.0) (open_live _ on))
    h.ended

pub text_live : (s : List ℕ) → Text s → Live (run start s)
text_live s none = tt
text_live s (more {fs = fs} {rest = rest} h g) = begins_live s rest fs h

bare_stops : (b : ℕ) → (Plain b → ⊥) → (b ≡ 44 → ⊥) → (b ≡ 13 → ⊥) → step bare b ≡ dead
bare_stops b h c r = grind (arith, nat_tests)

start_stops : (b : ℕ) → (b ≡ 34 → ⊥) → (Plain b → ⊥) → (b ≡ 44 → ⊥) → (b ≡ 13 → ⊥) → step start b ≡ dead
start_stops b q h c r = grind (arith, nat_tests)

closed_stops : (b : ℕ) → (b ≡ 34 → ⊥) → (b ≡ 44 → ⊥) → (b ≡ 13 → ⊥) → step closed b ≡ dead
closed_stops b q c r = grind (arith, nat_tests)

pub returned_stops : (b : ℕ) → (b ≡ 10 → ⊥) → step returned b ≡ dead
returned_stops b h = grind (arith, nat_tests)

pub inside_stops : (b : ℕ) → (Quotable b → ⊥) → step inside b ≡ dead
inside_stops b h = grind (arith, nat_tests)

pub plain_stops : (r : List ℕ) (b : ℕ) → AllByRecursion Plain r → (length r ≡ 0 → b ≡ 34 → ⊥) → (Plain b → ⊥) → (b ≡ 44 → ⊥)
    → (b ≡ 13 → ⊥) → step (run start r) b ≡ dead
plain_stops [] b h q p c r = start_stops b (q refl) p c r
plain_stops (x ∷ xs) b h q p c r = ap (λ s. step s b) (ap (λ q. run q xs) (start_plain x h.0) ∙ run_bare xs h.1) ∙ bare_stops b p c r

pub quoted_stops : (v : List ℕ) (b : ℕ) → AllByRecursion Quotable v → (b ≡ 34 → ⊥) → (b ≡ 44 → ⊥) → (b ≡ 13 → ⊥)
    → step (run start (34 ∷ doubled v ++ 34 ∷ [])) b ≡ dead
quoted_stops v b h q c r = ap (λ s. step s b) (quoted_way v h) ∙ closed_stops b q c r
