-- What is between quotes, byte by byte.
use Rattle.std.proofs.Common.{◌≡◌, ℕ, ◌≢◌, List, [], ◌∷◌, sym, ap, subst, ⊎_elim, refl, ◌∙◌}
use Rattle.std.proofs.lemmas.Bool.{cases_eq, ne_eqb}
use Rattle.text.specs.Contents.{halve, halved}
use Rattle.text.specs.Grammar.{doubled}

-- the bytes between the quotes, and what they mean: a doubled quote is one quote
pub data Body : List ℕ → List ℕ → Type 0 where
  nothing : Body [] []
  itself : {b : ℕ} {r v : List ℕ} → b ≢ 34 → Body r v → Body (b ∷ r) (b ∷ v)
  quote : {r v : List ℕ} → Body r v → Body (34 ∷ 34 ∷ r) (34 ∷ v)

body_more : (b : ℕ) (v : List ℕ) → Body (doubled v) v → Body (doubled (b ∷ v)) (b ∷ v)
body_more b v h =
    ⊎_elim
    (λ same. subst (λ (x : ℕ). Body (doubled (x ∷ v)) (x ∷ v)) (sym same) (quote h))
    (λ other. rw (ne_eqb b 34 other) (itself other h))
    (cases_eq b 34)

pub Body-doubled : (v : List ℕ) → Body (doubled v) v
Body-doubled [] = nothing
Body-doubled (b ∷ v) = body_more b v (Body-doubled v)

halved_body : (r v : List ℕ) → Body r v → halved r ≡ v
halved_body r v nothing = refl
halved_body r v (itself {b = b} {r = q} {v = w} no' h) = ap (λ l. b ∷ l) (ap (λ t. halve t q) (ne_eqb b 34 no') ∙ halved_body q w h)
halved_body r v (quote {r = q} {v = w} h) = ap (λ l. 34 ∷ l) (halved_body q w h)

pub halved-doubled : (v : List ℕ) → halved (doubled v) ≡ v
halved-doubled v = halved_body (doubled v) v (Body-doubled v)
