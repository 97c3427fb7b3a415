-- What the fields of a record mean, read at their places.
use Rattle.std.proofs.Common.{◌≡◌, ℕ, ◌+◌, ◌-◌, ◌≤◌, true, false, cond, List, [], ◌∷◌, ◌++◌, length, take, drop, map, sym, refl, ap, ◌∙◌, append-nil, ⊎_elim, arith, length-append, length-drop}
use Rattle.std.specs.List.{AllByRecursion, take-map}
use Rattle.std.proofs.lemmas.Bool.{le-leb, ne_eqb, and_from, and_right}
use Rattle.std.proofs.lemmas.List.{take_at}
use Rattle.text.specs.Contents.{halved, is_quoted, inner, content}
use Rattle.text.specs.Grammar.{Plain, doubled, IsField, plain, quoted, Piece, WellFormed, raws, contents, commaed, Begins}
use Rattle.text.specs.Places.{most_columns, placed, kept, record_of, raw_at}
use Rattle.text.specs.Reading.{columns_of}
use Rattle.text.specs.Scanning.{Spans}
use Rattle.text.proofs.Doubling.{halved-doubled}
use Rattle.text.proofs.Placing.{length-placed, take-kept}
use Rattle.text.proofs.Spanning.{spans_from, spans_front, spans_behind}

is_quoted_plain : (v : List ℕ) → AllByRecursion Plain v → is_quoted v ≡ false
is_quoted_plain [] h = refl
is_quoted_plain (b ∷ v) h = and_right _ _ (ne_eqb b 34 h.0.1)

is_quoted_quoted : (r : List ℕ) → is_quoted (34 ∷ r ++ 34 ∷ []) ≡ true
is_quoted_quoted r = and_from _ _ (le-leb _ _ (omega (arith, length-append r (34 ∷ [])))) refl

inner_quoted : (r : List ℕ) → inner (34 ∷ r ++ 34 ∷ []) ≡ r
inner_quoted r =
    ap (λ b. cond b (take (length (34 ∷ r ++ 34 ∷ []) - 2) (r ++ 34 ∷ [])) (34 ∷ r ++ 34 ∷ [])) (is_quoted_quoted r)
    ∙ take_at r (34 ∷ []) _ (omega (arith, length-append r (34 ∷ [])))

-- a field means its content
content-field : (r v : List ℕ) → IsField r v → content r ≡ v
unfolding content
content-field r v (plain {v = w} h) = ap (λ b. cond b (halved (inner w)) w) (is_quoted_plain w h)
content-field r v (quoted {v = w} h) =
    ap (λ b. cond b (halved (inner (34 ∷ doubled w ++ 34 ∷ []))) (34 ∷ doubled w ++ 34 ∷ [])) (is_quoted_quoted (doubled w))
    ∙ ap halved (inner_quoted (doubled w))
    ∙ halved-doubled w

-- the bytes at a place are those that are there
raw_at-Spans : (s : List ℕ) (p : ℕ) (r : List ℕ) (e : ℕ) → Spans s p r e → raw_at s (record { from = p; to = e }) ≡ r
unfolding raw_at
raw_at-Spans s p r e h =
    ap (λ b. cond b (take (e - p) (drop p s)) []) (and_from _ _ (le-leb p e (omega (arith, h.far))) (le-leb e (length s) h.within))
    ∙ ap (take (e - p)) h.splits
    ∙ take_at r (drop e s) (e - p) (omega (arith, h.far))

contents_placed : (s : List ℕ) (p e : ℕ) (fs : List Piece) → AllByRecursion WellFormed fs → Spans s p (commaed (raws fs)) e
    → map (λ f. content (raw_at s f)) (placed p (raws fs)) ≡ contents fs
contents_placed s p e [] h t = refl
contents_placed s p e (f ∷ []) h t =
    let end = ap (λ n. content (raw_at s (record { from = p; to = n }))) (sym t.far) in
    ap (λ l. l ∷ []) (end ∙ ap content (raw_at-Spans s p f.raw e t) ∙ content-field f.raw f.content h.0)
contents_placed s p e (f ∷ g ∷ fs) h t =
    let tail = commaed (raws (g ∷ fs)) in
    let q = p + length f.raw in
    let front = raw_at-Spans s p f.raw q (spans_front s p e f.raw (44 ∷ tail) t) in
    let first = ap content front ∙ content-field f.raw f.content h.0 in
    let others = contents_placed s (q + 1) e (g ∷ fs) h.1 (spans_behind s q e (44 ∷ []) tail (spans_behind s p e f.raw (44 ∷ tail) t)) in
    λ i. first i ∷ others i

-- a record begins with its fields
begins_spans : (s : List ℕ) (p : ℕ) (fs : List Piece) (rest : List ℕ) → p ≤ length s → Begins (drop p s) fs rest
    → Spans s p (commaed (raws fs)) (p + length (commaed (raws fs)))
begins_spans s p fs rest low h =
    ⊎_elim
    (λ e. spans_from s p (commaed (raws fs)) (13 ∷ 10 ∷ rest) low e)
    (λ e. spans_from s p (commaed (raws fs)) [] low (e.0 ∙ sym (append-nil (commaed (raws fs)))))
    h.ended

-- what the kept fields of a record mean
pub columns_of-record_of : (s : List ℕ) (p n : ℕ) (fs : List Piece) (rest : List ℕ) → Begins (drop p s) fs rest
    → columns_of s (record_of p (raws fs) n) ≡ take most_columns (contents fs)
columns_of-record_of s p n fs rest h =
    let low : p ≤ length s = omega (arith, h.begun, length-drop p s) in
    ap (λ (k : ℕ). map (λ f. content (raw_at s f)) (take k (kept (placed p (raws fs))))) (sym (length-placed p (raws fs)))
    ∙ ap (map (λ f. content (raw_at s f))) (take-kept (placed p (raws fs)))
    ∙ sym (take-map (λ f. content (raw_at s f)) most_columns (placed p (raws fs)))
    ∙ ap (take most_columns) (contents_placed s p _ fs h.row.1 (begins_spans s p fs rest low h))
