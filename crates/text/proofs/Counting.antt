-- What a text leaves of a sink: the count, the same space, and the text in it where it fits.
use Rattle.std.proofs.Common.{◌≡◌, ℕ, suc, ◌+◌, ◌<◌, ◌≤◌, List, [], ◌∷◌, ◌++◌, length, min, drop, slice_set, sym, refl, ap, ◌∙◌, zero-add, append-nil, arith}
use Rattle.std.proofs.lemmas.Bool.{cond-true, le-leb}
use Rattle.std.proofs.lemmas.List.{drop_all}
use Rattle.std.proofs.lemmas.List.Edits.{sets, sets-eq}
use Rattle.text.specs.declared.sink.Sink.{Sink}
use Rattle.text.specs.Writing.{greatest_length, with_byte, with_text, told_length, filled}

pub same_space : (t : List ℕ) (a : Sink) → (with_text t a).out.ghost_name ≡ a.out.ghost_name
unfolding with_text
same_space [] a = refl
same_space (b ∷ t) a = same_space t (with_byte b a)

len-with_text : (t : List ℕ) (a : Sink) → a.len ≤ greatest_length → (with_text t a).len ≡ min greatest_length (a.len + length t)
unfolding with_text
len-with_text [] a small = omega arith
len-with_text (b ∷ t) a small =
    let one = with_byte b a in
    let rest : (with_text t one).len ≡ min greatest_length (one.len + length t) = len-with_text t one (omega arith) in
    omega arith

pub counted : (t : List ℕ) (a : Sink) → a.len ≡ 0 → (with_text t a).len ≡ told_length t
counted t a none =
    let all = len-with_text t a (omega arith) in
    omega arith

written-sets : (t : List ℕ) (a : Sink) → a.len + length t ≤ greatest_length → (with_text t a).out.now ≡ sets a.out.now a.len t
unfolding with_text
written-sets [] a fits = refl
written-sets (b ∷ t) a fits =
    let one = with_byte b a in
    let next : one.len ≡ suc a.len = omega arith in
    written-sets t one (omega arith) ∙ ap (λ (k : ℕ). sets (slice_set a.out.now a.len b) k t) next

-- a text that was counted without any space is written where it fits; no space is as long as the greatest length
pub written_where_it_fits : (t : List ℕ) (a : Sink) → a.len ≡ 0 → told_length t ≤ length a.out.now → length a.out.now < greatest_length
    → (with_text t a).out.now ≡ filled t a.out.now
written_where_it_fits t a none fits short =
    let s = a.out.now in
    let all : length t ≤ length s = omega arith in
    written-sets t a (omega arith) ∙ ap (λ (k : ℕ). sets s k t) none ∙ sets-eq t s 0 (omega arith) ∙ ap (λ (k : ℕ). t ++ drop k s) (zero-add (length t))
    ∙ sym (cond-true _ _ _ (le-leb _ _ all))

-- a space that is as long as the text needs is filled by it
pub filled_exactly : (t old : List ℕ) → length old ≡ told_length t → length old < greatest_length → filled t old ≡ t
filled_exactly t old e short =
    let all : length t ≤ length old = omega (arith, e) in
    cond-true _ _ _ (le-leb _ _ all) ∙ ap (λ l. t ++ l) (drop_all (length t) old (omega (arith, e))) ∙ append-nil t
