-- Where reading goes on: behind the first CRLF from a place on.
use Rattle.std.proofs.Common.{◌≡◌, ℕ, ◌+◌, ◌-◌, ◌<◌, ◌≤◌, List, ◌∷◌, length, get_or, drop, sym, ap, ◌∙◌, ⊎_elim, arith, length-drop}
use Rattle.std.proofs.lemmas.Bool.{cases_lt}
use Rattle.std.proofs.lemmas.Bool.Decides.{nat_tests}
use Rattle.std.proofs.lemmas.List.{drop_more, drop_all}
use Rattle.text.specs.Resuming.{behind_crlf, resumed}
use Rattle.text.specs.Scanning.{HasCrlf}

behind_pair : (b c : ℕ) (t : List ℕ) → b ≡ 13 → c ≡ 10 → behind_crlf (b ∷ c ∷ t) ≡ t
behind_pair b c t e g = grind (arith, nat_tests)

behind_other : (b c : ℕ) (t : List ℕ) → (b ≡ 13 → c ≡ 10 → ⊥) → behind_crlf (b ∷ c ∷ t) ≡ behind_crlf (c ∷ t)
behind_other b c t h = grind (arith, nat_tests)

drop_two : (s : List ℕ) (i : ℕ) → i + 1 < length s → drop i s ≡ get_or s i 0 ∷ get_or s (i + 1) 0 ∷ drop (i + 1 + 1) s
drop_two s i h = drop_more s i 0 (omega arith) ∙ ap (λ l. get_or s i 0 ∷ l) (drop_more s (i + 1) 0 h)

pub resumed_past : (s : List ℕ) (i : ℕ) → length s ≤ i → resumed s i ≡ length s
resumed_past s i h = ap (λ l. length s - length (behind_crlf l)) (drop_all i s h) ∙ omega arith

pub resumed_crlf : (s : List ℕ) (i : ℕ) → HasCrlf s i → resumed s i ≡ i + 2
resumed_crlf s i h =
    ap (λ l. length s - length l) (ap behind_crlf (drop_two s i h.0) ∙ behind_pair (get_or s i 0) (get_or s (i + 1) 0) (drop (i + 1 + 1) s) h.1 h.2)
    ∙ omega (arith, length-drop (i + 1 + 1) s, h.0)

behind_more : (s : List ℕ) (i : ℕ) → i < length s → (HasCrlf s i → ⊥) → behind_crlf (drop i s) ≡ behind_crlf (drop (i + 1) s)
behind_more s i h no' =
    let b = get_or s i 0 in
    let c = get_or s (i + 1) 0 in
    ⊎_elim
    (λ two.
    let other = behind_other b c (drop (i + 1 + 1) s) (λ first second. no' (two, first, second)) in
    ap behind_crlf (drop_two s i two) ∙ other ∙ sym (ap behind_crlf (drop_more s (i + 1) 0 two)))
    (λ one.
    let none = drop_all (i + 1) s one in
    ap behind_crlf (drop_more s i 0 h ∙ ap (λ l. b ∷ l) none) ∙ sym (ap behind_crlf none))
    (cases_lt (i + 1) (length s))

pub resumed_more : (s : List ℕ) (i : ℕ) → i < length s → (HasCrlf s i → ⊥) → resumed s (i + 1) ≡ resumed s i
resumed_more s i h no' = ap (λ l. length s - length l) (sym (behind_more s i h no'))
