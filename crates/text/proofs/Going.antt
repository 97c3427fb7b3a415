-- Reading gets on: behind whatever is found, less of the text is left.
use Rattle.std.proofs.Common.{◌≡◌, ℕ, ◌+◌, ◌<◌, ◌≤◌, List, [], ◌∷◌, length, drop, ap, refl, Option, Some, None, Result, Ok, Err, IfSome, inl, ⊎_elim, ◌⊎◌, arith, length-append, length-drop}
use Rattle.std.proofs.lemmas.Bool.{cases_lt}
use Rattle.text.specs.declared.record.Record.{Record}
use Rattle.text.specs.declared.record.Damage.{Damage}
use Rattle.text.specs.Grammar.{Piece, raws, commaed, Begins}
use Rattle.text.specs.Resuming.{behind_crlf}
use Rattle.text.proofs.Deciding.{no_stop_at_end}
use Rattle.text.specs.Reading.{Reads, Breaks, Outcome, next_of}

rest_shorter : (s : List ℕ) (fs : List Piece) (rest : List ℕ) → Begins s fs rest → length rest < length s
rest_shorter s fs rest h =
    ⊎_elim
    (λ e. omega (arith, ap length e, length-append (commaed (raws fs)) (13 ∷ 10 ∷ rest)))
    (λ e. omega (arith, ap length e.1, h.begun))
    h.ended

behind_shorter : (s : List ℕ) → (length (behind_crlf s) ≡ 0) ⊎ (length (behind_crlf s) < length s)
behind_shorter [] = inl refl
behind_shorter (b ∷ []) = inl refl
behind_shorter (b ∷ c ∷ s) = grind (arith, behind_shorter (c ∷ s))

onward_Reads : (s : List ℕ) (p : ℕ) (x : Record) → Reads s p x → (p < x.next) × (x.next ≤ length s)
onward_Reads s p x h =
    let n = ap (λ (y : Record). y.next) h.found in
    let less = rest_shorter (drop p s) h.pieces h.rest h.begins in
    (omega (arith, n, less, length-drop p s), omega (arith, n))

onward_Breaks : (s : List ℕ) (p : ℕ) (d : Damage) → Breaks s p d → (p < d.next) × (d.next ≤ length s)
onward_Breaks s p d h =
    let low : p < length s = ⊎_elim (λ lt. lt) (λ end. absurd (no_stop_at_end s p d.offset end h.stops)) (cases_lt p (length s)) in
    ⊎_elim
    (λ nothing. (omega (arith, h.next, nothing), omega (arith, h.next)))
    (λ less. (omega (arith, h.next, less, length-drop (p + d.offset) s), omega (arith, h.next)))
    (behind_shorter (drop (p + d.offset) s))

pub outcome_onward : (s : List ℕ) (p : ℕ) (r : Option (Result Record Damage)) → Outcome s p r → IfSome r (λ found. (p < next_of found) × (next_of found ≤ length s))
outcome_onward s p None h = tt
outcome_onward s p (Some (Ok x)) h = onward_Reads s p x h
outcome_onward s p (Some (Err d)) h = onward_Breaks s p d h
