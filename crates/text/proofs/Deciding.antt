-- What is found at a place is one thing alone, and a record where the grammar has one.
use Rattle.std.proofs.Common.{◌≡◌, ℕ, ◌+◌, ◌-◌, ◌<◌, ◌≤◌, List, ◌++◌, length, take, drop, Option, Some, None, Result, Ok, Err, sym, refl, ap, ◌∙◌, subst, ⊎_elim, append_assoc, arith, length-drop}
use Rattle.std.proofs.lemmas.Bool.{cases_lt}
use Rattle.std.proofs.lemmas.List.{take-take, take-append-drop, drop_all}
use Rattle.text.specs.declared.record.Record.{Record}
use Rattle.text.specs.declared.record.Damage.{Damage}
use Rattle.text.specs.Grammar.{Piece, raws, Begins, Text, none, Continues, Stops}
use Rattle.text.specs.Places.{record_of}
use Rattle.text.specs.Resuming.{resumed}
use Rattle.text.specs.Reading.{Reads, Breaks, Outcome}
use Rattle.text.proofs.Recording.{exact_reads}

-- the front of what can be continued can be continued
shorter : (s : List ℕ) (j k : ℕ) → j ≤ k → Continues (take k s) → Continues (take j s)
shorter s j k h c =
    let rest = drop j (take k s) in
    let split : take j s ++ rest ≡ take k s = ap (λ l. l ++ rest) (sym (take-take j k s h)) ∙ take-append-drop j (take k s) in
    (rest ++ c.0, subst Text (ap (λ l. l ++ c.0) (sym split) ∙ append_assoc (take j s) rest c.0) c.1)

stops_same : (s : List ℕ) (j k : ℕ) → Stops s j → Stops s k → j ≡ k
stops_same s j k a b =
    ⊎_elim
    (λ (lt : j < k). absurd (a.at (omega (arith, b.within)) (shorter s (j + 1) k (omega arith) b.before)))
    (λ (ge : k ≤ j).
    ⊎_elim
    (λ (lt : k < j). absurd (b.at (omega (arith, a.within)) (shorter s (k + 1) j (omega arith) a.before)))
    (λ (le : j ≤ k). omega arith)
    (cases_lt k j))
    (cases_lt j k)

-- nothing begins, and nothing is impossible, at the end of the text
pub no_stop_at_end : (s : List ℕ) (p k : ℕ) → length s ≤ p → Stops (drop p s) k → ⊥
no_stop_at_end s p k end h =
    let nothing = drop_all p s end in
    let here : k ≡ length (drop p s) = omega (arith, h.within, ap length nothing) in
    h.missing here (subst Text (sym nothing) none)

no_record_at_end : (s : List ℕ) (p : ℕ) (x : Record) → length s ≤ p → Reads s p x → ⊥
no_record_at_end s p x end h = omega (arith, h.begins.begun, length-drop p s)

breaks_same : (s : List ℕ) (p : ℕ) (d e : Damage) → Breaks s p d → Breaks s p e → d ≡ e
breaks_same s p d e a b =
    let offset = stops_same (drop p s) d.offset e.offset a.stops b.stops in
    let next = a.next ∙ ap (λ (k : ℕ). resumed s (p + k)) offset ∙ sym b.next in
    λ i. record { offset = offset i; next = next i }

pub outcome_same : (s : List ℕ) (p : ℕ) (a b : Option (Result Record Damage)) → Outcome s p a → Outcome s p b → a ≡ b
outcome_same s p None None h g = refl
outcome_same s p None (Some (Ok x)) h g = absurd (no_record_at_end s p x h g)
outcome_same s p None (Some (Err d)) h g = absurd (no_stop_at_end s p d.offset h g.stops)
outcome_same s p (Some (Ok x)) None h g = absurd (no_record_at_end s p x g h)
outcome_same s p (Some (Err d)) None h g = absurd (no_stop_at_end s p d.offset g h.stops)
outcome_same s p (Some (Ok x)) (Some (Ok y)) h g = ap (λ z. Some (Ok z)) (exact_reads s p x g.pieces g.rest h g.begins ∙ sym g.found)
outcome_same s p (Some (Ok x)) (Some (Err d)) h g = absurd (g.stops.none h.pieces h.rest h.begins)
outcome_same s p (Some (Err d)) (Some (Ok y)) h g = absurd (h.stops.none g.pieces g.rest g.begins)
outcome_same s p (Some (Err d)) (Some (Err e)) h g = ap (λ z. Some (Err z)) (breaks_same s p d e h g)

pub outcome_exact : (s : List ℕ) (p : ℕ) (r : Option (Result Record Damage)) (pieces : List Piece) (rest : List ℕ) → Outcome s p r
    → Begins (drop p s) pieces rest → r ≡ Some (Ok (record_of p (raws pieces) (length s - length rest)))
outcome_exact s p None pieces rest h b = absurd (omega (arith, b.begun, length-drop p s))
outcome_exact s p (Some (Ok x)) pieces rest h b = ap (λ y. Some (Ok y)) (exact_reads s p x pieces rest h b)
outcome_exact s p (Some (Err d)) pieces rest h b = absurd (h.stops.none pieces rest b)
