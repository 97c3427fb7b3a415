-- What is made of what was found at a place, and what is wrong with it.
use Rattle.std.proofs.Common.{◌≡◌, ℕ, ◌+◌, ◌≤◌, List, length, min, Some, Result, Ok, Err, refl, ap, ◌∙◌, arith, length-drop}
use Rattle.text.specs.declared.fault.RecordFault.{RecordFault}
use Rattle.text.specs.declared.fault.TextFault.{TextFault}
use Rattle.text.specs.declared.fault.TextFault.TheVariants as of_text
use Rattle.text.specs.declared.record.Record.{Record}
use Rattle.text.specs.declared.record.Damage.{Damage}
use Rattle.text.specs.Found.{in_text, FaultAt, AtFound}
use Rattle.text.specs.Reading.{Outcome}
use Rattle.text.specs.Writing.{greatest_length}

-- what is wrong with a record is the record's fault
pub fault_of_record : (Wrong : Record → RecordFault → Type 0) (p : ℕ) (x : Record) (f : TextFault) → FaultAt Wrong p (Ok x) f
    → (g : RecordFault) × (f ≡ of_text.Record g) × Wrong x g
fault_of_record Wrong p x (of_text.Record g) wrong = (g, refl, wrong)
fault_of_record Wrong p x (of_text.NotWellFormed k) wrong = absurd wrong
fault_of_record Wrong p x of_text.TooLong wrong = absurd wrong

-- so is what comes of one
pub of_record : {A : Type 0} (Gives : Record → Result A RecordFault → Type 0) (p : ℕ) (x : Record) (r : Result A TextFault)
    → AtFound Gives p (Ok x) r → (t : Result A RecordFault) × (r ≡ in_text t) × Gives x t
of_record Gives p x (Ok a) gives = (Ok a, refl, gives)
of_record Gives p x (Err f) gives =
    let (g, is, wrong) = fault_of_record (λ y g. Gives y (Err g)) p x f gives in
    (Err g, ap Err is, wrong)

pub in_found : {A : Type 0} (Gives : Record → Result A RecordFault → Type 0) (p : ℕ) (x : Record) (t : Result A RecordFault)
    → Gives x t → AtFound Gives p (Ok x) (in_text t)
in_found Gives p x (Ok a) gives = gives
in_found Gives p x (Err f) gives = gives

-- a first impossible byte is in the text, or at its end
pub damage_within : (s : List ℕ) (p : ℕ) (d : Damage) → Outcome s p (Some (Err d)) → p ≤ greatest_length → length s ≤ greatest_length
    → p + d.offset ≤ greatest_length
damage_within s p d found low short = omega (arith, found.stops.within, length-drop p s)

-- so the count does not stop before it
pub place_of_damage : (s : List ℕ) (p : ℕ) (d : Damage) (f : TextFault) → Outcome s p (Some (Err d)) → p ≤ greatest_length → length s ≤ greatest_length
    → f ≡ of_text.NotWellFormed (min greatest_length (p + d.offset)) → f ≡ of_text.NotWellFormed (p + d.offset)
place_of_damage s p d f found low short is =
    let within : min greatest_length (p + d.offset) ≡ p + d.offset = omega (arith, damage_within s p d found low short) in
    is ∙ ap of_text.NotWellFormed within
