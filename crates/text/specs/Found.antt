-- What is made of what was found at a place: of a record, or of a first impossible byte.
-- Words: in_text, FaultAt, AtFound.
use Rattle.std.specs.Prelude.{◌≡◌, ℕ, ◌+◌, Result, Ok, Err}
use Rattle.text.specs.declared.fault.RecordFault.{RecordFault}
use Rattle.text.specs.declared.fault.TextFault.{TextFault}
use Rattle.text.specs.declared.fault.TextFault.TheVariants as of_text
use Rattle.text.specs.declared.record.Record.{Record}
use Rattle.text.specs.declared.record.Damage.{Damage}

-- a record's fault as the text's
abbrev pub in_text : {A : Type 0} → Result A RecordFault → Result A TextFault
in_text (Ok a) = Ok a
in_text (Err f) = Err (of_text.Record f)

-- what is wrong with it: with a record what Wrong says of it, and else that no record begins at p
abbrev pub FaultAt : (Record → RecordFault → Type 0) → ℕ → Result Record Damage → TextFault → Type 0
FaultAt Wrong p (Ok x) (of_text.Record f) = Wrong x f
FaultAt Wrong p (Ok x) (of_text.NotWellFormed k) = ⊥
FaultAt Wrong p (Ok x) of_text.TooLong = ⊥
FaultAt Wrong p (Err d) f = f ≡ of_text.NotWellFormed (p + d.offset)

-- what comes of it, or what is wrong with it: of a record what Gives says
abbrev pub AtFound : {A : Type 0} → (Record → Result A RecordFault → Type 0) → ℕ → Result Record Damage → Result A TextFault → Type 0
AtFound Gives p (Ok x) (Ok a) = Gives x (Ok a)
AtFound Gives p (Err d) (Ok a) = ⊥
AtFound Gives p x (Err f) = FaultAt (λ y g. Gives y (Err g)) p x f
