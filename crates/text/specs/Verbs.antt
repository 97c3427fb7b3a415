-- Which columns each verb has, and what is wrong with those of a record.
-- Words: Sort, sorts, IsVerbOf, VerbFound, Good, bad_column, FirstBad, SaysValues.
use Rattle.std.specs.Prelude.{◌≡◌, ℕ, ◌+◌, ◌⊎◌, ⊤, List, [], ◌∷◌, Result, Ok, Err, length}
use Rattle.station.specs.declared.record.Status.{Status}
use Rattle.station.specs.Words.{status_word}
use Rattle.text.specs.declared.fault.RecordFault.{RecordFault}
use Rattle.text.specs.declared.fault.RecordFault.TheVariants as faults
use Rattle.text.specs.declared.record.Record.{Record}
use Rattle.text.specs.declared.words.KindName.{KindName}
use Rattle.text.specs.declared.words.Verb.{Verb}
use Rattle.text.specs.declared.words.Verb.TheVariants.{Line, Add, Close, Set, Try, Keep, Back, Ask, Ring}
use Rattle.text.specs.Columns.{column, column_place, Says, kind_word, verb_word}

-- what a column has to say
pub data Sort : Type 0 where
  kind_column : Sort
  number_column : Sort
  status_column : Sort
  label_column : Sort

-- the columns behind each verb
abbrev pub sorts : Verb → List Sort
sorts Line = kind_column ∷ number_column ∷ number_column ∷ []
sorts Add = label_column ∷ status_column ∷ number_column ∷ number_column ∷ []
sorts Close = []
sorts Set = number_column ∷ status_column ∷ number_column ∷ number_column ∷ []
sorts Try = []
sorts Keep = []
sorts Back = []
sorts Ask = number_column ∷ number_column ∷ []
sorts Ring = []

-- the record has this verb, and as many columns as the verb has
abbrev pub IsVerbOf : List ℕ → Record → Verb → Type 0
IsVerbOf s x v = (column s x 0 ≡ verb_word v) × (x.count ≡ length (sorts v) + 1)

-- the verb of the record, or that it has none with as many columns
abbrev pub VerbFound : List ℕ → Record → Result Verb RecordFault → Type 0
VerbFound s x (Ok v) = IsVerbOf s x v
VerbFound s x (Err f) = (f ≡ faults.Unknown) × ((v : Verb) → IsVerbOf s x v → ⊥)

-- the bytes say something of the sort: a label column may have any bytes
abbrev pub Good : Sort → List ℕ → Type 0
Good kind_column v = (k : KindName) × (v ≡ kind_word k)
Good number_column v = (n : ℕ) × Says n v
Good status_column v = (t : Status) × (v ≡ status_word t)
Good label_column v = ⊤

-- the fault of a column of the sort that says nothing of it and begins at p; no label column is bad
abbrev pub bad_column : Sort → ℕ → RecordFault
bad_column kind_column p = faults.NotAWord p
bad_column number_column p = faults.NotANumber p
bad_column status_column p = faults.NotAWord p
bad_column label_column p = faults.NotAWord p

-- the fault of the first bad one of these columns, from the left, of which the first is column k
abbrev pub FirstBad : List ℕ → Record → ℕ → List Sort → RecordFault → Type 0
FirstBad s x k [] f = ⊥
FirstBad s x k (t ∷ ts) f =
    ((Good t (column s x k) → ⊥) × (f ≡ bad_column t (column_place x k))) ⊎ (Good t (column s x k) × FirstBad s x (k + 1) ts f)

-- the columns from 2 on say this status and these codes, as add and set have them in common
abbrev pub SaysValues : List ℕ → Record → Status → ℕ → ℕ → Type 0
SaysValues s x status up down = (column s x 2 ≡ status_word status) × Says up (column s x 3) × Says down (column s x 4)
