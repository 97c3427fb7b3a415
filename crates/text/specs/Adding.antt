-- What an add record says, and the station that it makes.
-- Words: AddSays, ColumnFault, AddColumnsAre, made_with, made_of, AddMakes, StationIs.
use Rattle.std.specs.Prelude.{◌≡◌, ℕ, ◌⊎◌, List, Result, Ok, Err}
use Rattle.refusal.specs.declared.Refusal.{Refusal}
use Rattle.refusal.specs.Refusals.{number, answered}
use Rattle.station.specs.declared.record.Station.{Station}
use Rattle.station.specs.declared.record.Status.{Status}
use Rattle.station.specs.Labels.{label_refusal, station_with}
use Rattle.text.specs.declared.record.Record.{Record}
use Rattle.text.specs.declared.add.AddColumns.{AddColumns}
use Rattle.text.specs.declared.fault.RecordFault.{RecordFault}
use Rattle.text.specs.declared.fault.RecordFault.TheVariants.{Unknown, Line}
use Rattle.text.specs.declared.words.Verb.TheVariants.{Add}
use Rattle.text.specs.Columns.{column}
use Rattle.text.specs.LabelColumns.{held, held_bytes}
use Rattle.text.specs.Verbs.{sorts, IsVerbOf, FirstBad, SaysValues}

-- the record is an add record with this status and these codes
abbrev pub AddSays : List ℕ → Record → Status → ℕ → ℕ → Type 0
AddSays s x status up down = IsVerbOf s x Add × SaysValues s x status up down

-- what is wrong with a record before its label is looked at: it is no add record, or its first bad column is this
abbrev pub ColumnFault : List ℕ → Record → RecordFault → Type 0
ColumnFault s x f = ((IsVerbOf s x Add → ⊥) × (f ≡ Unknown)) ⊎ (IsVerbOf s x Add × FirstBad s x 1 (sorts Add) f)

-- the columns of an add record, or their first fault
abbrev pub AddColumnsAre : List ℕ → Record → Result AddColumns RecordFault → Type 0
AddColumnsAre s x (Ok c) = AddSays s x c.status c.up c.down × (c.label ≡ held (column s x 1))
AddColumnsAre s x (Err f) = ColumnFault s x f

-- what is made of a label, a status and codes: a station, or the number of a refusal, as `Station::new` promises it
abbrev pub made_with : List ℕ → Status → ℕ → ℕ → Result Station ℕ
made_with label status up down = answered (label_refusal label) (station_with label status up down)

-- of the columns, with what is kept of the label
abbrev pub made_of : AddColumns → Result Station ℕ
made_of c = made_with (held_bytes c.label) c.status c.up c.down

-- the columns are good, and with the whole label column this is made of them
pub record AddMakes (s : List ℕ) (x : Record) (answer : Result Station ℕ) : Type 0 where
  pub status : Status
  pub up : ℕ
  pub down : ℕ
  pub says : AddSays s x status up down
  pub made : made_with (column s x 1) status up down ≡ answer

-- the station that an add record makes, or why it makes none: a column's fault, or a refusal
abbrev pub StationIs : List ℕ → Record → Result Station RecordFault → Type 0
StationIs s x (Ok y) = AddMakes s x (Ok y)
StationIs s x (Err f) = ColumnFault s x f ⊎ ((e : Refusal) × (f ≡ Line e) × AddMakes s x (Err (number e)))
