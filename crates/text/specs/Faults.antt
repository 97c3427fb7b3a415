-- A fault's number, its layer and its place.
-- Words: record_fault_number, number_of, refusal_layer, record_layer, layer_of, layer_number, record_place, place_of, refused_at.
use Rattle.std.specs.Prelude.{ℕ, ◌+◌, min}
use Rattle.refusal.specs.declared.Refusal.{Refusal}
use Rattle.refusal.specs.declared.Refusal.TheVariants.{OutOfRange, SpaceTooShort, TooManyStations, BadLabel, NotTaken, OutsideLine, NoStation, RingTooShort, TrialOpen, NoTrial, JournalFull, BadEntry}
use Rattle.refusal.specs.Refusals.{number}
use Rattle.text.specs.declared.fault.RecordFault.{RecordFault}
use Rattle.text.specs.declared.fault.RecordFault.TheVariants as of_record
use Rattle.text.specs.declared.fault.TextFault.{TextFault}
use Rattle.text.specs.declared.fault.TextFault.TheVariants as of_text
use Rattle.text.specs.declared.fault.Layer.{Layer}
use Rattle.text.specs.declared.fault.Layer.TheVariants as layers
use Rattle.text.specs.declared.fault.Refused.{Refused}
use Rattle.text.specs.Writing.{greatest_length}

abbrev pub record_fault_number : RecordFault → ℕ
record_fault_number of_record.Unknown = 21
record_fault_number (of_record.NotANumber p) = 22
record_fault_number (of_record.NotAWord p) = 23
record_fault_number of_record.OutOfTurn = 24
record_fault_number (of_record.Line r) = number r

abbrev pub number_of : TextFault → ℕ
number_of (of_text.NotWellFormed p) = 20
number_of (of_text.Record f) = record_fault_number f
number_of of_text.TooLong = 25

-- a kind that cannot be, by k or m, is the record's fault; all others are the line's own
abbrev pub refusal_layer : Refusal → Layer
refusal_layer OutOfRange = layers.Record
refusal_layer SpaceTooShort = layers.Line
refusal_layer TooManyStations = layers.Line
refusal_layer BadLabel = layers.Line
refusal_layer NotTaken = layers.Line
refusal_layer OutsideLine = layers.Line
refusal_layer NoStation = layers.Line
refusal_layer RingTooShort = layers.Line
refusal_layer TrialOpen = layers.Line
refusal_layer NoTrial = layers.Line
refusal_layer JournalFull = layers.Line
refusal_layer BadEntry = layers.Line

abbrev pub record_layer : RecordFault → Layer
record_layer of_record.Unknown = layers.Record
record_layer (of_record.NotANumber p) = layers.Record
record_layer (of_record.NotAWord p) = layers.Record
record_layer of_record.OutOfTurn = layers.Record
record_layer (of_record.Line r) = refusal_layer r

abbrev pub layer_of : TextFault → Layer
layer_of (of_text.NotWellFormed p) = layers.Text
layer_of (of_text.Record f) = record_layer f
layer_of of_text.TooLong = layers.Text

abbrev pub layer_number : Layer → ℕ
layer_number layers.Text = 1
layer_number layers.Record = 2
layer_number layers.Line = 3

-- the fault's place in the text: the first impossible byte, a bad column's first byte, and else the record's, which is at start
abbrev pub record_place : ℕ → RecordFault → ℕ
record_place start of_record.Unknown = start
record_place start (of_record.NotANumber p) = p
record_place start (of_record.NotAWord p) = p
record_place start of_record.OutOfTurn = start
record_place start (of_record.Line r) = start

abbrev pub place_of : ℕ → TextFault → ℕ
place_of start (of_text.NotWellFormed p) = p
place_of start (of_text.Record f) = record_place start f
place_of start of_text.TooLong = start

-- the refusal at a record that begins at start. Bytes count from 1; no text is so long that the count would stop at the greatest number
abbrev pub refused_at : TextFault → ℕ → ℕ → Refused
refused_at f n start = record { fault = f; record_number = n; byte_number = min greatest_length (place_of start f + 1) }
