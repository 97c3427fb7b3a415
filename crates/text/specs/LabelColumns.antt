-- What is kept of a label column: its first 25 bytes, one more than a label can have.
-- Words: label_room, held, held_bytes.
use Rattle.std.specs.Prelude.{ℕ, min, List, ◌++◌, length, take, replicate}
use Rattle.text.specs.declared.label.LabelColumn.{LabelColumn}

abbrev pub label_room : ℕ
label_room = 25

-- with zeros behind them
abbrev pub held : List ℕ → LabelColumn
held v = record { bytes = take label_room (v ++ replicate label_room 0); len = min label_room (length v) }

abbrev pub held_bytes : LabelColumn → List ℕ
held_bytes x = take x.len x.bytes
