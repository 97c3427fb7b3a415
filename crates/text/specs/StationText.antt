-- The text of a list of stations.
-- Words: is_mark, label_text, station_columns, station_text, stations_text.
use Rattle.std.specs.Prelude.{ℕ, Bool, ◌||◌, ◌==◌, cond, List, [], ◌∷◌, ◌++◌, codes}
use Rattle.std.specs.List.{flat_map, list_any}
use Rattle.std.specs.Fmt.{decimal}
use Rattle.station.specs.declared.record.Station.{Station}
use Rattle.station.specs.Labels.{label_of}
use Rattle.station.specs.Words.{status_word}
use Rattle.text.specs.Grammar.{doubled}
use Rattle.text.specs.Writing.{line_of}

-- a comma or a quote
abbrev pub is_mark : ℕ → Bool
is_mark b = b == 34 || b == 44

-- a label is quoted exactly where it holds a comma or a quote
abbrev pub label_text : List ℕ → List ℕ
label_text v = cond (list_any is_mark v) (34 ∷ doubled v ++ 34 ∷ []) v

-- the fields of a station's add record, as they are written
abbrev pub station_columns : Station → List (List ℕ)
station_columns x = codes "add" ∷ label_text (label_of x.label) ∷ status_word x.status ∷ decimal x.up ∷ decimal x.down ∷ []

abbrev pub station_text : Station → List ℕ
station_text x = line_of (station_columns x)

abbrev pub stations_text : List Station → List ℕ
stations_text = flat_map station_text
