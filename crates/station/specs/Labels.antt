-- Labels, and how a record holds one.
-- Words: printable, printables, legal, label_refusal, label_of, padded, station_with.
use Rattle.std.specs.Prelude.{ℕ, ◌-◌, Bool, true, cond, not, ◌&&◌, List, [], ◌∷◌, ◌++◌, length, replicate, Option, nat_le}
use Rattle.refusal.specs.Refusals.{first}
use Rattle.station.specs.declared.record.Station.{Station}
use Rattle.station.specs.declared.record.Status.{Status}

-- 20 to 7E hexadecimal
abbrev pub printable : ℕ → Bool
printable b = nat_le 0x20 b && nat_le b 0x7E

abbrev pub printables : List ℕ → Bool
printables [] = true
printables (b ∷ bs) = printable b && printables bs

-- the bytes are a label
abbrev pub legal : List ℕ → Bool
legal bs = nat_le (length bs) 24 && printables bs

abbrev pub label_refusal : List ℕ → Option ℕ
label_refusal bs = first ((not (legal bs), 4) ∷ [])

-- the label in a record's room: the bytes before the first that no label has
abbrev pub label_of : List ℕ → List ℕ
label_of [] = []
label_of (b ∷ bs) = cond (printable b) (b ∷ label_of bs) []

-- the room with a label in it: zeros behind the label
abbrev pub padded : List ℕ → List ℕ
padded bs = bs ++ replicate (24 - length bs) 0

abbrev pub station_with : List ℕ → Status → ℕ → ℕ → Station
station_with bs status up down = record { label = padded bs; status = status; up = up; down = down }
