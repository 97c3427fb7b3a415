-- The words for statuses, as bytes.
-- Words: status_word.
use Rattle.std.specs.Prelude.{ℕ, List, codes}
use Rattle.station.specs.declared.record.Status.{Status}
use Rattle.station.specs.declared.record.Status.TheVariants.{Judged, Down, Up, Bypass}

abbrev pub status_word : Status → List ℕ
status_word Judged = codes "judged"
status_word Down = codes "down"
status_word Up = codes "up"
status_word Bypass = codes "bypass"
