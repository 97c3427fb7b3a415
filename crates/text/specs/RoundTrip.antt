-- What was written reads back.
-- Words: GivesBack, ReadsBack.
use Rattle.std.specs.Prelude.{ℕ, List, [], ◌∷◌, Some, None, Ok}
use Rattle.station.specs.declared.record.Station.{Station}
use Rattle.station.specs.Same.{Same}
use Rattle.text.specs.declared.record.Record.{Record}
use Rattle.text.specs.Reading.{Outcome}
use Rattle.text.specs.Adding.{StationIs}

-- at the place p a record is found, and its columns make a station that is the same as x
pub record GivesBack (s : List ℕ) (p : ℕ) (x : Station) : Type 0 where
  pub found : Record
  pub outcome : Outcome s p (Some (Ok found))
  pub made : Station
  pub makes : StationIs s found (Ok made)
  pub same : Same made x

-- from the place p on, one record for each station gives it back, and then comes the end
abbrev pub ReadsBack : List ℕ → ℕ → List Station → Type 0
ReadsBack s p [] = Outcome s p None
ReadsBack s p (x ∷ xs) = (given : GivesBack s p x) × ReadsBack s given.found.next xs
