-- A station list as a text has it: what each record gives, and all of them to the end; what is told of it.
-- Words: Gives, stations_of, answers_of, Lists, report_text.
use Rattle.std.specs.Prelude.{ℕ, ◌+◌, List, [], ◌∷◌, ◌++◌, Some, None, Result, Ok, Err}
use Rattle.station.specs.declared.record.Station.{Station}
use Rattle.text.specs.declared.answer.Answer.{Answer}
use Rattle.text.specs.declared.answer.Answer.TheVariants.{No}
use Rattle.text.specs.declared.fault.TextFault.{TextFault}
use Rattle.text.specs.declared.record.Record.{Record}
use Rattle.text.specs.declared.record.Damage.{Damage}
use Rattle.text.specs.Adding.{StationIs}
use Rattle.text.specs.Faults.{refused_at}
use Rattle.text.specs.Found.{AtFound}
use Rattle.text.specs.AnswerText.{answers_text}
use Rattle.text.specs.StationText.{stations_text}
use Rattle.text.specs.Reading.{Outcome, next_of}

-- what was found at the place p makes this station, or this is wrong there
abbrev pub Gives : List ℕ → ℕ → Result Record Damage → Result Station TextFault → Type 0
Gives s = AtFound (StationIs s)

abbrev pub stations_of : Result Station TextFault → List Station
stations_of (Ok x) = x ∷ []
stations_of (Err f) = []

-- the answer to the record with the number n, which begins at the place p, if it is refused
abbrev pub answers_of : ℕ → ℕ → Result Station TextFault → List Answer
answers_of n p (Ok x) = []
answers_of n p (Err f) = No (refused_at f n p) ∷ []

-- from the place p on, where the record number n is due, the text has these stations, and these answers refuse the other records
pub data Lists (s : List ℕ) : ℕ → ℕ → List Station → List Answer → Type 0 where
  ended : {p n : ℕ} → Outcome s p None → Lists s p n [] []
  more : {p n : ℕ} (r : Result Record Damage) (o : Result Station TextFault) {xs : List Station} {ys : List Answer}
      → Outcome s p (Some r) → Gives s p r o → Lists s (next_of r) (n + 1) xs ys
      → Lists s p n (stations_of o ++ xs) (answers_of n p o ++ ys)

-- what is told of a list: the refusals in order, and then the list
abbrev pub report_text : List Station → List Answer → List ℕ
report_text xs ys = answers_text ys ++ stations_text xs
