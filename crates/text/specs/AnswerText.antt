-- The text of an answer.
-- Words: figure_columns, refused_columns, answer_columns, answer_text, answers_text, longest_answer, IsShort.
use Rattle.std.specs.Prelude.{ℕ, ◌≤◌, List, [], ◌∷◌, length, codes}
use Rattle.std.specs.Fmt.{decimal}
use Rattle.std.specs.List.{flat_map}
use Rattle.text.specs.declared.answer.Figures.{Figures}
use Rattle.text.specs.declared.answer.Answer.{Answer}
use Rattle.text.specs.declared.answer.Answer.TheVariants.{Done, Ask, Ring, No}
use Rattle.text.specs.declared.fault.Refused.{Refused}
use Rattle.text.specs.Faults.{number_of, layer_of, layer_number}
use Rattle.text.specs.Writing.{line_of}

abbrev pub figure_columns : Figures → List (List ℕ)
figure_columns f = decimal f.first ∷ decimal f.second ∷ decimal f.joins ∷ []

abbrev pub refused_columns : Refused → List (List ℕ)
refused_columns r =
    decimal (number_of r.fault) ∷ decimal (layer_number (layer_of r.fault)) ∷ decimal r.record_number ∷ decimal r.byte_number ∷ []

abbrev pub answer_columns : Answer → List (List ℕ)
answer_columns (Done n) = codes "ok" ∷ decimal n ∷ []
answer_columns (Ask f) = codes "ask" ∷ figure_columns f
answer_columns (Ring f) = codes "ring" ∷ figure_columns f
answer_columns (No r) = codes "no" ∷ refused_columns r

abbrev pub answer_text : Answer → List ℕ
answer_text a = line_of (answer_columns a)

abbrev pub answers_text : List Answer → List ℕ
answers_text = flat_map answer_text

-- no answer is longer: `ring`, three numbers of 20 digits, and what stands between and behind them
abbrev pub longest_answer : ℕ
longest_answer = 69

abbrev pub IsShort : Answer → Type 0
IsShort a = length (answer_text a) ≤ longest_answer
