-- How long an answer's text can be.
use Rattle.std.proofs.Common.{◌≡◌, ℕ, ◌+◌, ◌*◌, ◌^◌, ◌<◌, ◌≤◌, List, [], ◌∷◌, length, map, codes, refl, ap, arith}
use Rattle.std.proofs.lemmas.Fmt.{length-decimal-le}
use Rattle.std.proofs.lemmas.List.{length-append}
use Rattle.std.specs.Fmt.{decimal}
use Rattle.std.specs.List.{AllByRecursion}
use Rattle.refusal.specs.declared.Refusal.{Refusal}
use Rattle.refusal.specs.declared.Refusal.TheVariants.{OutOfRange, SpaceTooShort, TooManyStations, BadLabel, NotTaken, OutsideLine, NoStation, RingTooShort, TrialOpen, NoTrial, JournalFull, BadEntry}
use Rattle.refusal.specs.Refusals.{number}
use Rattle.text.specs.declared.answer.Answer.TheVariants.{Done, Ask, Ring, No}
use Rattle.text.specs.declared.answer.Figures.{Figures}
use Rattle.text.specs.declared.fault.Layer.{Layer}
use Rattle.text.specs.declared.fault.Layer.TheVariants as layers
use Rattle.text.specs.declared.fault.RecordFault.{RecordFault}
use Rattle.text.specs.declared.fault.RecordFault.TheVariants as faults
use Rattle.text.specs.declared.fault.TextFault.{TextFault}
use Rattle.text.specs.declared.fault.TextFault.TheVariants as of_text
use Rattle.text.specs.declared.fault.Refused.{Refused}
use Rattle.text.specs.AnswerText.{answer_text, IsShort}
use Rattle.text.specs.Faults.{record_fault_number, number_of, layer_of, layer_number}
use Rattle.text.specs.Grammar.{commaed}
use Rattle.text.specs.Writing.{line_of}

abbrev Fit64 : ℕ → Type 0
Fit64 n = n < 2 ^ 64

at_most_twenty : (n : ℕ) → Fit64 n → length (decimal n) ≤ 20
at_most_twenty n fits = length-decimal-le 20 n (omega arith) (omega arith) fits

-- behind the word each number takes a comma and at most 20 digits
numbers_short : (w : List ℕ) (ns : List ℕ) → AllByRecursion Fit64 ns → length (commaed (w ∷ map decimal ns)) ≤ length w + 21 * length ns
numbers_short w [] fit = omega arith
numbers_short w (n ∷ ns) (fits, rest) =
    omega (arith, length-append w (44 ∷ commaed (decimal n ∷ map decimal ns)), at_most_twenty n fits, numbers_short (decimal n) ns rest)

line_short : (w : List ℕ) (ns : List ℕ) → AllByRecursion Fit64 ns → length (line_of (w ∷ map decimal ns)) ≤ length w + 21 * length ns + 2
line_short w ns fit = omega (arith, length-append (commaed (w ∷ map decimal ns)) (13 ∷ 10 ∷ []), numbers_short w ns fit)

pub done_short : (n : ℕ) → n < 2 ^ 64 → IsShort (Done n)
done_short n fits = omega (arith, line_short (111 ∷ 107 ∷ []) (n ∷ []) (fits, tt))

pub ask_short : (f : Figures) → f.first < 2 ^ 64 → f.second < 2 ^ 64 → f.joins < 2 ^ 64 → IsShort (Ask f)
ask_short f first second joins = omega (arith, line_short (97 ∷ 115 ∷ 107 ∷ []) (f.first ∷ f.second ∷ f.joins ∷ []) (first, (second, (joins, tt))))

pub ring_short : (f : Figures) → f.first < 2 ^ 64 → f.second < 2 ^ 64 → f.joins < 2 ^ 64 → IsShort (Ring f)
ring_short f first second joins = omega (arith, line_short (114 ∷ 105 ∷ 110 ∷ 103 ∷ []) (f.first ∷ f.second ∷ f.joins ∷ []) (first, (second, (joins, tt))))

of_refusal : (r : Refusal) → number r < 100
of_refusal OutOfRange = omega arith
of_refusal SpaceTooShort = omega arith
of_refusal TooManyStations = omega arith
of_refusal BadLabel = omega arith
of_refusal NotTaken = omega arith
of_refusal OutsideLine = omega arith
of_refusal NoStation = omega arith
of_refusal RingTooShort = omega arith
of_refusal TrialOpen = omega arith
of_refusal NoTrial = omega arith
of_refusal JournalFull = omega arith
of_refusal BadEntry = omega arith

of_record : (f : RecordFault) → record_fault_number f < 100
of_record faults.Unknown = omega arith
of_record (faults.NotANumber p) = omega arith
of_record (faults.NotAWord p) = omega arith
of_record faults.OutOfTurn = omega arith
of_record (faults.Line r) = of_refusal r

two_digits : (f : TextFault) → number_of f < 100
two_digits (of_text.NotWellFormed p) = omega arith
two_digits (of_text.Record f) = of_record f
two_digits of_text.TooLong = omega arith

one_digit : (l : Layer) → layer_number l < 10
one_digit layers.Text = omega arith
one_digit layers.Record = omega arith
one_digit layers.Line = omega arith

next_field : (u v : List ℕ) (vs : List (List ℕ)) → length (commaed (u ∷ v ∷ vs)) ≡ length u + length (commaed (v ∷ vs)) + 1
next_field u v vs = omega (arith, length-append u (44 ∷ commaed (v ∷ vs)))

pub no_short : (r : Refused) → r.record_number < 2 ^ 64 → r.byte_number < 2 ^ 64 → IsShort (No r)
no_short r record_fits byte_fits =
    let n = decimal (number_of r.fault) in
    let l = decimal (layer_number (layer_of r.fault)) in
    let i = decimal r.record_number in
    let b = decimal r.byte_number in
    let two = length-decimal-le 2 (number_of r.fault) (omega arith) (two_digits r.fault) (omega (arith, two_digits r.fault)) in
    let one = length-decimal-le 1 (layer_number (layer_of r.fault)) (omega arith) (one_digit (layer_of r.fault)) (omega (arith, one_digit (layer_of r.fault))) in
    let is : answer_text (No r) ≡ line_of (codes "no" ∷ n ∷ l ∷ i ∷ b ∷ []) = refl in
    omega (
      arith,
      ap length is,
      length-append (commaed (codes "no" ∷ n ∷ l ∷ i ∷ b ∷ [])) (13 ∷ 10 ∷ []),
      next_field (codes "no") n (l ∷ i ∷ b ∷ []),
      next_field n l (i ∷ b ∷ []),
      next_field l i (b ∷ []),
      next_field i b [],
      two,
      one,
      at_most_twenty r.record_number record_fits,
      at_most_twenty r.byte_number byte_fits,
    )
