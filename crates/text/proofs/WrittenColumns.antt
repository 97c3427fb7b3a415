-- The columns of a record, one after another.
use Rattle.std.proofs.Common.{◌≡◌, ℕ, ◌+◌, ◌<◌, ◌≤◌, List, [], ◌∷◌, ◌++◌, length, map, get_or, take, sym, refl, ap, ◌∙◌, append_assoc, codes}
use Rattle.std.specs.Fmt.{decimal}
use Rattle.std.proofs.lemmas.List.{take_all, map_more}
use Rattle.station.specs.declared.record.Station.{Station}
use Rattle.station.specs.Labels.{label_of}
use Rattle.station.specs.Words.{status_word}
use Rattle.text.specs.declared.sink.Sink.{Sink}
use Rattle.text.specs.Grammar.{commaed}
use Rattle.text.specs.StationText.{label_text, station_text}
use Rattle.text.specs.Writing.{with_text, line_of}
use Rattle.text.proofs.Putting.{one_after_another}

commaed_behind : (r : List ℕ) (rs : List (List ℕ)) (q : List ℕ) → commaed (r ∷ (rs ++ q ∷ [])) ≡ commaed (r ∷ rs) ++ 44 ∷ q
commaed_behind r [] q = refl
commaed_behind r (s ∷ rs) q = ap (λ z. r ++ 44 ∷ z) (commaed_behind s rs q) ∙ sym (append_assoc r (44 ∷ commaed (s ∷ rs)) (44 ∷ q))

-- a word, and the numbers before i
abbrev pub columns_before : List ℕ → List ℕ → ℕ → List ℕ
columns_before word numbers i = commaed (word ∷ map decimal (take i numbers))

pub columns_more : (word numbers : List ℕ) (i : ℕ) (a : Sink) → i < length numbers
    → with_text (44 ∷ decimal (get_or numbers i 0)) (with_text (columns_before word numbers i) a) ≡ with_text (columns_before word numbers (i + 1)) a
columns_more word numbers i a lt =
    let e = ap (λ z. commaed (word ∷ z)) (map_more decimal numbers i 0 lt) ∙ commaed_behind word (map decimal (take i numbers)) (decimal (get_or numbers i 0)) in
    one_after_another (columns_before word numbers i) (44 ∷ decimal (get_or numbers i 0)) a ∙ ap (λ s. with_text s a) (sym e)

pub columns_all : (word numbers : List ℕ) (i : ℕ) (a : Sink) → length numbers ≤ i
    → with_text (13 ∷ 10 ∷ []) (with_text (columns_before word numbers i) a) ≡ with_text (line_of (word ∷ map decimal numbers)) a
columns_all word numbers i a ge =
    one_after_another (columns_before word numbers i) (13 ∷ 10 ∷ []) a ∙ ap (λ ns. with_text (line_of (word ∷ map decimal ns)) a) (take_all i numbers ge)

-- a record's first column, and the others as a record
line_of-cons : (r q : List ℕ) (rs : List (List ℕ)) → line_of (r ∷ q ∷ rs) ≡ r ++ 44 ∷ line_of (q ∷ rs)
line_of-cons r q rs = append_assoc r (44 ∷ commaed (q ∷ rs)) (13 ∷ 10 ∷ [])

-- the columns of a station as they are put
pub station_split : (x : Station)
    → codes "add," ++ (label_text (label_of x.label) ++ 44 ∷ line_of (status_word x.status ∷ map decimal (x.up ∷ x.down ∷ []))) ≡ station_text x
station_split x =
    let label = label_text (label_of x.label) in
    let numbers = decimal x.up ∷ decimal x.down ∷ [] in
    sym (line_of-cons (codes "add") label (status_word x.status ∷ numbers) ∙ ap (λ z. codes "add," ++ z) (line_of-cons label (status_word x.status) numbers))
