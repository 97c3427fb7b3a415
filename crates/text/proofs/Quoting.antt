-- Quotes taken off: what a field means, where what it means has no quote.
use Rattle.std.proofs.Common.{◌≡◌, ℕ, ◌+◌, ◌%◌, ◌^◌, ◌<◌, List, [], ◌∷◌, ◌++◌, length, Option, Some, None, refl, ap, arith, rules}
use Rattle.std.specs.Fmt.{decimal}
use Rattle.std.specs.List.{AllByRecursion}
use Rattle.std.proofs.lemmas.Fmt.{decimal_by_steps}
use Rattle.station.specs.declared.record.Status.{Status}
use Rattle.station.specs.declared.record.Status.TheVariants.{Judged, Down, Up, Bypass}
use Rattle.station.specs.Words.{status_word}
use Rattle.text.specs.declared.words.KindName.{KindName}
use Rattle.text.specs.declared.words.KindName.TheVariants.{Runs, Counts, Residues, Costs}
use Rattle.text.specs.declared.words.Verb.{Verb}
use Rattle.text.specs.declared.words.Verb.TheVariants as verbs
use Rattle.text.specs.Columns.{IsNumber, IsWord, IsStatus, kind_word, IsKind, verb_word, IsVerb}
use Rattle.text.specs.Contents.{halved, inner, content}
use Rattle.text.specs.Grammar.{Plain}

abbrev pub Plains : List ℕ → Type 0
Plains = AllByRecursion Plain

plains_append : (u v : List ℕ) → Plains u → Plains v → Plains (u ++ v)
plains_append [] v h g = g
plains_append (b ∷ u) v h g = (h.0, plains_append u v h.1 g)

digit_plain : (n : ℕ) → n < 10 → Plain (48 + n)
digit_plain n lt = grind arith

pub plain_decimal : (n : ℕ) → n < 2 ^ 64 → Plains (decimal n)
plain_decimal = decimal_by_steps (λ _ ds. Plains ds)
    (λ n lt. (digit_plain n lt, tt))
    (λ n ds _ h. plains_append ds ((48 + n % 10) ∷ []) h (digit_plain (n % 10) (omega arith), tt))

pub plain_status : (s : Status) → Plains (status_word s)
plain_status Judged = search rules
plain_status Down = search rules
plain_status Up = search rules
plain_status Bypass = search rules

plain_kind : (k : KindName) → Plains (kind_word k)
plain_kind Runs = search rules
plain_kind Counts = search rules
plain_kind Residues = search rules
plain_kind Costs = search rules

pub plain_verb : (v : Verb) → Plains (verb_word v)
plain_verb verbs.Line = search rules
plain_verb verbs.Add = search rules
plain_verb verbs.Close = search rules
plain_verb verbs.Set = search rules
plain_verb verbs.Try = search rules
plain_verb verbs.Keep = search rules
plain_verb verbs.Back = search rules
plain_verb verbs.Ask = search rules
plain_verb verbs.Ring = search rules

-- where no quote is left, there was none
unhalved : (m w : List ℕ) → Plains w → halved m ≡ w → m ≡ w
unhalved [] w p e = e
unhalved (x ∷ m) [] p e = absurd (omega (arith, ap length e))
unhalved (x ∷ m) (y ∷ w) p e = grind (arith, unhalved m w p.1)

halved_plain : (w : List ℕ) → Plains w → halved w ≡ w
halved_plain [] p = refl
halved_plain (x ∷ w) p = grind (arith, halved_plain w p.1)

meant_from : (r w : List ℕ) → Plains w → inner r ≡ w → content r ≡ w
unfolding content
meant_from r w p e = grind (arith, halved_plain w p)

meant_to : (r w : List ℕ) → Plains w → content r ≡ w → inner r ≡ w
unfolding content
meant_to r w p e = grind (arith, unhalved (inner r) w p)

pub number_meant : (r : List ℕ) (x : Option ℕ) → IsNumber (inner r) x → IsNumber (content r) x
number_meant r None h = λ n says. h n (says.0, meant_to r (decimal n) (plain_decimal n says.0) says.1)
number_meant r (Some n) h = (h.0, meant_from r (decimal n) (plain_decimal n h.0) h.1)

pub word_meant : {A : Type 0} (word : A → List ℕ) (plain : (x : A) → Plains (word x)) (r : List ℕ) (x : Option A)
    → IsWord word (inner r) x → IsWord word (content r) x
word_meant word plain r None h = λ x e. h x (meant_to r (word x) (plain x) e)
word_meant word plain r (Some x) h = meant_from r (word x) (plain x) h

pub status_meant : (r : List ℕ) (x : Option Status) → IsStatus (inner r) x → IsStatus (content r) x
status_meant = word_meant status_word plain_status

pub kind_meant : (r : List ℕ) (x : Option KindName) → IsKind (inner r) x → IsKind (content r) x
kind_meant = word_meant kind_word plain_kind

pub verb_meant : (r : List ℕ) (x : Option Verb) → IsVerb (inner r) x → IsVerb (content r) x
verb_meant = word_meant verb_word plain_verb
