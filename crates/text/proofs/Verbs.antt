-- A record has one verb.
use Rattle.std.proofs.Common.{◌≡◌, ◌≢◌, ℕ, ◌+◌, cond, ◌==◌, List, length, slice_index, sym, ap, ◌∙◌, refl}
use Rattle.text.specs.declared.record.Record.{Record}
use Rattle.text.specs.declared.words.Verb.{Verb}
use Rattle.text.specs.declared.words.Verb.TheVariants.{Line, Add, Close, Set, Try, Keep, Back, Ask, Ring}
use Rattle.text.specs.Columns.{column, verb_word}
use Rattle.text.specs.Verbs.{sorts, IsVerbOf}

-- the first two bytes tell the verbs apart
abbrev named : ℕ → ℕ → Verb
named a b =
    cond (a == 108) Line
    (cond (a == 99) Close
    (cond (a == 115) Set
    (cond (a == 116) Try
    (cond (a == 107) Keep
    (cond (a == 98) Back
    (cond (a == 114) Ring
    (cond (b == 100) Add Ask)))))))

abbrev read_back : List ℕ → Verb
read_back w = named (slice_index w 0) (slice_index w 1)

reads_back : (v : Verb) → read_back (verb_word v) ≡ v
reads_back Line = refl
reads_back Add = refl
reads_back Close = refl
reads_back Set = refl
reads_back Try = refl
reads_back Keep = refl
reads_back Back = refl
reads_back Ask = refl
reads_back Ring = refl

pub one_word : (v w : Verb) → verb_word v ≡ verb_word w → v ≡ w
one_word v w e = sym (reads_back v) ∙ ap read_back e ∙ reads_back w

pub one_verb : (s : List ℕ) (x : Record) (v w : Verb) → IsVerbOf s x v → IsVerbOf s x w → v ≡ w
one_verb s x v w a b = one_word v w (sym a.0 ∙ b.0)

pub no_other : (s : List ℕ) (x : Record) (v : Verb) → column s x 0 ≡ verb_word v → x.count ≢ length (sorts v) + 1 → (w : Verb)
    → IsVerbOf s x w → ⊥
no_other s x v word other w is = other (is.1 ∙ ap (λ u. length (sorts u) + 1) (one_word w v (sym is.0 ∙ word)))
