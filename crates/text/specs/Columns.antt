-- The columns of a record, and what one says: a number, or one of the words for statuses, kinds and verbs.
-- Words: column, column_place, Says, IsNumber, IsWord, IsStatus, kind_word, IsKind, verb_word, IsVerb, OrFault.
use Rattle.std.specs.Prelude.{◌≡◌, ◌≢◌, ℕ, ◌<◌, ◌^◌, List, codes, Option, Some, None, Result, Ok, Err, slice_index_or}
use Rattle.std.specs.Fmt.{decimal}
use Rattle.station.specs.declared.record.Status.{Status}
use Rattle.station.specs.Words.{status_word}
use Rattle.text.specs.declared.fault.RecordFault.{RecordFault}
use Rattle.text.specs.declared.record.Record.{Record}
use Rattle.text.specs.declared.words.KindName.{KindName}
use Rattle.text.specs.declared.words.KindName.TheVariants.{Runs, Counts, Residues, Costs}
use Rattle.text.specs.declared.words.Verb.{Verb}
use Rattle.text.specs.declared.words.Verb.TheVariants as verbs
use Rattle.text.specs.Places.{nowhere, raw_at}
use Rattle.text.specs.Contents.{content}

-- the columns count from 0, with the verb as the first; each is known by what it means
abbrev pub column : List ℕ → Record → ℕ → List ℕ
column s x k = content (raw_at s (slice_index_or x.fields k nowhere))

abbrev pub column_place : Record → ℕ → ℕ
column_place x k = (slice_index_or x.fields k nowhere).from

-- n has at most 64 bits, and the bytes are its decimal text, which has no needless zero in front
abbrev pub Says : ℕ → List ℕ → Type 0
Says n v = (n < 2 ^ 64) × (v ≡ decimal n)

-- the number that the bytes say, or none
abbrev pub IsNumber : List ℕ → Option ℕ → Type 0
IsNumber v None = (n : ℕ) → Says n v → ⊥
IsNumber v (Some n) = Says n v

-- the value whose word the bytes are, or none
abbrev pub IsWord : {A : Type 0} → (A → List ℕ) → List ℕ → Option A → Type 0
IsWord {A} word v None = (x : A) → v ≢ word x
IsWord word v (Some x) = v ≡ word x

abbrev pub IsStatus : List ℕ → Option Status → Type 0
IsStatus = IsWord status_word

abbrev pub kind_word : KindName → List ℕ
kind_word Runs = codes "runs"
kind_word Counts = codes "counts"
kind_word Residues = codes "residues"
kind_word Costs = codes "costs"

abbrev pub IsKind : List ℕ → Option KindName → Type 0
IsKind = IsWord kind_word

abbrev pub verb_word : Verb → List ℕ
verb_word verbs.Line = codes "line"
verb_word verbs.Add = codes "add"
verb_word verbs.Close = codes "close"
verb_word verbs.Set = codes "set"
verb_word verbs.Try = codes "try"
verb_word verbs.Keep = codes "keep"
verb_word verbs.Back = codes "back"
verb_word verbs.Ask = codes "ask"
verb_word verbs.Ring = codes "ring"

abbrev pub IsVerb : List ℕ → Option Verb → Type 0
IsVerb = IsWord verb_word

-- what a column says, or the fault where it says nothing of the sort
abbrev pub OrFault : {A : Type 0} → (Option A → Type 0) → RecordFault → Result A RecordFault → Type 0
OrFault is f (Ok v) = is (Some v)
OrFault is f (Err e) = is None × (e ≡ f)
