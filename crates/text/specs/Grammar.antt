-- The grammar of a text, as in RFC 4180: fields, records, and where no record begins. At the end of a text none does.
-- Words: Visible, Plain, Quotable, between_quotes, doubled, IsField, Piece, WellFormed, raws, contents, commaed, Row, Begins, Text, Continues, Stops.
use Rattle.std.specs.Prelude.{◌≡◌, ◌≢◌, ℕ, ◌+◌, ◌<◌, ◌≤◌, ◌⊎◌, cond, ◌==◌, List, [], ◌∷◌, ◌++◌, length, take, map}
use Rattle.std.specs.List.{AllByRecursion, flat_map}

-- 20 to 7E hexadecimal
abbrev pub Visible : ℕ → Type 0
Visible b = (0x20 ≤ b) × (b ≤ 0x7E)

-- a byte of a plain field: without quote and comma
abbrev pub Plain : ℕ → Type 0
Plain b = Visible b × (b ≢ 34) × (b ≢ 44)

-- a byte that a quoted field can mean: also CR and LF
abbrev pub Quotable : ℕ → Type 0
Quotable b = Visible b ⊎ ((b ≡ 13) ⊎ (b ≡ 10))

-- a byte as it is written between quotes: a quote is doubled
abbrev pub between_quotes : ℕ → List ℕ
between_quotes b = cond (b == 34) (34 ∷ 34 ∷ []) (b ∷ [])

abbrev pub doubled : List ℕ → List ℕ
doubled = flat_map between_quotes

-- a field as it is written, and what it means
pub data IsField : List ℕ → List ℕ → Type 0 where
  plain : {v : List ℕ} → AllByRecursion Plain v → IsField v v
  quoted : {v : List ℕ} → AllByRecursion Quotable v → IsField (34 ∷ doubled v ++ 34 ∷ []) v

-- a field's bytes as they are written, and what they mean
pub record Piece : Type 0 where
  pub raw : List ℕ
  pub content : List ℕ

abbrev pub WellFormed : Piece → Type 0
WellFormed f = IsField f.raw f.content

abbrev pub raws : List Piece → List (List ℕ)
raws = map (λ f. f.raw)

abbrev pub contents : List Piece → List (List ℕ)
contents = map (λ f. f.content)

-- with a comma between each two
abbrev pub commaed : List (List ℕ) → List ℕ
commaed [] = []
commaed (r ∷ []) = r
commaed (r ∷ q ∷ rs) = r ++ 44 ∷ commaed (q ∷ rs)

-- the fields of a record: at least one
abbrev pub Row : List Piece → Type 0
Row fs = (0 < length fs) × AllByRecursion WellFormed fs

-- s begins with the record fs, which ends with CRLF or with the text; rest is what is behind it. At the end of the text none begins
pub record Begins (s : List ℕ) (fs : List Piece) (rest : List ℕ) : Type 0 where
  pub begun : 0 < length s
  pub row : Row fs
  pub ended : (s ≡ commaed (raws fs) ++ 13 ∷ 10 ∷ rest) ⊎ ((s ≡ commaed (raws fs)) × (rest ≡ []))

-- a text: records to its end
pub data Text : List ℕ → Type 0 where
  none : Text []
  more : {s : List ℕ} {fs : List Piece} {rest : List ℕ} → Begins s fs rest → Text rest → Text s

-- these bytes can be continued to a text
abbrev pub Continues : List ℕ → Type 0
Continues s = (w : List ℕ) × Text (s ++ w)

-- no record begins s, and its first impossible byte is the one at k: the bytes before it can be continued to a text, and with it no longer.
-- k is the length of s where text is missing
pub record Stops (s : List ℕ) (k : ℕ) : Type 0 where
  pub within : k ≤ length s
  pub before : Continues (take k s)
  pub at : k < length s → Continues (take (k + 1) s) → ⊥
  pub missing : k ≡ length s → Text s → ⊥
  pub none : (fs : List Piece) (rest : List ℕ) → Begins s fs rest → ⊥
