-- Where a record's fields stand in a text.
-- Words: most_columns, nowhere, placed, kept, record_of, raw_at.
use Rattle.std.specs.Prelude.{ℕ, ◌+◌, ◌-◌, cond, ◌&&◌, nat_le, List, [], ◌∷◌, ◌++◌, length, take, drop, replicate}
use Rattle.text.specs.declared.record.Field.{Field}
use Rattle.text.specs.declared.record.Record.{Record}

-- so many fields are kept of a record: no record that a session takes has more
abbrev pub most_columns : ℕ
most_columns = 5

abbrev pub nowhere : Field
nowhere = record { from = 0; to = 0 }

-- where the fields stand that begin at p, with a comma between each two
abbrev pub placed : ℕ → List (List ℕ) → List Field
placed p [] = []
placed p (r ∷ rs) = record { from = p; to = p + length r } ∷ placed (p + length r + 1) rs

-- the first ones, and nowhere for those that are not there
abbrev pub kept : List Field → List Field
kept fs = take most_columns (fs ++ replicate most_columns nowhere)

-- the record of these fields, as they are written, that begins at p and behind which the text goes on at next
abbrev pub record_of : ℕ → List (List ℕ) → ℕ → Record
record_of p rs next = record { fields = kept (placed p rs); count = length rs; next = next }

-- the bytes of a field as they are written; none where the place is none of the text's
unfoldable pub raw_at : List ℕ → Field → List ℕ
raw_at s f = cond (nat_le f.from f.to && nat_le f.to (length s)) (take (f.to - f.from) (drop f.from s)) []
