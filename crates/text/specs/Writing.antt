-- Writing a text into a space that may be too short.
-- Words: greatest_length, with_byte, with_text, line_of, told_length, filled.
use Rattle.std.specs.Prelude.{ℕ, ◌+◌, ◌-◌, ◌^◌, cond, nat_le, List, [], ◌∷◌, ◌++◌, length, drop, min, slice_set}
use Rattle.text.specs.declared.sink.Sink.{Sink}
use Rattle.text.specs.Grammar.{commaed}

-- the greatest length that can be told
abbrev pub greatest_length : ℕ
greatest_length = 2 ^ 64 - 1

-- a byte comes: it is written where there is room for it, and counted; the count stops at the greatest length
abbrev pub with_byte : ℕ → Sink → Sink
with_byte b a = record { out = record a.out { now = slice_set a.out.now a.len b }; len = min greatest_length (a.len + 1) }

-- a text comes, byte by byte
unfoldable pub with_text : List ℕ → Sink → Sink
with_text [] a = a
with_text (b ∷ t) a = with_text t (with_byte b a)

-- the fields of a record, with commas between them and CRLF at the end
abbrev pub line_of : List (List ℕ) → List ℕ
line_of fields = commaed fields ++ 13 ∷ 10 ∷ []

-- the length that is told of a text
abbrev pub told_length : List ℕ → ℕ
told_length t = min greatest_length (length t)

-- the space where the text is written if it fits: nothing changes behind it, and nothing at all where it does not fit
abbrev pub filled : List ℕ → List ℕ → List ℕ
filled t old = cond (nat_le (length t) (length old)) (t ++ drop (length t) old) old
