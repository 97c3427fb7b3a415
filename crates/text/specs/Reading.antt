-- What the reader of a record answers.
-- Words: columns_of, Reads, Breaks, Outcome, next_of.
use Rattle.std.specs.Prelude.{◌≡◌, ℕ, ◌+◌, ◌-◌, ◌≤◌, List, length, take, drop, map, Option, Some, None, Result, Ok, Err}
use Rattle.text.specs.declared.record.Record.{Record}
use Rattle.text.specs.declared.record.Damage.{Damage}
use Rattle.text.specs.Grammar.{Piece, raws, contents, Begins, Stops}
use Rattle.text.specs.Places.{most_columns, record_of, raw_at}
use Rattle.text.specs.Resuming.{resumed}
use Rattle.text.specs.Contents.{content}

-- what the kept fields of a record mean
abbrev pub columns_of : List ℕ → Record → List (List ℕ)
columns_of s x = map (λ f. content (raw_at s f)) (take x.count x.fields)

-- the record that begins at p: its fields, their contents, and what is behind it
pub record Reads (s : List ℕ) (p : ℕ) (x : Record) : Type 0 where
  pub pieces : List Piece
  pub rest : List ℕ
  pub begins : Begins (drop p s) pieces rest
  pub found : x ≡ record_of p (raws pieces) (length s - length rest)
  pub columns : columns_of s x ≡ take most_columns (contents pieces)

-- the first impossible byte, counted from p, and where reading goes on
pub record Breaks (s : List ℕ) (p : ℕ) (d : Damage) : Type 0 where
  pub stops : Stops (drop p s) d.offset
  pub next : d.next ≡ resumed s (p + d.offset)

-- what is found at the place p of the text s: its end, a record, or a first impossible byte
abbrev pub Outcome : List ℕ → ℕ → Option (Result Record Damage) → Type 0
Outcome s p None = length s ≤ p
Outcome s p (Some (Ok x)) = Reads s p x
Outcome s p (Some (Err d)) = Breaks s p d

-- where the text goes on behind what was found
abbrev pub next_of : Result Record Damage → ℕ
next_of (Ok x) = x.next
next_of (Err d) = d.next
