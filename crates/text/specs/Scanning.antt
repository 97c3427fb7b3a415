-- What the scanning functions answer: how far a field goes, where it breaks off, and what is behind it.
-- Words: Spans, PlainRun, QuotedRun, QuotedBreak, FieldRun, QuotedEnd, FieldAt, HasCrlf, Follows, StopsAt.
use Rattle.std.specs.Prelude.{◌≡◌, ◌≢◌, ℕ, ◌+◌, ◌-◌, ◌<◌, ◌≤◌, ◌⊎◌, List, [], ◌∷◌, ◌++◌, length, drop, slice_index, Result, Ok, Err}
use Rattle.std.specs.List.{AllByRecursion}
use Rattle.text.specs.declared.record.Field.{Field}
use Rattle.text.specs.declared.scan.Behind.{Behind}
use Rattle.text.specs.declared.scan.Behind.TheVariants.{Comma, End, Impossible}
use Rattle.text.specs.Grammar.{Plain, Quotable, doubled, Stops}

-- r is what s has from the place p to the place e
pub record Spans (s : List ℕ) (p : ℕ) (r : List ℕ) (e : ℕ) : Type 0 where
  pub splits : drop p s ≡ r ++ drop e s
  pub far : e ≡ p + length r
  pub within : e ≤ length s

-- plain bytes, as many as there are
pub record PlainRun (s : List ℕ) (p e : ℕ) : Type 0 where
  pub raw : List ℕ
  pub each : AllByRecursion Plain raw
  pub spans : Spans s p raw e
  pub stops : e < length s → Plain (slice_index s e) → ⊥

-- a quoted field, with no quote behind it
pub record QuotedRun (s : List ℕ) (p e : ℕ) : Type 0 where
  pub value : List ℕ
  pub each : AllByRecursion Quotable value
  pub spans : Spans s p (34 ∷ doubled value ++ 34 ∷ []) e
  pub stops : e < length s → slice_index s e ≢ 34

-- the front of a quoted field, as far as it goes: at k is a byte that no field has there, or the text ends
pub record QuotedBreak (s : List ℕ) (p k : ℕ) : Type 0 where
  pub value : List ℕ
  pub each : AllByRecursion Quotable value
  pub spans : Spans s p (34 ∷ doubled value) k
  pub stops : k < length s → Quotable (slice_index s k) → ⊥

-- a field, as far as it goes: only a quoted one begins with a quote
abbrev pub FieldRun : List ℕ → ℕ → ℕ → Type 0
FieldRun s p e = (PlainRun s p e × (p < length s → slice_index s p ≢ 34)) ⊎ QuotedRun s p e

abbrev pub QuotedEnd : List ℕ → ℕ → Result ℕ ℕ → Type 0
QuotedEnd s p (Ok e) = QuotedRun s p e
QuotedEnd s p (Err k) = QuotedBreak s p k

abbrev pub FieldAt : List ℕ → ℕ → Result Field ℕ → Type 0
FieldAt s p (Ok f) = (f.from ≡ p) × FieldRun s p f.to
FieldAt s p (Err k) = QuotedBreak s p k

abbrev pub HasCrlf : List ℕ → ℕ → Type 0
HasCrlf s i = (i + 1 < length s) × (slice_index s i ≡ 13) × (slice_index s (i + 1) ≡ 10)

-- what is at e, behind a field
abbrev pub Follows : List ℕ → ℕ → Behind → Type 0
Follows s e Comma = (e < length s) × (slice_index s e ≡ 44)
Follows s e (End n) = ((e ≡ length s) × (n ≡ e)) ⊎ (HasCrlf s e × (n ≡ e + 2))
Follows s e (Impossible k) =
    ((k ≡ e) × (e < length s) × (slice_index s e ≢ 44) × (slice_index s e ≢ 13))
    ⊎ ((k ≡ e + 1) × (e < length s) × (slice_index s e ≡ 13) × (HasCrlf s e → ⊥))

-- no record begins at p, and k is the place of the first impossible byte
pub record StopsAt (s : List ℕ) (p k : ℕ) : Type 0 where
  pub low : p ≤ k
  pub stops : Stops (drop p s) (k - p)
