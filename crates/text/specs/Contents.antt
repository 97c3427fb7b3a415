-- What a field means: quotes are taken off, and a doubled quote is one.
-- Words: halve, halved, is_quoted, inner, content.
use Rattle.std.specs.Prelude.{ℕ, ◌-◌, Bool, true, false, cond, ◌&&◌, ◌==◌, nat_le, List, [], ◌∷◌, length, take, drop, slice_index}

-- leaves out the byte behind each quote that is kept; with true the first byte is left out
abbrev pub halve : Bool → List ℕ → List ℕ
halve b [] = []
halve false (x ∷ xs) = x ∷ halve (x == 34) xs
halve true (x ∷ xs) = halve false xs

abbrev pub halved : List ℕ → List ℕ
halved xs = halve false xs

-- two bytes or more, of which the first is a quote: of the grammar's fields these are the quoted ones. Of any other bytes that begin so,
-- the last one is taken for the closing quote
abbrev pub is_quoted : List ℕ → Bool
is_quoted r = nat_le 2 (length r) && slice_index r 0 == 34

-- without the byte in front and the byte at the end, where there are quotes
abbrev pub inner : List ℕ → List ℕ
inner r = cond (is_quoted r) (take (length r - 2) (drop 1 r)) r

-- what the bytes of a field mean
unfoldable pub content : List ℕ → List ℕ
content r = cond (is_quoted r) (halved (inner r)) r
