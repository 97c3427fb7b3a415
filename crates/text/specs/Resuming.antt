-- Where reading goes on behind an impossible byte.
-- Words: behind_crlf, resumed.
use Rattle.std.specs.Prelude.{ℕ, ◌-◌, cond, ◌&&◌, ◌==◌, List, [], ◌∷◌, length, drop}

-- behind the first CRLF, or nothing where there is none
abbrev pub behind_crlf : List ℕ → List ℕ
behind_crlf [] = []
behind_crlf (b ∷ []) = []
behind_crlf (b ∷ c ∷ s) = cond (b == 13 && c == 10) s (behind_crlf (c ∷ s))

-- the place behind the first CRLF from the place p on, or the end of the text
abbrev pub resumed : List ℕ → ℕ → ℕ
resumed s p = length s - length (behind_crlf (drop p s))
