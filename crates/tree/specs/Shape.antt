-- The shape of a tree over n stations: its height, its leaves, its nodes, and which numbers of stations are refused.
-- Words: most_stations, height_from, height, IsHeight, leaf, node_count, shape_checks, shape_refusal.
use Rattle.std.specs.Prelude.{ℕ, zero, suc, ◌+◌, ◌-◌, ◌*◌, ◌^◌, ◌≤◌, Bool, cond, List, [], ◌∷◌, Option, nat_lt, nat_le, ◌==◌}
use Rattle.refusal.specs.Refusals.{first}

-- as many as a line has room for
abbrev pub most_stations : ℕ
most_stations = 4096

-- the first h from g on with 2 ^ h at least n, looking at so many
abbrev pub height_from : ℕ → ℕ → ℕ → ℕ
height_from zero g n = g
height_from (suc looks) g n = cond (nat_le n (2 ^ g)) g (height_from looks (g + 1) n)

-- the least h with 2 ^ h at least n
unfoldable pub height : ℕ → ℕ
height n = height_from n 0 n

-- that it is this
pub record IsHeight (n h : ℕ) : Type 0 where
  pub enough : n ≤ 2 ^ h
  pub least : (g : ℕ) → n ≤ 2 ^ g → h ≤ g

-- in a tree of height h, the node that is the leaf of the station at place p
abbrev pub leaf : ℕ → ℕ → ℕ
leaf h p = 2 ^ h + p - 1

-- the nodes are 1 to this one
abbrev pub node_count : ℕ → ℕ
node_count h = 2 * 2 ^ h - 1

-- no station, or more than a line has room for
abbrev pub shape_checks : ℕ → List (Bool × ℕ)
shape_checks n = (n == 0, 7) ∷ (nat_lt most_stations n, 3) ∷ []

abbrev pub shape_refusal : ℕ → Option ℕ
shape_refusal n = first (shape_checks n)
