-- A machine that goes over a text byte by byte and tells where it can no longer be continued. No contract speaks of it.
use Rattle.std.proofs.Common.{◌≡◌, ℕ, Bool, cond, not, ◌&&◌, ◌||◌, List, [], ◌∷◌, ◌++◌, refl}
use Rattle.std.specs.Prelude.{◌==◌, nat_le}

-- what the bytes so far end with: nothing of a field, plain bytes, an open quote, a quote that may have closed, a CR, a whole record, or
-- a byte that cannot stand there
pub data State : Type 0 where
  start : State
  bare : State
  inside : State
  closed : State
  returned : State
  done : State
  dead : State

-- the grammar's bytes, as tests
abbrev pub is_visible : ℕ → Bool
is_visible b = nat_le 0x20 b && nat_le b 0x7E

abbrev pub is_plain : ℕ → Bool
is_plain b = is_visible b && (not (b == 34) && not (b == 44))

abbrev pub is_quotable : ℕ → Bool
is_quotable b = is_visible b || (b == 13 || b == 10)

-- behind a field
abbrev pub behind : ℕ → State
behind b = cond (b == 44) start (cond (b == 13) returned dead)

abbrev pub step : State → ℕ → State
step start b = cond (b == 34) inside (cond (is_plain b) bare (behind b))
step bare b = cond (is_plain b) bare (behind b)
step inside b = cond (b == 34) closed (cond (is_quotable b) inside dead)
step closed b = cond (b == 34) inside (behind b)
step returned b = cond (b == 10) done dead
step done b = done
step dead b = dead

abbrev pub run : State → List ℕ → State
run q [] = q
run q (b ∷ bs) = run (step q b) bs

pub run-append : (q : State) (u w : List ℕ) → run q (u ++ w) ≡ run (run q u) w
run-append q [] w = refl
run-append q (b ∷ u) w = run-append (step q b) u w

pub run-dead : (u : List ℕ) → run dead u ≡ dead
run-dead [] = refl
run-dead (b ∷ u) = run-dead u

pub run-done : (u : List ℕ) → run done u ≡ done
run-done [] = refl
run-done (b ∷ u) = run-done u

-- a field may end here
abbrev pub Open : State → Type 0
Open start = Unit {0}
Open bare = Unit {0}
Open inside = ⊥
Open closed = Unit {0}
Open returned = ⊥
Open done = ⊥
Open dead = ⊥

-- the text may end here, or its record has ended
abbrev pub Live : State → Type 0
Live start = Unit {0}
Live bare = Unit {0}
Live inside = ⊥
Live closed = Unit {0}
Live returned = ⊥
Live done = Unit {0}
Live dead = ⊥

pub open_live : (q : State) → Open q → Live q
open_live start h = tt
open_live bare h = tt
open_live inside h = h
open_live closed h = tt
open_live returned h = h
open_live done h = tt
open_live dead h = h

pub comma_starts : (q : State) → Open q → step q 44 ≡ start
comma_starts start h = refl
comma_starts bare h = refl
comma_starts inside h = absurd h
comma_starts closed h = refl
comma_starts returned h = absurd h
comma_starts done h = absurd h
comma_starts dead h = absurd h

pub return_returns : (q : State) → Open q → step q 13 ≡ returned
return_returns start h = refl
return_returns bare h = refl
return_returns inside h = absurd h
return_returns closed h = refl
return_returns returned h = absurd h
return_returns done h = absurd h
return_returns dead h = absurd h
