-- The element of a stretch of stations, and when its figures are refused.
-- Words: takes_all, joined_all, stretch_refusal, stretch_ring_refusal.
use Rattle.std.specs.Prelude.{ℕ, Bool, true, not, ◌&&◌, List, [], ◌∷◌, length, fold, Option, nat_lt}
use Rattle.refusal.specs.Refusals.{first}
use Rattle.station.specs.declared.record.Station.{Station}
use Rattle.kind.specs.Laws.{KindOps}

-- the kind takes every record
abbrev pub takes_all : {E C : Type 0} → KindOps E C → List Station → Bool
takes_all o [] = true
takes_all o (x ∷ xs) = o.takes x && takes_all o xs

-- the stations' elements joined left to right, from the empty one
abbrev pub joined_all : {E C : Type 0} → KindOps E C → List Station → E
joined_all o xs = fold (λ e x. o.join e (o.single x)) o.empty xs

abbrev pub stretch_refusal : {E C : Type 0} → KindOps E C → List Station → Option ℕ
stretch_refusal o xs = first ((not (takes_all o xs), 5) ∷ [])

abbrev pub stretch_ring_refusal : {E C : Type 0} → KindOps E C → List Station → Option ℕ
stretch_ring_refusal o xs = first ((not (takes_all o xs), 5) ∷ (nat_lt (length xs) o.shortest, 8) ∷ [])
