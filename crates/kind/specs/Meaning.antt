-- What a kind's figures say of a list of stations, in the subject's words, and that the joined elements' figures say it.
-- Words: both, Meaning, WindowSays, RingSays, Meant, meant_window, meant_ring.
use Rattle.std.specs.Prelude.{◌≡◌, ℕ, ◌≤◌, true, List, length, Result}
use Rattle.refusal.specs.Refusals.{answered}
use Rattle.station.specs.declared.record.Station.{Station}
use Rattle.kind.specs.declared.figures.Figures.{Figures}
use Rattle.kind.specs.Laws.{KindOps}
use Rattle.kind.specs.Stretch.{takes_all, joined_all, stretch_refusal, stretch_ring_refusal}

abbrev pub both : ℕ → ℕ → Figures
both first second = record { first = first; second = second }

-- the two figures of the stations as a window, and as a ring
pub record Meaning : Type 0 where
  pub window : List Station → Figures
  pub ring : List Station → Figures

-- r is what the figures of e should be, whichever stations that the kind takes e was joined from, left to right
abbrev pub WindowSays : {E C : Type 0} → KindOps E C → Meaning → E → Figures → Type 0
WindowSays o m e r = (xs : List Station) → takes_all o xs ≡ true → e ≡ joined_all o xs → r ≡ m.window xs

-- the same as a ring, for as many stations as the shortest ring has, or more
abbrev pub RingSays : {E C : Type 0} → KindOps E C → Meaning → E → Figures → Type 0
RingSays o m e r = (xs : List Station) → takes_all o xs ≡ true → o.shortest ≤ length xs → e ≡ joined_all o xs → r ≡ m.ring xs

-- the kind's figures say what they mean
pub record Meant {E C : Type 0} (o : KindOps E C) (m : Meaning) : Type 0 where
  pub window : (e : E) → WindowSays o m e (o.window e)
  pub ring : (e : E) → RingSays o m e (o.ring e)

-- what the stations' figures mean, or the first refusal
abbrev pub meant_window : {E C : Type 0} → KindOps E C → Meaning → List Station → Result Figures ℕ
meant_window o m xs = answered (stretch_refusal o xs) (m.window xs)

abbrev pub meant_ring : {E C : Type 0} → KindOps E C → Meaning → List Station → Result Figures ℕ
meant_ring o m xs = answered (stretch_ring_refusal o xs) (m.ring xs)
