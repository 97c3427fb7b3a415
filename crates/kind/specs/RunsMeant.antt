-- A run summary tells the runs of the stations that it was joined from.
use Rattle.std.specs.Prelude.{◌≡◌, Bool, true, cond, List, [], ◌∷◌, length, All, refl}
use Rattle.std.specs.Bool.{Decides}
use Rattle.std.proofs.Common.{arith}
use Rattle.std.proofs.lemmas.List.{length-map}
use Rattle.std.proofs.lemmas.List.Elements.{All-tail}
use Rattle.station.specs.declared.record.Station.{Station}
use Rattle.station.specs.declared.record.Status.TheVariants.{Down}
use Rattle.states.specs.Runs.{State, front, rear, longest}
use Rattle.states.proofs.Running.{longest-cons, longest_within, front-longest, rear_cases, all_or_not, ends_apart, ring_is}
use Rattle.kind.specs.declared.summary.RunSummary.{RunSummary}
use Rattle.kind.specs.Meaning.{Meant}
use Rattle.kind.specs.Runs.{WindowExactly, RingExactly, WholeRingDown, capped, joined_runs, summary, runs_kind, marked, runs_meaning}
use Rattle.kind.specs.Stretch.{takes_all, joined_all}
use Rattle.kind.specs.JoinedRight.{joined_right, left_is_right}
use Rattle.kind.specs.Summaries.{parts, runs_lawful}

-- of one station that is down, or is not
abbrev of_one : Bool → RunSummary
of_one d = let n = cond d 1 0 in summary d n n n

-- the mark tells whether all are down, and the numbers tell the runs
record Tells (s : State) (a : RunSummary) : Type 0 where
  pub all : Decides a.cell.all (front s ≡ length s)
  pub at_front : a.cell.first ≡ capped (front s)
  pub at_end : a.cell.last ≡ capped (rear s)
  pub most : a.cell.longest ≡ capped (longest s)

-- a station more at the front
one_more : (d : Bool) (s : State) (a : RunSummary) → Tells s a → Tells (d ∷ s) (joined_runs (of_one d) a)
one_more d s a t = grind (arith, parts (of_one d) a, rear_cases d s, all_or_not s, longest-cons d s, front-longest s)

tells : (xs : List Station) → Tells (marked xs) (joined_right runs_kind xs)
tells [] = grind arith
tells (x ∷ xs) = one_more _ _ _ (tells xs)

-- every list is taken
pub takes_all-runs : (xs : List Station) → takes_all runs_kind xs ≡ true
takes_all-runs [] = refl
takes_all-runs (x ∷ xs) = takes_all-runs xs

-- the same of the element joined from the left
told : (e : RunSummary) (xs : List Station) → e ≡ joined_all runs_kind xs → Tells (marked xs) e
told e xs is = rw (is, left_is_right runs_kind runs_lawful xs (takes_all-runs xs)) (tells xs)

pub runs_meant : Meant runs_kind runs_meaning
runs_meant = grind (arith, told, all_or_not, ends_apart, ring_is)

-- no run is longer than the list, so none is stopped where the list is not
pub window_exactly : (e : RunSummary) → WindowExactly e (runs_kind.window e)
window_exactly e xs few is = grind (arith, told e xs is, longest_within, front-longest, length-map)

pub ring_exactly : (e : RunSummary) → RingExactly e (runs_kind.ring e)
ring_exactly e xs some few is = grind (arith, told e xs is, all_or_not, ends_apart, ring_is, longest_within, length-map)

-- all stations down
marked_down : (xs : List Station) → All (λ x. x.status ≡ Down) xs → (front (marked xs) ≡ length xs) × (length (marked xs) ≡ length xs)
marked_down [] h = (refl, refl)
marked_down (x ∷ xs) h = grind (arith, marked_down xs (All-tail (λ x. x.status ≡ Down) x xs h), h 0 x)

pub whole_ring_down : (e : RunSummary) → WholeRingDown e (runs_kind.ring e)
whole_ring_down e xs h is = grind (arith, told e xs is, marked_down xs h, ring_is, longest_within, length-map)
