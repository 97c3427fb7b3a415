-- The kind of runs.
-- Words: no_run, summary_if, summary, capped, goes_on, longest_of, joined_runs, Joined, is_down, of_status, seam, runs_kind, marked,
-- runs_meaning, WindowExactly, RingExactly, WholeRingDown.
use Rattle.std.specs.Prelude.{◌≡◌, ℕ, ◌+◌, ◌≤◌, min, max, Bool, true, false, cond, ◌&&◌, List, map, length, All, refl}
use Rattle.station.specs.declared.record.Station.{Station}
use Rattle.station.specs.declared.record.Status.{Status}
use Rattle.station.specs.declared.record.Status.TheVariants.{Judged, Down, Up, Bypass}
use Rattle.states.specs.Runs.{State, front, longest, ring_longest, seam_run}
use Rattle.kind.specs.declared.figures.Figures.{Figures}
use Rattle.kind.specs.declared.summary.RunSummary.{RunSummary}
use Rattle.kind.specs.declared.summary.RunCell.{RunCell}
use Rattle.kind.specs.Laws.{KindOps}
use Rattle.kind.specs.Meaning.{both, Meaning}
use Rattle.kind.specs.Sound.{count_limit, sound}
use Rattle.kind.specs.Stretch.{joined_all}

-- of no station
abbrev pub no_run : RunSummary
no_run = record { cell = record { all = true; first = 0; last = 0; longest = 0 }; ok = refl }

abbrev pub summary_if : (e : Bool) (f l g : ℕ) (b : Bool) → sound e f l g ≡ b → RunSummary
summary_if e f l g true ok = record { cell = record { all = e; first = f; last = l; longest = g }; ok = ok }
summary_if e f l g false ok = no_run

-- the summary with these parts, or the empty one where no summary has them
abbrev pub summary : Bool → ℕ → ℕ → ℕ → RunSummary
summary e f l g = summary_if e f l g (sound e f l g) refl

-- counts stop here
abbrev pub capped : ℕ → ℕ
capped n = min n count_limit

-- a run x that y carries on where all of x's stretch is down
abbrev pub goes_on : Bool → ℕ → ℕ → ℕ
goes_on all x y = cond all (capped (x + y)) x

-- the longest of both stretches, and of the run across their border
abbrev pub longest_of : ℕ → ℕ → ℕ → ℕ → ℕ
longest_of g h l f = max (max g h) (capped (l + f))

abbrev pub joined_runs : RunSummary → RunSummary → RunSummary
joined_runs a b =
    summary (a.cell.all && b.cell.all) (goes_on a.cell.all a.cell.first b.cell.first) (goes_on b.cell.all b.cell.last a.cell.last) (longest_of a.cell.longest b.cell.longest a.cell.last b.cell.first)

-- the parts of a joining, which are always those of a summary
pub record Joined (a b r : RunSummary) : Type 0 where
  pub all : r.cell.all ≡ (a.cell.all && b.cell.all)
  pub first : r.cell.first ≡ goes_on a.cell.all a.cell.first b.cell.first
  pub last : r.cell.last ≡ goes_on b.cell.all b.cell.last a.cell.last
  pub longest : r.cell.longest ≡ longest_of a.cell.longest b.cell.longest a.cell.last b.cell.first

abbrev pub is_down : Status → Bool
is_down Judged = false
is_down Down = true
is_down Up = false
is_down Bypass = false

abbrev pub of_status : Status → RunSummary
of_status t = let n = cond (is_down t) 1 0 in summary (is_down t) n n n

-- the run that crosses from the last station to the first
abbrev pub seam : RunSummary → ℕ
seam a = cond a.cell.all a.cell.first (capped (a.cell.last + a.cell.first))

abbrev pub runs_kind : KindOps RunSummary RunCell
runs_kind = record {
  takes = λ _. true;
  fit = λ _. Unit {0};
  single = λ x. of_status x.status;
  empty = no_run;
  join = joined_runs;
  cell = λ a. a.cell;
  element = λ c. summary c.all c.first c.last c.longest;
  window = λ a. record { first = a.cell.longest; second = a.cell.first };
  ring = λ a. record { first = max a.cell.longest (seam a); second = seam a };
  shortest = 1;
}

-- the state that the stations' statuses tell
abbrev pub marked : List Station → State
marked xs = map (λ x. is_down x.status) xs

-- the longest run of stations with status down, and the run at the front; on the ring the longest run around it, and the
-- run across the seam. Counts stop as above.
abbrev pub runs_meaning : Meaning
runs_meaning = record {
  window = λ xs. both (capped (longest (marked xs))) (capped (front (marked xs)));
  ring = λ xs. both (capped (ring_longest (marked xs))) (capped (seam_run (marked xs)));
}

-- the same without the stop, for as many stations as a count can have
abbrev pub WindowExactly : RunSummary → Figures → Type 0
WindowExactly e r =
    (xs : List Station) → length xs ≤ count_limit → e ≡ joined_all runs_kind xs → r ≡ both (longest (marked xs)) (front (marked xs))

abbrev pub RingExactly : RunSummary → Figures → Type 0
RingExactly e r =
    (xs : List Station) → 1 ≤ length xs → length xs ≤ count_limit → e ≡ joined_all runs_kind xs → r ≡ both (ring_longest (marked xs)) (seam_run (marked xs))

-- a ring of stations that are all down has a run of all of them, which is the one across the seam: each counts once
abbrev pub WholeRingDown : RunSummary → Figures → Type 0
WholeRingDown e r =
    (xs : List Station) → All (λ x. x.status ≡ Down) xs → e ≡ joined_all runs_kind xs → r ≡ both (capped (length xs)) (capped (length xs))
