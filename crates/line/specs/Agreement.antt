-- When a line, with the spaces that its calls are handed, agrees with what was heard of its calls.
-- Words: Fills, FilledNew, trial_with, trial_of, Recalls, TrialIs, Stands.
use Rattle.std.specs.Prelude.{◌≡◌, ℕ, ◌≤◌, true, false, List, Option, Some, None, Result, is_ok, length, take}
use Rattle.refusal.specs.declared.Refusal.{Refusal}
use Rattle.station.specs.declared.record.Station.{Station}
use Rattle.kind.specs.Laws.{KindOps}
use Rattle.kind.specs.Stretch.{takes_all}
use Rattle.tree.specs.Shape.{height, node_count}
use Rattle.tree.specs.Nodes.{StandsFor, SameTo}
use Rattle.line.specs.declared.values.Entry.{Entry}
use Rattle.line.specs.declared.lines.Filling.{Filling}
use Rattle.line.specs.declared.lines.Standing.{Standing}
use Rattle.line.specs.View.{Heard}
use Rattle.line.specs.State.{State, count_of, undone}
use Rattle.line.specs.Refused.{any_bad}
use Rattle.line.specs.Calls.{CloseCall}

-- where stations are remembered a trial is open, with the entries that were heard of
abbrev pub trial_with : Option (List Station) → ℕ → Option ℕ
trial_with None e = None
trial_with (Some old) e = Some e

abbrev pub trial_of : Heard → Option ℕ
trial_of h = trial_with h.view.remembered h.entries

module _ {E C : Type 0} (o : KindOps E C) where
  -- the trial's entries, put back into the standing stations from the newest on, give the remembered ones, which the kind takes
  pub record Recalls (standing old : List Station) (entries : List Entry) : Type 0 where
    pub old_ones : undone entries standing ≡ old
    pub taken : takes_all o old ≡ true
    pub good : any_bad o (length standing) standing entries ≡ false

  abbrev pub TrialIs : List Station → Option (List Station) → ℕ → List Entry → Type 0
  TrialIs standing None e journal = e ≡ 0
  TrialIs standing (Some old) e journal = (e ≤ length journal) × Recalls standing old (take e journal)

  -- a filling line with its list: the stations heard of are the first records of the list, and the kind takes them
  pub record Fills {K : Type 0} (h : Heard) (line : Filling K) (list : List Station) : Type 0 where
    pub unclosed : h.closed ≡ false
    pub number : line.stations ≡ length h.view.standing
    pub listed : take line.stations list ≡ h.view.standing
    pub taken : takes_all o h.view.standing ≡ true
    pub fresh : h.view.remembered ≡ None
    pub none : h.entries ≡ 0

  -- the nodes of some line of these operations that was filled new with these stations: of a filling line, with any spaces, that agrees with
  -- what was heard of it, has these stations, and whose close was accepted
  pub record FilledNew (K : Type 0) (stations : List Station) (nodes : List C) : Type 0 where
    pub line : Filling K
    pub list : List Station
    pub before : List C
    pub heard : Heard
    pub result : Result (Standing K × ℕ) (Filling K × Refusal)
    pub fills : Fills heard line list
    pub closes : CloseCall o line list before result nodes
    pub accepted : is_ok result ≡ true
    pub same : heard.view.standing ≡ stations

  -- a standing line with its spaces
  pub record Stands {K : Type 0} (h : Heard) (s : State (Standing K) C) : Type 0 where
    pub closed : h.closed ≡ true
    -- as many stations as the view has, and these are the first records of the list
    pub number : count_of s.line ≡ length h.view.standing
    pub listed : take (count_of s.line) s.list ≡ h.view.standing
    pub taken : takes_all o h.view.standing ≡ true
    -- the nodes stand for them, and are cell by cell those of any line that is filled with them today
    pub nodes : StandsFor o h.view.standing s.nodes
    pub today : (other : List C) → FilledNew K h.view.standing other → SameTo (node_count (height (length h.view.standing))) s.nodes other
    pub trial : s.line.trial ≡ trial_of h
    pub entries : TrialIs h.view.standing h.view.remembered h.entries s.journal
