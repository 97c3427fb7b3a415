-- What each call answers and leaves, whatever the spaces hold.
-- Words: AddCall, close_told, CloseCall, one_more, entered, Renewed, SetCall, TryCall, KeepCall, PutBack, BackCall, gathered, joining_of,
-- AskCall, RingCall.
use Rattle.std.specs.Prelude.{◌≡◌, ℕ, ◌+◌, ◌-◌, ◌^◌, List, [], ◌∷◌, Option, Some, None, Result, Ok, Err, IfOk, IfErr, OnOk, OnErr, take, length, slice_get, slice_set}
use Rattle.refusal.specs.declared.Refusal.{Refusal}
use Rattle.refusal.specs.Refusals.{number, by_number, by_number_as, answered}
use Rattle.station.specs.declared.record.Station.{Station}
use Rattle.kind.specs.Laws.{KindOps}
use Rattle.tree.specs.declared.gathered.Joining.{Joining}
use Rattle.tree.specs.declared.gathered.Gathered.{Gathered}
use Rattle.tree.specs.Shape.{height, leaf, node_count}
use Rattle.tree.specs.Nodes.{StandsFor, SameBehind, Rewritten}
use Rattle.tree.specs.Gathered.{window_joining, as_joining, WindowLaws}
use Rattle.line.specs.declared.values.Values.{Values}
use Rattle.line.specs.declared.values.Entry.{Entry}
use Rattle.line.specs.declared.lines.Filling.{Filling}
use Rattle.line.specs.declared.lines.Standing.{Standing}
use Rattle.line.specs.declared.reply.Answer.{Answer}
use Rattle.line.specs.View.{values_of, put, made}
use Rattle.line.specs.State.{State, rooms, entries_of, count_of, noted, undone}
use Rattle.line.specs.Refused.{any_bad, add_refusal, close_refusal, set_refusal, try_refusal, keep_refusal, back_refusal, ask_refusal, ring_refusal}

-- what a close answers, with a refusal by its number
abbrev pub close_told : {K : Type 0} → Result (Standing K × ℕ) (Filling K × Refusal) → Result ℕ ℕ
close_told (Ok r) = Ok r.1
close_told (Err r) = Err (number r.1)

-- a trial has an entry more
abbrev pub one_more : Option ℕ → Option ℕ
one_more None = None
one_more (Some e) = Some (e + 1)

-- the journal with place and values of a station entered behind the trial's entries; outside a trial it stays
abbrev pub entered : Option ℕ → ℕ → Option Station → List Entry → List Entry
entered None p x js = js
entered (Some e) p None js = js
entered (Some e) p (Some x) js = slice_set js e (record { place = p; values = values_of x })

-- an answer as the tree gathered it, and as a joining
abbrev pub gathered : {E : Type 0} → Answer E → Gathered E
gathered a = record { element = a.element; joins = a.joins }

abbrev pub joining_of : {E : Type 0} → Answer E → Joining E
joining_of a = as_joining (gathered a)

pub record TryCall {K : Type 0} (old : Standing K) (r : Result ℕ Refusal) (new : Standing K) : Type 0 where
  pub answer : by_number r ≡ answered (try_refusal old.trial) 0
  pub refused : OnErr r (new ≡ old)
  pub tree : new.tree ≡ old.tree
  pub trial : OnOk r (new.trial ≡ Some 0)

pub record KeepCall {K : Type 0} (old : Standing K) (r : Result ℕ Refusal) (new : Standing K) : Type 0 where
  pub answer : by_number r ≡ answered (keep_refusal old.trial) (entries_of old.trial)
  pub refused : OnErr r (new ≡ old)
  pub tree : new.tree ≡ old.tree
  pub trial : OnOk r (new.trial ≡ None)

module _ {E C : Type 0} (o : KindOps E C) where
  pub record AddCall {K : Type 0} (label : List ℕ) (v : Values) (old : Filling K) (xs : List Station) (r : Result ℕ Refusal)
      (new : Filling K) (ys : List Station) : Type 0 where
    pub answer : by_number r ≡ answered (add_refusal o old.stations (length xs) label (made label v)) (old.stations + 1)
    pub refused : OnErr r ((new ≡ old) × (ys ≡ xs))
    pub kind : new.kind ≡ old.kind
    pub count : OnOk r (new.stations ≡ old.stations + 1)
    pub list : OnOk r (ys ≡ slice_set xs old.stations (made label v))
    pub room : length ys ≡ length xs

  pub record CloseCall {K : Type 0} (filling : Filling K) (xs : List Station) (old : List C)
      (r : Result (Standing K × ℕ) (Filling K × Refusal)) (new : List C) : Type 0 where
    pub answer : close_told r ≡ answered (close_refusal filling.stations (length xs) (length old)) (2 ^ height filling.stations - 1)
    pub refused : IfErr r (λ back. (back.0 ≡ filling) × (new ≡ old))
    pub line : IfOk r (λ given. (given.0.tree.kind ≡ filling.kind) × (count_of given.0 ≡ filling.stations) × (given.0.trial ≡ None))
    pub nodes : OnOk r (StandsFor o (take filling.stations xs) new)
    pub behind : OnOk r (SameBehind (node_count (height filling.stations)) old new)
    pub room : length new ≡ length old

  -- the nodes with the leaf of place p written for the station that is there now, and those above it rejoined
  abbrev pub Renewed : ℕ → ℕ → List Station → List C → List C → Type 0
  Renewed n p xs old new = (x : Station) × (slice_get xs (p - 1) ≡ Some x) × Rewritten o (leaf (height n) p) (o.single x) old new

  pub record SetCall {K : Type 0} (p : ℕ) (v : Values) (s : State (Standing K) C) (r : Result ℕ Refusal) (t : State (Standing K) C) : Type 0 where
    pub answer : by_number r ≡ answered (set_refusal o (count_of s.line) s.line.trial s.list (rooms s) p v) (height (count_of s.line))
    pub refused : OnErr r (t ≡ s)
    pub tree : t.line.tree ≡ s.line.tree
    pub trial : OnOk r (t.line.trial ≡ one_more s.line.trial)
    pub list : OnOk r (t.list ≡ put s.list p v)
    pub nodes : OnOk r (Renewed (count_of s.line) p t.list s.nodes t.nodes)
    pub journal : OnOk r (t.journal ≡ entered s.line.trial p (slice_get s.list (p - 1)) s.journal)
    pub rooms : rooms t ≡ rooms s

  -- entries put back, the newest first, and the nodes renewed for each
  abbrev pub PutBack : ℕ → List Entry → List Station → List C → List C → Type 0
  PutBack n [] xs old new = new ≡ old
  PutBack n (e ∷ es) xs old new = (mid : List C) × PutBack n es xs old mid × Renewed n e.place (undone (e ∷ es) xs) mid new

  pub record BackCall {K : Type 0} (s : State (Standing K) C) (r : Result ℕ Refusal) (t : State (Standing K) C) : Type 0 where
    pub answer : by_number r ≡ answered (back_refusal (count_of s.line) s.line.trial (rooms s)
        (any_bad o (count_of s.line) s.list (noted s))) (entries_of s.line.trial)
    pub refused : OnErr r (t ≡ s)
    pub tree : t.line.tree ≡ s.line.tree
    pub trial : OnOk r (t.line.trial ≡ None)
    pub list : OnOk r (t.list ≡ undone (noted s) s.list)
    pub nodes : OnOk r (PutBack (count_of s.line) (noted s) s.list s.nodes t.nodes)
    pub journal : t.journal ≡ s.journal
    pub rooms : rooms t ≡ rooms s

  pub record AskCall {K : Type 0} (from to : ℕ) (s : State (Standing K) C) (r : Result (Answer E) Refusal) : Type 0 where
    pub answer : by_number_as joining_of r ≡ answered (ask_refusal (count_of s.line) s.line.trial (rooms s) from to)
        (window_joining o (count_of s.line) s.nodes from to)
    pub figures : IfOk r (λ a. a.figures ≡ o.window a.element)
    pub laws : IfOk r (λ a. WindowLaws o (count_of s.line) s.nodes from to (gathered a))

  pub record RingCall {K : Type 0} (s : State (Standing K) C) (r : Result (Answer E) Refusal) : Type 0 where
    pub answer : by_number_as joining_of r ≡ answered (ring_refusal o (count_of s.line) s.line.trial (rooms s))
        (window_joining o (count_of s.line) s.nodes 1 (count_of s.line))
    pub figures : IfOk r (λ a. a.figures ≡ o.ring a.element)
    pub laws : IfOk r (λ a. WindowLaws o (count_of s.line) s.nodes 1 (count_of s.line) (gathered a))
