-- The law with other words for what the figures mean, which say the same of as many stations as a line has.
use Rattle.std.specs.Prelude.{◌≡◌, ℕ, ◌-◌, ◌≤◌, Bool, true, false, not, List, length, drop, Result, IfOk, refl}
use Rattle.std.proofs.Common.{sym, ◌∙◌, arith}
use Rattle.std.proofs.lemmas.List.{length-take, length-drop}
use Rattle.std.proofs.lemmas.Option.{slice_get_within}
use Rattle.refusal.specs.declared.Refusal.{Refusal}
use Rattle.station.specs.declared.record.Station.{Station}
use Rattle.kind.specs.declared.figures.Figures.{Figures}
use Rattle.kind.specs.declared.summary.RunCell.{RunCell}
use Rattle.kind.specs.Laws.{KindOps}
use Rattle.kind.specs.Meaning.{Meaning}
use Rattle.kind.specs.Stretch.{joined_all}
use Rattle.kind.specs.Runs.{runs_kind, runs_meaning}
use Rattle.kind.specs.RunsMeant.{runs_meant, takes_all-runs, window_exactly, ring_exactly}
use Rattle.tree.specs.Shape.{most_stations}
use Rattle.tree.specs.Gathered.{stretch}
use Rattle.line.specs.declared.values.Entry.{Entry}
use Rattle.history.specs.declared.step.Line.{Line}
use Rattle.history.specs.declared.step.Line.TheVariants.{Filling as FillingLine, Standing as StandingLine}
use Rattle.line.specs.declared.request.Request.{Request}
use Rattle.line.specs.declared.request.Request.TheVariants.{Add, Close, Set, Try, Keep, Back, Ask, Ring}
use Rattle.line.specs.declared.reply.Answer.{Answer}
use Rattle.line.specs.declared.reply.Reply.{Reply}
use Rattle.line.specs.View.{Heard}
use Rattle.line.specs.State.{State, at}
use Rattle.line.specs.Due.{AnswerLaw, Due, out_of_turn}
use Rattle.history.specs.Agreement.{AgreesIn, Agrees}
use Rattle.history.specs.History.{Law, History}
use Rattle.line.proofs.Replying.{where_ok}
use Rattle.history.specs.Exact.{exact_runs, SameOnLines}

pub closed_when : (b : Bool) → not b ≡ false → b ≡ true
closed_when b is = grind (arith, is)

pub stretch_within : (xs : List Station) (from to : ℕ) → length (stretch xs from to) ≤ length xs
stretch_within xs from to = omega (arith, length-take (to - (from - 1)) (drop (from - 1) xs), length-drop (from - 1) xs)

module _ {E C : Type 0} (o : KindOps E C) where
  -- how many stations a closed line can have
  pub counts : {K : Type 0} (h : Heard) (s : State (Line K) C) → Agrees o h s → h.closed ≡ true
      → (1 ≤ length h.view.standing) × (length h.view.standing ≤ most_stations)
  counts h s agrees closed = with_it s.line agrees where
    with_it : (line : Line _) → AgreesIn o line h s → (1 ≤ length h.view.standing) × (length h.view.standing ≤ most_stations)
    with_it (FillingLine line) as_heard = absurd (grind (arith, sym as_heard.unclosed ∙ closed))
    with_it (StandingLine line) as_heard =
        let shape = line.tree.shape in
        let some = shape.some in
        let few = shape.few in
        (omega (arith, as_heard.number, some), omega (arith, as_heard.number, few))

-- no line has so many stations that counts stop
pub exact_same : SameOnLines runs_meaning exact_runs
exact_same = record {
  window = λ xs few.
      let e = joined_all runs_kind xs in
      sym (runs_meant.window e xs (takes_all-runs xs) refl) ∙ window_exactly e xs (omega (arith, few)) refl;
  ring = λ xs some few.
      let e = joined_all runs_kind xs in
      sym (runs_meant.ring e xs (takes_all-runs xs) (omega (arith, some)) refl) ∙ ring_exactly e xs some (omega (arith, few)) refl;
}

module _ {E C : Type 0} (o : KindOps E C) (m n : Meaning) (same : SameOnLines m n) where
  meant_as : (shows : E → Figures) (k from to : ℕ) (p q : List Station → Figures) (xs : List Station) (a : Answer E) → p xs ≡ q xs
      → AnswerLaw o shows p k from to xs a → AnswerLaw o shows q k from to xs a
  meant_as shows k from to p q xs a as_well law = record {
    joined = law.joined;
    from_empty = law.from_empty;
    figures = law.figures;
    meant = law.meant ∙ as_well;
    joins = law.joins;
  }

  due_as : {K : Type 0} (h : Heard) (s : State (Line K) C) (q : Request) (r : Reply C) → Agrees o h s → out_of_turn h.closed q ≡ false
      → Due o m h q r → Due o n h q r
  due_as h s (Add label v) r agrees in_turn due = due
  due_as h s Close r agrees in_turn due = due
  due_as h s (Set p v) r agrees in_turn due = due
  due_as h s Try r agrees in_turn due = due
  due_as h s Keep r agrees in_turn due = due
  due_as h s Back r agrees in_turn due = due
  due_as h s (Ask from to) r agrees in_turn (a, is, law) =
      let (some, few) = counts o h s agrees (closed_when h.closed in_turn) in
      let xs = stretch h.view.standing from to in
      (a, is, meant_as o.window (length h.view.standing) from to m.window n.window xs a (same.window xs (omega (arith, few, stretch_within h.view.standing from to))) law)
  due_as h s Ring r agrees in_turn (a, is, law) =
      let (some, few) = counts o h s agrees (closed_when h.closed in_turn) in
      let xs = h.view.standing in
      (a, is, meant_as o.ring (length xs) 1 (length xs) m.ring n.ring xs a (same.ring xs some few) law)

  law_as : {K : Type 0} (k : K) (qs : List Request) (rs : List (Reply C)) (s t : State (Line K) C) → Law o m k qs rs s t → Law o n k qs rs s t
  law_as k qs rs s t law = record {
    points = law.points;
    agrees = law.agrees;
    each = law.each;
    cut = law.cut;
    replies = λ i q r at_q at_r.
        let right = law.replies i q r at_q at_r in
        let point = law.points i (omega (arith, slice_get_within qs i q at_q)) in
        record {
          no_call = right.no_call;
          refusal = right.refusal;
          answer = λ in_turn passed. due_as _ point.now q r point.agrees in_turn (right.answer in_turn passed);
        };
  }

  pub history_as : {K : Type 0} (k : K) (list : List Station) (nodes : List C) (journal : List Entry) (qs : List Request) (rs : List (Reply C)) (after : State (Line K) C)
      → History o m k list nodes journal qs rs after → History o n k list nodes journal qs rs after
  history_as k list nodes journal qs rs after history = record {
    start = history.start;
    new = history.new;
    spaces = history.spaces;
    law = law_as k qs rs history.start after history.law;
  }

-- runs, without the stop of counts
pub exact_history : {K : Type 0} (k : K) (list : List Station) (nodes : List RunCell) (journal : List Entry) (qs : List Request) (rs : List (Reply RunCell)) (after : State (Line K) RunCell)
    → History runs_kind runs_meaning k list nodes journal qs rs after → History runs_kind exact_runs k list nodes journal qs rs after
exact_history = history_as runs_kind runs_meaning exact_runs exact_same

pub exact_law : {K : Type 0} (k : K) (list list' : List Station) (nodes nodes' : List RunCell) (journal journal' : List Entry) (qs : List Request) (rs : List (Reply RunCell))
    (r : Result (Line K) Refusal)
    → IfOk r (λ line. History runs_kind runs_meaning k list nodes journal qs rs (at line list' nodes' journal'))
    → IfOk r (λ line. History runs_kind exact_runs k list nodes journal qs rs (at line list' nodes' journal'))
exact_law k list list' nodes nodes' journal journal' qs rs r law = where_ok r (λ line. exact_history k list nodes journal qs rs (at line list' nodes' journal')) law
