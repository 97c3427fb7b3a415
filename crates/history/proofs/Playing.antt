-- Requests one after the other: cut anywhere in two, one more at the end, and the law of all of them.
use Rattle.std.specs.Prelude.{◌≡◌, ℕ, zero, suc, ◌+◌, ◌<◌, ◌≤◌, true, List, [], ◌∷◌, ◌++◌, Some, length, take, drop, slice_get, slice_index_or, slice_set, refl}
use Rattle.std.proofs.Common.{sym, ◌∙◌, ap, subst, arith}
use Rattle.std.proofs.lemmas.List.{length-set, take_all, take_more_set, drop-drop, drop-set-lt}
use Rattle.std.proofs.lemmas.Option.{slice_get_within, slice_get-get_or}
use Rattle.station.specs.declared.record.Station.{Station}
use Rattle.kind.specs.Laws.{KindOps}
use Rattle.kind.specs.Meaning.{Meaning, Meant}
use Rattle.tree.specs.Shape.{height}
use Rattle.tree.specs.Nodes.{StandsFor}
use Rattle.tree.proofs.Standing.{same_nodes}
use Rattle.line.specs.declared.values.Entry.{Entry}
use Rattle.line.specs.declared.lines.Filling.{Filling}
use Rattle.history.specs.declared.step.Line.{Line}
use Rattle.history.specs.declared.step.Line.TheVariants.{Filling as FillingLine, Standing as StandingLine}
use Rattle.line.specs.declared.request.Request.{Request}
use Rattle.line.specs.declared.reply.Reply.{Reply}
use Rattle.line.specs.View.{Heard, silence, heard_on}
use Rattle.line.specs.State.{State, at, rooms}
use Rattle.line.specs.Replies.{took}
use Rattle.line.specs.Due.{RightReply}
use Rattle.history.specs.Steps.{kind_of, with_line, StepOf, Steps}
use Rattle.history.specs.History.{Plays}
use Rattle.history.specs.Agreement.{AgreesIn, Agrees}
use Rattle.history.specs.History.{heard_from, heard, IsNew, PlayedNew, Point, Law, History}
use Rattle.line.proofs.Placing.{set_own}
use Rattle.history.proofs.Determined.{filling_once, standing_once}
use Rattle.history.proofs.Stepping.{step_rooms, step_law}

take_next : {X : Type 0} (xs : List X) (i : ℕ) (x : X) → slice_get xs i ≡ Some x → take (i + 1) xs ≡ take i xs ++ x ∷ []
take_next xs i x is =
    let lt = slice_get_within xs i x is in
    ap (take (i + 1)) (sym (set_own xs i x is)) ∙ take_more_set xs i x lt

drop_next : {X : Type 0} (xs ys : List X) (i : ℕ) (y : X) → drop i xs ≡ drop i ys → drop (i + 1) (slice_set xs i y) ≡ drop (i + 1) ys
drop_next xs ys i y same = drop-set-lt (i + 1) xs i y (omega arith) ∙ sym (drop-drop 1 i xs) ∙ ap (drop 1) same ∙ drop-drop 1 i ys

module _ {K E C : Type 0} (o : KindOps E C) where
  -- one request more
  pub plays_more : (qs : List Request) (rs : List (Reply C)) (s mid t : State (Line K) C) (q : Request) (r : Reply C)
      → Plays o s qs rs mid → Steps o mid q r t → Plays o s (qs ++ q ∷ []) (rs ++ r ∷ []) t
  plays_more [] [] s mid t q r (none, is) step = (t, rw (← is) step, (refl, refl))
  plays_more [] (x ∷ rs) s mid t q r (none, is) step = absurd (grind (arith, none))
  plays_more (p ∷ qs) [] s mid t q r plays step = absurd plays
  plays_more (p ∷ qs) (x ∷ rs) s mid t q r (next, first, plays) step = (next, first, plays_more qs rs next mid t q r plays step)

  plays_rooms : (qs : List Request) (rs : List (Reply C)) (s t : State (Line K) C) → Plays o s qs rs t → rooms t ≡ rooms s
  plays_rooms [] rs s t (none, is) = ap rooms is
  plays_rooms (q ∷ qs) [] s t plays = absurd plays
  plays_rooms (q ∷ qs) (r ∷ rs) s t (mid, step, plays) = plays_rooms qs rs mid t plays ∙ step_rooms o s q r mid step

  -- so many of the requests have been played
  pub record PlayedTo (k : K) (qs : List Request) (first : List (Reply C)) (start : State (Line K) C) (i : ℕ) (now : State (Line K) C)
      (rs : List (Reply C)) : Type 0 where
    pub plays : Plays o start (take i qs) (take i rs) now
    pub kind : kind_of now.line ≡ k
    pub behind : drop i rs ≡ drop i first
    pub long : length rs ≡ length first

  pub played_first : (k : K) (qs : List Request) (first : List (Reply C)) (start : State (Line K) C) → kind_of start.line ≡ k
      → PlayedTo k qs first start 0 start first
  played_first k qs first start kind = record { plays = (refl, refl); kind = kind; behind = refl; long = refl }

  plays_each : (qs : List Request) (rs : List (Reply C)) (s t : State (Line K) C) → Plays o s qs rs t → length rs ≡ length qs
  plays_each [] rs s t (none, is) = ap length none
  plays_each (q ∷ qs) [] s t plays = absurd plays
  plays_each (q ∷ qs) (r ∷ rs) s t (mid, step, plays) = ap suc (plays_each qs rs mid t plays)

  -- a request leads to one reply and one line with its spaces, and so do any requests
  step_once : (s : State (Line K) C) (q : Request) (r r' : Reply C) (t t' : State (Line K) C) → Steps o s q r t → Steps o s q r' t' → (r ≡ r') × (t ≡ t')
  step_once s q r r' t t' a b = with_it s.line a b where
    with_it : (line : Line K) → StepOf o line s q r t → StepOf o line s q r' t' → (r ≡ r') × (t ≡ t')
    with_it (FillingLine line) a b = filling_once o (with_line line s) q r r' t t' a b
    with_it (StandingLine line) (u, a, is) (u', b, is') =
        let (reply, left) = standing_once o (with_line line s) q r r' u u' a b in
        (reply, is ∙ ap (λ v. with_line (StandingLine v.line) v) left ∙ sym is')

  plays_once : (qs : List Request) (rs rs' : List (Reply C)) (s t t' : State (Line K) C) → Plays o s qs rs t → Plays o s qs rs' t' → (rs ≡ rs') × (t ≡ t')
  plays_once [] rs rs' s t t' (none, is) (none', is') = (none ∙ sym none', is ∙ sym is')
  plays_once (q ∷ qs) [] rs' s t t' a b = absurd a
  plays_once (q ∷ qs) (r ∷ rs) [] s t t' a b = absurd b
  plays_once (q ∷ qs) (r ∷ rs) (r' ∷ rs') s t t' (mid, step, a) (mid', step', b) =
      let (reply, left) = step_once s q r r' mid mid' step step' in
      let (replies, end) = plays_once qs rs rs' mid t t' a (rw left b) in
      (ap (λ x. x ∷ rs) reply ∙ ap (λ xs. r' ∷ xs) replies, end)

  -- two plays one after the other are one
  plays-append : (xs ys : List Request) (one two : List (Reply C)) (s mid t : State (Line K) C) → Plays o s xs one mid → Plays o mid ys two t
      → Plays o s (xs ++ ys) (one ++ two) t
  plays-append [] ys [] two s mid t (none, is) b = rw (← is) b
  plays-append [] ys (r ∷ one) two s mid t (none, is) b = absurd (grind (arith, none))
  plays-append (x ∷ xs) ys [] two s mid t a b = absurd a
  plays-append (x ∷ xs) ys (r ∷ one) two s mid t (next, step, a) b = (next, step, plays-append xs ys one two next mid t a b)

  cut_once : (qs xs ys : List Request) (rs one two : List (Reply C)) (s mid t t' : State (Line K) C) → Plays o s qs rs t → qs ≡ xs ++ ys
      → Plays o s xs one mid → Plays o mid ys two t' → (one ++ two ≡ rs) × (t' ≡ t)
  cut_once qs xs ys rs one two s mid t t' plays is a b =
      plays_once (xs ++ ys) (one ++ two) rs s t' t (plays-append xs ys one two s mid t' a b) (subst (λ l. Plays o s l rs t) is plays)

  -- cut in two behind the first k
  pub record Cut (qs : List Request) (rs : List (Reply C)) (s t : State (Line K) C) (k : ℕ) : Type 0 where
    pub now : State (Line K) C
    pub before : Plays o s (take k qs) (take k rs) now
    pub rest : Plays o now (drop k qs) (drop k rs) t

  cut : (k : ℕ) (qs : List Request) (rs : List (Reply C)) (s t : State (Line K) C) → Plays o s qs rs t → Cut qs rs s t k
  cut zero qs rs s t plays = record { now = s; before = (refl, refl); rest = plays }
  cut (suc k) [] rs s t (none, is) = rw none (record { now = s; before = (refl, refl); rest = (refl, is) })
  cut (suc k) (q ∷ qs) [] s t plays = absurd plays
  cut (suc k) (q ∷ qs) (r ∷ rs) s t (mid, step, plays) =
      let c = cut k qs rs mid t plays in
      record { now = c.now; before = (mid, step, c.before); rest = c.rest }

  -- the step that a request makes
  step_at : (k : ℕ) (qs : List Request) (rs : List (Reply C)) (s t : State (Line K) C) (q : Request) (r : Reply C)
      → slice_get qs k ≡ Some q → slice_get rs k ≡ Some r → Plays o s (drop k qs) (drop k rs) t → (next : State (Line K) C) × Steps o s q r next
  step_at k [] rs s t q r at_q at_r plays = absurd (grind (arith, at_q))
  step_at k (p ∷ qs) [] s t q r at_q at_r plays = absurd (grind (arith, at_r))
  step_at zero (p ∷ qs) (x ∷ rs) s t q r at_q at_r (mid, step, plays) =
      let same_q : p ≡ q = cc at_q in
      let same_r : x ≡ r = cc at_r in
      (mid, rw (← same_q, ← same_r) step)
  step_at (suc k) (p ∷ qs) (x ∷ rs) s t q r at_q at_r plays = step_at k qs rs s t q r at_q at_r plays

  module _ (m : Meaning) (meant : Meant o m) where
    stays : (qs : List Request) (rs : List (Reply C)) (s t : State (Line K) C) (h : Heard) → Plays o s qs rs t → Agrees o h s
        → Agrees o (heard_from h qs rs) t
    stays [] rs s t h (none, is) agrees = rw is agrees
    stays (q ∷ qs) [] s t h plays agrees = absurd plays
    stays (q ∷ qs) (r ∷ rs) s t h (mid, step, plays) agrees = stays qs rs mid t (heard_on h q (took r)) plays (step_law o m meant s q r mid step h agrees).after

    -- a new line agrees with what was heard before the first call
    new_agrees : (k : K) (s : State (Line K) C) → IsNew o k s → Agrees o silence s
    new_agrees k s new =
        let fills : AgreesIn o (FillingLine new.line) silence s = record {
          unclosed = refl;
          number = new.none;
          listed = ap (λ n. take n s.list) new.none;
          taken = refl;
          fresh = refl;
          none = refl;
        } in
        rw new.is fills

    -- a closed line has the nodes of its stations
    closed_nodes : (h : Heard) (s : State (Line K) C) → Agrees o h s → h.closed ≡ true → StandsFor o h.view.standing s.nodes
    closed_nodes h s agrees closed = with_it s.line agrees where
      with_it : (line : Line K) → AgreesIn o line h s → StandsFor o h.view.standing s.nodes
      with_it (FillingLine line) as_heard = absurd (grind (arith, sym as_heard.unclosed ∙ closed))
      with_it (StandingLine line) as_heard = as_heard.nodes

    played_nodes : (k : K) (xs : List Station) (nodes : List C) → PlayedNew o k xs nodes → StandsFor o xs nodes
    played_nodes k xs nodes other =
        let agrees = stays other.qs other.rs other.start other.after silence other.plays (new_agrees k other.start other.new) in
        rw (← other.standing, ← other.left) (closed_nodes (heard other.qs other.rs) other.after agrees other.closed)

    point : (k : K) (qs : List Request) (rs : List (Reply C)) (s t : State (Line K) C) → IsNew o k s → Plays o s qs rs t → (i : ℕ)
        → Point o k qs rs s t i
    point k qs rs s t new plays i =
        let c = cut i qs rs s t plays in
        let h = heard (take i qs) (take i rs) in
        let agrees : Agrees o h c.now = stays (take i qs) (take i rs) s c.now silence c.before (new_agrees k s new) in
        record {
          now = c.now;
          before = c.before;
          agrees = agrees;
          rest = c.rest;
          nodes = λ closed other played. same_nodes o (height (length h.view.standing)) h.view.standing c.now.nodes other
              (closed_nodes h c.now agrees closed) (played_nodes k h.view.standing other played);
        }

    right_at : (k : K) (qs : List Request) (rs : List (Reply C)) (s t : State (Line K) C) → IsNew o k s → Plays o s qs rs t
        → (i : ℕ) (q : Request) (r : Reply C) → slice_get qs i ≡ Some q → slice_get rs i ≡ Some r
        → RightReply o m (rooms s) (heard (take i qs) (take i rs)) q r
    right_at k qs rs s t new plays i q r at_q at_r =
        let p = point k qs rs s t new plays i in
        let (next, step) = step_at i qs rs p.now t q r at_q at_r p.rest in
        rw (← plays_rooms (take i qs) (take i rs) s p.now p.before) (step_law o m meant p.now q r next step _ p.agrees).right

    plays_law : (k : K) (qs : List Request) (rs : List (Reply C)) (s t : State (Line K) C) → IsNew o k s → Plays o s qs rs t → Law o m k qs rs s t
    plays_law k qs rs s t new plays = record {
      points = λ i few. point k qs rs s t new plays i;
      each = plays_each qs rs s t plays;
      cut = λ xs ys one two mid end is a b. cut_once qs xs ys rs one two s mid t end plays is a b;
      replies = right_at k qs rs s t new plays;
      agrees = stays qs rs s t silence plays (new_agrees k s new);
    }

    -- all of the requests have been played, from a line with no station
    pub played_law : (k : K) (filling : Filling K) (list : List Station) (nodes : List C) (journal : List Entry) (qs : List Request) (first : List (Reply C)) (i : ℕ)
        (now : State (Line K) C) (rs : List (Reply C)) → filling.kind ≡ k → filling.stations ≡ 0 → i ≡ length qs
        → PlayedTo k qs first (at (FillingLine filling) list nodes journal) i now rs → History o m k list nodes journal qs (take (length qs) rs) now
    played_law k filling list nodes journal qs first i now rs kind none all done =
        let start = at (FillingLine filling) list nodes journal in
        let new : IsNew o k start = record { line = filling; is = refl; kind = kind; none = none } in
        let whole : take i qs ≡ qs = ap (λ n. take n qs) all ∙ take_all (length qs) qs (omega arith) in
        let plays : Plays o start qs (take (length qs) rs) now = rw (← all) (subst (λ l. Plays o start l (take i rs) now) whole done.plays) in
        record { start = start; new = new; spaces = refl; law = plays_law k qs (take (length qs) rs) start now new plays }

-- one request more, for a kind whose operations are those of the line's kind
pub played_next : {K E C : Type 0} (ops : K → KindOps E C) (k : K) (qs : List Request) (first : List (Reply C))
    (start now next : State (Line K) C) (i : ℕ) (rs : List (Reply C))
    (d : Request) (r : Reply C)
    → i < length qs → length qs ≤ length first → PlayedTo (ops k) k qs first start i now rs → Steps (ops (kind_of now.line)) now (slice_index_or qs i d) r next
    → kind_of next.line ≡ kind_of now.line → PlayedTo (ops k) k qs first start (i + 1) next (slice_set rs i r)
played_next ops k qs first start now next i rs d r lt room done step kind =
    let q = slice_index_or qs i d in
    let within : i < length rs = omega (arith, lt, room, done.long) in
    let same : Steps (ops k) now q r next = subst (λ k. Steps (ops k) now q r next) done.kind step in
    record {
      plays = rw (take_next qs i q (slice_get-get_or qs i d lt), take_more_set rs i r within) (plays_more (ops k) (take i qs) (take i rs) start now next q r done.plays same);
      kind = kind ∙ done.kind;
      behind = drop_next rs first i r done.behind;
      long = length-set rs i r ∙ done.long;
    }
